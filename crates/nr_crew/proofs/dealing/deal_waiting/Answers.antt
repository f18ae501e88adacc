use Rattle.nr_crew.proofs.Dealt.{deals_before, deals_on, deals_one}
use Rattle.nr_crew.proofs.dealing.deal_waiting.Goals as goal

pub loop-preserved : goal.loop-preserved
loop-preserved g c =
    let dealt = g.L.Accepts.dealt in
    let nodes = c.args.setup.nodes in
    let workers = c.args.setup.workers in
    deals_on nodes workers c.args.number c.loop.number _ (dealt c.args.main.now) (dealt c.accept.new.self) (dealt c.deal_one.new.main)
    (deals_before nodes workers c.args.number c.loop.number (dealt c.args.main.now) (dealt c.loop.main) (dealt c.accept.new.self) c.accept.ensures c.loop.invariant)
    (deals_one nodes workers c.loop.number _ (dealt c.accept.new.self) (dealt c.deal_one.new.main) c.deal_one.ensures)
