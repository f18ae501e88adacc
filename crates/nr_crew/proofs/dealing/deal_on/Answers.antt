use Rattle.nr_crew.proofs.Dealt.{deals_before, deals_on}
use Rattle.nr_crew.proofs.dealing.deal_on.Goals as goal

pub returns-in-Some : goal.returns-in-Some
returns-in-Some g c =
    let dealt = g.L.Accepts.dealt in
    let nodes = c.args.setup.nodes in
    let workers = c.args.setup.workers in
    record {
      last = c.deal_waiting-number.result;
      dealt = deals_before nodes workers 0 c.deal_waiting-number.result (dealt c.args.main.now) (dealt c.deal_waiting-number.new.main) (dealt c.wait_once.new.main)
          c.wait_once.ensures
          (deals_on nodes workers 0 c.loop.number c.deal_waiting-number.result (dealt c.args.main.now) (dealt c.loop.main) (dealt c.deal_waiting-number.new.main)
          c.loop.invariant c.deal_waiting-number.ensures);
    }

pub loop-preserved : goal.loop-preserved
loop-preserved g c =
    let dealt = g.L.Accepts.dealt in
    let nodes = c.args.setup.nodes in
    let workers = c.args.setup.workers in
    deals_before nodes workers 0 c.deal_waiting-number.result (dealt c.args.main.now) (dealt c.deal_waiting-number.new.main) (dealt c.wait_once.new.main)
    c.wait_once.ensures
    (deals_on nodes workers 0 c.loop.number c.deal_waiting-number.result (dealt c.args.main.now) (dealt c.loop.main) (dealt c.deal_waiting-number.new.main)
    c.loop.invariant c.deal_waiting-number.ensures)
