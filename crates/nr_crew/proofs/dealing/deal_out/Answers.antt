use Rattle.std.proofs.Common.{◌∙◌}
use Rattle.nr_crew.proofs.Dealt.{deals_before, deals_behind, deals_none}
use Rattle.nr_crew.proofs.dealing.deal_out.Goals as goal

pub returns-then-is_stopped : goal.returns-then-is_stopped
returns-then-is_stopped g c = record { last = 0; dealt = deals_none c.args.setup.nodes c.args.setup.workers 0 (g.L.Accepts.dealt c.args.main.now) }

pub returns-then-not-begin : goal.returns-then-not-begin
returns-then-not-begin g c =
    let dealt = g.L.Accepts.dealt in
    let nodes = c.args.setup.nodes in
    let workers = c.args.setup.workers in
    record {
      last = 0;
      dealt = deals_before nodes workers 0 0 (dealt c.args.main.now) (dealt c.args.main.now) (dealt c.begin.new.self) c.begin.ensures
          (deals_none nodes workers 0 (dealt c.args.main.now));
    }

pub returns : goal.returns
returns g c =
    let dealt = g.L.Accepts.dealt in
    let nodes = c.args.setup.nodes in
    let workers = c.args.setup.workers in
    record {
      last = c.deal_on.ensures.last;
      dealt = deals_behind nodes workers 0 c.deal_on.ensures.last (dealt c.args.main.now) (dealt c.refuse_each.new.main) (dealt c.deal_on.new.main)
          (c.refuse_each.ensures ∙ c.begin.ensures) c.deal_on.ensures.dealt;
    }
