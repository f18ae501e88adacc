use Rattle.std.proofs.Common.{◌≡◌, rules, ◌<◌, arith}
use Rattle.nr_lists.specs.Packed.{joined}
use Rattle.nr_model.specs.Strings.{range_start, range_end}
use Rattle.nr_lists.proofs.Listed.{trimmed}
use Rattle.nr_lists.proofs.chain.Chain.trim.Goals as goal

pub returns : goal.returns
returns c =
    let begins : c.start_of-start.result ≡ range_start c.self.inside.len c.args.first = search (rules, c.start_of-start.ensures.start) in
    let ends : c.end_of-end.result ≡ range_end c.self.inside.len c.args.last = search (rules, c.end_of-end.ensures.end) in
    let order : c.start_of-start.result < c.end_of-end.result = c.if-end-start.false in
    trimmed (joined c.self.inside.blocks.items) c.args.self.now (joined c.truncate.new.blocks.items) (joined c.skip.new.blocks.items) c.self.inside.len c.start_of-start.result
    c.end_of-end.result c.args.first c.args.last c.self.invariant.counted c.self.view_is begins ends (omega (arith, order))
    c.truncate.ensures c.skip.ensures
