use Rattle.std.proofs.Common.{◌≡◌, rules, ◌∙◌, ◌-◌, ap, take, length, arith}
use Rattle.nr_model.specs.Strings.{range_start, range_end}
use Rattle.nr_lists.specs.Blocks.{behind}
use Rattle.nr_lists.proofs.Listed.{ranged, reached}
use Rattle.nr_lists.proofs.chain.Chain.range.Goals as goal

pub returns : goal.returns
returns c =
    let begins : c.start_of-start.result ≡ range_start c.self.inside.len c.args.first = search (rules, c.start_of-start.ensures.start) in
    let ends : c.end_of-end.result ≡ range_end c.self.inside.len c.args.last = search (rules, c.end_of-end.ensures.end) in
    ranged c.self.inside.blocks.items c.args.self.now c.new-2.result c.self.inside.len c.find-block.result.0 c.find-block.result.1 c.start_of-start.result
    c.end_of-end.result c.args.first c.args.last c.self.invariant.counted c.self.view_is begins ends
    c.find-block.ensures.block c.find-block.ensures.place c.find-block.ensures.whole
    (c.new-2.ensures ∙ ap (take (c.end_of-end.result - c.start_of-start.result)) (c.large.ensures ∙ c.new_from-walk.ensures))

pub new-requires-2 : goal.new-requires-2
new-requires-2 c =
    let all : length c.large.result ≡ length (behind c.self.inside.blocks.items c.find-block.result.0 c.find-block.result.1) =
    ap length (c.large.ensures ∙ c.new_from-walk.ensures) in
    omega (
      arith,
      all,
      reached c.self.inside.blocks.items c.self.inside.len c.find-block.result.0 c.find-block.result.1 c.start_of-start.result
          c.end_of-end.result c.self.invariant.counted c.end_of-end.ensures.bound c.find-block.ensures.block c.find-block.ensures.place c.find-block.ensures.whole,
    )
