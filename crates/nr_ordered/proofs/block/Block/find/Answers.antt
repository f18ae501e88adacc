use Rattle.std.proofs.Common.{arith, sym, ◌∙◌}
use Rattle.nr_ordered.proofs.Parted.{first_fails, last_passes, front_is, front_within}
use Rattle.nr_ordered.proofs.block.Block.find.Goals as goal

pub returns-then-not-is_in_front-clause-place : goal.returns-then-not-is_in_front-clause-place
returns-then-not-is_in_front-clause-place g c = λ parted.
    let first = c.is_in_front.ensures in
    first_fails (g.C.Cut.parts c.args.cut.now) c.args.self.now first.0 first.1 (sym first.2 ∙ c.if-not-is_in_front.true) parted

pub returns-then-is_in_front-clause-place : goal.returns-then-is_in_front-clause-place
returns-then-is_in_front-clause-place g c = λ parted.
    let last = c.is_in_front-2.ensures in
    let len = c.len-len.ensures in
    len.len ∙ sym (last_passes (g.C.Cut.parts c.args.cut.now) c.args.self.now _ last.0 last.1 (omega (arith, len.len, len.some)) (sym last.2 ∙ c.if-is_in_front.true) parted)

pub returns-clause-place : goal.returns-clause-place
returns-clause-place g c = λ parted. c.scan.ensures ∙ front_is (g.C.Cut.parts c.args.cut.now) c.args.self.now parted

pub returns-clause-within : goal.returns-clause-within
returns-clause-within g c = omega (arith, c.scan.ensures, front_within (g.C.Cut.parts c.args.cut.now) c.args.self.now)
