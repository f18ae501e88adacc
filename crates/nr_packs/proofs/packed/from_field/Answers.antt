use Rattle.std.proofs.Common.{◌∙◌, ap, sym, arith, rules}
use Rattle.nr_packs.specs.Packed.{packed}
use Rattle.nr_packs.proofs.Reading.{behind_packed, shorter}
use Rattle.nr_packs.proofs.Skipped.{skipped, stopped, ended}
use Rattle.nr_packs.proofs.packed.from_field.Goals as goal

pub returns-then-not-is_gt-clause-left : goal.returns-then-not-is_gt-clause-left
returns-then-not-is_gt-clause-left c =
    stopped c.args.field.now c.loop-other.rest.now (c.in-Some.other.now, c.in-Some.field-0-1.now, c.in-Some.behind.now)
    c.loop-other.invariant.stored (sym c.in-Some.ensures) (search rules)
    ∙ ap packed c.loop-other.invariant.place

pub loop-other-smaller : goal.loop-other-smaller
loop-other-smaller c = shorter c.loop-other.rest.now (c.in-Some.other.now, c.in-Some.field-0-1.now, c.in-Some.behind.now) (sym c.in-Some.ensures)

pub loop-other-preserved : goal.loop-other-preserved
loop-other-preserved c =
    let less = shorter c.loop-other.rest.now (c.in-Some.other.now, c.in-Some.field-0-1.now, c.in-Some.behind.now) (sym c.in-Some.ensures) in
    record {
      stored = behind_packed c.loop-other.rest.now (c.in-Some.other.now, c.in-Some.field-0-1.now, c.in-Some.behind.now) c.loop-other.invariant.stored (sym c.in-Some.ensures);
      place = skipped c.args.field.now c.loop-other.rest.now (c.in-Some.other.now, c.in-Some.field-0-1.now, c.in-Some.behind.now) (sym c.in-Some.ensures) (search rules)
          ∙ c.loop-other.invariant.place;
      within = omega (arith, less);
    }

pub returns-clause-left : goal.returns-clause-left
returns-clause-left c =
    ended c.args.field.now c.loop-other.rest.now c.loop-other.invariant.stored (sym c.in_default.ensures) ∙ ap packed c.loop-other.invariant.place
