use Rattle.std.proofs.Common.{arith, ap, refl}
use Rattle.nr_ordered.specs.declared.lens.Lens.{Lens}
use Rattle.nr_ordered.specs.Blocks.{total, lens_in}
use Rattle.nr_ordered.proofs.Totals.{total_front}
use Rattle.nr_ordered.proofs.lens.Lens.before.Goals as goal

pub short_total-requires : goal.short_total-requires
short_total-requires c =
    let all = ap total c.deref.ensures.value in
    let is = ap (λ (l : Lens). total (lens_in l)) c.in-Short.is in
    omega (arith, total_front c.args.place c.deref.result.now _ refl, all, is, c.requires.small)

pub long_total-requires : goal.long_total-requires
long_total-requires c =
    let all = ap total c.deref-in-Long.ensures.value in
    let is = ap (λ (l : Lens). total (lens_in l)) c.in-Long.is in
    omega (arith, total_front c.args.place c.deref-in-Long.result.now _ refl, all, is, c.requires.small)
