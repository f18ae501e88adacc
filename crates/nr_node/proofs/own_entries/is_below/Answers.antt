use Rattle.std.proofs.Common.{◌<◌, ℕ, length, refl, subst, arith}
use Rattle.std.proofs.lemmas.Bool.{ltb-true}
use Rattle.nr_entry.specs.declared.entry.Entry.{Entry}
use Rattle.nr_node.proofs.Shares.{first_is}
use Rattle.nr_node.proofs.own_entries.is_below.Goals as goal

pub returns-in-Some-clause-some : goal.returns-in-Some-clause-some
returns-in-Some-clause-some c = λ below.
    let kept = c.args.kept.now in
    let some : 0 < length kept.items = omega (arith, c.in-Some.ensures.variant.0 refl, kept.ok.0) in (
      c.in-Some.first.now,
      first_is kept.items c.in-Some.first.now some c.in-Some.ensures.lookup,
      subst (λ (one : ℕ × Entry). one.0 < c.args.least) c.first.view_is (ltb-true c.first.inside.number c.args.least below),
    )
