use Rattle.std.proofs.Common.{◌≡◌, ◌++◌, List, [], ap, sym, ◌∙◌, refl, map as each}
use Rattle.std.specs.FinMap as map
use Rattle.nr_model.specs.Bytes.{Bytes}
use Rattle.nr_model.specs.Hashes.{Hash}
use Rattle.nr_packs.specs.Packed.{entries_in}
use Rattle.nr_packs.proofs.Copied.{copied_more}
use Rattle.nr_sets.proofs.Bare.{bare, whole}
use Rattle.nr_sets.proofs.Large.{no_entries}
use Rattle.nr_sets.proofs.form.table_of.Goals as goal

pub loop-member-init : goal.loop-member-init
loop-member-init c =
    let none = ap (λ (table : Hash). map.entries table) c.in_ok-table.ensures ∙ no_entries in
    let left = ap (λ (ks : List Bytes). each bare ks) (c.into_iter-member-iterator.ensures.into_iter_gives ∙ c.packed-member-items.ensures) ∙ whole (entries_in c.args.members.now) c.requires.bare in
    λ i. none i ++ left i

pub loop-member-preserved : goal.loop-member-preserved
loop-member-preserved c =
    copied_more (entries_in c.args.members.now) (map.entries c.loop-member.table) (map.entries c.put_copy.new.members) (each bare c.next.new.self) c.in-Some.member.now []
    c.in-Some.member.now [] c.requires.ordered
    (ap (λ (ks : List Bytes). map.entries c.loop-member.table ++ each bare ks) (sym c.in-Some.ensures.steps) ∙ c.loop-member.invariant) refl refl c.in_ok-put_copy.ensures
