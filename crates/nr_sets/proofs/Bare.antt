-- Entries that stay members: in byte order, with nothing at them.
use Rattle.std.proofs.Common.{◌≡◌, Bool, true, false, cond, [], ◌∷◌, map, refl, ap, sym, ◌∙◌, subst}
use Rattle.std.specs.declared.cmp.Ordering.TheVariants.{Less, Equal, Greater}
use Rattle.std.specs.Ordering.{match_ordering}
use Rattle.std.specs.List.Sorted.{IsStrictlySortedBy}
use Rattle.std.specs.Map.{keys_of, remove_entry}
use Rattle.std.specs.BTreeMap.{insert_entry, is_at}
use Rattle.nr_model.specs.Bytes.{Bytes}
use Rattle.nr_model.specs.Keyspace.{byte_cmp}
use Rattle.nr_packs.specs.Packed.{Entries}
use Rattle.nr_packs.specs.Orders.{AreInOrder}
use Rattle.nr_packs.proofs.Placed.{rises_insert, rises_remove}
use Rattle.nr_sets.specs.Forms.{AreBare, AreMembers}

-- a member with nothing at it
abbrev pub bare : Bytes → Bytes × Bytes
bare k = (k, [])

-- the members are all that there is
pub whole : (es : Entries) → AreBare es → map bare (keys_of es) ≡ es
whole [] none = refl
whole (e ∷ es) none = let nothing = sym none.0 in λ i. (e.0, nothing i) ∷ whole es none.1 i

bare_insert : (k : Bytes) (es : Entries) → AreBare es → AreBare (insert_entry byte_cmp es k [])
bare_insert k [] none = (refl, tt)
bare_insert k (e ∷ es) none =
    elim (byte_cmp k e.0) as (λ r. AreBare (match_ordering r ((k, []) ∷ e ∷ es) ((e.0, []) ∷ es) (e ∷ insert_entry byte_cmp es k []))) [
      | Less ↦ (refl, none)
      | Equal ↦ (refl, none.1)
      | Greater ↦ (none.0, bare_insert k es none.1)
    ]

bare_remove : (test : Bytes → Bool) (es : Entries) → AreBare es → AreBare (remove_entry test es)
bare_remove test [] none = tt
bare_remove test (e ∷ es) none =
    elim (test e.0) as (λ b. AreBare (cond b es (e ∷ remove_entry test es))) [ true ↦ none.1 | false ↦ (none.0, bare_remove test es none.1) ]

pub no_members : (es : Entries) → es ≡ [] → AreMembers es
unfolding IsStrictlySortedBy
no_members es none = subst AreMembers (sym none) (record { ordered = tt; bare = tt })

pub members_put : (old new : Entries) (k : Bytes) → AreMembers old → new ≡ insert_entry byte_cmp old k [] → AreMembers new
members_put old new k are is = subst AreMembers (sym is) (record {
  ordered = rises_insert k [] old are.ordered;
  bare = bare_insert k old are.bare;
})

pub members_taken : (old new : Entries) (k : Bytes) → AreMembers old → new ≡ remove_entry (is_at (byte_cmp k)) old → AreMembers new
members_taken old new k are is = subst AreMembers (sym is) (record {
  ordered = rises_remove (is_at (byte_cmp k)) old are.ordered;
  bare = bare_remove (is_at (byte_cmp k)) old are.bare;
})
