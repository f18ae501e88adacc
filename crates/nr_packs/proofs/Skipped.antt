-- The walk to the place of a field.
use Rattle.std.proofs.Common.{◌≡◌, true, false, cond, Some, None, ◌∷◌, ap, sym, ◌∙◌}
use Rattle.std.specs.Ordering.{is_gt}
use Rattle.nr_model.specs.Bytes.{Bytes}
use Rattle.nr_model.specs.Keyspace.{byte_cmp}
use Rattle.nr_packs.specs.Packed.{packed, first_pair, entries_in}
use Rattle.nr_packs.specs.Placed.{from}
use Rattle.nr_packs.proofs.Reading.{none_in, first_in}

-- a pair below it is passed
pub skipped : (k rest : Bytes) (pair : Bytes × Bytes × Bytes) → first_pair rest ≡ Some pair → is_gt (byte_cmp k pair.0) ≡ true → from k (entries_in pair.2) ≡ from k (entries_in rest)
skipped k rest pair is above =
    sym (ap (from k) (first_in rest pair is) ∙ ap (λ b. cond b (from k (entries_in pair.2)) ((pair.0, pair.1) ∷ entries_in pair.2)) above)

-- any other is at it or behind it
pub stopped : (k rest : Bytes) (pair : Bytes × Bytes × Bytes) → packed (entries_in rest) ≡ rest → first_pair rest ≡ Some pair → is_gt (byte_cmp k pair.0) ≡ false
    → rest ≡ packed (from k (entries_in rest))
stopped k rest pair stored is above =
    sym (ap packed (ap (from k) (first_in rest pair is) ∙ ap (λ b. cond b (from k (entries_in pair.2)) ((pair.0, pair.1) ∷ entries_in pair.2)) above ∙ sym (first_in rest pair is)) ∙ stored)

-- it is behind all
pub ended : (k rest : Bytes) → packed (entries_in rest) ≡ rest → first_pair rest ≡ None → rest ≡ packed (from k (entries_in rest))
ended k rest stored is = sym (ap packed (ap (from k) (none_in rest is) ∙ sym (none_in rest is)) ∙ stored)
