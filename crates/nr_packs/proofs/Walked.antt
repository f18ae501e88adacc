-- Pairs that pass a test, taken out of a block one after another.
use Rattle.std.proofs.Common.{◌≡◌, ℕ, ◌+◌, ◌≤◌, Bool, true, false, cond, Some, None, [], ◌∷◌, ◌++◌, length, refl, ap, sym, ◌∙◌, subst, arith, append_assoc}
use Rattle.std.proofs.lemmas.List.{append-nil}
use Rattle.nr_model.specs.Bytes.{Bytes}
use Rattle.nr_packs.specs.Packed.{Entries, word, packed, first_pair, entries_in, AreShort, IsPacked}
use Rattle.nr_packs.specs.Tables.{chosen}
use Rattle.nr_packs.proofs.Reading.{none_in, first_in, behind_packed, entries_packed}
use Rattle.nr_packs.proofs.Kept.{made}
use Rattle.nr_packs.proofs.Parted.{fewer_chosen, short_chosen}

-- what was taken, and what is left to take, are all
pub record IsTaken (test : Bytes → Bool) (bytes rest kept : Bytes) (pairs : ℕ) : Type 0 where
  pub stored : packed (entries_in rest) ≡ rest
  pub short : AreShort (entries_in rest)
  pub all : kept ++ packed (chosen test (entries_in rest)) ≡ packed (chosen test (entries_in bytes))
  pub counted : pairs + length (chosen test (entries_in rest)) ≡ length (chosen test (entries_in bytes))

pub taken_none : (test : Bytes → Bool) (n : ℕ) (bytes kept : Bytes) → IsPacked n bytes → kept ≡ [] → IsTaken test bytes bytes kept 0
taken_none test n bytes kept is none = record {
  stored = is.stored;
  short = is.short;
  all = ap (λ kept. kept ++ packed (chosen test (entries_in bytes))) none;
  counted = omega arith;
}

taken_bytes : (b : Bool) (k v : Bytes) (es : Entries) → cond b (word k ++ word v) [] ++ packed es ≡ packed (cond b ((k, v) ∷ es) es)
taken_bytes true k v es = append_assoc (word k) (word v) (packed es)
taken_bytes false k v es = refl

taken_count : (b : Bool) (pairs more : ℕ) (e : Bytes × Bytes) (es : Entries) → more ≡ pairs + cond b 1 0 → more + length es ≡ pairs + length (cond b (e ∷ es) es)
taken_count true pairs more e es is = omega arith
taken_count false pairs more e es is = omega arith

module _ (test : Bytes → Bool) (bytes rest kept : Bytes) (pairs : ℕ) (taken : IsTaken test bytes rest kept pairs) where
  pub short_first : (pair : Bytes × Bytes × Bytes) → first_pair rest ≡ Some pair → (length pair.0 ≤ 255) × (length pair.1 ≤ 255)
  short_first pair is = let short = subst AreShort (first_in rest pair is) taken.short in (short.0, short.1)

  pub few_taken : (n : ℕ) → IsPacked n bytes → pairs ≤ 512
  few_taken n is = let less = fewer_chosen test (entries_in bytes) in omega (arith, less, is.counted, is.few, taken.counted)

  pub taken_more : (pair : Bytes × Bytes × Bytes) (b : Bool) (new : Bytes) (more : ℕ) → first_pair rest ≡ Some pair → b ≡ test pair.0
      → new ≡ kept ++ cond b (word pair.0 ++ word pair.1) [] → more ≡ pairs + cond b 1 0 → IsTaken test bytes pair.2 new more
  taken_more pair b new more is passes then counts =
      let left = chosen test (entries_in pair.2) in
      let here : chosen test (entries_in rest) ≡ cond b ((pair.0, pair.1) ∷ left) left =
      ap (chosen test) (first_in rest pair is) ∙ ap (λ t. cond t ((pair.0, pair.1) ∷ left) left) (sym passes) in
      record {
        stored = behind_packed rest pair taken.stored is;
        short = (subst AreShort (first_in rest pair is) taken.short).2;
        all = ap (λ new. new ++ packed left) then ∙ append_assoc kept (cond b (word pair.0 ++ word pair.1) []) (packed left)
            ∙ ap (λ rest. kept ++ rest) (taken_bytes b pair.0 pair.1 left) ∙ ap (λ es. kept ++ packed es) (sym here) ∙ taken.all;
        counted = taken_count b pairs more (pair.0, pair.1) left counts ∙ ap (λ (es : Entries). pairs + length es) (sym here) ∙ taken.counted;
      }

  pub taken_all : (n : ℕ) → IsPacked n bytes → first_pair rest ≡ None → IsPacked pairs kept × (entries_in kept ≡ chosen test (entries_in bytes))
  taken_all n is none =
      let end = none_in rest none in
      let es = chosen test (entries_in bytes) in
      let whole : kept ≡ packed es = sym (append-nil kept) ∙ ap (λ es. kept ++ packed (chosen test es)) (sym end) ∙ taken.all in
      let count : pairs ≡ length es = omega (arith, taken.counted, ap (λ (es : Entries). length (chosen test es)) end) in
      let few = few_taken n is in
      (made pairs kept es whole count few (short_chosen test (entries_in bytes) is.short), ap entries_in whole ∙ entries_packed es)
