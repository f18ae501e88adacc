-- Pairs spread over blocks: what a field has there, and a change of one block.
use Rattle.std.proofs.Common.{◌≡◌, ◌≢◌, ℕ, zero, suc, ◌*◌, ◌<◌, ◌≤◌, true, false, cond, eqb, Option, Some, None, List, [], ◌∷◌, ◌++◌, length, set, refl, ap, sym, ◌∙◌, subst, arith, true≢false, get_or-set_same, get_or-set_other}
use Rattle.std.specs.Cmp.{unsigned_Decides}
use Rattle.std.specs.Cmp.Lexicographic.{nat_list_cmp_total}
use Rattle.std.specs.Option.{option_or}
use Rattle.std.specs.FinMap as map
use Rattle.std.specs.declared.random_state.RandomState.{RandomState}
use Rattle.std.proofs.lemmas.List.{length-set}
use Rattle.nr_model.specs.Bytes.{Bytes}
use Rattle.nr_packs.specs.Packed.{Entries}
use Rattle.nr_packs.specs.Orders.{AreInOrder}
use Rattle.nr_packs.specs.Tables.{held, hash, slot, pack_at, pairs_of, seen, IsSpread}
use Rattle.nr_packs.proofs.Looked.{is_same, same_field, found, held-append}

pub same_number : (a b : ℕ) → eqb a b ≡ true → a ≡ b
same_number a b e = (unsigned_Decides a b).0 e

pub other_number : (a b : ℕ) → eqb a b ≡ false → a ≢ b
other_number a b e same = true≢false (sym ((unsigned_Decides a b).1 same) ∙ e)

pub get_seen : (packs : List Entries) (long : Entries) (q : Bytes) → map.get (seen packs long) q ≡ option_or (held q (pairs_of packs)) (held q long)
get_seen packs long q = map.get-from_entries nat_list_cmp_total (pairs_of packs ++ long) q ∙ found (pairs_of packs ++ long) q ∙ held-append q (pairs_of packs) long

or_none : {A : Type 0} (o : Option A) → option_or o None ≡ o
or_none None = refl
or_none (Some x) = refl

none_held : (packs : List Entries) (q : Bytes) → ((place : ℕ) → held q (pack_at packs place) ≡ None) → held q (pairs_of packs) ≡ None
none_held [] q none = refl
none_held (es ∷ packs) q none =
    held-append q es (pairs_of packs) ∙ ap (λ o. option_or o (held q (pairs_of packs))) (none 0) ∙ none_held packs q (λ place. none (suc place))

-- what no other block has is what the one has
pub held_at : (packs : List Entries) (q : Bytes) (slot : ℕ) → ((place : ℕ) → slot ≢ place → held q (pack_at packs place) ≡ None)
    → held q (pairs_of packs) ≡ held q (pack_at packs slot)
held_at [] q slot others = refl
held_at (es ∷ packs) q zero others =
    held-append q es (pairs_of packs) ∙ ap (option_or (held q es)) (none_held packs q (λ place. others (suc place) (λ is. absurd (omega arith)))) ∙ or_none (held q es)
held_at (es ∷ packs) q (suc slot) others =
    held-append q es (pairs_of packs) ∙ ap (λ o. option_or o (held q (pairs_of packs))) (others 0 (λ is. absurd (omega arith)))
    ∙ held_at packs q slot (λ place apart. others (suc place) (λ is. apart (omega arith)))

-- so a field is looked for in its block alone
pub held_spread : (keys : RandomState) (level : ℕ) (packs : List Entries) (q : Bytes) → IsSpread keys level packs
    → held q (pairs_of packs) ≡ held q (pack_at packs (slot level (length packs) (hash keys q)))
held_spread keys level packs q spread = held_at packs q (slot level (length packs) (hash keys q)) (λ place. spread.placed place q)

pub at_or_else : (P : ℕ → Type 0) (place slot : ℕ) → P slot → (place ≢ slot → P place) → P place
at_or_else P place slot here there = elim (eqb place slot) as (λ b. eqb place slot ≡ b → P place) [
  | true ↦ λ is. subst P (sym (same_number place slot is)) here
  | false ↦ λ is. there (other_number place slot is)
] refl

pub at_same : (packs : List Entries) (slot : ℕ) (es : Entries) → slot < length packs → pack_at (set packs slot es) slot ≡ es
at_same packs slot es within = get_or-set_same packs slot es [] within

pub at_other : (packs : List Entries) (slot place : ℕ) (es : Entries) → place ≢ slot → pack_at (set packs slot es) place ≡ pack_at packs place
at_other packs slot place es apart = get_or-set_other packs slot place es [] apart

-- one block changed
module _ (keys : RandomState) (level : ℕ) (packs : List Entries) (slot_here : ℕ) (es : Entries) (spread : IsSpread keys level packs) (within : slot_here < length packs) where
  abbrev at : Bytes → ℕ
  at q = slot level (length packs) (hash keys q)

  pub spread_set : AreInOrder es → ((q : Bytes) → at q ≢ slot_here → held q es ≡ None) → IsSpread keys level (set packs slot_here es)
  spread_set rises others =
      let long : length (set packs slot_here es) ≡ length packs = length-set packs slot_here es in
      record {
        some = spread.some;
        least = subst (λ n. level ≤ n) (sym long) spread.least;
        most = subst (λ n. n ≤ 2 * level) (sym long) spread.most;
        ordered = λ place. at_or_else (λ place. AreInOrder (pack_at (set packs slot_here es) place)) place slot_here
            (subst AreInOrder (sym (at_same packs slot_here es within)) rises)
            (λ apart. subst AreInOrder (sym (at_other packs slot_here place es apart)) (spread.ordered place));
        placed = λ place q apart. at_or_else (λ place. at q ≢ place → held q (pack_at (set packs slot_here es) place) ≡ None) place slot_here
            (λ not_here. ap (held q) (at_same packs slot_here es within) ∙ others q not_here)
            (λ other not_there. ap (held q) (at_other packs slot_here place es other) ∙ spread.placed place q not_there)
            (subst (λ n. slot level n (hash keys q) ≢ place) long apart);
      }

  -- what one field has there alone
  module _ (k : Bytes) (w : Option Bytes) (is_there : at k ≡ slot_here) (change : (q : Bytes) → held q es ≡ cond (is_same q k) w (held q (pack_at packs slot_here))) where
    differs : (q : Bytes) → at q ≢ slot_here → is_same q k ≡ false
    differs q apart = elim (is_same q k) as (λ b. is_same q k ≡ b → b ≡ false) [
      | true ↦ λ is. absurd (apart (ap at (same_field q k is) ∙ is_there))
      | false ↦ λ is. refl
    ] refl

    pub others_none : (q : Bytes) → at q ≢ slot_here → held q es ≡ None
    others_none q apart = change q ∙ ap (λ b. cond b w (held q (pack_at packs slot_here))) (differs q apart) ∙ spread.placed slot_here q apart

    pub held_set : AreInOrder es → (q : Bytes) → held q (pairs_of (set packs slot_here es)) ≡ cond (is_same q k) w (held q (pairs_of packs))
    held_set rises q =
        let new = spread_set rises others_none in
        let long : length (set packs slot_here es) ≡ length packs = length-set packs slot_here es in
        held_spread keys level (set packs slot_here es) q new
        ∙ ap (λ n. held q (pack_at (set packs slot_here es) (slot level n (hash keys q)))) long
        ∙ at_or_else (λ place. at q ≡ place → held q (pack_at (set packs slot_here es) place) ≡ cond (is_same q k) w (held q (pack_at packs place))) (at q) slot_here
        (λ here. ap (held q) (at_same packs slot_here es within) ∙ change q)
        (λ apart here. ap (held q) (at_other packs slot_here (at q) es apart) ∙ ap (λ b. cond b w (held q (pack_at packs (at q)))) (sym (differs q apart)))
        refl
        ∙ ap (cond (is_same q k) w) (sym (held_spread keys level packs q spread))
