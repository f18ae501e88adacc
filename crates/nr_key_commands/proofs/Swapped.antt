-- Two databases exchanged.
use Rattle.std.proofs.Common.{◌≡◌, ℕ, Bool, true, false, cond, ◌&&◌, eqb, List, [], ◌∷◌, map, ap, sym, refl, ◌∙◌, subst}
use Rattle.std.specs.Prelude.{fold, Some, Ok}
use Rattle.std.specs.Ordering.{eq_by_cmp}
use Rattle.std.specs.Cmp.{unsigned_Decides}
use Rattle.std.specs.FinMap as finmap
use Rattle.nr_model.specs.Bytes.{Bytes}
use Rattle.nr_model.specs.Keyspace.{Key, key_cmp, byte_cmp, Stored, Keyspace, live, other_of, exchanged}
use Rattle.nr_model.specs.Commands.Shape.{Effect, staying, unchanged, performed}
use Rattle.nr_model.specs.Commands.Reading.{Read}
use Rattle.nr_model.specs.Commands.Server.{swapped, in_both, swap_request, swap_db}
use Rattle.nr_model.specs.Commands.Texts.{ok}
use Rattle.nr_model.proofs.Live.{key_total}
use Rattle.nr_keyspace.proofs.Joined.{tied}
use Rattle.nr_keyspace.proofs.Orders.{key_exact}
use Rattle.nr_resp.specs.Done.{IsDone}

is_number : (m n : ℕ) → eqb m n ≡ true → m ≡ n
is_number m n = (unsigned_Decides m n).0

same_number : (m n : ℕ) → m ≡ n → eqb m n ≡ true
same_number m n = (unsigned_Decides m n).1

alike : (x y : Bool) → (x ≡ true → y ≡ true) → (y ≡ true → x ≡ true) → x ≡ y
alike true y there back = sym (there refl)
alike false true there back = back refl
alike false false there back = refl

-- who stands for whom goes both ways
twice : (a b d : ℕ) → other_of a b (other_of a b d) ≡ d
twice a b d =
    elim (eqb d a) as (λ t. eqb d a ≡ t → other_of a b (cond t b (cond (eqb d b) a d)) ≡ d) [
      | true ↦ λ is_a. elim (eqb b a) as (λ t. eqb b a ≡ t → cond t b (cond (eqb b b) a b) ≡ d) [
        | true ↦ λ same. is_number b a same ∙ sym (is_number d a is_a)
        | false ↦ λ _. ap (λ t. cond t a b) (same_number b b refl) ∙ sym (is_number d a is_a)
      ] refl
      | false ↦ λ not_a. elim (eqb d b) as (λ t. eqb d b ≡ t → other_of a b (cond t a d) ≡ d) [
        | true ↦ λ is_b. ap (λ t. cond t b (cond (eqb a b) a a)) (same_number a a refl) ∙ sym (is_number d b is_b)
        | false ↦ λ not_b. ap (λ t. cond t b (cond (eqb d b) a d)) not_a ∙ ap (λ t. cond t a d) not_b
      ] refl
    ] refl

across : (a b d e : ℕ) → eqb d (other_of a b e) ≡ eqb (other_of a b d) e
across a b d e = alike (eqb d (other_of a b e)) (eqb (other_of a b d) e)
    (λ is. same_number (other_of a b d) e (ap (other_of a b) (is_number d (other_of a b e) is) ∙ twice a b e))
    (λ is. same_number d (other_of a b e) (sym (twice a b d) ∙ ap (other_of a b) (is_number (other_of a b d) e is)))

tied_across : (a b : ℕ) (q key : Key) → eq_by_cmp key_cmp q (exchanged a b key) ≡ eq_by_cmp key_cmp (exchanged a b q) key
tied_across a b q key =
    tied q (other_of a b key.database) key.name
    ∙ ap (λ t. t && eq_by_cmp byte_cmp q.name key.name) (across a b q.database key.database)
    ∙ sym (tied (exchanged a b q) key.database key.name)

-- to look for a key among exchanged ones is to look for its other
find_across : (a b : ℕ) (q : Key) (entries : List (Key × Stored))
    → finmap.find key_cmp q (map {A = Key × Stored} (λ e. (exchanged a b e.0, e.1)) entries) ≡ finmap.find key_cmp (exchanged a b q) entries
find_across a b q [] = refl
find_across a b q (e ∷ entries) =
    ap (cond (eq_by_cmp key_cmp q (exchanged a b e.0)) (Some e.1)) (find_across a b q entries)
    ∙ ap (λ t. cond t (Some e.1) (finmap.find key_cmp (exchanged a b q) entries)) (tied_across a b q e.0)

pub is_swapped : (a b : ℕ) (old new : Keyspace) → ((key : Key) → finmap.get new key ≡ finmap.get old (exchanged a b key)) → new ≡ swapped a b old
is_swapped a b old new is = finmap.same_map key_total key_exact _ _ (λ key.
    is key ∙ finmap.get-entries old (exchanged a b key) ∙ sym (find_across a b key (finmap.entries old))
    ∙ sym (finmap.get-from_entries key_total (map {A = Key × Stored} (λ e. (exchanged a b e.0, e.1)) (finmap.entries old)) key))

pub swaps : {T : Type 0} (after : T → Key → T) (old new : Keyspace) (now a b database : ℕ) (told told' : T) (words : List Bytes)
    → live old now ≡ old → swap_request words ≡ Ok (a, b) → eqb a b ≡ false
    → told' ≡ fold after told (in_both a b (live old now))
    → ((key : Key) → finmap.get new key ≡ finmap.get old (exchanged a b key))
    → IsDone after ok new database told told' (staying database (swap_db old words))
swaps after old new now a b database told told' words all read apart touched is =
    let done : Effect = record { reply = ok; keyspace = swapped a b old; touched = in_both a b old } in
    let effect : ℕ × ℕ → Effect = λ pair.
    cond (eqb pair.0 pair.1) (unchanged old ok) (record { reply = ok; keyspace = swapped pair.0 pair.1 old; touched = in_both pair.0 pair.1 old }) in
    let step : cond (eqb a b) (unchanged old ok) done ≡ done = ap (λ t. cond t (unchanged old ok) done) apart in
    subst (λ (r : Read (ℕ × ℕ)). IsDone after ok new database told told' (staying database (performed old r effect))) (sym read)
    (subst (λ (e : Effect). IsDone after ok new database told told' (staying database e)) (sym step) (record {
      replied = refl;
      left = is_swapped a b old new is;
      selected = refl;
      touched = touched ∙ ap (λ keyspace. fold after told (in_both a b keyspace)) all;
    }))
