-- The members of a sorted set in order: what is put in, taken out, and where a member stands.
use Rattle.std.proofs.Common.{◌≡◌, ℕ, ℤ, suc, ◌+◌, ◌≤◌, ◌<◌, Bool, true, false, cond, not, ◌||◌, ◌&&◌, T, Option, Some, None, is_some, List, [], ◌∷◌, length, take, drop, refl, ap, sym, ◌∙◌, subst, arith, length-append, true≢false}
use Rattle.std.specs.Prelude.{fold, reverse, bytes_eq}
use Rattle.std.specs.declared.cmp.Ordering.{Ordering}
use Rattle.std.specs.declared.cmp.Ordering.TheVariants.{Less, Equal, Greater}
use Rattle.std.specs.Ordering.{eq_by_cmp, is_eq, is_lt, int_cmp, ordering_then}
use Rattle.std.specs.Cmp.{IsTotalOrder, int_cmp_total, tied_itself}
use Rattle.std.specs.Cmp.Lexicographic.{nat_list_cmp_total, bytes_decides}
use Rattle.std.specs.List.{list_any, insert, remove, slice_get, position}
use Rattle.std.specs.FinMap as finmap
use Rattle.std.specs.FinMap.Entries as entries
use Rattle.std.proofs.lemmas.Cmp.{on_total, then_total}
use Rattle.std.proofs.lemmas.List.{length-reverse}
use Rattle.std.proofs.lemmas.List.Filters.{length-filter_both}
use Rattle.std.proofs.lemmas.Map.Lookups.{exact_signed, exact_bytes, exact_pairs}
use Rattle.std.proofs.lemmas.Option.{slice_get_within}
use Rattle.nr_model.specs.Bytes.{Bytes}
use Rattle.nr_model.specs.Keyspace.{byte_cmp}
use Rattle.nr_model.specs.Names.{put}
use Rattle.nr_model.specs.SortedSets.{Scored, Scores, scored_cmp, ranked, rank_of}
use Rattle.nr_model.specs.declared.command.Direction.{Direction}
use Rattle.nr_model.specs.declared.command.Direction.TheVariants.{Ascending, Descending}
use Rattle.nr_model.proofs.Ordered.{has, ordered-in_order, ordered-put, has-in_order, has-put, same_ordered, equal_from}
use Rattle.nr_ordered.specs.Lists.{IsParted, told_place}
use Rattle.nr_ordered.proofs.Parts.{told-descending}
use Rattle.nr_zsets.specs.Scores.{is_before, place_in}
use Rattle.nr_zsets.proofs.Sorted.{Rises, rises, parted_front, inserted_put, inserted_at, removed_again, place_of_item, has_at, stands, length-put, passing, length-front, any-front, any-reverse, first_passing, no_position}
use Rattle.nr_zsets.proofs.Bools.{and_false, and_true, or_false, or_true, is_false, first_holds, second_holds}

pub scored_total : IsTotalOrder scored_cmp
scored_total = then_total (on_total (λ (x : Scored). x.1) int_cmp_total) (on_total (λ (x : Scored). x.0) nat_list_cmp_total)

pub scored_exact : finmap.IsAntisymmetric scored_cmp
scored_exact a b h =
    ap (λ (p : ℤ × Bytes). let x : Scored = (p.1, p.0) in x) (exact_pairs int_cmp byte_cmp exact_signed exact_bytes (a.1, a.0) (b.1, b.0) h)

pub rising : (scores : Scores) → Rises scored_cmp (ranked scores)
rising scores = rises scored_cmp (ranked scores) (ordered-in_order scored_cmp scored_total (finmap.entries scores))

pub parted_ranked : (scores : Scores) (at : Scored) → IsParted (is_before at) (ranked scores)
parted_ranked scores at = parted_front scored_cmp scored_total at (ranked scores) (rising scores)

-- whether a score was found, and is this
abbrev pub is_score_of : ℤ → Option ℤ → Bool
is_score_of score None = false
is_score_of score (Some other) = is_eq (int_cmp score other)

both_equal : (r s : Ordering) → is_eq (ordering_then r s) ≡ (is_eq r && is_eq s)
both_equal Less s = refl
both_equal Equal s = refl
both_equal Greater s = refl

pub not_None : {A : Type 0} (x : A) → Some x ≡ None → ⊥
not_None x e = true≢false (ap is_some e)

unequal : (r : Ordering) → T (is_lt r) → is_eq r ≡ false
unequal Less h = refl
unequal Equal h = absurd h
unequal Greater h = absurd h

-- no entry behind is of the same member
apart : (x : Scored) (q : Scored) (es : List Scored) → q.0 ≡ x.0 → T (entries.below_all byte_cmp x.0 es) → has scored_cmp q es ≡ false
apart x q [] same below = refl
apart x q (e ∷ es) same below =
    ap (λ b. b || has scored_cmp q es)
    (both_equal (int_cmp q.1 e.1) (byte_cmp q.0 e.0)
    ∙ ap (λ b. is_eq (int_cmp q.1 e.1) && b) (ap (λ (n : Bytes). eq_by_cmp byte_cmp n e.0) same ∙ unequal (byte_cmp x.0 e.0) (first_holds _ _ below))
    ∙ and_false (is_eq (int_cmp q.1 e.1)))
    ∙ apart x q es same (second_holds _ _ below)

has-sorted : (q : Scored) (es : List Scored) → T (entries.is_sorted byte_cmp es) → has scored_cmp q es ≡ is_score_of q.1 (finmap.find byte_cmp q.0 es)
has-sorted q [] h = refl
has-sorted q (e ∷ es) h =
    ap (λ b. b || has scored_cmp q es) (both_equal (int_cmp q.1 e.1) (byte_cmp q.0 e.0))
    ∙ elim (eq_by_cmp byte_cmp q.0 e.0) as (λ t. eq_by_cmp byte_cmp q.0 e.0 ≡ t
    → ((is_eq (int_cmp q.1 e.1) && t) || has scored_cmp q es) ≡ is_score_of q.1 (cond t (Some e.1) (finmap.find byte_cmp q.0 es))) [
      | true ↦ λ t.
          ap (λ b. (is_eq (int_cmp q.1 e.1) && true) || b) (apart e q es (exact_bytes q.0 e.0 (equal_from _ t)) (first_holds _ _ h))
          ∙ or_false (is_eq (int_cmp q.1 e.1) && true) ∙ and_true (is_eq (int_cmp q.1 e.1))
      | false ↦ λ _. ap (λ b. b || has scored_cmp q es) (and_false (is_eq (int_cmp q.1 e.1))) ∙ has-sorted q es (second_holds _ _ h)
    ] refl

pub has-ranked : (scores : Scores) (q : Scored) → has scored_cmp q (ranked scores) ≡ is_score_of q.1 (finmap.get scores q.0)
has-ranked scores q =
    has-in_order scored_cmp scored_total q (finmap.entries scores)
    ∙ has-sorted q (finmap.entries scores) (finmap.entries_sorted scores)
    ∙ ap (is_score_of q.1) (sym (finmap.get-entries scores q.0))

-- a member that is there, with its score
pub there : (scores : Scores) (x : Scored) → finmap.get scores x.0 ≡ Some x.1 → has scored_cmp x (ranked scores) ≡ true
there scores x at = has-ranked scores x ∙ ap (is_score_of x.1) at ∙ ap is_eq (tied_itself int_cmp_total x.1)

-- one that isn't
pub missing : (scores : Scores) (x : Scored) → finmap.get scores x.0 ≡ None → has scored_cmp x (ranked scores) ≡ false
missing scores x none = has-ranked scores x ∙ ap (is_score_of x.1) none

is_that : (score : ℤ) (found : Option ℤ) → is_score_of score found ≡ true → found ≡ Some score
is_that score None h = absurd (true≢false (sym h))
is_that score (Some other) h = ap Some (sym (exact_signed score other (equal_from _ h)))

pub score_at : (scores : Scores) (k : ℕ) (x : Scored) → slice_get (ranked scores) k ≡ Some x → finmap.get scores x.0 ≡ Some x.1
score_at scores k x at = is_that x.1 (finmap.get scores x.0) (sym (has-ranked scores x) ∙ has_at scored_cmp scored_total (ranked scores) k x at)

-- with one member more
pub ranked-insert : (scores : Scores) (x : Scored) → finmap.get scores x.0 ≡ None → ranked (finmap.insert scores x.0 x.1) ≡ put scored_cmp x (ranked scores)
ranked-insert scores x none =
    same_ordered scored_cmp scored_total scored_exact _ _
    (ordered-in_order scored_cmp scored_total (finmap.entries (finmap.insert scores x.0 x.1)))
    (ordered-put scored_cmp scored_total x (ranked scores) (ordered-in_order scored_cmp scored_total (finmap.entries scores)))
    (λ q.
    has-ranked (finmap.insert scores x.0 x.1) q
    ∙ ap (is_score_of q.1) (finmap.get-insert nat_list_cmp_total scores x.0 x.1 q.0)
    ∙ elim (eq_by_cmp byte_cmp q.0 x.0) as (λ t. eq_by_cmp byte_cmp q.0 x.0 ≡ t
    → is_score_of q.1 (cond t (Some x.1) (finmap.get scores q.0)) ≡ ((is_eq (int_cmp q.1 x.1) && t) || is_score_of q.1 (finmap.get scores q.0))) [
      | true ↦ λ t.
          sym (ap (λ (o : Option ℤ). (is_eq (int_cmp q.1 x.1) && true) || is_score_of q.1 o)
          (ap (λ (m : Bytes). finmap.get scores m) (exact_bytes q.0 x.0 (equal_from _ t)) ∙ none)
          ∙ or_false (is_eq (int_cmp q.1 x.1) && true) ∙ and_true (is_eq (int_cmp q.1 x.1)))
      | false ↦ λ _. sym (ap (λ b. b || is_score_of q.1 (finmap.get scores q.0)) (and_false (is_eq (int_cmp q.1 x.1))))
    ] refl
    ∙ ap (λ b. b || is_score_of q.1 (finmap.get scores q.0)) (sym (both_equal (int_cmp q.1 x.1) (byte_cmp q.0 x.0)))
    ∙ ap (λ b. eq_by_cmp scored_cmp q x || b) (sym (has-ranked scores q))
    ∙ sym (has-put scored_cmp scored_total q x (ranked scores)))

pub added : (scores : Scores) (x : Scored) → finmap.get scores x.0 ≡ None
    → insert (ranked scores) (place_in (ranked scores) x) x ≡ ranked (finmap.insert scores x.0 x.1)
added scores x none =
    inserted_put scored_cmp scored_total x (ranked scores) (rising scores) (missing scores x none) ∙ sym (ranked-insert scores x none)

-- a member that is there stands at its place
pub standing : (scores : Scores) (x : Scored) → finmap.get scores x.0 ≡ Some x.1 → slice_get (ranked scores) (place_in (ranked scores) x) ≡ Some x
standing scores x at = stands scored_cmp scored_total scored_exact x (ranked scores) (rising scores) (there scores x at)

pub within : (scores : Scores) (x : Scored) → finmap.get scores x.0 ≡ Some x.1 → place_in (ranked scores) x < length (ranked scores)
within scores x at = slice_get_within (ranked scores) (place_in (ranked scores) x) x (standing scores x at)

-- and what stands at a place has that place
pub placed : (scores : Scores) (k : ℕ) (x : Scored) → slice_get (ranked scores) k ≡ Some x → place_in (ranked scores) x ≡ k
placed scores k x at = place_of_item scored_cmp scored_total x (ranked scores) k (rising scores) at

-- without a member, and with it again
pub without_it : (scores : Scores) (member : Bytes) → finmap.get (finmap.remove scores member) member ≡ None
without_it scores member =
    finmap.get-remove nat_list_cmp_total scores member member
    ∙ ap (λ r. cond (is_eq r) None (finmap.get scores member)) (tied_itself nat_list_cmp_total member)

pub again : (scores : Scores) (x : Scored) → finmap.get scores x.0 ≡ Some x.1 → finmap.insert (finmap.remove scores x.0) x.0 x.1 ≡ scores
again scores x at = finmap.same_map nat_list_cmp_total exact_bytes _ _ (λ q.
    finmap.get-insert nat_list_cmp_total (finmap.remove scores x.0) x.0 x.1 q
    ∙ ap (cond (eq_by_cmp byte_cmp q x.0) (Some x.1)) (finmap.get-remove nat_list_cmp_total scores x.0 q)
    ∙ elim (eq_by_cmp byte_cmp q x.0) as (λ t. eq_by_cmp byte_cmp q x.0 ≡ t
    → cond t (Some x.1) (cond t None (finmap.get scores q)) ≡ finmap.get scores q) [
      | true ↦ λ t. sym (ap (λ (m : Bytes). finmap.get scores m) (exact_bytes q x.0 (equal_from _ t)) ∙ at)
      | false ↦ λ _. refl
    ] refl)

pub anew : (scores : Scores) (member : Bytes) (score : ℤ) → finmap.insert (finmap.remove scores member) member score ≡ finmap.insert scores member score
anew scores member score = finmap.same_map nat_list_cmp_total exact_bytes _ _ (λ q.
    finmap.get-insert nat_list_cmp_total (finmap.remove scores member) member score q
    ∙ ap (cond (eq_by_cmp byte_cmp q member) (Some score)) (finmap.get-remove nat_list_cmp_total scores member q)
    ∙ elim (eq_by_cmp byte_cmp q member) as (λ t.
    cond t (Some score) (cond t None (finmap.get scores q)) ≡ cond t (Some score) (finmap.get scores q)) [ true ↦ refl | false ↦ refl ]
    ∙ sym (finmap.get-insert nat_list_cmp_total scores member score q))

pub unchanged : (scores : Scores) (x : Scored) → finmap.get scores x.0 ≡ Some x.1 → finmap.insert scores x.0 x.1 ≡ scores
unchanged scores x at = sym (anew scores x.0 x.1) ∙ again scores x at

-- all in order, as the others with this one put in at its place
pub record IsSeam (scores : Scores) (x : Scored) : Type 0 where
  pub place : ℕ
  pub low : place ≤ length (ranked (finmap.remove scores x.0))
  pub whole : ranked scores ≡ insert (ranked (finmap.remove scores x.0)) place x
  pub here : place_in (ranked scores) x ≡ place

pub seam : (scores : Scores) (x : Scored) → finmap.get scores x.0 ≡ Some x.1 → IsSeam scores x
seam scores x at =
    let fewer = ranked (finmap.remove scores x.0) in
    let place = place_in fewer x in
    let low : place ≤ length fewer = omega (arith, length-filter_both (is_before x) (λ y. not (is_before x y)) (λ y. refl) fewer) in
    let whole : ranked scores ≡ insert fewer place x = sym (added (finmap.remove scores x.0) x (without_it scores x.0) ∙ ap ranked (again scores x at)) in
    record {
      place = place;
      low = low;
      whole = whole;
      here = placed scores place x (ap (λ xs. slice_get xs place) whole ∙ inserted_at fewer place x low);
    }

pub taken : (scores : Scores) (x : Scored) → finmap.get scores x.0 ≡ Some x.1
    → remove (ranked scores) (place_in (ranked scores) x) ≡ ranked (finmap.remove scores x.0)
taken scores x at =
    let s = seam scores x at in
    ap (remove (ranked scores)) s.here ∙ ap (λ xs. remove xs s.place) s.whole ∙ removed_again (ranked (finmap.remove scores x.0)) s.place x s.low

-- what is put in at the place that a search found, or taken out there
pub added_there : (xs new : List Scored) (scores : Scores) (x y : Scored) (place : ℕ) → xs ≡ ranked scores → place ≡ place_in (ranked scores) x → y ≡ x
    → finmap.get scores x.0 ≡ None → new ≡ insert xs place y → new ≡ ranked (finmap.insert scores x.0 x.1)
added_there xs new scores x y place is here same none put =
    put ∙ (λ i. insert (is i) (here i) (same i)) ∙ added scores x none

pub taken_there : (xs new : List Scored) (scores : Scores) (x : Scored) (place : ℕ) → xs ≡ ranked scores → place ≡ place_in (ranked scores) x
    → finmap.get scores x.0 ≡ Some x.1 → new ≡ remove xs place → new ≡ ranked (finmap.remove scores x.0)
taken_there xs new scores x place is here at out = out ∙ (λ i. remove (is i) (here i)) ∙ taken scores x at

pub low_there : (xs : List Scored) (scores : Scores) (x : Scored) (place : ℕ) → xs ≡ ranked scores → place ≡ place_in (ranked scores) x
    → finmap.get scores x.0 ≡ Some x.1 → place < length xs
low_there xs scores x place is here at = rw (here, is) (within scores x at)

pub taken_at : (scores : Scores) (k : ℕ) (x : Scored) → slice_get (ranked scores) k ≡ Some x
    → remove (ranked scores) k ≡ ranked (finmap.remove scores x.0)
taken_at scores k x at = ap (remove (ranked scores)) (sym (placed scores k x at)) ∙ taken scores x (score_at scores k x at)

pub fewer_by_one : (scores : Scores) (x : Scored) → finmap.get scores x.0 ≡ Some x.1 → finmap.len (finmap.remove scores x.0) + 1 ≡ finmap.len scores
fewer_by_one scores x at =
    sym (ap finmap.len (sym (again scores x at)) ∙ finmap.len-insert nat_list_cmp_total (finmap.remove scores x.0) x.0 x.1
    ∙ ap (λ (o : Option ℤ). cond (is_some o) (finmap.len (finmap.remove scores x.0)) (finmap.len (finmap.remove scores x.0) + 1)) (without_it scores x.0))

-- as many in order as members
not_there : (x q : Scored) (es : List Scored) → T (entries.below_all byte_cmp x.0 es) → has scored_cmp q es ≡ true → eq_by_cmp scored_cmp q x ≡ false
not_there x q es below stands =
    elim (eq_by_cmp scored_cmp q x) as (λ b. eq_by_cmp scored_cmp q x ≡ b → b ≡ false) [
      | true ↦ λ same. absurd (true≢false (sym stands ∙ apart x q es (ap (λ (y : Scored). y.0) (scored_exact q x (equal_from _ same))) below))
      | false ↦ λ _. refl
    ] refl

length-puts : (es ys : List Scored) → T (entries.is_sorted byte_cmp es) → ((q : Scored) → has scored_cmp q es ≡ true → has scored_cmp q ys ≡ false)
    → length (fold (λ zs x. put scored_cmp x zs) ys es) ≡ length ys + length es
length-puts [] ys h new = omega arith
length-puts (e ∷ es) ys h new =
    let first : has scored_cmp e ys ≡ false = new e (ap (λ r. is_eq r || has scored_cmp e es) (tied_itself scored_total e)) in
    let more = length-put scored_cmp scored_total e ys first in
    omega (
      arith,
      more,
      length-puts es (put scored_cmp e ys) (second_holds _ _ h) (λ q stands.
          has-put scored_cmp scored_total q e ys
          ∙ ap (λ b. b || has scored_cmp q ys) (not_there e q es (first_holds _ _ h) stands)
          ∙ new q (ap (λ b. eq_by_cmp scored_cmp q e || b) stands ∙ or_true (eq_by_cmp scored_cmp q e))),
    )

pub length-ranked : (scores : Scores) → length (ranked scores) ≡ finmap.len scores
length-ranked scores =
    length-puts (finmap.entries scores) [] (finmap.entries_sorted scores) (λ q _. refl) ∙ omega (arith, finmap.len-entries scores)

-- what a search for a cut finds, at the tree that is kept beside the map
pub found_place : (xs : List Scored) (scores : Scores) (x y : Scored) (place : ℕ) → xs ≡ ranked scores → y ≡ x
    → (IsParted (is_before y) xs → place ≡ place_in xs y) → place ≡ place_in (ranked scores) x
found_place xs scores x y place is same at =
    at (subst (IsParted (is_before y)) (sym is) (parted_ranked scores y)) ∙ (λ i. place_in (is i) (same i))

-- whether one is of this member
abbrev pub is_named : Bytes → Scored → Bool
is_named member scored = bytes_eq scored.0 member

none_named : (scores : Scores) (member : Bytes) → finmap.get scores member ≡ None → list_any (is_named member) (ranked scores) ≡ false
none_named scores member none = is_false (list_any (is_named member) (ranked scores)) (λ some.
    let one = passing (is_named member) (ranked scores) some in
    not_None one.1.1 (sym (ap (λ (m : Bytes). finmap.get scores m) (sym ((bytes_decides one.1.0 member).0 one.3)) ∙ score_at scores one.0 one.1 one.2) ∙ none))

pub rank_there : (direction : Direction) (scores : Scores) (x : Scored) (place len : ℕ) → finmap.get scores x.0 ≡ Some x.1
    → place ≡ place_in (ranked scores) x → len ≡ length (ranked scores) → Some (told_place direction place len) ≡ rank_of direction scores x.0
rank_there direction scores x place len at is size =
    let s = seam scores x at in
    let fewer = ranked (finmap.remove scores x.0) in
    let none = any-front (is_named x.0) fewer s.place (none_named (finmap.remove scores x.0) x.0 (without_it scores x.0)) in
    let own : is_named x.0 x ≡ true = (bytes_decides x.0 x.0).1 refl in
    let front = length-front fewer s.place s.low in
    let sum : length (take s.place fewer) + suc (length (drop s.place fewer)) ≡ len =
    sym (length-append (take s.place fewer) (x ∷ drop s.place fewer)) ∙ ap length (sym s.whole) ∙ sym size in
    elim direction as (λ d. Some (told_place d place len) ≡ rank_of d scores x.0) [
      | Ascending ↦
          sym (ap (position (is_named x.0)) s.whole
          ∙ first_passing (is_named x.0) (take s.place fewer) x (drop s.place fewer) none.0 own
          ∙ ap Some (front ∙ sym s.here ∙ sym is))
      | Descending ↦
          sym (ap (λ ys. position (is_named x.0) (reverse ys)) s.whole
          ∙ ap (position (is_named x.0)) (told-descending (take s.place fewer) x (drop s.place fewer))
          ∙ first_passing (is_named x.0) (reverse (drop s.place fewer)) x (reverse (take s.place fewer))
          (any-reverse (is_named x.0) (drop s.place fewer) none.1) own
          ∙ ap Some (length-reverse (drop s.place fewer) ∙ omega (arith, front, sum, s.here, is)))
    ]

pub rank_missing : (direction : Direction) (scores : Scores) (member : Bytes) → finmap.get scores member ≡ None → None ≡ rank_of direction scores member
rank_missing Ascending scores member none = sym (no_position (is_named member) (ranked scores) (none_named scores member none))
rank_missing Descending scores member none =
    sym (no_position (is_named member) (reverse (ranked scores)) (any-reverse (is_named member) (ranked scores) (none_named scores member none)))

pub told_within : (direction : Direction) (place len : ℕ) → place < len → told_place direction place len < len
told_within Ascending place len low = low
told_within Descending place len low = omega (arith, low)
