-- What a change of the ordered deadlines is on the finite set that they make.
use Rattle.std.proofs.Common.{◌≡◌, ℕ, zero, suc, ◌<◌, length, ℤ, pos, Bool, true, false, cond, not, ◌||◌, ◌&&◌, List, [], ◌∷◌, map, refl, ap, sym, ◌∙◌, subst, true≢false, arith}
use Rattle.std.specs.Prelude.{filter, int_lt, Some, None}
use Rattle.std.specs.declared.cmp.Ordering.{Ordering}
use Rattle.std.specs.declared.cmp.Ordering.TheVariants.{Less, Equal, Greater}
use Rattle.std.specs.Ordering.{is_eq, is_gt, eq_by_cmp, int_cmp, ordering_then, ordering_reverse}
use Rattle.std.specs.Cmp.{IsTotalOrder, tied_itself}
use Rattle.std.specs.List.{list_any, AllByRecursion, insert, remove, slice_get}
use Rattle.std.specs.FinMap.{IsAntisymmetric}
use Rattle.std.specs.FinSet as set
use Rattle.std.proofs.lemmas.Cmp.{on_total}
use Rattle.std.proofs.lemmas.Int.{ints}
use Rattle.std.proofs.lemmas.Option.{slice_get_within}
use Rattle.nr_model.specs.Bytes.{Bytes}
use Rattle.nr_model.specs.Names.{put, in_order}
use Rattle.nr_model.specs.Keyspace.{byte_cmp, is_live_at}
use Rattle.nr_model.proofs.Ordered.{has, IsOrdered, equal_from, ordered-in_order, has-in_order, ordered-put, has-put, ordered-filter, has-filter, same_ordered}
use Rattle.nr_ordered.specs.Lists.{Item, IsParted}
use Rattle.nr_ordered.proofs.Places.{same_Some}
use Rattle.nr_zsets.proofs.Sorted.{Rises, rises, all_at, passing, all_such, parted_where, parted_front, inserted_put, stands, has_at}
use Rattle.nr_keyspace.specs.Deadlines.{Due, due_cmp, due_of, item_cmp, is_before, dues_of, AreInOrder, IsFirst}
use Rattle.nr_keyspace.proofs.Orders.{due_total, due_exact}

pub item_total : IsTotalOrder item_cmp
item_total = on_total due_of due_total

abbrev item_of : Due → Item
item_of due = (due.1, due.0)

item_exact : IsAntisymmetric item_cmp
item_exact a b h = ap item_of (due_exact (due_of a) (due_of b) h)

any-dues : (q : Due) (items : List Item) → list_any (eq_by_cmp due_cmp q) (map due_of items) ≡ has item_cmp (item_of q) items
any-dues q [] = refl
any-dues q (x ∷ items) = ap (λ b. eq_by_cmp due_cmp q (due_of x) || b) (any-dues q items)

pub contains-dues : (items : List Item) (q : Due) → set.contains (dues_of items) q ≡ has item_cmp (item_of q) items
contains-dues items q = set.contains-from_list due_total (map due_of items) q ∙ any-dues q items

-- items in order, each once
ordered : (items : List Item) → AreInOrder items → IsOrdered item_cmp items
ordered items is = subst (IsOrdered item_cmp) (sym is) (ordered-in_order item_cmp item_total items)

in_order_from : (items : List Item) → IsOrdered item_cmp items → AreInOrder items
in_order_from items h =
    same_ordered item_cmp item_total item_exact items (in_order item_cmp items) h (ordered-in_order item_cmp item_total items)
    (λ q. sym (has-in_order item_cmp item_total q items))

pub rising : (items : List Item) → AreInOrder items → Rises item_cmp items
rising items is = rises item_cmp items (ordered items is)

abbrev pub place_in : List Item → Item → ℕ
place_in items at = length (filter (is_before at) items)

-- what a search for an item finds
pub found_place : (items : List Item) (at : Item) (place : ℕ) → AreInOrder items
    → (IsParted (is_before at) items → place ≡ place_in items at) → place ≡ place_in items at
found_place items at place is found = found (parted_front item_cmp item_total at items (rising items is))

not_there : (items : List Item) (due : Due) (before : set.FinSet due_cmp) → dues_of items ≡ before → set.contains before due ≡ false
    → has item_cmp (item_of due) items ≡ false
not_there items due before seen none = sym (contains-dues items due) ∙ ap (λ dues. set.contains dues due) seen ∙ none

there : (items : List Item) (due : Due) (before : set.FinSet due_cmp) → dues_of items ≡ before → set.contains before due ≡ true
    → has item_cmp (item_of due) items ≡ true
there items due before seen some = sym (contains-dues items due) ∙ ap (λ dues. set.contains dues due) seen ∙ some

-- items in order after a change, and the set that they make
pub record AreNow (items : List Item) (dues : set.FinSet due_cmp) : Type 0 where
  pub ordered : AreInOrder items
  pub seen : dues_of items ≡ dues

-- a name is put in that wasn't there
pub added : (old new : List Item) (due : Due) (place : ℕ) (before : set.FinSet due_cmp) → AreInOrder old → dues_of old ≡ before
    → place ≡ place_in old (item_of due) → set.contains before due ≡ false → new ≡ insert old place (item_of due) → AreNow new (set.insert before due)
added old new due place before is seen at none put_in =
    let x = item_of due in
    let new_is : new ≡ put item_cmp x old =
    put_in ∙ ap (λ k. insert old k x) at ∙ inserted_put item_cmp item_total x old (rising old is) (not_there old due before seen none) in
    record {
      ordered = in_order_from new (subst (IsOrdered item_cmp) (sym new_is) (ordered-put item_cmp item_total x old (ordered old is)));
      seen = set.same_set due_total due_exact _ _ (λ q.
          contains-dues new q
          ∙ ap (has item_cmp (item_of q)) new_is
          ∙ has-put item_cmp item_total (item_of q) x old
          ∙ ap (λ b. eq_by_cmp due_cmp q due || b) (sym (contains-dues old q) ∙ ap (λ dues. set.contains dues q) seen)
          ∙ sym (set.contains-insert due_total before due q));
    }

-- those other than an item
abbrev is_other : Item → Item → Bool
is_other x y = not (eq_by_cmp item_cmp y x)

stays_behind : (x y : Item) → item_cmp x y ≡ Less → is_other x y ≡ true
stays_behind x y before = ap (λ r. not (is_eq r)) (item_total.antisymm y x ∙ ap ordering_reverse before)

all_stay : (x : Item) (items : List Item) → AllByRecursion (λ y. item_cmp x y ≡ Less) items → filter (is_other x) items ≡ items
all_stay x [] all = refl
all_stay x (y ∷ items) all =
    ap (λ b. cond b (y ∷ filter (is_other x) items) (filter (is_other x) items)) (stays_behind x y all.0) ∙ ap (λ ys. y ∷ ys) (all_stay x items all.1)

-- where an item stands, the others are left without it
removed_is : (items : List Item) (k : ℕ) (x : Item) → Rises item_cmp items → slice_get items k ≡ Some x → remove items k ≡ filter (is_other x) items
removed_is [] k x rise at = absurd (cc)
removed_is (y ∷ items) zero x rise at =
    let same = same_Some y x at in
    sym (ap (λ b. cond b (y ∷ filter (is_other x) items) (filter (is_other x) items))
    (ap (is_other x) same ∙ ap (λ r. not (is_eq r)) (tied_itself item_total x))
    ∙ all_stay x items (subst (λ z. AllByRecursion (λ w. item_cmp z w ≡ Less) items) same rise.0))
removed_is (y ∷ items) (suc k) x rise at =
    ap (λ ys. y ∷ ys) (removed_is items k x rise.1 at)
    ∙ sym (ap (λ b. cond b (y ∷ filter (is_other x) items) (filter (is_other x) items))
    (ap (λ r. not (is_eq r)) (all_at (λ z. item_cmp y z ≡ Less) items k x rise.0 at)))

-- what stands at a place is taken out
pub taken_set : (old new : List Item) (x : Item) (k : ℕ) (before : set.FinSet due_cmp) → Rises item_cmp old → dues_of old ≡ before
    → slice_get old k ≡ Some x → new ≡ remove old k → dues_of new ≡ set.remove before (due_of x)
taken_set old new x k before rise seen at out = set.same_set due_total due_exact _ _ (λ q.
    contains-dues new q
    ∙ ap (has item_cmp (item_of q)) (out ∙ removed_is old k x rise at)
    ∙ has-filter item_cmp item_total item_exact (item_of q) (is_other x) old
    ∙ ap (λ b. not (eq_by_cmp due_cmp q (due_of x)) && b) (sym (contains-dues old q) ∙ ap (λ dues. set.contains dues q) seen)
    ∙ sym (set.contains-remove due_total before (due_of x) q))

taken_at : (old new : List Item) (x : Item) (k : ℕ) (before : set.FinSet due_cmp) → AreInOrder old → dues_of old ≡ before
    → slice_get old k ≡ Some x → new ≡ remove old k → AreNow new (set.remove before (due_of x))
taken_at old new x k before is seen at out = record {
  ordered = in_order_from new
      (subst (IsOrdered item_cmp) (sym (out ∙ removed_is old k x (rising old is) at)) (ordered-filter item_cmp (is_other x) old (ordered old is)));
  seen = taken_set old new x k before (rising old is) seen at out;
}

-- a name that is there stands at its place
standing : (items : List Item) (due : Due) (place : ℕ) (before : set.FinSet due_cmp) → AreInOrder items → dues_of items ≡ before
    → place ≡ place_in items (item_of due) → set.contains before due ≡ true → slice_get items place ≡ Some (item_of due)
standing items due place before is seen at some =
    ap (slice_get items) at ∙ stands item_cmp item_total item_exact (item_of due) items (rising items is) (there items due before seen some)

pub within : (items : List Item) (due : Due) (place : ℕ) (before : set.FinSet due_cmp) → AreInOrder items → dues_of items ≡ before
    → place ≡ place_in items (item_of due) → set.contains before due ≡ true → place < length items
within items due place before is seen at some = slice_get_within items place (item_of due) (standing items due place before is seen at some)

pub removed : (old new : List Item) (due : Due) (place : ℕ) (before : set.FinSet due_cmp) → AreInOrder old → dues_of old ≡ before
    → place ≡ place_in old (item_of due) → set.contains before due ≡ true → new ≡ remove old place → AreNow new (set.remove before due)
removed old new due place before is seen at some out =
    taken_at old new (item_of due) place before is seen (standing old due place before is seen at some) out

-- none that is there stands before the first
not_before : (x y q : Item) (items : List Item) (k : ℕ) → Rises item_cmp (x ∷ items) → slice_get (x ∷ items) k ≡ Some y → q ≡ y
    → is_gt (item_cmp x q) ≡ false
not_before x y q items zero rise at same =
    ap (λ z. is_gt (item_cmp x z)) (same ∙ sym (same_Some x y at)) ∙ ap is_gt (tied_itself item_total x)
not_before x y q items (suc k) rise at same =
    ap (λ z. is_gt (item_cmp x z)) same ∙ ap is_gt (all_at (λ z. item_cmp x z ≡ Less) items k y rise.0 at)

first_of : (x : Item) (items : List Item) → Rises item_cmp (x ∷ items) → IsFirst (dues_of (x ∷ items)) (due_of x)
first_of x items rise = record {
  there = contains-dues (x ∷ items) (due_of x) ∙ has_at item_cmp item_total (x ∷ items) 0 x refl;
  earliest = λ other found.
      let one = passing (eq_by_cmp item_cmp (item_of other)) (x ∷ items) (sym (contains-dues (x ∷ items) other) ∙ found) in
      not_before x one.1 (item_of other) items one.0 rise one.2 (item_exact (item_of other) one.1 (equal_from _ one.3));
}

pub first_is : (items : List Item) (x : Item) (before : set.FinSet due_cmp) → Rises item_cmp items → dues_of items ≡ before → slice_get items 0 ≡ Some x
    → IsFirst before (due_of x)
first_is [] x before rise seen at = absurd (cc)
first_is (y ∷ items) x before rise seen at = subst (λ dues. IsFirst dues (due_of x)) seen
    (subst (λ z. IsFirst (dues_of (y ∷ items)) (due_of z)) (same_Some y x at) (first_of y items rise))

neither_greater : (r : Ordering) → is_gt r ≡ false → is_gt (ordering_reverse r) ≡ false → r ≡ Equal
neither_greater Less h back = absurd (true≢false back)
neither_greater Equal h back = refl
neither_greater Greater h back = absurd (true≢false h)

one_first : (dues : set.FinSet due_cmp) (a b : Due) → IsFirst dues a → IsFirst dues b → a ≡ b
one_first dues a b first too = due_exact a b
    (neither_greater (due_cmp a b) (first.earliest b too.there) (ap is_gt (sym (due_total.antisymm b a)) ∙ too.earliest a first.there))

pub some_there : (items : List Item) (due : Due) (before : set.FinSet due_cmp) → dues_of items ≡ before → IsFirst before due → 0 < length items
some_there [] due before seen first = absurd (true≢false (sym (there [] due before seen first.there)))
some_there (x ∷ items) due before seen first = omega arith

-- the first is taken out
pub first_out : (old new : List Item) (due : Due) (before : set.FinSet due_cmp) → AreInOrder old → dues_of old ≡ before
    → IsFirst before due → new ≡ remove old 0 → AreNow new (set.remove before due)
first_out [] new due before is seen first out = absurd (true≢false (sym (there [] due before seen first.there)))
first_out (x ∷ items) new due before is seen first out =
    let own = first_is (x ∷ items) x before (rising (x ∷ items) is) seen refl in
    subst (λ d. AreNow new (set.remove before d)) (one_first before (due_of x) due own first)
    (taken_at (x ∷ items) new x 0 before is seen refl out)

not_greater : (r s : Ordering) → is_gt (ordering_then r s) ≡ false → is_gt r ≡ false
not_greater Less s h = refl
not_greater Equal s h = refl
not_greater Greater s h = h

-- where a moment is before a deadline, it is before each that is not earlier
later_too : (now : ℕ) (first later : ℤ) → int_lt (pos now) first ≡ true → is_gt (int_cmp first later) ≡ false → int_lt (pos now) later ≡ true
later_too now first later before h = grind (arith, ints)

pub still_live : (now : ℕ) (first : Due) (dues : set.FinSet due_cmp) → IsFirst dues first → int_lt (pos now) first.0 ≡ true
    → (deadline : ℤ) (name : Bytes) → set.contains dues (deadline, name) ≡ true → int_lt (pos now) deadline ≡ true
still_live now first dues is before deadline name found =
    later_too now first.0 deadline before (not_greater _ (byte_cmp first.1 name) (is.earliest (deadline, name) found))

-- where nothing stands first, nothing is found
pub none_found : (items : List Item) (before : set.FinSet due_cmp) → dues_of items ≡ before → slice_get items 0 ≡ None → {P : Type 0} (q : Due)
    → set.contains before q ≡ true → P
none_found [] before seen none q found = absurd (true≢false (sym (there [] q before seen found)))
none_found (x ∷ items) before seen none q found = absurd (cc)

-- whether a deadline is not after a moment
abbrev pub is_expired : ℕ → Item → Bool
is_expired now x = not (is_live_at now (Some x.1))

stays_live : (b c : Bool) → (b ≡ true → c ≡ true) → not b ≡ false → not c ≡ false
stays_live true c more live = ap not (more refl)
stays_live false c more live = absurd (true≢false live)

pub parted_expired : (now : ℕ) (items : List Item) → Rises item_cmp items → IsParted (is_expired now) items
parted_expired now items rise = parted_where item_cmp (λ x. Unit {0}) (is_expired now)
    (λ x y _ _ before. stays_live (int_lt (pos now) x.1) (int_lt (pos now) y.1)
    (λ live. later_too now x.1 y.1 live (not_greater _ (byte_cmp x.0 y.0) (ap is_gt before))))
    items (all_such item_cmp items) rise
