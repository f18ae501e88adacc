-- The first member of a table that is not allowed, found in the table's order, is the first in byte order.
use Rattle.std.proofs.Common.{◌≡◌, ◌∙◌, ℕ, Bool, true, false, cond, List, [], ◌∷◌, Option, Some, None, IfSome, String, Global, Ordering, Less, Equal, Greater, string_bytes, nat_cmp, is_eq, refl, sym, ap, subst, inl, inr}
use Rattle.std.proofs.lemmas.Bool.{cases_Bool}
use Rattle.std.proofs.lemmas.Option.{same_Some}
use Rattle.std.proofs.lemmas.Cmp.{nat_list_cmp_total}
use Rattle.std.proofs.lemmas.Map.Text.{is_eq-slice_cmp}
use Rattle.std.proofs.lemmas.Slice.Eq.{bytes_eq-Decides}
use Rattle.std.specs.Cmp.{tied_itself}
use Rattle.std.specs.Cmp.Lexicographic.{slice_cmp}
use Rattle.std.specs.List.{AllByRecursion}
use Rattle.std.specs.List.Sorted.{IsStrictlySortedBy}
use Rattle.std.specs.Map.{keys_of}
use Rattle.std.specs.Ordering.{match_ordering}
use Rattle.std.specs.String.{string_cmp}
use Rattle.toml.specs.Data.{Data, Members, no_members, member, get_member}
use Rattle.toml.specs.View.{members_view}
use Rattle.toml.specs.declared.value.Value.{Value}

-- the key stands before each key of the members
abbrev pub AllAfter : List ℕ → Members → Type 0
AllAfter k no_members = Unit {0}
AllAfter k (member l d ms) = (slice_cmp nat_cmp k l ≡ Less) × AllAfter k ms

abbrev pub IsAscending : Members → Type 0
IsAscending no_members = Unit {0}
IsAscending (member k d ms) = AllAfter k ms × IsAscending ms

all_after : (k : String Global) (es : List (String Global × Value)) → AllByRecursion (λ y. string_cmp k y ≡ Less) (keys_of es) → AllAfter (string_bytes k) (members_view es)
all_after k [] h = tt
all_after k (e ∷ es) h = (h.0, all_after k es h.1)

-- the entries of a map ascend
pub ascending : (es : List (String Global × Value)) → IsStrictlySortedBy string_cmp (keys_of es) → IsAscending (members_view es)
unfolding IsStrictlySortedBy
ascending [] h = tt
ascending (e ∷ es) h = (all_after e.0 es h.0, ascending es h.1)

same_key : (k l : List ℕ) → slice_cmp nat_cmp k l ≡ Equal → k ≡ l
same_key k l e = (bytes_eq-Decides k l).0 (sym (is_eq-slice_cmp k l) ∙ ap is_eq e)

all_after_less : (k l : List ℕ) (ms : Members) → slice_cmp nat_cmp k l ≡ Less → AllAfter l ms → AllAfter k ms
all_after_less k l no_members e h = tt
all_after_less k l (member m d ms) e h = (nat_list_cmp_total.trans k l m e h.0, all_after_less k l ms e h.1)

-- a key before all others is not there
missing : (k : List ℕ) (ms : Members) → AllAfter k ms → get_member k ms ≡ None
missing k no_members h = refl
missing k (member l d ms) h = rw h.0 (missing k ms h.1)

module _ (allowed : List ℕ → Data → Bool) where
  -- the first member that is not allowed
  abbrev pub first_fault : Members → Option (List ℕ × Data)
  first_fault no_members = None
  first_fault (member k d ms) = cond (allowed k d) (first_fault ms) (Some (k, d))

  abbrev pub AllowedAt : List ℕ → Members → Type 0
  AllowedAt k ms = IfSome (get_member k ms) (λ d. allowed k d ≡ true)

  pub record IsFirst (ms : Members) (k : List ℕ) (d : Data) : Type 0 where
    pub there : get_member k ms ≡ Some d
    pub refused : allowed k d ≡ false
    pub first : (other : List ℕ) → slice_cmp nat_cmp other k ≡ Less → AllowedAt other ms

  -- a key is allowed at a member and those behind it, where it is at each
  allowed_more : (o : Ordering) (k l : List ℕ) (d : Data) (rest : Option Data) → slice_cmp nat_cmp k l ≡ o → allowed l d ≡ true
      → IfSome rest (λ v. allowed k v ≡ true) → IfSome (match_ordering o rest (Some d) rest) (λ v. allowed k v ≡ true)
  allowed_more Less k l d rest e h more = more
  allowed_more Equal k l d rest e h more = rw (same_key k l e) h
  allowed_more Greater k l d rest e h more = more

  pub no_fault : (ms : Members) → first_fault ms ≡ None → (k : List ℕ) → AllowedAt k ms
  no_fault no_members e k = tt
  no_fault (member l d ms) e k = elim (cases_Bool (allowed l d)) [
    | inl allowed_here ↦ allowed_more (slice_cmp nat_cmp k l) k l d (get_member k ms) refl allowed_here (no_fault ms (rw allowed_here at e) k)
    | inr refused_here ↦ absurd (let bad = rw refused_here at e in cc)
  ]

  not_here : (o : Ordering) (k l : List ℕ) (d e : Data) (ms : Members) → slice_cmp nat_cmp k l ≡ o → AllAfter l ms → get_member k ms ≡ Some e
      → match_ordering o (get_member k ms) (Some d) (get_member k ms) ≡ Some e
  not_here Less k l d e ms is after there = there
  not_here Equal k l d e ms is after there = absurd (let none : get_member k ms ≡ None = rw (same_key k l is) (missing l ms after) in cc)
  not_here Greater k l d e ms is after there = there

  first_here : (l : List ℕ) (d : Data) (ms : Members) → AllAfter l ms → allowed l d ≡ false → IsFirst (member l d ms) l d
  first_here l d ms after refused_here = record {
    there = rw (tied_itself nat_list_cmp_total l);
    refused = refused_here;
    first = λ other less. rw (less, missing other ms (all_after_less other l ms less after)) tt;
  }

  first_behind : (k l : List ℕ) (e d : Data) (ms : Members) → AllAfter l ms → allowed l d ≡ true → IsFirst ms k e → IsFirst (member l d ms) k e
  first_behind k l e d ms after allowed_here is = record {
    there = not_here (slice_cmp nat_cmp k l) k l d e ms refl after is.there;
    refused = is.refused;
    first = λ other less. allowed_more (slice_cmp nat_cmp other l) other l d (get_member other ms) refl allowed_here (is.first other less);
  }

  pub is_first : (ms : Members) (k : List ℕ) (e : Data) → IsAscending ms → first_fault ms ≡ Some (k, e) → IsFirst ms k e
  is_first no_members k e h is = cc
  is_first (member l d ms) k e h is = elim (cases_Bool (allowed l d)) [
    | inl allowed_here ↦ first_behind k l e d ms h.0 allowed_here (is_first ms k e h.1 (rw allowed_here at is))
    | inr refused_here ↦
        let here = same_Some (l, d) (k, e) (rw refused_here at is) in
        subst (λ (p : List ℕ × Data). IsFirst (member l d ms) p.0 p.1) here (first_here l d ms h.0 refused_here)
  ]
