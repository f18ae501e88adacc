-- The first account after a serial, as the map of accounts finds it, and the first of a connection that goes on.
use Rattle.std.proofs.Common.{◌≡◌, ℕ, ◌-◌, ◌<◌, ◌^◌, false, Option, Some, None, [], ◌∷◌, refl, sym, ◌∙◌, subst, arith}
use Rattle.std.proofs.lemmas.Grind.{common_steps}
use Rattle.std.specs.Prelude.{IsSome, IfSome, slice_get}
use Rattle.std.specs.declared.ops.Bound.TheVariants.{Unbounded}
use Rattle.std.specs.declared.cmp.Ordering.TheVariants.{Less}
use Rattle.std.specs.Ordering.{is_gt, nat_cmp}
use Rattle.std.specs.List.Sorted.{IsStrictlySortedBy}
use Rattle.std.specs.Map.{keys_of, lookup}
use Rattle.std.specs.BTreeMap.{BTreeMap, is_at}
use Rattle.std.specs.BTreeMap.Range.{IsRangeOf, IsFromStart, IsEntryInRange}
use Rattle.std.specs.FinMap as finmap
use Rattle.nr_job_numbers.specs.declared.account.Account.{Account}
use Rattle.nr_job_numbers.specs.Stored.{Held, is_unended, ComesAfter, start_after}
use Rattle.nr_job_numbers.proofs.Seen.{Entries, seen, get_seen}

less : (a b : ℕ) → a < b → nat_cmp a b ≡ Less
less a b h = grind (arith, common_steps)

less_back : (a b : ℕ) → nat_cmp a b ≡ Less → a < b
less_back a b h = grind (arith, common_steps)

in_range : (last : Option ℕ) (q : ℕ) → ComesAfter last q → IsFromStart nat_cmp (start_after last) q
in_range None q after = tt
in_range (Some last) q after = less last q after

after_by : (last : Option ℕ) (q : ℕ) → IsFromStart nat_cmp (start_after last) q → ComesAfter last q
after_by None q from = tt
after_by (Some last) q from = less_back last q from

is_some_at : (o : Option Account) (a : Account) → o ≡ Some a → IsSome o
is_some_at o a e = subst IsSome (sym e) refl

-- the accounts from there on
abbrev IsPart : Option ℕ → BTreeMap ℕ Account → Entries → Type 0
IsPart last m part = IsRangeOf nat_cmp (start_after last) Unbounded m part

pub first_after : (last : Option ℕ) (m : BTreeMap ℕ Account) (part rest : Entries) (s : ℕ) (a : Account) → IsStrictlySortedBy nat_cmp (keys_of m.entries)
    → IsPart last m part → part ≡ (s, a) ∷ rest → ComesAfter last s × IsSome (finmap.get (seen m.entries) s)
first_after last m part rest s a rises is split =
    let first = subst (λ (es : Entries). IfSome (slice_get es 0) (IsEntryInRange nat_cmp (start_after last) Unbounded m)) split is.1 in
    (after_by last s first.0.0, is_some_at _ a (get_seen m.entries rises s ∙ first.1))

none_by : (o : Option Account) (P : Type 0) → (IsSome o → P) → (P → ⊥) → o ≡ None
none_by None P some apart = refl
none_by (Some a) P some apart = absurd (apart (some refl))

pub none_between : (last : Option ℕ) (m : BTreeMap ℕ Account) (part rest : Entries) (s : ℕ) (a : Account) → IsStrictlySortedBy nat_cmp (keys_of m.entries)
    → IsPart last m part → part ≡ (s, a) ∷ rest → (other : ℕ) → ComesAfter last other → other < s → finmap.get (seen m.entries) other ≡ None
none_between last m part rest s a rises is split other after below =
    get_seen m.entries rises other
    ∙ none_by (lookup (is_at (nat_cmp other)) m.entries) (is_gt (nat_cmp s other) ≡ false)
    (λ some. subst (λ (es : Entries). IfSome (slice_get es 0) (λ e. is_gt (nat_cmp e.0 other) ≡ false)) split (is.2 other (in_range last other after, tt) some))
    (λ least. grind (arith, common_steps))

pub none_after : (last : Option ℕ) (m : BTreeMap ℕ Account) (part : Entries) → IsStrictlySortedBy nat_cmp (keys_of m.entries) → IsPart last m part → part ≡ []
    → (other : ℕ) → ComesAfter last other → finmap.get (seen m.entries) other ≡ None
none_after last m part rises is none other after = get_seen m.entries rises other ∙ is.5 none other (in_range last other after, tt)

-- how many serials may come after one
abbrev pub left_after : Option ℕ → ℕ
left_after None = 2 ^ 64
left_after (Some last) = (2 ^ 64 - 1) - last

-- from one serial up to another no connection of a worker goes on
pub record PassesOver (worker : ℕ) (held : Held) (from last : Option ℕ) : Type 0 where
  pub further : (serial : ℕ) → ComesAfter last serial → ComesAfter from serial
  pub ended : (serial : ℕ) → ComesAfter from serial → (ComesAfter last serial → ⊥) → is_unended worker (finmap.get held serial) ≡ false
