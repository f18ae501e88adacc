-- Members put in and taken out, one after another.
use Rattle.std.proofs.Common.{◌≡◌, ℕ, ◌+◌, ◌-◌, ◌≤◌, Bool, true, false, cond, ◌||◌, List, [], ◌∷◌, refl, ap, ◌∙◌, arith}
use Rattle.std.specs.Ordering.{eq_by_cmp}
use Rattle.std.specs.FinSet as set
use Rattle.std.specs.Cmp.Lexicographic.{nat_list_cmp_total}
use Rattle.std.proofs.lemmas.Map.Lookups.{exact_bytes}
use Rattle.nr_model.specs.Bytes.{Bytes}
use Rattle.nr_model.specs.Keyspace.{byte_cmp}
use Rattle.nr_model.specs.Sets.{Members, listed}
use Rattle.nr_model.specs.Commands.Sets.{with_each, without_each}
use Rattle.nr_model.proofs.Ordered.{has}
use Rattle.nr_sets.proofs.Seen.{has-listed}

more_by : (b : Bool) (n m : ℕ) → m ≡ cond b n (n + 1) → n ≤ m
more_by true n m is = omega (arith, is)
more_by false n m is = omega (arith, is)

fewer_by : (b : Bool) (n m : ℕ) → m ≡ cond b (n - 1) n → m ≤ n
fewer_by true n m is = omega (arith, is)
fewer_by false n m is = omega (arith, is)

pub grows : (s : Members) (words : List Bytes) → set.len s ≤ set.len (with_each s words)
grows s [] = omega arith
grows s (word ∷ words) =
    let more = more_by (set.contains s word) (set.len s) (set.len (set.insert s word)) (set.len-insert nat_list_cmp_total s word) in
    omega (arith, more, grows (set.insert s word) words)

pub shrinks : (s : Members) (words : List Bytes) → set.len (without_each s words) ≤ set.len s
shrinks s [] = omega arith
shrinks s (word ∷ words) =
    let fewer = fewer_by (set.contains s word) (set.len s) (set.len (set.remove s word)) (set.len-remove nat_list_cmp_total s word) in
    omega (arith, fewer, shrinks (set.remove s word) words)

swapped : (a b c : Bool) → (a || (b || c)) ≡ ((b || a) || c)
swapped true true c = refl
swapped true false c = refl
swapped false true c = refl
swapped false false c = refl

contains_each : (s : Members) (words : List Bytes) (q : Bytes) → set.contains (with_each s words) q ≡ (has byte_cmp q words || set.contains s q)
contains_each s [] q = refl
contains_each s (word ∷ words) q =
    contains_each (set.insert s word) words q
    ∙ ap (λ b. has byte_cmp q words || b) (set.contains-insert nat_list_cmp_total s word q)
    ∙ swapped (has byte_cmp q words) (eq_by_cmp byte_cmp q word) (set.contains s q)

or_false : (a : Bool) → (a || false) ≡ a
or_false true = refl
or_false false = refl

-- the members of a set make that set
pub collected_is : (s : Members) → with_each set.empty (listed s) ≡ s
collected_is s = set.same_set nat_list_cmp_total exact_bytes _ _ (λ q.
    contains_each set.empty (listed s) q
    ∙ ap (λ b. has byte_cmp q (listed s) || b) (set.contains-empty byte_cmp q)
    ∙ or_false (has byte_cmp q (listed s))
    ∙ has-listed s q)
