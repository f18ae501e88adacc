-- The longest of lists each two of which are comparable: each begins it.
use Rattle.std.proofs.Common.{ℕ, cond, inl, inr, List, [], ◌∷◌, length, map, refl, sym, subst, arith}
use Rattle.std.specs.Prelude.{◌==◌, nat_le}
use Rattle.std.specs.List.{AllByRecursion}
use Rattle.std.proofs.lemmas.Bool.{cond_both, eqb-true, eq-eqb, leb-true, leb-false}
use Rattle.nr_model.specs.Bytes.{IsBeginningOf}
use Rattle.nr_model.proofs.NodesPartsEmitted.{begins_itself, begins_on, none_begins}
use Rattle.nr_entry.specs.declared.entry.Entry.{Entry}
use Rattle.nr_log_end.specs.declared.standing.Standing.{Standing}
use Rattle.nr_log_end.specs.declared.standing.LogEvent.{LogEvent}
use Rattle.nr_log_end.specs.Standings.{known_of}
use Rattle.nr_oplog.specs.Plays.{AreComparable, AreOfOneLog}
use Rattle.nr_taps.specs.Sequence.{AreAllOfOneLog, logged_of, ran_items, IsLogOf, AreReadsOf}

abbrev pub longer : {A : Type 0} → List A → List A → List A
longer xs ys = cond (nat_le (length xs) (length ys)) ys xs

module _ {A : Type 0} where
  -- what both have, the longer has
  pub longer_has : (P : List A → Type 0) (xs ys : List A) → P xs → P ys → P (longer xs ys)
  longer_has P xs ys p q = cond_both (nat_le (length xs) (length ys)) ys xs P (λ _. q) (λ _. p)

  -- both begin it
  pub first_begins : (xs ys : List A) → AreComparable xs ys → IsBeginningOf xs (longer xs ys)
  first_begins xs ys c = cond_both (nat_le (length xs) (length ys)) ys xs (IsBeginningOf xs) (λ t. c.0 (leb-true (length xs) (length ys) t)) (λ _. begins_itself xs)

  pub second_begins : (xs ys : List A) → AreComparable xs ys → IsBeginningOf ys (longer xs ys)
  second_begins xs ys c = cond_both (nat_le (length xs) (length ys)) ys xs (IsBeginningOf ys) (λ _. begins_itself ys)
      (λ f. let less = leb-false (length xs) (length ys) f in c.1 (omega (arith, less)))

-- the most that any of these knows
abbrev pub longest_known : List Standing → List Entry
longest_known [] = []
longest_known (s ∷ more) = longer (known_of s) (longest_known more)

-- the most that a node did, by any of these
abbrev pub longest_past : List Standing → ℕ → List LogEvent
longest_past [] node = []
longest_past (s ∷ more) node = cond (s.node == node) (longer s.history (longest_past more node)) (longest_past more node)

-- nothing is comparable with each list
with_none : {A : Type 0} (xs : List A) → AreComparable xs []
with_none [] = (λ _. ([], refl), λ _. ([], refl))
with_none (x ∷ xs) = (λ h. absurd (omega (arith, h)), λ _. none_begins (x ∷ xs))

with_longest_known : (s : Standing) (more : List Standing) → AllByRecursion (AreOfOneLog s) more → AreComparable (known_of s) (longest_known more)
with_longest_known s [] all = with_none (known_of s)
with_longest_known s (t ∷ more) all =
    longer_has (AreComparable (known_of s)) (known_of t) (longest_known more) all.0.0 (with_longest_known s more all.1)

with_longest_past : (s : Standing) (more : List Standing) → AllByRecursion (AreOfOneLog s) more → AreComparable s.history (longest_past more s.node)
with_longest_past s [] all = with_none s.history
with_longest_past s (t ∷ more) all =
    let rest = with_longest_past s more all.1 in
    cond_both (t.node == s.node) (longer t.history (longest_past more s.node)) (longest_past more s.node) (AreComparable s.history)
    (λ same. longer_has (AreComparable s.history) t.history (longest_past more s.node) (all.0.1 (sym (eqb-true t.node s.node same))) rest)
    (λ _. rest)

-- what holds of each, and goes over to a longer one, holds of each
weaker : {P Q : Standing → Type 0} (f : (s : Standing) → P s → Q s) (standings : List Standing) → AllByRecursion P standings → AllByRecursion Q standings
weaker f [] all = tt
weaker f (s ∷ more) all = (f s all.0, weaker f more all.1)

-- each begins the longest
pub known_begin : (standings : List Standing) → AreAllOfOneLog standings
    → AllByRecursion (λ (s : Standing). IsBeginningOf (known_of s) (longest_known standings)) standings
known_begin [] are = tt
known_begin (s ∷ more) are =
    let one = with_longest_known s more are.0 in
    let all = longer (known_of s) (longest_known more) in
    let last = second_begins (known_of s) (longest_known more) one in (
      first_begins (known_of s) (longest_known more) one,
      weaker (λ t b. begins_on (known_of t) (longest_known more) all b last) more (known_begin more are.1),
    )

pub pasts_begin : (standings : List Standing) → AreAllOfOneLog standings
    → AllByRecursion (λ (s : Standing). IsBeginningOf s.history (longest_past standings s.node)) standings
pasts_begin [] are = tt
pasts_begin (s ∷ more) are =
    let one = with_longest_past s more are.0 in
    let all = λ (node : ℕ). longest_past (s ∷ more) node in
    let grown = λ (node : ℕ). cond_both (s.node == node) (longer s.history (longest_past more node)) (longest_past more node) (IsBeginningOf (longest_past more node))
    (λ same. second_begins s.history (longest_past more node) (subst (λ (n : ℕ). AreComparable s.history (longest_past more n)) (eqb-true s.node node same) one))
    (λ _. begins_itself (longest_past more node)) in (
      cond_both (s.node == s.node) (longer s.history (longest_past more s.node)) (longest_past more s.node) (IsBeginningOf s.history)
          (λ _. first_begins s.history (longest_past more s.node) one)
          (λ other. absurd (cc (other, eq-eqb s.node s.node refl))),
      weaker (λ t b. begins_on t.history (longest_past more t.node) (all t.node) b (grown t.node)) more (pasts_begin more are.1),
    )

-- what holds of nothing, and of the history of each, holds of what each node did
pub past_has : (P : ℕ → List LogEvent → Type 0) (standings : List Standing) → ((node : ℕ) → P node [])
    → AllByRecursion (λ (s : Standing). P s.node s.history) standings
    → (node : ℕ) → P node (longest_past standings node)
past_has P [] none all node = none node
past_has P (s ∷ more) none all node =
    let rest = past_has P more none all.1 node in
    cond_both (s.node == node) (longer s.history (longest_past more node)) (longest_past more node) (P node)
    (λ same. longer_has (P node) s.history (longest_past more node) (subst (λ (n : ℕ). P n s.history) (eqb-true s.node node same) all.0) rest)
    (λ _. rest)

-- the most is what one of them knows, or did
pub longest_log : (standings : List Standing) → IsLogOf standings (map logged_of (longest_known standings))
longest_log [] = refl
longest_log (s ∷ more) = longer_has (λ (log : List Entry). IsLogOf (s ∷ more) (map logged_of log)) (known_of s) (longest_known more) (inl refl) (inr (longest_log more))

pub longest_reads : (standings : List Standing) (node : ℕ) → AreReadsOf standings node (ran_items (longest_past standings node))
longest_reads [] node = refl
longest_reads (s ∷ more) node =
    let rest = longest_reads more node in
    cond_both (s.node == node) (longer s.history (longest_past more node)) (longest_past more node) (λ (turns : List LogEvent). AreReadsOf (s ∷ more) node (ran_items turns))
    (λ same. longer_has (λ (turns : List LogEvent). AreReadsOf (s ∷ more) node (ran_items turns)) s.history (longest_past more node)
    (inl (eqb-true s.node node same, refl)) (inr rest))
    (λ _. inr rest)

pub no_reads : (standings : List Standing) (node : ℕ) → AreReadsOf standings node []
no_reads [] node = refl
no_reads (s ∷ more) node = inr (no_reads more node)
