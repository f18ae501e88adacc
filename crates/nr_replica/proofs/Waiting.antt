-- The members for which bytes wait: the first of them, and what the sets have of them after a change of one.
use Rattle.std.proofs.Common.{◌≡◌, ℕ, zero, suc, ◌<◌, ◌≤◌, Bool, true, false, cond, inl, inr, List, [], ◌∷◌, ◌++◌, length, get_or, set, refl, ap, sym, ◌∙◌, subst, arith}
use Rattle.std.specs.Prelude.{◌==◌, ◌&&◌, Option, Some, None, IfSome, IfNone}
use Rattle.std.specs.BTreeSet.{BTreeSet}
use Rattle.std.proofs.lemmas.Bool.{cases_lt, cases_eq, eq-eqb, ne_eqb, and_left, and_right, false_from_ne_true}
use Rattle.std.proofs.lemmas.List.{get_or_past, get_or-set_same, get_or-set_other}
use Rattle.nr_model.specs.Connections.{is_some_bytes}
use Rattle.nr_model.specs.Queues.{Queue}
use Rattle.nr_replica.specs.Members.{Member, Queues, queue_at, member_with, members_of, nobody, is_ready, next_ready}
use Rattle.nr_replica.specs.Ready.{has_serial, IsMarked, AreReady}
use Rattle.nr_replica.proofs.First.{IsFirst, first_is, none_is, found_is, none_found}
use Rattle.nr_replica.proofs.Listed.{IsPut, members_length, members_put, open_at, worker_at}
use Rattle.nr_replica.proofs.Marked.{at_one}

abbrev pub ready_at : ℕ → List Member → ℕ → Bool
ready_at worker members serial = is_ready worker (get_or members serial nobody)

-- nothing waits for one that was never opened
pub past_ready : (worker : ℕ) (members : List Member) (serial : ℕ) → length members ≤ serial → ready_at worker members serial ≡ false
past_ready worker members serial past =
    ap (is_ready worker) (get_or_past members serial nobody past) ∙ and_right (0 == worker) false refl

pub within_ready : (worker : ℕ) (members : List Member) (serial : ℕ) → ready_at worker members serial ≡ true → serial < length members
within_ready worker members serial ready = elim (cases_lt serial (length members)) [
  | inl within ↦ within
  | inr past ↦ absurd (cc (sym ready ∙ past_ready worker members serial past))
]

-- the first from one on, and none
pub next_is : (worker from serial : ℕ) (members : List Member) → IsFirst (ready_at worker members) from serial → next_ready worker from members ≡ Some serial
next_is worker from serial members first =
    first_is (ready_at worker members) from 0 (length members) serial first (omega arith)
    (omega (arith, within_ready worker members serial first.passes))

pub next_is_none : (worker from : ℕ) (members : List Member) → ((serial : ℕ) → from ≤ serial → ready_at worker members serial ≡ false)
    → next_ready worker from members ≡ None
next_is_none worker from members none = none_is (ready_at worker members) from 0 (length members) none

-- and what these tell
pub next_first : (worker from serial : ℕ) (members : List Member) → next_ready worker from members ≡ Some serial → IsFirst (ready_at worker members) from serial
next_first worker from serial members is =
    let found = found_is (ready_at worker members) from 0 (length members) serial is in
    record { passes = found.passes; behind = found.behind; least = λ q behind before. found.least q (omega arith) behind before }

pub next_none : (worker from : ℕ) (members : List Member) → next_ready worker from members ≡ None → (serial : ℕ) → from ≤ serial
    → ready_at worker members serial ≡ false
next_none worker from members is serial behind = elim (cases_lt serial (length members)) [
  | inl within ↦ none_found (ready_at worker members) from 0 (length members) is serial (omega arith) (omega (arith, within)) behind
  | inr past ↦ past_ready worker members serial past
]

-- a queue with other bytes, or none any more, at one serial
abbrev pub waits : Option Queue → Bool
waits None = false
waits (Some queue) = is_some_bytes queue.waiting

ready_with : (node serial worker w : ℕ) (found : Option Queue) → is_ready w (member_with node serial worker found) ≡ (worker == w && waits found)
ready_with node serial worker w None = refl
ready_with node serial worker w (Some queue) = refl

own_ready : (worker : ℕ) (b : Bool) → (worker == worker && b) ≡ b
own_ready worker b = ap (λ same. same && b) (eq-eqb worker worker refl)

own_put : (node s : ℕ) (workers : List ℕ) (found : Option Queue) (old new : Queues) (sets marked : List (BTreeSet ℕ)) → s < length workers
    → IsPut s found old new → IsMarked (get_or workers s 0) s (waits found) sets marked → AreReady sets (members_of node workers old)
    → AreReady marked (members_of node workers new)
own_put node s workers found old new sets marked within put marks ready w q =
    let worker = get_or workers s 0 in
    let olds = members_of node workers old in
    let news = members_of node workers new in
    let m = member_with node s worker found in
    let is : news ≡ set olds s m = members_put node s workers found old new put in
    let long : length olds ≡ length workers = members_length node workers old in
    let at : ready_at w news s ≡ (worker == w && waits found) =
    ap (λ (members : List Member). ready_at w members s) is ∙ ap (is_ready w) (get_or-set_same olds s m nobody (omega (arith, long, within)))
    ∙ ready_with node s worker w found in
    let before : get_or workers s 0 ≡ (get_or olds s nobody).worker = worker_at node workers old s nobody within in
    marks w q
    ∙ at_one (λ b. cond b (waits found) (has_serial sets w q) ≡ ready_at w news q) worker w s q
    (λ e f. sym (ap (λ (r : ℕ). ready_at w news r) (sym f) ∙ at ∙ ap (λ b. b && waits found) (eq-eqb worker w e)))
    (λ other. ready w q ∙ elim (cases_eq s q) [
      | inl f ↦
          let apart : (worker ≡ w → ⊥) = λ e. other e f in
          ap (ready_at w olds) (sym f)
          ∙ ap (λ (v : ℕ). v == w && is_some_bytes (get_or olds s nobody).outbox.waiting) (sym before)
          ∙ and_left (worker == w) (is_some_bytes (get_or olds s nobody).outbox.waiting) (ne_eqb worker w apart)
          ∙ sym (ap (ready_at w news) (sym f) ∙ at ∙ and_left (worker == w) (waits found) (ne_eqb worker w apart))
      | inr apart ↦
          sym (ap (λ (members : List Member). ready_at w members q) is ∙ ap (is_ready w) (get_or-set_other olds s q m nobody (λ e. apart (sym e))))
    ])

pub put_ready : (node s worker : ℕ) (workers : List ℕ) (found : Option Queue) (old new : Queues) (sets marked : List (BTreeSet ℕ)) → s < length workers
    → worker ≡ get_or workers s 0 → IsPut s found old new → IsMarked worker s (waits found) sets marked → AreReady sets (members_of node workers old)
    → AreReady marked (members_of node workers new)
put_ready node s worker workers found old new sets marked within at put marks ready =
    own_put node s workers found old new sets marked within put (subst (λ (w : ℕ). IsMarked w s (waits found) sets marked) at marks) ready

-- the set of its worker has one that is open exactly where bytes wait for it
pub open_ready : (node s worker : ℕ) (workers : List ℕ) (queues : Queues) (sets : List (BTreeSet ℕ)) (queue : Queue) → s < length workers
    → worker ≡ get_or workers s 0 → Some queue ≡ queue_at s queues → AreReady sets (members_of node workers queues)
    → has_serial sets worker s ≡ is_some_bytes queue.waiting
open_ready node s worker workers queues sets queue within at found ready =
    ready worker s ∙ ap (is_ready worker) (open_at node workers queues s nobody queue within found)
    ∙ ap (λ (w : ℕ). w == worker && is_some_bytes queue.waiting) (sym at) ∙ own_ready worker (is_some_bytes queue.waiting)

-- one more, for which nothing waits
one_more : (members : List Member) (m : Member) (w q : ℕ) → m.outbox.waiting ≡ [] → ready_at w (members ++ m ∷ []) q ≡ ready_at w members q
one_more [] m w zero none =
    and_right (m.worker == w) (is_some_bytes m.outbox.waiting) (ap is_some_bytes none) ∙ sym (and_right (0 == w) false refl)
one_more [] m w (suc q) none = refl
one_more (first ∷ members) m w zero none = refl
one_more (first ∷ members) m w (suc q) none = one_more members m w q none

pub more_ready : (sets : List (BTreeSet ℕ)) (olds news : List Member) (m : Member) → m.outbox.waiting ≡ [] → news ≡ olds ++ m ∷ [] → AreReady sets olds
    → AreReady sets news
more_ready sets olds news m none is ready w q =
    ready w q ∙ sym (ap (λ (members : List Member). ready_at w members q) is ∙ one_more olds m w q none)

pub same_ready : (sets : List (BTreeSet ℕ)) (olds news : List Member) → news ≡ olds → AreReady sets olds → AreReady sets news
same_ready sets olds news is ready w q = ready w q ∙ sym (ap (λ (members : List Member). ready_at w members q) is)

pub same_queues_ready : (node : ℕ) (workers : List ℕ) (old new : Queues) (sets : List (BTreeSet ℕ)) → new ≡ old → AreReady sets (members_of node workers old)
    → AreReady sets (members_of node workers new)
same_queues_ready node workers old new sets same ready =
    same_ready sets (members_of node workers old) (members_of node workers new) (ap (members_of node workers) same) ready

-- none yet
pub none_ready : (sets : List (BTreeSet ℕ)) → sets ≡ [] → AreReady sets []
none_ready sets is w q = ap (λ (sets : List (BTreeSet ℕ)). has_serial sets w q) is ∙ sym (and_right (0 == w) false refl)

-- what a worker's set tells of the first from one on
first_ready : (sets : List (BTreeSet ℕ)) (members : List Member) (worker from serial : ℕ) → AreReady sets members → has_serial sets worker serial ≡ true
    → from ≤ serial → ((other : ℕ) → from ≤ other → has_serial sets worker other ≡ true → serial ≤ other) → Some serial ≡ next_ready worker from members
first_ready sets members worker from serial ready has behind least =
    sym (next_is worker from serial members (record {
      passes = sym (ready worker serial) ∙ has;
      behind = behind;
      least = λ other after before. false_from_ne_true (ready_at worker members other) (λ there.
          absurd (omega (arith, before, least other after (ready worker other ∙ there))));
    }))

no_ready : (sets : List (BTreeSet ℕ)) (members : List Member) (worker from : ℕ) → AreReady sets members
    → ((other : ℕ) → from ≤ other → has_serial sets worker other ≡ false) → None ≡ next_ready worker from members
no_ready sets members worker from ready none =
    sym (next_is_none worker from members (λ serial behind. sym (ready worker serial) ∙ none serial behind))

pub next_by_sets : (sets : List (BTreeSet ℕ)) (members : List Member) (worker from : ℕ) (found : Option ℕ) → AreReady sets members
    → IfSome found (λ serial. has_serial sets worker serial ≡ true) → IfSome found (λ serial. from ≤ serial)
    → ((other : ℕ) → from ≤ other → has_serial sets worker other ≡ true → IfSome found (λ serial. serial ≤ other))
    → ((other : ℕ) → from ≤ other → IfNone found (has_serial sets worker other ≡ false)) → found ≡ next_ready worker from members
next_by_sets sets members worker from None ready has behind least none = no_ready sets members worker from ready none
next_by_sets sets members worker from (Some serial) ready has behind least none = first_ready sets members worker from serial ready has behind least
