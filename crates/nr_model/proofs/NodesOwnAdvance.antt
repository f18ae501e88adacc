-- What a node's next entry changes, and what many do.
use Rattle.std.proofs.Common.{◌≡◌, ℕ, zero, suc, ◌+◌, true, false, cond, inl, inr, List, [], refl, ap, ◌∙◌, arith}
use Rattle.std.specs.Prelude.{◌||◌, slice_index_or}
use Rattle.std.proofs.lemmas.Bool.{cases_Bool, cond_both}
use Rattle.nr_model.specs.Nodes.{Logged, Node}
use Rattle.nr_model.specs.Nodes.Steps.{Cut, Refused, is_owed, advanced, advanced_by, passing, fallen, falls_at, with_entry}

-- the entry that a node applies next
abbrev pub next_entry : List Logged → Node → Logged
next_entry log node = slice_index_or log node.passed (record { node = 0; jobs = [] })

-- a node that falls goes down, and one that doesn't applies it
pub advanced_falls : (refused : Refused) (n : ℕ) (log : List Logged) (node : Node) → node.down ≡ false
    → (node.refused || falls_at refused.falls node.passed) ≡ true → advanced refused n log node ≡ passing (fallen node)
advanced_falls refused n log node e falls =
    (λ i. passing (cond (e i) node (cond (falls i) (fallen node) (with_entry refused.cuts n (next_entry log node) node))))

pub advanced_on : (refused : Refused) (n : ℕ) (log : List Logged) (node : Node) → node.down ≡ false
    → (node.refused || falls_at refused.falls node.passed) ≡ false → advanced refused n log node ≡ passing (with_entry refused.cuts n (next_entry log node) node)
advanced_on refused n log node e on =
    (λ i. passing (cond (e i) node (cond (on i) (fallen node) (with_entry refused.cuts n (next_entry log node) node))))

-- an entry leaves what waits, and how many were passed
pub entry_waiting : (cuts : List Cut) (n : ℕ) (entry : Logged) (node : Node) → (with_entry cuts n entry node).waiting ≡ node.waiting
entry_waiting cuts n entry node = cond_both (is_owed n entry node) _ _ (λ (x : Node). x.waiting ≡ node.waiting) (λ own. refl) (λ other. refl)

pub entry_passed : (cuts : List Cut) (n : ℕ) (entry : Logged) (node : Node) → (with_entry cuts n entry node).passed ≡ node.passed
entry_passed cuts n entry node = cond_both (is_owed n entry node) _ _ (λ (x : Node). x.passed ≡ node.passed) (λ own. refl) (λ other. refl)

-- what holds after the next entry, by what becomes of the node
pub by_advance : (P : Node → Type 0) (refused : Refused) (n : ℕ) (log : List Logged) (node : Node)
    → (node.down ≡ true → P (passing node))
    → (node.down ≡ false → P (passing (fallen node)))
    → (node.down ≡ false → P (passing (with_entry refused.cuts n (next_entry log node) node)))
    → P (advanced refused n log node)
by_advance P refused n log node gone falls on =
    cond_both node.down node _ (λ (x : Node). P (passing x)) gone
    (λ e. cond_both (node.refused || falls_at refused.falls node.passed) _ _ (λ (x : Node). P (passing x)) (λ f. falls e) (λ f. on e))

-- one entry more is passed, and none is held
pub advanced_passed : (refused : Refused) (n : ℕ) (log : List Logged) (node : Node) → (advanced refused n log node).passed ≡ suc node.passed
advanced_passed refused n log node =
    by_advance (λ x. x.passed ≡ suc node.passed) refused n log node (λ e. refl) (λ e. refl)
    (λ e. ap suc (entry_passed refused.cuts n (next_entry log node) node))

-- a node keeps when it came back
pub advanced_resumed : (refused : Refused) (n : ℕ) (log : List Logged) (node : Node) → (advanced refused n log node).resumed ≡ node.resumed
advanced_resumed refused n log node =
    let entry = next_entry log node in
    by_advance (λ x. x.resumed ≡ node.resumed) refused n log node (λ e. refl) (λ e. refl)
    (λ e. cond_both (is_owed n entry node) _ _ (λ (x : Node). x.resumed ≡ node.resumed) (λ own. refl) (λ other. refl))

pub advanced_since : (refused : Refused) (n : ℕ) (log : List Logged) (node : Node) → (advanced refused n log node).since ≡ node.since
advanced_since refused n log node =
    let entry = next_entry log node in
    by_advance (λ x. x.since ≡ node.since) refused n log node (λ e. refl) (λ e. refl)
    (λ e. cond_both (is_owed n entry node) _ _ (λ (x : Node). x.since ≡ node.since) (λ own. refl) (λ other. refl))

-- a node that is up afterwards was up, and applied it
pub advanced_was_up : (refused : Refused) (n : ℕ) (log : List Logged) (node : Node) → (advanced refused n log node).down ≡ false → node.down ≡ false
advanced_was_up refused n log node =
    by_advance (λ x. x.down ≡ false → node.down ≡ false) refused n log node (λ e f. f) (λ e f. e) (λ e f. e)

pub advanced_up : (refused : Refused) (n : ℕ) (log : List Logged) (node : Node) → (advanced refused n log node).down ≡ false
    → advanced refused n log node ≡ passing (with_entry refused.cuts n (next_entry log node) node)
advanced_up refused n log node up =
    let was = advanced_was_up refused n log node up in
    elim (cases_Bool (node.refused || falls_at refused.falls node.passed)) [
      | inl e ↦ absurd (cc (ap (λ (x : Node). x.down) (advanced_falls refused n log node was e), up))
      | inr e ↦ advanced_on refused n log node was e
    ]

-- so many entries
pub advanced_by_passed : (count : ℕ) (refused : Refused) (n : ℕ) (log : List Logged) (node : Node)
    → (advanced_by count refused n log node).passed ≡ node.passed + count
advanced_by_passed zero refused n log node = omega arith
advanced_by_passed (suc count) refused n log node =
    let one = advanced_passed refused n log node in
    let more = advanced_by_passed count refused n log (advanced refused n log node) in
    omega arith

-- what each next entry keeps, many do
pub each_advance : (P : Node → Type 0) (refused : Refused) (n : ℕ) (log : List Logged) → ((node : Node) → P node → P (advanced refused n log node))
    → (count : ℕ) (node : Node) → P node → P (advanced_by count refused n log node)
each_advance P refused n log step zero node p = p
each_advance P refused n log step (suc count) node p = each_advance P refused n log step count (advanced refused n log node) (step node p)

-- a node that is up afterwards was up
pub advanced_by_was_up : (count : ℕ) (refused : Refused) (n : ℕ) (log : List Logged) (node : Node) → (advanced_by count refused n log node).down ≡ false
    → node.down ≡ false
advanced_by_was_up zero refused n log node up = up
advanced_by_was_up (suc count) refused n log node up =
    advanced_was_up refused n log node (advanced_by_was_up count refused n log (advanced refused n log node) up)

-- none is held behind them
pub advanced_free : (refused : Refused) (n : ℕ) (log : List Logged) (node : Node) → (advanced refused n log node).fetched ≡ false
advanced_free refused n log node = by_advance (λ x. x.fetched ≡ false) refused n log node (λ e. refl) (λ e. refl) (λ e. refl)

-- a node that is up afterwards has the same jobs waiting
pub ahead_waiting : (count : ℕ) (refused : Refused) (n : ℕ) (log : List Logged) (node : Node) → (advanced_by count refused n log node).down ≡ false
    → (advanced_by count refused n log node).waiting ≡ node.waiting
ahead_waiting zero refused n log node up = refl
ahead_waiting (suc count) refused n log node up =
    let next = advanced refused n log node in
    let on = advanced_by_was_up count refused n log next up in
    ahead_waiting count refused n log next up ∙ ap (λ (x : Node). x.waiting) (advanced_up refused n log node on)
    ∙ entry_waiting refused.cuts n (next_entry log node) node
