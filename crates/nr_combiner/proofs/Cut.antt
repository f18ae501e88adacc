-- Which of some connections are cut.
use Rattle.std.proofs.Common.{◌≡◌, ℕ, suc, ◌+◌, ◌<◌, Bool, cond, inl, inr, List, [], ◌∷◌, ◌++◌, length, drop, get_or, drop-cons, add-one, refl, ap, sym, ◌∙◌, append_assoc, append-nil}
use Rattle.std.specs.Prelude.{filter, Result, Ok, Err, OnErr}
use Rattle.std.proofs.lemmas.Bool.{cases_Bool}
use Rattle.nr_entry.specs.declared.conn.ConnId.{ConnId}
use Rattle.nr_node.specs.Batches.{is_cut_at}
use Rattle.nr_node.specs.Level.{NodeState, IsLevel}
use Rattle.nr_combiner.specs.Behind.{CutsBehind, CutsFrontBehind}
use Rattle.nr_combiner.specs.Counts.{generation_of}
use Rattle.nr_combiner.specs.Pieces.{ListsFront}
use Rattle.nr_combiner.specs.Served.{CombinerState, StandsLevel}

-- what was added, and what is left to add, is all
abbrev pub AreAdded : (ConnId → Bool) → List ConnId → List ConnId → List ConnId → ℕ → Type 0
AreAdded p conns old new i = ListsFront (filter p conns) old new (filter p (drop i conns))

pub none_added : (p : ConnId → Bool) (conns old : List ConnId) → AreAdded p conns old old 0
none_added p conns old = record { more = []; behind = sym (append-nil old); front = refl }

next_of : (conns : List ConnId) (i : ℕ) (conn : ConnId) → i < length conns → conn ≡ get_or conns i conn → drop i conns ≡ conn ∷ drop (i + 1) conns
next_of conns i conn within is =
    let back : get_or conns i conn ≡ conn = sym is in
    let number : suc i ≡ i + 1 = sym (add-one i) in
    drop-cons conns i conn within ∙ (λ j. back j ∷ drop (number j) conns)

pub one_added : (p : ConnId → Bool) (conns old mid new : List ConnId) (i : ℕ) (conn : ConnId) → i < length conns → conn ≡ get_or conns i conn
    → new ≡ cond (p conn) (mid ++ conn ∷ []) mid → AreAdded p conns old mid i → AreAdded p conns old new (i + 1)
one_added p conns old mid new i conn within is pushed a =
    let rest = filter p (drop (i + 1) conns) in
    let next : filter p (drop i conns) ≡ cond (p conn) (conn ∷ rest) rest = ap (filter p) (next_of conns i conn within is) in
    elim (cases_Bool (p conn)) [
      | inl passes ↦ record {
        more = a.more ++ conn ∷ [];
        behind = pushed ∙ ap (λ b. cond b (mid ++ conn ∷ []) mid) passes ∙ ap (λ (cs : List ConnId). cs ++ conn ∷ []) a.behind ∙ append_assoc old a.more (conn ∷ []);
        front = append_assoc a.more (conn ∷ []) rest
            ∙ ap (λ (cs : List ConnId). a.more ++ cs) (sym (next ∙ ap (λ b. cond b (conn ∷ rest) rest) passes)) ∙ a.front;
      }
      | inr other ↦ record {
        more = a.more;
        behind = pushed ∙ ap (λ b. cond b (mid ++ conn ∷ []) mid) other ∙ a.behind;
        front = ap (λ (cs : List ConnId). a.more ++ cs) (sym (next ∙ ap (λ b. cond b (conn ∷ rest) rest) other)) ∙ a.front;
      }
    ]

-- a node told them behind its lock
pub cuts_behind : (node worker generation : ℕ) (c : CombinerState) (conns old new : List ConnId) → c.node.book.node ≡ node
    → generation_of worker c.counts ≡ generation → new ≡ old ++ filter (is_cut_at c.node) conns → StandsLevel c
    → CutsBehind node worker generation conns old new
cuts_behind node worker generation c conns old new is met all level = record { at = c; node_is = is; met = met; added = all; is_level = level }

pub cuts_front : {T E : Type 0} (r : Result T E) (n : NodeState) (conns old new : List ConnId)
    → (left : List ConnId) × ListsFront (filter (is_cut_at n) conns) old new left → IsLevel n.seat.standing n.replica → OnErr r (CutsFrontBehind conns old new)
cuts_front (Ok done) n conns old new front level = tt
cuts_front (Err why) n conns old new (left, front) level = record { at = n; left = left; added = front; is_level = level }
