-- Loads of the tail and of passed counts keep the rule.
use Rattle.std.proofs.Common.{◌≡◌, ◌≢◌, ℕ, zero, suc, ◌+◌, ◌*◌, ◌<◌, ◌≤◌, List, [], ◌∷◌, ◌++◌, length, set, get_or, option_to_list, Option, refl, sym, ap, ◌∙◌, subst, le_of_eq, le_refl, arith, append-nil, get_or-set_same, get_or-set_other}
use mathlib.Core.Option.{some}
use mathlib.Core.Logic.{dite}
use native.Mathlib.Decide.{ℕ_discrete}
use lib.ListN.{get_elem?}
use Rattle.atomic_table.specs.Table.{State, Me, keeps, step, Allows}
use Rattle.nr_model.specs.Bytes.{IsBeginningOf}
use Rattle.nr_entry.specs.declared.entry.Entry.{Entry}
use Rattle.nr_log_end.specs.declared.standing.LogEvent.{LogEvent}
use Rattle.nr_log_end.specs.Standings.{applied_of}
use Rattle.nr_oplog.specs.declared.view.LogView.{LogView}
use Rattle.nr_oplog.specs.Layout.{passed_word}
use Rattle.nr_oplog.specs.Rule.{Share, Owns, OwnerOk, SeatOk, RisesAlong, LogRule}
use Rattle.nr_oplog.specs.Plays.{MayFollow, with_tail, with_done, with_passed, saw_tail, saw_tail_and_did, saw_passed, compared}
use Rattle.nr_oplog.specs.Seats.{IsOfNode}
use Rattle.nr_oplog.specs.Law.{HoldsOfCounts}
use Rattle.nr_oplog.proofs.Claims.{has_own}
use Rattle.nr_oplog.proofs.Rises.{each_rises, rises_before, rises_done}
use Rattle.nr_oplog.proofs.Fronts.{begins_more, begins_both, passed_still}
use Rattle.nr_entry.proofs.Changes.{change, at_change, change_here, change_else}
use Rattle.nr_oplog.proofs.Seats.{each_set, apart_set, unmoved}

module _ (nodes places : ℕ) where
  abbrev St : Type 0
  St = State (Option Share) LogView

  abbrev Sat : Type 0
  Sat = Me (Option Share) LogView

  pub sees_tail : (slots id : ℕ) (m : Sat) → IsOfNode m.0 nodes places → Allows (LogRule nodes places) slots id m 0 (λ k. k) (saw_tail m)
  sees_tail slots id m own s r wide at small =
      let k = r.each_seat id m.0 at in let n : ℕ = get_or s.words 0 0 in
      let mine : SeatOk nodes places r.log r.past r.applied r.phase (with_tail n m.0) = record { part = k.part; told = k.told; seen = le_of_eq r.tail_is; met = k.met; owns = k.owns; fills = k.fills } in
      let is : OwnerOk nodes places r.log r.past r.applied r.phase (m.0.standing.nodes, m.0.places) m.0.standing.history m.0.standing.reservations m.0.standing.held m.0.standing.node =
      k.owns m.0.standing.node (has_own nodes places m.0 own) in (
        with_tail n m.0,
        keeps,
        tt,
        unmoved nodes places s r 0 id m.1 m.0 (with_tail n m.0) at mine (λ node o. o),
        (refl, refl, subst (λ z. m.0.standing.seen ≤ z) (sym r.tail_is) k.seen, (r.log, k.part.0, le_of_eq r.tail_is, is.own, each_rises r.log r.past r.rising)),
      )

  pub compares : (slots id : ℕ) (m : Sat) → Allows (LogRule nodes places) slots id m 0 (λ k. k) (compared m)
  compares slots id m s r wide at small =
      let k = r.each_seat id m.0 at in let n : ℕ = get_or s.words 0 0 in
      let w : LogView = record m.0 { looks = (with_tail n m.0).looks } in
      let mine : SeatOk nodes places r.log r.past r.applied r.phase w = record { part = k.part; told = k.told; seen = k.seen; met = k.met; owns = k.owns; fills = k.fills } in (
        w,
        keeps,
        tt,
        unmoved nodes places s r 0 id m.1 m.0 w at mine (λ node o. o),
        (
          refl,
          refl,
          (
            (begins_both _ _ r.log k.part.0 k.told.0, begins_both _ _ r.log k.told.0 k.part.0),
            λ same. let b : IsBeginningOf m.0.told.history (r.past m.0.standing.node) = subst (λ z. IsBeginningOf m.0.told.history (r.past z)) (sym same) k.told.1 in
                (begins_both _ _ (r.past m.0.standing.node) k.part.1 b, begins_both _ _ (r.past m.0.standing.node) b k.part.1),
            rises_before m.0.standing m.0.told r.log r.past k.part k.told (r.rising m.0.standing.node),
            rises_before m.0.told m.0.standing r.log r.past k.told k.part (r.rising m.0.told.node),
          ),
        ),
      )

  word_one : (a b : ℕ) → 16 * a + 16 ≡ 16 * b + 16 → a ≡ b
  word_one a b e = omega arith

  met_set : (applied : ℕ → List Entry) (met : List ℕ) (node n : ℕ) → ((x : ℕ) → x < nodes → get_or met x 0 ≤ length (applied x)) → n ≡ length (applied node)
      → (x : ℕ) → x < nodes → get_or (set met node n) x 0 ≤ length (applied x)
  met_set applied met node n old is x near = dite (ℕ_discrete x node)
      (λ e. dite (native.Mathlib.Decide.dec_le (suc node) (length met))
      (λ there. subst (λ z. get_or (set met node n) z 0 ≤ length (applied z)) (sym e) (le_of_eq (get_or-set_same met node n 0 there ∙ is)))
      (λ not. subst (λ z. z ≤ length (applied x)) (sym (short met node n x (λ h. not h))) (old x near)))
      (λ ne. subst (λ z. z ≤ length (applied x)) (sym (get_or-set_other met node x n 0 ne)) (old x near))
    where
      short : (l : List ℕ) (i b j : ℕ) → (suc i ≤ length l → ⊥) → get_or (set l i b) j 0 ≡ get_or l j 0
      short [] i b j h = refl
      short (y ∷ ys) zero b j h = absurd (h (let g : 1 ≤ suc (length ys) = omega arith in g))
      short (y ∷ ys) (suc i) b zero h = refl
      short (y ∷ ys) (suc i) b (suc j) h = short ys i b j (λ le. h (let g : suc (suc i) ≤ suc (length ys) = omega arith in g))

  pub sees_passed : (slots id : ℕ) (m : Sat) (node : ℕ) → node < nodes → Allows (LogRule nodes places) slots id m (passed_word node) (λ k. k) (saw_passed (step slots (passed_word node) 0 0 mathlib.Core.Option.none) m)
  sees_passed slots id m node near s r wide at small =
      let k = r.each_seat id m.0 at in let n : ℕ = get_or s.words (passed_word node) 0 in let w : LogView = with_passed node n m.0 in
      let counts : n ≡ length (r.applied node) = (r.each_node node near).counts in
      let mine : SeatOk nodes places r.log r.past r.applied r.phase w = record { part = k.part; told = k.told; seen = k.seen; met = met_set r.applied m.0.met node n k.met counts; owns = k.owns; fills = k.fills } in (
        w,
        keeps,
        tt,
        unmoved nodes places s r (passed_word node) id m.1 m.0 w at mine (λ x o. o),
        (
          refl,
          λ x e. let is : node ≡ x = word_one node x e in (
            ap (λ z. with_passed z n m.0) is,
            subst (λ z. get_or m.0.met z 0 ≤ n) is (subst (λ z. get_or m.0.met node 0 ≤ z) (sym counts) (k.met node near)),
            λ single same. let here : node ≡ m.0.standing.node = is ∙ same in
                let has : Owns nodes places m.0 node = (le_of_eq (sym here), subst (λ z. node < z) (sym single) (omega arith)) in
                counts ∙ ap length (r.applied_is node ∙ ap applied_of (k.owns node has).whole),
          ),
        ),
      )

  -- what is no passing of an entry, behind what the seat's node did: its history goes on, what it has applied stays
  module _ (id : ℕ) (m : Sat) (turns : List LogEvent) (none : applied_of turns ≡ []) (may : MayFollow turns m.0.standing)
      (mine : IsOfNode m.0 nodes places) (s : St) (r : LogRule nodes places s) (at : get_elem? s.views id ≡ some m.0) where
    abbrev node : ℕ
    node = m.0.standing.node

    abbrev n : ℕ
    n = get_or s.words 0 0

    abbrev w : LogView
    w = with_done turns n m.0

    abbrev past : ℕ → List LogEvent
    past = change r.past node (m.0.standing.history ++ turns)

    has : Owns nodes places m.0 node
    has = (le_refl node, subst (λ z. node < z) (sym mine.2) (omega arith))

    only : (x : ℕ) → Owns nodes places m.0 x → x ≡ node
    only x o = let up : x < suc node = subst (λ z. x < z) mine.2 o.1 in let low : node ≤ x = o.0 in omega arith

    whole : r.past node ≡ m.0.standing.history
    whole = ((r.each_seat id m.0 at).owns node has).whole

    longer : (h : List LogEvent) (x : ℕ) → IsBeginningOf h (r.past x) → IsBeginningOf h (past x)
    longer h x b = at_change r.past node (m.0.standing.history ++ turns) (λ y p. y ≡ x → IsBeginningOf h p) x
        (λ e. begins_more h m.0.standing.history turns (subst (IsBeginningOf h) (ap r.past (sym e) ∙ whole) b)) (λ _ _. b) refl

    known_same : applied_of (m.0.standing.history ++ turns) ≡ applied_of m.0.standing.history
    known_same = passed_still m.0.standing.history turns none

    same_applied : (x : ℕ) → r.applied x ≡ applied_of (past x)
    same_applied x = at_change r.past node (m.0.standing.history ++ turns) (λ y p. r.applied y ≡ applied_of p) x
        (r.applied_is node ∙ ap applied_of whole ∙ sym known_same) (λ _. r.applied_is x)

    others : (j : ℕ) (u : LogView) → j ≢ id → get_elem? s.views j ≡ some u → SeatOk nodes places r.log past r.applied r.phase u
    others j u apart e = let k = r.each_seat j u e in record {
      part = (k.part.0, longer u.standing.history u.standing.node k.part.1);
      told = (k.told.0, longer u.told.history u.told.node k.told.1);
      seen = k.seen;
      met = k.met;
      owns = λ x o. let b = k.owns x o in
          let away : x ≢ node = λ is. apart (r.apart j id u m.0 x e at o (subst (Owns nodes places m.0) (sym is) has)) in
          record { there = b.there; shaped = b.shaped; whole = change_else r.past node (m.0.standing.history ++ turns) x away ∙ b.whole; own = b.own; holds = b.holds };
      fills = k.fills;
    }

    me_too : SeatOk nodes places r.log past r.applied r.phase w
    me_too = let k = r.each_seat id m.0 at in record {
      part = (
        subst (λ l. IsBeginningOf (l ++ Rattle.std.specs.Prelude.option_to_list m.0.standing.held) r.log) (sym known_same) k.part.0,
        subst (IsBeginningOf w.standing.history) (sym (change_here r.past node (m.0.standing.history ++ turns))) ([], append-nil w.standing.history),
      );
      told = (k.told.0, longer m.0.told.history m.0.told.node k.told.1);
      seen = le_of_eq r.tail_is;
      met = k.met;
      owns = λ x o. let b = k.owns x o in let is : x ≡ node = only x o in
          record { there = b.there; shaped = b.shaped; whole = ap past is ∙ change_here r.past node (m.0.standing.history ++ turns); own = b.own; holds = b.holds };
      fills = k.fills;
    }

    pub done_kept : LogRule nodes places record { words = s.words; homes = s.homes; views = set s.views id w }
    done_kept = record {
      log = r.log;
      past = past;
      applied = r.applied;
      phase = r.phase;
      some_place = r.some_place;
      sized = r.sized;
      tail_is = r.tail_is;
      bounded = r.bounded;
      whose = r.whose;
      applied_is = same_applied;
      rising = λ x. at_change r.past node (m.0.standing.history ++ turns) (RisesAlong r.log) x
          (rises_done m.0.standing turns r.log none may ((r.each_seat id m.0 at).owns node has).own (subst (RisesAlong r.log node) whole (r.rising node)))
          (λ _. r.rising x);
      each_node = r.each_node;
      each_cell = r.each_cell;
      each_seat = each_set (SeatOk nodes places r.log past r.applied r.phase) s.views id w me_too others;
      apart = apart_set nodes places s.views id m.0 w at (λ _ o. o) r.apart;
    }

  pub does : (slots id : ℕ) (m : Sat) (turns : List LogEvent) → applied_of turns ≡ [] → MayFollow turns m.0.standing → IsOfNode m.0 nodes places
      → Allows (LogRule nodes places) slots id m 0 (λ k. k) (saw_tail_and_did turns m)
  does slots id m turns none may mine s r wide at small =
      let n : ℕ = get_or s.words 0 0 in let w : LogView = with_done turns n m.0 in (
        w,
        keeps,
        tt,
        subst (λ (ws : List ℕ). LogRule nodes places record { words = ws; homes = s.homes; views = set s.views id w }) (sym (lib.Seq.set-get_or s.words 0 0)) (done_kept id m turns none may mine s r at),
        (refl, refl, subst (λ z. m.0.standing.seen ≤ z) (sym r.tail_is) (r.each_seat id m.0 at).seen),
      )

-- what was met of a node is at most what it has passed
pub holds_of_counts : HoldsOfCounts
holds_of_counts nodes places s r node near id other v w at at' own =
    subst (λ z. get_or v.met node 0 ≤ z) (ap length (r.applied_is node ∙ ap applied_of ((r.each_seat other w at').owns node own).whole)) ((r.each_seat id v at).met node near)
