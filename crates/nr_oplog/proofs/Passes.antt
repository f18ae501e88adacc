-- Passing the entry that was fetched keeps the rule.
use Rattle.std.proofs.Common.{◌≡◌, ◌≢◌, ℕ, ◌+◌, ◌*◌, ◌<◌, ◌≤◌, List, [], ◌∷◌, ◌++◌, length, set, get_or, map, Option, Some, None, option_to_list, MatchOption, refl, sym, ap, ◌∙◌, subst, le_of_eq, le_refl, le_trans, arith, append-nil, length-append, length-set, get_or-set_same, get_or-set_other}
use mathlib.Core.Option.{some}
use mathlib.Core.Logic.{dite}
use native.Mathlib.Nat.{add-mod_right}
use native.Mathlib.Decide.{ℕ_discrete}
use lib.ListN.{get_elem?}
use Rattle.atomic_table.specs.Table.{State, Me, gives, homes_after, Allows}
use Rattle.atomic_table.proofs.Lists.{set_here, set_else}
use Rattle.nr_model.specs.Bytes.{IsBeginningOf}
use Rattle.nr_entry.specs.declared.entry.Entry.{Entry}
use Rattle.nr_log_end.specs.declared.standing.LogEvent.{LogEvent}
use Rattle.nr_log_end.specs.declared.standing.LogEvent.TheVariants.{Applied}
use Rattle.nr_log_end.specs.Standings.{applied_of, known_of, passed_of, passed_on}
use Rattle.nr_oplog.specs.declared.view.LogView.{LogView}
use Rattle.nr_oplog.specs.Layout.{passed_word, stamp_word, slot_of}
use Rattle.nr_oplog.specs.Rule.{Share, Homes, Phase, empty, filling, full, lifted, Owns, OwnerOk, NodeOk, CellOk, FillerOk, SeatOk, RisesAlong, LogRule}
use Rattle.nr_oplog.specs.Plays.{passed_next}
use Rattle.nr_oplog.specs.Seats.{IsOfNode}
use Rattle.nr_oplog.proofs.Fronts.{begins_more, applied_append}
use Rattle.nr_entry.proofs.Changes.{change, at_change, change_here, change_else}
use Rattle.nr_oplog.proofs.Changes.{change₂, change₂_here, change₂_else, at_change₂}
use Rattle.nr_oplog.proofs.Places.{stamp_high, slot_there, slot_apart, passed_there}
use Rattle.nr_oplog.proofs.Seats.{each_set, apart_set}
use Rattle.nr_oplog.proofs.Cells.{empty_not_lifted, cell_stays, not_lifted, waiting_phase}
use Rattle.nr_oplog.proofs.Rises.{rises_passed}
use Rattle.nr_oplog.proofs.Claims.{has_own, only_own}

module _ (nodes places : ℕ) where
  abbrev St : Type 0
  St = State (Option Share) LogView

  abbrev Sat : Type 0
  Sat = Me (Option Share) LogView

  -- a cell that isn't the lifted one stays while its node passes an entry
  cell_passes : (log : List Entry) (words words' : List ℕ) (homes homes' : Homes) (passed passed' node number : ℕ) → number ≢ passed
      → get_or words' (stamp_word nodes places node number) 0 ≡ get_or words (stamp_word nodes places node number) 0
      → get_elem? homes' (slot_of places node number) ≡ get_elem? homes (slot_of places node number)
      → (ph : Phase) → CellOk nodes places log words homes passed node number ph → CellOk nodes places log words' homes' passed' node number ph
  cell_passes log words words' homes homes' passed passed' node number other word home empty k = (subst (λ z. z ≤ number) (sym word) k.0, home ∙ k.1)
  cell_passes log words words' homes homes' passed passed' node number other word home filling k = (subst (λ z. z ≤ number) (sym word) k.0, k.1)
  cell_passes log words words' homes homes' passed passed' node number other word home full k = (word ∙ k.0, k.1, (k.2.0, home ∙ k.2.1, k.2.2))
  cell_passes log words words' homes homes' passed passed' node number other word home lifted k = absurd (other k.2)

  module _ (id : ℕ) (m : Sat) (entry : Entry) (own : IsOfNode m.0 nodes places) (held : m.0.standing.held ≡ Some entry) (s : St) (r : LogRule nodes places s) (at : get_elem? s.views id ≡ some m.0) where
    abbrev node : ℕ
    node = m.0.standing.node

    abbrev count : ℕ
    count = passed_of m.0.standing

    abbrev k : SeatOk nodes places r.log r.past r.applied r.phase m.0
    k = r.each_seat id m.0 at

    has : Owns nodes places m.0 node
    has = has_own nodes places m.0 own

    abbrev mine : OwnerOk nodes places r.log r.past r.applied r.phase (m.0.standing.nodes, m.0.places) m.0.standing.history m.0.standing.reservations m.0.standing.held node
    mine = k.owns node has

    near : node < nodes
    near = own.3

    abbrev history : List LogEvent
    history = m.0.standing.history ++ Applied entry ∷ []

    abbrev past : ℕ → List LogEvent
    past = change r.past node history

    abbrev applied : ℕ → List Entry
    applied = change r.applied node (applied_of m.0.standing.history ++ entry ∷ [])

    abbrev phase : ℕ → ℕ → Phase
    phase = change₂ r.phase node (count + places) empty

    abbrev words : List ℕ
    words = set s.words (passed_word node) (count + 1)

    abbrev slot : ℕ
    slot = slot_of places node count

    abbrev homes : Homes
    homes = set s.homes slot (some None)

    all_applied : r.applied node ≡ applied_of m.0.standing.history
    all_applied = r.applied_is node ∙ ap applied_of mine.whole

    counted : length (r.applied node) ≡ count
    counted = ap length all_applied

    here_applied : applied node ≡ applied_of m.0.standing.history ++ entry ∷ []
    here_applied = change_here r.applied node (applied_of m.0.standing.history ++ entry ∷ [])

    here_counted : length (applied node) ≡ count + 1
    here_counted = ap length here_applied ∙ length-append (applied_of m.0.standing.history) (entry ∷ [])

    else_applied : (x : ℕ) → x ≢ node → applied x ≡ r.applied x
    else_applied x other = change_else r.applied node (applied_of m.0.standing.history ++ entry ∷ []) x other

    lifted_now : r.phase node count ≡ lifted
    lifted_now = let h : MatchOption (Some entry) (r.phase node (length (r.applied node)) ≢ lifted) (λ e. r.phase node (length (r.applied node)) ≡ lifted) =
        subst (λ o. MatchOption o (r.phase node (length (r.applied node)) ≢ lifted) (λ e. r.phase node (length (r.applied node)) ≡ lifted)) held mine.holds in ap (r.phase node) (sym counted) ∙ h

    -- the lifted cell's stamp, and the room behind it
    cell : CellOk nodes places r.log s.words s.homes (length (r.applied node)) node count lifted
    cell = subst (CellOk nodes places r.log s.words s.homes (length (r.applied node)) node count) lifted_now
        (r.each_cell node count near (le_of_eq counted) (let l : length (r.applied node) ≡ count = counted in let p : 0 < places = r.some_place in omega arith))

    away : (j : ℕ) (u : LogView) → j ≢ id → get_elem? s.views j ≡ some u → (x : ℕ) → Owns nodes places u x → x ≢ node
    away j u apart e x o is = apart (r.apart j id u m.0 x e at o (subst (Owns nodes places m.0) (sym is) has))

    longer : (h : List LogEvent) (x : ℕ) → IsBeginningOf h (r.past x) → IsBeginningOf h (past x)
    longer h x b = at_change r.past node history (λ y p. y ≡ x → IsBeginningOf h p) x
        (λ e. begins_more h m.0.standing.history (Applied entry ∷ []) (subst (IsBeginningOf h) (ap r.past (sym e) ∙ mine.whole) b)) (λ _ _. b) refl

    more : (x : ℕ) → length (r.applied x) ≤ length (applied x)
    more x = at_change r.applied node (applied_of m.0.standing.history ++ entry ∷ []) (λ y l. length (r.applied y) ≤ length l) x
        (let l : length (r.applied node) ≡ count = counted in let g : length (applied_of m.0.standing.history ++ entry ∷ []) ≡ count + 1 = length-append (applied_of m.0.standing.history) (entry ∷ []) in omega arith)
        (λ _. le_refl (length (r.applied x)))

    -- a share that waits for its cell isn't one of the lifted cell, nor of the cell behind the log
    filler : (at' seat busy x : ℕ) (e : Entry) → FillerOk nodes places r.log r.applied r.phase at' seat busy x e → FillerOk nodes places r.log applied phase at' seat busy x e
    filler at' seat busy x e f =
        let short : x ≡ node → at' ≡ count + places → ⊥ = λ same there. let n : at' < length r.log = f.near in let c = (r.each_node node near).room in let l : length (r.applied node) ≡ count = counted in omega arith in
        let unmoved = change₂_else r.phase node (count + places) empty x at' short in record {
          there = f.there;
          near = f.near;
          reserved = f.reserved;
          own = f.own;
          waits = dite (ℕ_discrete x node)
              (λ same. let other : at' ≢ count = λ is. (waiting_phase nodes places r.log r.applied r.phase at' seat busy x e f).1 ((λ i. r.phase (same i) (is i)) ∙ lifted_now) in
              let low : count ≤ at' = subst (λ z. z ≤ at') (ap (λ z. length (r.applied z)) same ∙ counted) f.waits in
              subst (λ z. z ≤ at') (sym (ap (λ z. length (applied z)) same ∙ here_counted)) (omega arith))
              (λ other. subst (λ l. length l ≤ at') (sym (else_applied x other)) f.waits);
          idle = λ n. unmoved ∙ f.idle n;
          taken = λ b. unmoved ∙ f.taken b;
        }

    others : (j : ℕ) (u : LogView) → j ≢ id → get_elem? s.views j ≡ some u → SeatOk nodes places r.log past applied phase u
    others j u apart e = let q = r.each_seat j u e in record {
      part = (q.part.0, longer u.standing.history u.standing.node q.part.1);
      told = (q.told.0, longer u.told.history u.told.node q.told.1);
      seen = q.seen;
      met = λ x there. le_trans (q.met x there) (more x);
      owns = λ x o. let b = q.owns x o in let other = away j u apart e x o in record {
        there = b.there;
        shaped = b.shaped;
        whole = change_else r.past node history x other ∙ b.whole;
        own = b.own;
        holds = subst (λ p. MatchOption u.standing.held (p ≢ lifted) (λ entry. p ≡ lifted))
            (sym (change₂_else r.phase node (count + places) empty x (length (applied x)) (λ same _. other same) ∙ ap (λ l. r.phase x (length l)) (else_applied x other))) b.holds;
      };
      fills = λ x e' o is. filler u.standing.at u.standing.node u.filling x e' (q.fills x e' o is);
    }

    abbrev passing : LogView
    passing = record m.0 { standing = passed_on m.0.standing }

    known_same : known_of (passed_on m.0.standing) ≡ known_of m.0.standing
    known_same = append-nil (applied_of (m.0.standing.history ++ map Applied (option_to_list m.0.standing.held)))
        ∙ ap (λ o. applied_of (m.0.standing.history ++ map Applied (option_to_list o))) held
        ∙ applied_append m.0.standing.history (Applied entry ∷ []) ∙ ap (λ o. applied_of m.0.standing.history ++ option_to_list o) (sym held)

    history_same : m.0.standing.history ++ map Applied (option_to_list m.0.standing.held) ≡ history
    history_same = ap (λ o. m.0.standing.history ++ map Applied (option_to_list o)) held

    -- the cell of the entry that is next now isn't lifted
    next_idle : phase node (length (applied node)) ≢ lifted
    next_idle = dite (ℕ_discrete (length (applied node)) (count + places))
        (λ same e. empty_not_lifted (sym (change₂_here r.phase node (count + places) empty) ∙ ap (phase node) (sym same) ∙ e))
        (λ other e. let l : length (r.applied node) ≡ count = counted in let g : length (applied node) ≡ count + 1 = here_counted in let p : 0 < places = r.some_place in
        not_lifted nodes places r.log s.words s.homes (length (r.applied node)) node (length (applied node)) (λ is. omega arith) (r.phase node (length (applied node)))
        (r.each_cell node (length (applied node)) near (omega arith) (omega arith))
        (sym (change₂_else r.phase node (count + places) empty node (length (applied node)) (λ _ is. other is)) ∙ e))

    me_too : SeatOk nodes places r.log past applied phase passing
    me_too = record {
      part = (
        subst (λ l. IsBeginningOf l r.log) (sym known_same) k.part.0,
        subst (λ h. IsBeginningOf h (past node)) (sym history_same) (subst (IsBeginningOf history) (sym (change_here r.past node history)) ([], append-nil history)),
      );
      told = (k.told.0, longer m.0.told.history m.0.told.node k.told.1);
      seen = k.seen;
      met = λ x there. le_trans (k.met x there) (more x);
      owns = λ x o. let b = k.owns x o in let is : x ≡ node = only_own nodes places m.0 own x o in record {
        there = b.there;
        shaped = b.shaped;
        whole = ap past is ∙ change_here r.past node history ∙ sym history_same;
        own = b.own;
        holds = subst (λ z. phase z (length (applied z)) ≢ lifted) (sym is) next_idle;
      };
      fills = λ x e' o is. filler m.0.standing.at node m.0.filling x e' (k.fills x e' o is);
    }

    node_ok : (x : ℕ) → x < nodes → NodeOk nodes places r.log words (applied x) x
    node_ok x there = dite (ℕ_discrete x node)
        (λ same. subst (λ z. NodeOk nodes places r.log words (applied z) z) (sym same) record {
          counts = get_or-set_same s.words (passed_word node) (count + 1) 0 (subst (λ z. passed_word node < z) (sym r.sized.0) (passed_there nodes places r.some_place node near)) ∙ sym here_counted;
          room = let c = (r.each_node node near).room in let l : length (r.applied node) ≡ count = counted in let g : length (applied node) ≡ count + 1 = here_counted in omega arith;
          begins = subst (λ l. IsBeginningOf l r.log) (ap (λ o. applied_of m.0.standing.history ++ option_to_list o) held ∙ sym here_applied) k.part.0;
        })
        (λ other. let c = r.each_node x there in subst (λ l. NodeOk nodes places r.log words l x) (sym (else_applied x other)) record {
          counts = get_or-set_other s.words (passed_word node) (passed_word x) (count + 1) 0 (λ e. other (omega arith)) ∙ c.counts;
          room = c.room;
          begins = c.begins;
        })

    stamp_same : (x y : ℕ) → get_or words (stamp_word nodes places x y) 0 ≡ get_or s.words (stamp_word nodes places x y) 0
    stamp_same x y = get_or-set_other s.words (passed_word node) (stamp_word nodes places x y) (count + 1) 0
        (λ e. let w : ℕ = stamp_word nodes places x y in let high : 16 * nodes + 16 ≤ w = stamp_high nodes places r.some_place x y in let n : node < nodes = near in let e' : w ≡ 16 * node + 16 = e in omega arith)

    abbrev Whole : ℕ → ℕ → Phase → Type 0
    Whole x y p = CellOk nodes places r.log words homes (length (applied x)) x y p

    in_round : count < length (r.applied node) + places
    in_round = let l : length (r.applied node) ≡ count = counted in let p : 0 < places = r.some_place in omega arith

    fresh : Whole node (count + places) empty
    fresh = (
      subst (λ z. z ≤ count + places) (sym (stamp_same node (count + places) ∙ (ap (λ z. get_or s.words (16 * nodes + 16 + (node * (places + 16) + z)) 0) (add-mod_right count places) ∙ cell.0))) (let p : 0 < places = r.some_place in omega arith),
      ap (λ z. get_elem? homes (node * places + z)) (add-mod_right count places)
          ∙ set_here s.homes slot (some None) (subst (λ z. slot < z) (sym r.sized.1) (slot_there nodes places r.some_place node count near)),
    )

    cell_ok : (x y : ℕ) → x < nodes → length (applied x) ≤ y → y < length (applied x) + places → Whole x y (phase x y)
    cell_ok x y there low high = dite (ℕ_discrete x node)
        (λ same. at_change₂ r.phase node (count + places) empty (λ x' y' p. x' ≡ x → y' ≡ y → Whole x' y' p) x y (λ _ _. fresh)
        (λ other _ _. let g : length (applied x) ≡ count + 1 = ap (λ z. length (applied z)) same ∙ here_counted in let l : length (r.applied x) ≡ count = ap (λ z. length (r.applied z)) same ∙ counted in
        let behind : y ≢ count + places = other same in
        cell_passes r.log s.words words s.homes homes (length (r.applied x)) (length (applied x)) x y (λ is. omega arith) (stamp_same x y)
        (set_else s.homes slot (slot_of places x y) (some None) (slot_apart nodes places r.some_place (λ z. length (r.applied z)) x y node count (omega arith) (omega arith) (le_of_eq counted) in_round (λ _ is. omega arith)))
        (r.phase x y) (r.each_cell x y there (omega arith) (omega arith))) refl refl)
        (λ other. let same_passed = else_applied x other in let low' : length (r.applied x) ≤ y = subst (λ l. length l ≤ y) same_passed low in let high' : y < length (r.applied x) + places = subst (λ l. y < length l + places) same_passed high in
        subst (λ p. Whole x y p) (sym (change₂_else r.phase node (count + places) empty x y (λ same _. other same)))
        (subst (λ l. CellOk nodes places r.log words homes (length l) x y (r.phase x y)) (sym same_passed)
        (subst (λ l. CellOk nodes places l words homes (length (r.applied x)) x y (r.phase x y)) (append-nil r.log)
        (cell_stays nodes places r.log [] s.words words s.homes homes (length (r.applied x)) x y (stamp_same x y)
        (set_else s.homes slot (slot_of places x y) (some None) (slot_apart nodes places r.some_place (λ z. length (r.applied z)) x y node count low' high' (le_of_eq counted) in_round (λ same _. other same)))
        (r.phase x y) (r.each_cell x y there low' high')))))

    pub pass_kept : LogRule nodes places record { words = words; homes = homes; views = set s.views id passing }
    pass_kept = record {
      log = r.log;
      past = past;
      applied = applied;
      phase = phase;
      some_place = r.some_place;
      sized = (length-set s.words (passed_word node) (count + 1) ∙ r.sized.0, length-set s.homes slot (some None) ∙ r.sized.1);
      tail_is = get_or-set_other s.words (passed_word node) 0 (count + 1) 0 (λ e. omega arith) ∙ r.tail_is;
      bounded = r.bounded;
      whose = r.whose;
      applied_is = λ x. at_change r.past node history (λ y p. applied y ≡ applied_of p) x (here_applied ∙ sym (applied_append m.0.standing.history (Applied entry ∷ [])))
          (λ other. else_applied x other ∙ r.applied_is x);
      rising = λ x. at_change r.past node history (RisesAlong r.log) x
          (rises_passed r.log node m.0.standing.history entry
          (subst (λ o. IsBeginningOf (applied_of m.0.standing.history ++ option_to_list o) r.log) held k.part.0)
          (subst (RisesAlong r.log node) mine.whole (r.rising node)))
          (λ _. r.rising x);
      each_node = node_ok;
      each_cell = cell_ok;
      each_seat = each_set (SeatOk nodes places r.log past applied phase) s.views id passing me_too others;
      apart = apart_set nodes places s.views id m.0 passing at (λ _ o. o) r.apart;
    }

  pub passes_next : (slots id : ℕ) (m : Sat) (entry : Entry) (more : List (ℕ × Option Share)) → IsOfNode m.0 nodes places → m.0.standing.held ≡ Some entry
      → m.1 ≡ (slot_of places m.0.standing.node (passed_of m.0.standing), None) ∷ more
      → Allows (LogRule nodes places) slots id m (passed_word m.0.standing.node) (λ _. passed_of m.0.standing + 1) (λ _. passed_next m)
  passes_next slots id m entry more own held has s r wide at small =
      let w : LogView = record m.0 { standing = passed_on m.0.standing } in (
        w,
        gives,
        tt,
        subst (λ (c : List (ℕ × Option Share)). LogRule nodes places record { words = set s.words (passed_word m.0.standing.node) (passed_of m.0.standing + 1); homes = homes_after s.homes c gives; views = set s.views id w }) (sym has)
            (pass_kept id m entry own held s r at),
        (refl, refl),
      )
