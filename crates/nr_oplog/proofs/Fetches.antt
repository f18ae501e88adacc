-- Taking the next entry out of the seat's own cell, and passing it, keep the rule.
use Rattle.std.proofs.Common.{◌≡◌, ◌≢◌, ℕ, suc, ◌^◌, ◌<◌, ◌≤◌, List, ◌∷◌, length, set, get_or, Option, Some, None, MatchOption, refl, sym, ap, ◌∙◌, subst, le_of_eq, arith, length-set}
use mathlib.Core.Option.{some, none}
use mathlib.Core.Logic.{dite}
use native.Mathlib.Decide.{ℕ_discrete}
use lib.ListN.{get_elem?}
use lib.Seq.{set-get_or}
use Rattle.std.specs.Arc.{arc_value}
use Rattle.atomic_table.specs.Table.{State, Me, Act, Step, Valid, takes, keeps, step, stepped, carried_after, Allows}
use Rattle.atomic_table.proofs.Lists.{set_else}
use Rattle.nr_model.specs.Bytes.{IsBeginningOf}
use Rattle.nr_entry.specs.declared.entry.Entry.{Entry}
use Rattle.nr_log_end.specs.Standings.{applied_of, passed_of, StandsInLog, fetched_with}
use Rattle.nr_oplog.specs.declared.view.LogView.{LogView}
use Rattle.nr_oplog.specs.Layout.{stamp_word, slot_of}
use Rattle.nr_oplog.specs.Rule.{Share, full, lifted, Owns, OwnerOk, CellOk, SeatOk, LogRule}
use Rattle.nr_oplog.specs.Plays.{with_unfilled, looked_for_next}
use Rattle.nr_oplog.specs.Seats.{IsOfNode}
use Rattle.nr_oplog.proofs.Fronts.{begins_snoc}
use Rattle.nr_oplog.proofs.Changes.{change₂, change₂_here, change₂_else}
use Rattle.nr_oplog.proofs.Rises.{each_rises}
use Rattle.nr_oplog.proofs.Seats.{unmoved}
use Rattle.nr_oplog.proofs.Cells.{is_full, waiting_phase, filler_stays}
use Rattle.nr_oplog.proofs.Claims.{has_own, only_own}
use Rattle.nr_oplog.proofs.Fills.{cell_moved}

module _ (nodes places : ℕ) where
  abbrev St : Type 0
  St = State (Option Share) LogView

  abbrev Sat : Type 0
  Sat = Me (Option Share) LogView

  module _ (id : ℕ) (m : Sat) (own : IsOfNode m.0 nodes places) (s : St) (r : LogRule nodes places s) (at : get_elem? s.views id ≡ some m.0) where
    abbrev node : ℕ
    node = m.0.standing.node

    abbrev count : ℕ
    count = passed_of m.0.standing

    abbrev k : SeatOk nodes places r.log r.past r.applied r.phase m.0
    k = r.each_seat id m.0 at

    has : Owns nodes places m.0 node
    has = has_own nodes places m.0 own

    abbrev mine : OwnerOk nodes places r.log r.past r.applied r.phase (m.0.standing.nodes, m.0.places) m.0.standing.history m.0.standing.reservations m.0.standing.held node
    mine = k.owns node has

    near : node < nodes
    near = own.3

    all_applied : r.applied node ≡ applied_of m.0.standing.history
    all_applied = r.applied_is node ∙ ap applied_of mine.whole

    counted : length (r.applied node) ≡ count
    counted = ap length all_applied

    -- whoever else has a node has another one
    away : (j : ℕ) (u : LogView) → j ≢ id → get_elem? s.views j ≡ some u → (x : ℕ) → Owns nodes places u x → x ≢ node
    away j u apart e x o is = apart (r.apart j id u m.0 x e at o (subst (Owns nodes places m.0) (sym is) has))

    cell_full : get_or s.words (stamp_word nodes places node count) 0 ≡ suc count → m.0.standing.held ≡ None
        → (r.phase node count ≡ full) × CellOk nodes places r.log s.words s.homes (length (r.applied node)) node count full
    cell_full stamped idle = is_full nodes places r.log s.words s.homes (length (r.applied node)) node count stamped (r.phase node count)
        (λ e. let h : MatchOption {T = Entry} None (r.phase node (length (r.applied node)) ≢ lifted) (λ entry. r.phase node (length (r.applied node)) ≡ lifted) =
        subst (λ o. MatchOption o (r.phase node (length (r.applied node)) ≢ lifted) (λ entry. r.phase node (length (r.applied node)) ≡ lifted)) idle mine.holds in h (ap (r.phase node) counted ∙ e))
        (r.each_cell node count near (le_of_eq counted) (let l : length (r.applied node) ≡ count = counted in let p : 0 < places = r.some_place in omega arith))

    abbrev lifting : Share → LogView
    lifting share = record m.0 { standing = fetched_with (arc_value share) m.0.standing }

    module _ (share : Share) (was : r.phase node count ≡ full) (reserved : get_elem? r.log count ≡ some (arc_value share)) where
      lifting_ok : SeatOk nodes places r.log r.past r.applied (change₂ r.phase node count lifted) (lifting share)
      lifting_ok = record {
        part = (
          begins_snoc (applied_of m.0.standing.history) r.log (arc_value share) (subst (λ l. IsBeginningOf l r.log) all_applied (r.each_node node near).begins) reserved,
          k.part.1,
        );
        told = k.told;
        seen = k.seen;
        met = k.met;
        owns = λ x o. let b = k.owns x o in let is : x ≡ node = only_own nodes places m.0 own x o in record {
          there = b.there;
          shaped = b.shaped;
          whole = b.whole;
          own = b.own;
          holds = (λ i. change₂ r.phase node count lifted (is i) (length (r.applied (is i)))) ∙ ap (change₂ r.phase node count lifted node) counted ∙ change₂_here r.phase node count lifted;
        };
        fills = λ x e o is. let f = k.fills x e o is in
            filler_stays nodes places r.log r.applied r.phase node count lifted m.0.standing.at node m.0.filling x e
            (λ same there. (waiting_phase nodes places r.log r.applied r.phase m.0.standing.at node m.0.filling x e f).0 ((λ i. r.phase (same i) (there i)) ∙ was)) f;
      }

      others_lift : (j : ℕ) (u : LogView) → j ≢ id → get_elem? s.views j ≡ some u → SeatOk nodes places r.log r.past r.applied (change₂ r.phase node count lifted) u
      others_lift j u apart e = let q = r.each_seat j u e in record {
        part = q.part;
        told = q.told;
        seen = q.seen;
        met = q.met;
        owns = λ x o. let b = q.owns x o in record {
          there = b.there;
          shaped = b.shaped;
          whole = b.whole;
          own = b.own;
          holds = subst (λ p. MatchOption u.standing.held (p ≢ lifted) (λ entry. p ≡ lifted)) (sym (change₂_else r.phase node count lifted x (length (r.applied x)) (λ is _. away j u apart e x o is))) b.holds;
        };
        fills = λ x e' o is. let f = q.fills x e' o is in
            filler_stays nodes places r.log r.applied r.phase node count lifted u.standing.at u.standing.node u.filling x e'
            (λ same there. (waiting_phase nodes places r.log r.applied r.phase u.standing.at u.standing.node u.filling x e' f).0 ((λ i. r.phase (same i) (there i)) ∙ was)) f;
      }

      pub lift_kept : CellOk nodes places r.log s.words s.homes (length (r.applied node)) node count full
          → LogRule nodes places record { words = s.words; homes = set s.homes (slot_of places node count) none; views = set s.views id (lifting share) }
      lift_kept c = cell_moved nodes places s r id m.0 (lifting share) node count lifted s.words (set s.homes (slot_of places node count) none) at near (le_of_eq counted)
          (let l : length (r.applied node) ≡ count = counted in let p : 0 < places = r.some_place in omega arith) refl refl (λ _ _. refl) (λ _ _ _. refl)
          (length-set s.homes (slot_of places node count) none) (λ i other. set_else s.homes (slot_of places node count) i none other) (c.0, c.1, sym counted) lifting_ok others_lift (λ _ o. o)

    -- a look at the cell changes nothing that the rule speaks of
    unfilled_ok : SeatOk nodes places r.log r.past r.applied r.phase (with_unfilled m.0)
    unfilled_ok = record { part = k.part; told = k.told; seen = k.seen; met = k.met; owns = k.owns; fills = k.fills }

    in_log : StandsInLog m.0.standing
    in_log = (r.log, k.part.0, k.seen, mine.own, each_rises r.log r.past r.rising)

  -- the load of the next cell's stamp
  abbrev look : ℕ → Sat → Step (Option Share)
  look slots m = step slots (stamp_word nodes places m.0.standing.node (passed_of m.0.standing)) 0 0 none

  abbrev Goes : ℕ → ℕ → Sat → St → Type 0
  Goes slots id m s = let i : ℕ = stamp_word nodes places m.0.standing.node (passed_of m.0.standing) in (w : LogView) × (a : Act (Option Share)) × Valid s.homes m.1 a
      × LogRule nodes places (stepped s i (get_or s.words i 0) id m.1 w a) × looked_for_next (look slots m) m (get_or s.words i 0) (w, carried_after m.1 a)

  pub looks_for_next : (slots id : ℕ) (m : Sat) → IsOfNode m.0 nodes places → m.0.standing.held ≡ None
      → Allows (LogRule nodes places) slots id m (stamp_word nodes places m.0.standing.node (passed_of m.0.standing)) (λ z. z) (looked_for_next (look slots m) m)
  looks_for_next slots id m own idle s r wide at small =
      dite (ℕ_discrete (get_or s.words (stamp_word nodes places m.0.standing.node (passed_of m.0.standing)) 0) (suc (count id m own s r at))) found missed
    where
      found : get_or s.words (stamp_word nodes places m.0.standing.node (passed_of m.0.standing)) 0 ≡ suc (passed_of m.0.standing) → Goes slots id m s
      found stamped =
          let f = cell_full id m own s r at stamped idle in let c = f.1 in let share : Share = c.2.0 in let w : LogView = lifting id m own s r at share in
          let slot : ℕ = slot_of places m.0.standing.node (passed_of m.0.standing) in let small' : passed_of m.0.standing < length r.log = c.1 in let few : length r.log ≤ 2 ^ 63 = r.bounded in
          let ok = lifting_ok id m own s r at share f.0 c.2.2 in (
            w,
            takes slot (Some share),
            c.2.1,
            subst (λ (ws : List ℕ). LogRule nodes places record { words = ws; homes = set s.homes slot mathlib.Core.Option.none; views = set s.views id w })
                (sym (set-get_or s.words (stamp_word nodes places m.0.standing.node (passed_of m.0.standing)) 0)) (lift_kept id m own s r at share f.0 c.2.2 c),
            (
              (r.log, ok.part.0, (r.each_seat id m.0 at).seen, (mine id m own s r at).own, each_rises r.log r.past r.rising),
              (λ _. (omega arith, (share, refl, (λ j. (slot_of (sym own.1 j) m.0.standing.node (passed_of m.0.standing), Some share) ∷ m.1)))),
              (λ other _. absurd (other stamped)),
            ),
          )

      missed : get_or s.words (stamp_word nodes places m.0.standing.node (passed_of m.0.standing)) 0 ≢ suc (passed_of m.0.standing) → Goes slots id m s
      missed other = let w : LogView = with_unfilled m.0 in (
        w,
        keeps,
        tt,
        unmoved nodes places s r (stamp_word nodes places m.0.standing.node (passed_of m.0.standing)) id m.1 m.0 w at (unfilled_ok id m own s r at) (λ _ o. o),
        (in_log id m own s r at, (λ stamped. absurd (other stamped)), (λ _ _. refl)),
      )
