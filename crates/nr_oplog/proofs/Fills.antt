-- Putting a share into a node's cell keeps the rule.
use Rattle.std.proofs.Common.{◌≡◌, ◌≢◌, ℕ, zero, suc, ◌+◌, ◌*◌, ◌<◌, ◌≤◌, List, [], ◌∷◌, length, set, get_or, Option, Some, None, refl, sym, ap, ◌∙◌, subst, arith, append-nil, length-set, get_or-set_same, get_or-set_other}
use mathlib.Core.Option.{some, none}
use mathlib.Core.Logic.{dite}
use native.Mathlib.Decide.{ℕ_discrete}
use lib.ListN.{get_elem?}
use lib.Seq.{set-get_or}
use Rattle.std.specs.Arc.{arc_value}
use Rattle.atomic_table.specs.Table.{State, Me, takes, gives, step, homes_after, Allows}
use Rattle.atomic_table.proofs.Lists.{set_here, set_else}
use Rattle.nr_entry.specs.declared.entry.Entry.{Entry}
use Rattle.nr_log_end.specs.Standings.{filled_for}
use Rattle.nr_oplog.specs.declared.view.LogView.{LogView}
use Rattle.nr_oplog.specs.Layout.{passed_word, stamp_word, slot_of}
use Rattle.nr_oplog.specs.Rule.{Share, Homes, Phase, empty, filling, full, lifted, Owns, CellOk, FillerOk, SeatOk, LogRule}
use Rattle.nr_oplog.specs.Plays.{took_to_fill, filled}
use Rattle.nr_oplog.specs.Seats.{IsOfNode}
use Rattle.nr_oplog.proofs.Changes.{change₂, change₂_here, change₂_else, at_change₂}
use Rattle.nr_oplog.proofs.Places.{stamp_one, stamp_high, stamp_there, slot_there, slot_apart, stamp_apart}
use Rattle.nr_oplog.proofs.Seats.{each_set, apart_set}
use Rattle.nr_oplog.proofs.Cells.{cell_stays, empty_not_lifted, filling_not_lifted, full_not_lifted, holds_stay, filler_stays, one_reserver}
use Rattle.nr_oplog.proofs.Claims.{has_own}

module _ (nodes places : ℕ) where
  abbrev St : Type 0
  St = State (Option Share) LogView

  abbrev Sat : Type 0
  Sat = Me (Option Share) LogView

  abbrev passed_at : (s : St) → LogRule nodes places s → ℕ → ℕ
  passed_at s r x = length (r.applied x)

  -- a step on one cell, whose phase changes
  pub cell_moved : (s : St) (r : LogRule nodes places s) (id : ℕ) (v w : LogView) (t a : ℕ) (ph : Phase) (words : List ℕ) (homes : Homes) → get_elem? s.views id ≡ some v
      → t < nodes → passed_at s r t ≤ a → a < passed_at s r t + places
      → length words ≡ length s.words → get_or words 0 0 ≡ get_or s.words 0 0 → ((x : ℕ) → x < nodes → get_or words (passed_word x) 0 ≡ get_or s.words (passed_word x) 0)
      → ((x y : ℕ) → stamp_word nodes places x y ≢ stamp_word nodes places t a → get_or words (stamp_word nodes places x y) 0 ≡ get_or s.words (stamp_word nodes places x y) 0)
      → length homes ≡ length s.homes → ((i : ℕ) → i ≢ slot_of places t a → get_elem? homes i ≡ get_elem? s.homes i)
      → CellOk nodes places r.log words homes (passed_at s r t) t a ph
      → SeatOk nodes places r.log r.past r.applied (change₂ r.phase t a ph) w
      → ((j : ℕ) (u : LogView) → j ≢ id → get_elem? s.views j ≡ some u → SeatOk nodes places r.log r.past r.applied (change₂ r.phase t a ph) u)
      → ((x : ℕ) → Owns nodes places w x → Owns nodes places v x)
      → LogRule nodes places record { words = words; homes = homes; views = set s.views id w }
  cell_moved s r id v w t a ph words homes at near low high wide first counts stamps deep slots here mine others own = record {
    log = r.log;
    past = r.past;
    applied = r.applied;
    phase = change₂ r.phase t a ph;
    some_place = r.some_place;
    sized = (wide ∙ r.sized.0, deep ∙ r.sized.1);
    tail_is = first ∙ r.tail_is;
    bounded = r.bounded;
    whose = r.whose;
    applied_is = r.applied_is;
    rising = r.rising;
    each_node = λ x there. let c = r.each_node x there in record { counts = counts x there ∙ c.counts; room = c.room; begins = c.begins };
    each_cell = λ x y there low' high'. at_change₂ r.phase t a ph (λ x' y' p. x' ≡ x → y' ≡ y → CellOk nodes places r.log words homes (passed_at s r x') x' y' p) x y
        (λ _ _. here)
        (λ other _ _. subst (λ l. CellOk nodes places l words homes (passed_at s r x) x y (r.phase x y)) (append-nil r.log)
        (cell_stays nodes places r.log [] s.words words s.homes homes (passed_at s r x) x y
        (stamps x y (stamp_apart nodes places r.some_place (passed_at s r) x y t a low' high' low high other))
        (slots (slot_of places x y) (slot_apart nodes places r.some_place (passed_at s r) x y t a low' high' low high other))
        (r.phase x y) (r.each_cell x y there low' high')))
        refl refl;
    each_seat = each_set (SeatOk nodes places r.log r.past r.applied (change₂ r.phase t a ph)) s.views id w mine others;
    apart = apart_set nodes places s.views id v w at own r.apart;
  }

  -- the seats of others while a seat fills a cell for its own reservation
  others_fill : (s : St) (r : LogRule nodes places s) (id : ℕ) (v : LogView) (t : ℕ) (ph : Phase) (e : Entry) → get_elem? s.views id ≡ some v → Owns nodes places v v.standing.node
      → FillerOk nodes places r.log r.applied r.phase v.standing.at v.standing.node v.filling t e → r.phase t v.standing.at ≢ lifted → ph ≢ lifted
      → (j : ℕ) (u : LogView) → j ≢ id → get_elem? s.views j ≡ some u → SeatOk nodes places r.log r.past r.applied (change₂ r.phase t v.standing.at ph) u
  others_fill s r id v t ph e at own f old new j u apart at' = let q = r.each_seat j u at' in record {
    part = q.part;
    told = q.told;
    seen = q.seen;
    met = q.met;
    owns = λ x o. let b = q.owns x o in
        record { there = b.there; shaped = b.shaped; whole = b.whole; own = b.own; holds = holds_stay nodes places r.phase t v.standing.at ph old new u.standing.held x (length (r.applied x)) b.holds };
    fills = λ x e' o is. let g = q.fills x e' o is in
        filler_stays nodes places r.log r.applied r.phase t v.standing.at ph u.standing.at u.standing.node u.filling x e'
        (λ _ same. apart (one_reserver nodes places s r id j v u t x e e' at at' own o f g same)) g;
  }

  module _ (id : ℕ) (m : Sat) (node : ℕ) (entry : Entry) (own : IsOfNode m.0 nodes places) (there : node < nodes) (waits : get_or m.0.standing.unfilled node None ≡ Some entry)
      (s : St) (r : LogRule nodes places s) (at : get_elem? s.views id ≡ some m.0) where
    abbrev number : ℕ
    number = m.0.standing.at

    abbrev k : SeatOk nodes places r.log r.past r.applied r.phase m.0
    k = r.each_seat id m.0 at

    has : Owns nodes places m.0 m.0.standing.node
    has = has_own nodes places m.0 own

    f : FillerOk nodes places r.log r.applied r.phase number m.0.standing.node m.0.filling node entry
    f = k.fills node entry has waits

    high : number < length (r.applied node) + places
    high = let c = (r.each_node node there).room in let n : number < length r.log = f.near in omega arith

    abbrev taking : LogView
    taking = record m.0 { filling = suc node }

    taking_ok : m.0.filling ≡ 0 → SeatOk nodes places r.log r.past r.applied (change₂ r.phase node number filling) taking
    taking_ok quiet = let old : r.phase node number ≡ empty = f.idle (λ e. let q : m.0.filling ≡ 0 = quiet in let e' : m.0.filling ≡ suc node = e in omega arith) in record {
      part = k.part;
      told = k.told;
      seen = k.seen;
      met = k.met;
      owns = λ x o. let b = k.owns x o in
          record {
            there = b.there;
            shaped = b.shaped;
            whole = b.whole;
            own = b.own;
            holds = holds_stay nodes places r.phase node number filling (λ e. empty_not_lifted (sym old ∙ e)) filling_not_lifted m.0.standing.held x (length (r.applied x)) b.holds;
          };
      fills = λ x e o is. let g = k.fills x e o is in dite (ℕ_discrete x node)
          (λ same. record {
            there = g.there;
            near = g.near;
            reserved = g.reserved;
            own = g.own;
            waits = g.waits;
            idle = λ n. absurd (n (ap suc (sym same)));
            taken = λ _. ap (λ z. change₂ r.phase node number filling z number) same ∙ change₂_here r.phase node number filling;
          })
          (λ other. let there' = change₂_else r.phase node number filling x number (λ same _. other same) in record {
            there = g.there;
            near = g.near;
            reserved = g.reserved;
            own = g.own;
            waits = g.waits;
            idle = λ _. there' ∙ g.idle (λ e. let q : m.0.filling ≡ 0 = quiet in let e' : m.0.filling ≡ suc x = e in omega arith);
            taken = λ e. absurd (other (let z : suc node ≡ suc x = e in let g' : x ≡ node = omega arith in g'));
          });
    }

    pub taken_kept : m.0.filling ≡ 0 → (get_elem? s.homes (slot_of places node number) ≡ some (some None))
        × LogRule nodes places record { words = s.words; homes = set s.homes (slot_of places node number) none; views = set s.views id taking }
    taken_kept quiet =
        let old : r.phase node number ≡ empty = f.idle (λ e. let q : m.0.filling ≡ 0 = quiet in let e' : m.0.filling ≡ suc node = e in omega arith) in
        let c = subst (CellOk nodes places r.log s.words s.homes (length (r.applied node)) node number) old (r.each_cell node number there f.waits high) in (
          c.1,
          cell_moved s r id m.0 taking node number filling s.words (set s.homes (slot_of places node number) none) at there f.waits high refl refl (λ _ _. refl) (λ _ _ _. refl)
              (length-set s.homes (slot_of places node number) none) (λ i other. set_else s.homes (slot_of places node number) i none other) (c.0, f.near) (taking_ok quiet)
              (others_fill s r id m.0 node filling entry at has f (λ e. empty_not_lifted (sym old ∙ e)) filling_not_lifted) (λ _ o. o),
        )

    abbrev giving : LogView
    giving = record m.0 { standing = filled_for node m.0.standing; filling = 0 }

    in_list : node < length m.0.standing.unfilled
    in_list = inside m.0.standing.unfilled node waits
      where
        inside : (l : List (Option Entry)) (i : ℕ) → get_or l i None ≡ Some entry → i < length l
        inside [] i e = absurd (cc)
        inside (x ∷ xs) zero e = omega arith
        inside (x ∷ xs) (suc i) e = let h : i < length xs = inside xs i e in omega arith

    giving_ok : m.0.filling ≡ suc node → SeatOk nodes places r.log r.past r.applied (change₂ r.phase node number full) giving
    giving_ok busy = let old : r.phase node number ≡ filling = f.taken busy in record {
      part = k.part;
      told = k.told;
      seen = k.seen;
      met = k.met;
      owns = λ x o. let b = k.owns x o in
          record {
            there = b.there;
            shaped = b.shaped;
            whole = b.whole;
            own = b.own;
            holds = holds_stay nodes places r.phase node number full (λ e. filling_not_lifted (sym old ∙ e)) full_not_lifted m.0.standing.held x (length (r.applied x)) b.holds;
          };
      fills = λ x e o is. dite (ℕ_discrete x node)
          (λ same. absurd (gone e (sym (get_or-set_same m.0.standing.unfilled node None None in_list) ∙ ap (λ z. get_or (set m.0.standing.unfilled node None) z None) (sym same) ∙ is)))
          (λ other. let was : get_or m.0.standing.unfilled x None ≡ Some e = sym (get_or-set_other m.0.standing.unfilled node x None None other) ∙ is in let g = k.fills x e o was in
          let there' = change₂_else r.phase node number full x number (λ same _. other same) in record {
            there = g.there;
            near = g.near;
            reserved = g.reserved;
            own = g.own;
            waits = g.waits;
            idle = λ _. there' ∙ g.idle (λ e'. other (let z : suc node ≡ suc x = sym busy ∙ e' in let g' : x ≡ node = omega arith in g'));
            taken = λ e'. absurd (let z : 0 ≡ suc x = e' in omega arith);
          });
    }
      where
        gone : (e : Entry) → None ≡ Some e → ⊥
        gone e is = cc

    -- the stamp of the number, and the share of its entry
    pub given_kept : m.0.filling ≡ suc node → (share : Share) → arc_value share ≡ entry → LogRule nodes places record { words = set s.words (stamp_word nodes places node number) (number + 1); homes = set s.homes (slot_of places node number) (some (Some share)); views = set s.views id giving }
    given_kept busy share value =
        let old : r.phase node number ≡ filling = f.taken busy in let sw : ℕ = stamp_word nodes places node number in let high' : 16 * nodes + 16 ≤ sw = stamp_high nodes places r.some_place node number in
        let small : sw < length s.words = subst (λ z. sw < z) (sym r.sized.0) (stamp_there nodes places r.some_place node number there) in
        let slot : slot_of places node number < length s.homes = subst (λ z. slot_of places node number < z) (sym r.sized.1) (slot_there nodes places r.some_place node number there) in
        cell_moved s r id m.0 giving node number full (set s.words sw (number + 1)) (set s.homes (slot_of places node number) (some (Some share))) at there f.waits high
        (length-set s.words sw (number + 1)) (get_or-set_other s.words sw 0 (number + 1) 0 (λ e. omega arith))
        (λ x near. get_or-set_other s.words sw (passed_word x) (number + 1) 0 (λ e. omega arith))
        (λ x y other. get_or-set_other s.words sw (stamp_word nodes places x y) (number + 1) 0 other)
        (length-set s.homes (slot_of places node number) (some (Some share))) (λ i other. set_else s.homes (slot_of places node number) i (some (Some share)) other) (
          get_or-set_same s.words sw (number + 1) 0 small ∙ (let g : number + 1 ≡ suc number = omega arith in g),
          f.near,
          (share, set_here s.homes (slot_of places node number) (some (Some share)) slot, f.reserved ∙ ap some (sym value)),
        )
        (giving_ok busy) (others_fill s r id m.0 node full entry at has f (λ e. filling_not_lifted (sym old ∙ e)) full_not_lifted) (λ _ o. o)

  pub takes_to_fill : (slots id : ℕ) (m : Sat) (node : ℕ) (entry : Entry) → IsOfNode m.0 nodes places → m.0.filling ≡ 0 → node < nodes → get_or m.0.standing.unfilled node None ≡ Some entry
      → Allows (LogRule nodes places) slots id m (stamp_word nodes places node m.0.standing.at) (λ z. z) (took_to_fill (step slots (stamp_word nodes places node m.0.standing.at) 0 0 none) m)
  takes_to_fill slots id m node entry own quiet there waits s r wide at small =
      let i : ℕ = stamp_word nodes places node m.0.standing.at in let got = taken_kept id m node entry own there waits s r at quiet in let w : LogView = record m.0 { filling = suc node } in let slot : ℕ = slot_of places node m.0.standing.at in (
        w,
        takes slot None,
        got.0,
        subst (λ (ws : List ℕ). LogRule nodes places record { words = ws; homes = set s.homes slot none; views = set s.views id w }) (sym (set-get_or s.words i 0)) got.1,
        λ x near is.
            let is' : stamp_word nodes places node m.0.standing.at ≡ stamp_word nodes places x m.0.standing.at = is ∙ (λ j. stamp_word (own.0 j) (own.1 j) x m.0.standing.at) in
            let same : node ≡ x = (stamp_one nodes places r.some_place node m.0.standing.at x m.0.standing.at is').0 in
            (ap (λ z. record m.0 { filling = suc z }) same, λ j. (slot_of (sym own.1 j) (same j) m.0.standing.at, None) ∷ m.1),
      )

  pub fills_cell : (slots id : ℕ) (m : Sat) (node : ℕ) (entry : Entry) (share : Share) (more : List (ℕ × Option Share)) → IsOfNode m.0 nodes places → node < nodes → m.0.filling ≡ suc node
      → get_or m.0.standing.unfilled node None ≡ Some entry → arc_value share ≡ entry → m.1 ≡ (slot_of places node m.0.standing.at, Some share) ∷ more
      → Allows (LogRule nodes places) slots id m (stamp_word nodes places node m.0.standing.at) (λ _. m.0.standing.at + 1) (λ _. filled m)
  fills_cell slots id m node entry share more own there busy waits value has s r wide at small =
      let w : LogView = record m.0 { standing = filled_for node m.0.standing; filling = 0 } in (
        w,
        gives,
        tt,
        subst (λ (c : List (ℕ × Option Share)). LogRule nodes places record { words = set s.words (stamp_word nodes places node m.0.standing.at) (m.0.standing.at + 1); homes = homes_after s.homes c gives; views = set s.views id w }) (sym has)
            (given_kept id m node entry own there waits s r at busy share value),
        (
          refl,
          λ x is. ap (λ z. record m.0 { standing = filled_for z m.0.standing; filling = 0 }) (let z : suc node ≡ suc x = sym busy ∙ is in let g : node ≡ x = omega arith in g),
        ),
      )
