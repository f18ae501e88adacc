-- A reservation keeps the rule.
use Rattle.std.proofs.Common.{◌≡◌, ◌≢◌, ℕ, zero, suc, ◌+◌, ◌*◌, ◌^◌, ◌<◌, ◌≤◌, List, [], ◌∷◌, ◌++◌, length, set, get_or, eqb, replicate, Option, Some, None, option_map, unwrap_or, refl, sym, ap, ◌∙◌, subst, le_of_eq, le_refl, le_trans, arith, length-append, length-set, get_or-set_same, get_or-set_other}
use mathlib.Core.Option.{some, some-injective, some-ne-none}
use mathlib.Core.Logic.{dite}
use native.Mathlib.Decide.{ℕ_discrete}
use lib.ListN.{get_elem?}
use prog.Atomic.{either}
use Rattle.std.specs.Arc.{arc_value}
use Rattle.atomic_table.specs.Table.{State, Me, Act, Valid, keeps, step, stepped, carried_after, Allows}
use Rattle.atomic_table.proofs.Lists.{at_longer, at_last, exchanged}
use Rattle.nr_entry.specs.Jobs.{items_of}
use Rattle.nr_entry.specs.declared.entry.Entry.{Entry}
use Rattle.nr_entry.specs.Shares.{shares_of}
use Rattle.nr_log_end.specs.Numbers.{AreRising}
use Rattle.nr_log_end.specs.Standings.{own_entries, logged, reservation, reserved_as}
use Rattle.nr_oplog.specs.declared.view.LogView.{LogView}
use Rattle.nr_oplog.specs.Layout.{passed_word, stamp_word}
use Rattle.nr_oplog.specs.Rule.{Share, Owns, NodeOk, SeatOk, RisesAlong, LogRule}
use Rattle.nr_oplog.specs.Plays.{claimed}
use Rattle.nr_oplog.specs.Seats.{IsOfNode}
use Rattle.nr_oplog.proofs.Fronts.{begins_more, begins_length, own_same, own_other}
use Rattle.nr_oplog.proofs.Rises.{rises_beside, rises_claimed}
use Rattle.nr_oplog.proofs.Places.{stamp_high}
use Rattle.nr_oplog.proofs.Seats.{each_set, apart_set, unmoved}
use Rattle.nr_oplog.proofs.Cells.{cell_stays, is_empty}

reservation_is : (entry : Entry) (at n : ℕ) → 0 < n → reservation at (shares_of entry n) ≡ (at, entry) ∷ []
reservation_is entry at zero h = absurd (omega arith)
reservation_is entry at (suc n) h = refl

share_there : (entry e : Entry) (n x : ℕ) → get_or (replicate n (Some entry)) x None ≡ Some e → (x < n) × (entry ≡ e)
share_there entry e zero x is = absurd (cc)
share_there entry e (suc n) zero is = (omega arith, ap (λ o. unwrap_or o entry) is)
share_there entry e (suc n) (suc x) is = let r = share_there entry e n x is in let l : x < n = r.0 in (omega arith, r.1)

-- each entry of a log is of such a node, and one entry more
whose_more : (nodes : ℕ) (log : List Entry) (last : Entry) → ((number : ℕ) (entry : Entry) → get_elem? log number ≡ some entry → entry.node < nodes)
    → last.node < nodes → (number : ℕ) (entry : Entry) → get_elem? (log ++ last ∷ []) number ≡ some entry → entry.node < nodes
whose_more nodes [] last each own zero entry is = subst (λ (e : Entry). e.node < nodes) (some-injective last entry is) own
whose_more nodes [] last each own (suc number) entry is = absurd (some-ne-none entry (sym is))
whose_more nodes (x ∷ xs) last each own zero entry is = each 0 entry is
whose_more nodes (x ∷ xs) last each own (suc number) entry is = whose_more nodes xs last (λ k e at. each (suc k) e at) own number entry is

module _ (nodes places : ℕ) where
  abbrev St : Type 0
  St = State (Option Share) LogView

  abbrev Sat : Type 0
  Sat = Me (Option Share) LogView

  -- the node has its own seat, and no other node
  pub has_own : (v : LogView) → IsOfNode v nodes places → Owns nodes places v v.standing.node
  has_own v mine = (le_refl v.standing.node, subst (λ z. v.standing.node < z) (sym mine.2) (omega arith))

  pub only_own : (v : LogView) → IsOfNode v nodes places → (x : ℕ) → Owns nodes places v x → x ≡ v.standing.node
  only_own v mine x o = let up : x < suc v.standing.node = subst (λ z. x < z) mine.2 o.1 in let low : v.standing.node ≤ x = o.0 in omega arith

  module _ (id old : ℕ) (m : Sat) (entry : Entry) (mine : IsOfNode m.0 nodes places) (quiet : m.0.filling ≡ 0) (few : old < 2 ^ 63)
      (room : (x : ℕ) → x < nodes → old < get_or m.0.met x 0 + places) (own : entry.node ≡ m.0.standing.node)
      (numbered : AreRising m.0.standing.node (logged m.0.standing ++ items_of entry.jobs.items))
      (s : St) (r : LogRule nodes places s) (at : get_elem? s.views id ≡ some m.0) (hit : get_or s.words 0 0 ≡ old) where
    abbrev log : List Entry
    log = r.log ++ entry ∷ []

    abbrev words : List ℕ
    words = set s.words 0 (old + 1)

    abbrev w : LogView
    w = record m.0 { standing = reserved_as old (shares_of entry m.0.standing.nodes) m.0.standing }

    long : length r.log ≡ old
    long = sym r.tail_is ∙ hit

    longer : length log ≡ old + 1
    longer = length-append r.log (entry ∷ []) ∙ ap (λ z. z + 1) long

    k : SeatOk nodes places r.log r.past r.applied r.phase m.0
    k = r.each_seat id m.0 at

    passed_same : (x : ℕ) → get_or words (passed_word x) 0 ≡ get_or s.words (passed_word x) 0
    passed_same x = get_or-set_other s.words 0 (passed_word x) (old + 1) 0 (λ e. omega arith)

    stamp_same : (x y : ℕ) → get_or words (stamp_word nodes places x y) 0 ≡ get_or s.words (stamp_word nodes places x y) 0
    stamp_same x y = get_or-set_other s.words 0 (stamp_word nodes places x y) (old + 1) 0 (λ e. let h : ℕ = stamp_word nodes places x y in let high : 16 * nodes + 16 ≤ h = stamp_high nodes places r.some_place x y in let z : h ≡ 0 = e in omega arith)

    node_ok : (x : ℕ) → x < nodes → NodeOk nodes places log words (r.applied x) x
    node_ok x near = let c = r.each_node x near in let a : old < get_or m.0.met x 0 + places = room x near in let b : get_or m.0.met x 0 ≤ length (r.applied x) = k.met x near in
        record { counts = passed_same x ∙ c.counts; room = let g : length log ≡ old + 1 = longer in omega arith; begins = begins_more (r.applied x) r.log (entry ∷ []) c.begins }

    -- the cell of the new number is empty
    fresh : (x : ℕ) → x < nodes → (length (r.applied x) ≤ old) × (r.phase x old ≡ Rattle.nr_oplog.specs.Rule.empty)
    fresh x near =
        let c = r.each_node x near in let a : old < get_or m.0.met x 0 + places = room x near in let b : get_or m.0.met x 0 ≤ length (r.applied x) = k.met x near in
        let low : length (r.applied x) ≤ old = subst (λ z. length (r.applied x) ≤ z) long (begins_length (r.applied x) r.log c.begins) in
        (low, is_empty nodes places r.log s.words s.homes (length (r.applied x)) x old (le_of_eq long) (r.phase x old) (r.each_cell x old near low (omega arith)))

    others : (j : ℕ) (u : LogView) → j ≢ id → get_elem? s.views j ≡ some u → SeatOk nodes places log r.past r.applied r.phase u
    others j u apart e = let q = r.each_seat j u e in record {
      part = (begins_more _ r.log (entry ∷ []) q.part.0, q.part.1);
      told = (begins_more _ r.log (entry ∷ []) q.told.0, q.told.1);
      seen = le_trans q.seen (let g : length log ≡ old + 1 = longer in let l : length r.log ≡ old = long in omega arith);
      met = q.met;
      owns = λ x o. let b = q.owns x o in
          let away : entry.node ≢ x = λ is. apart (r.apart j id u m.0 x e at o (subst (Owns nodes places m.0) (sym own ∙ is) (has_own m.0 mine))) in
          record { there = b.there; shaped = b.shaped; whole = b.whole; own = b.own ∙ sym (own_other x 0 r.log entry away); holds = b.holds };
      fills = λ x e' o is. let f = q.fills x e' o is in let near : u.standing.at < length r.log = f.near in
          record {
            there = f.there;
            near = (let g : length log ≡ old + 1 = longer in let l : length r.log ≡ old = long in omega arith);
            reserved = at_longer r.log (entry ∷ []) u.standing.at e' f.reserved;
            own = f.own;
            waits = f.waits;
            idle = f.idle;
            taken = f.taken;
          };
    }

    some_node : 0 < m.0.standing.nodes
    some_node = subst (λ z. 0 < z) (sym mine.0) (let l : m.0.standing.node < nodes = mine.3 in omega arith)

    me_too : SeatOk nodes places log r.past r.applied r.phase w
    me_too = record {
      part = (begins_more _ r.log (entry ∷ []) k.part.0, k.part.1);
      told = (begins_more _ r.log (entry ∷ []) k.told.0, k.told.1);
      seen = le_of_eq (sym longer);
      met = k.met;
      owns = λ x o. let b = k.owns x o in let is : x ≡ m.0.standing.node = only_own m.0 mine x o in
          record {
            there = b.there;
            shaped = b.shaped;
            whole = b.whole;
            own = ap (λ l. m.0.standing.reservations ++ l) (reservation_is entry old m.0.standing.nodes some_node) ∙ ap (λ l. l ++ (old, entry) ∷ []) b.own
                ∙ ap (λ z. own_entries x r.log ++ (z, entry) ∷ []) (let l : length r.log ≡ old = long in let g : old ≡ 0 + length r.log = omega arith in g) ∙ sym (own_same x 0 r.log entry (own ∙ sym is));
            holds = b.holds;
          };
      fills = λ x e' o is. let h = share_there entry e' m.0.standing.nodes x is in let near : x < nodes = subst (λ z. x < z) mine.0 h.0 in let f = fresh x near in
          record {
            there = near;
            near = let g : length log ≡ old + 1 = longer in omega arith;
            reserved = at_last r.log entry old long ∙ ap some h.1;
            own = ap (λ (z : Entry). z.node) (sym h.1) ∙ own;
            waits = f.0;
            idle = λ _. f.1;
            taken = λ b. absurd (let q : m.0.filling ≡ 0 = quiet in let b' : m.0.filling ≡ suc x = b in omega arith);
          };
    }

    -- the numbers of the node's connections go on rising
    own_rises : RisesAlong log m.0.standing.node (r.past m.0.standing.node)
    own_rises = let b = k.owns m.0.standing.node (has_own m.0 mine) in
        subst (RisesAlong log m.0.standing.node) (sym b.whole)
        (rises_claimed m.0.standing r.log entry b.own numbered (subst (RisesAlong r.log m.0.standing.node) b.whole (r.rising m.0.standing.node)))

    pub claim_kept : LogRule nodes places record { words = words; homes = s.homes; views = set s.views id w }
    claim_kept = record {
      log = log;
      past = r.past;
      applied = r.applied;
      phase = r.phase;
      some_place = r.some_place;
      sized = (length-set s.words 0 (old + 1) ∙ r.sized.0, r.sized.1);
      tail_is = get_or-set_same s.words 0 (old + 1) 0 (subst (λ z. 0 < z) (sym r.sized.0) (let b : ℕ = nodes * (places + 16) in let g : 0 < 16 * nodes + 16 + b = omega arith in g)) ∙ sym longer;
      bounded = let g : length log ≡ old + 1 = longer in omega arith;
      whose = whose_more nodes r.log entry r.whose (subst (λ (z : ℕ). z < nodes) (sym own) mine.3);
      applied_is = r.applied_is;
      rising = λ x. dite (ℕ_discrete x m.0.standing.node)
          (λ is. subst (λ z. RisesAlong log z (r.past z)) (sym is) own_rises)
          (λ other. rises_beside x r.log entry (r.past x) (λ e. other (sym e ∙ own)) (r.rising x));
      each_node = node_ok;
      each_cell = λ x y near low high. cell_stays nodes places r.log (entry ∷ []) s.words words s.homes s.homes (length (r.applied x)) x y (stamp_same x y) refl (r.phase x y) (r.each_cell x y near low high);
      each_seat = each_set (SeatOk nodes places log r.past r.applied r.phase) s.views id w me_too others;
      apart = apart_set nodes places s.views id m.0 w at (λ _ o. o) r.apart;
    }

  abbrev Goes : ℕ → ℕ → Sat → ℕ → Option Share → St → ℕ → Type 0
  Goes slots id m old said s z = (w : LogView) × (a : Act (Option Share)) × Valid s.homes m.1 a × LogRule nodes places (stepped s 0 z id m.1 w a)
      × claimed (step slots 0 old (old + 1) (some said)) m (get_or s.words 0 0) (w, carried_after m.1 a)

  pub claims : (slots id old : ℕ) (m : Sat) (said : Option Share) (entry : Entry) → IsOfNode m.0 nodes places → m.0.filling ≡ 0 → old < 2 ^ 63 → ((x : ℕ) → x < nodes → old < get_or m.0.met x 0 + places)
      → option_map arc_value said ≡ Some entry → entry.node ≡ m.0.standing.node → AreRising m.0.standing.node (logged m.0.standing ++ items_of entry.jobs.items)
      → Allows (LogRule nodes places) slots id m 0 (λ y. either (eqb y old) (old + 1) y) (claimed (step slots 0 old (old + 1) (some said)) m)
  claims slots id old m said entry mine quiet few room is own numbered s r wide at small =
      let y : ℕ = get_or s.words 0 0 in exchanged y old (old + 1) (Goes slots id m old said s)
      (λ hit. (
        record m.0 { standing = reserved_as old (shares_of entry m.0.standing.nodes) m.0.standing },
        keeps,
        tt,
        claim_kept id old m entry mine quiet few room own numbered s r at hit,
        (
          refl,
          (λ _ said' entry' e e'. λ i. record m.0 { standing = reserved_as (sym hit i) (shares_of (ap (λ o. unwrap_or o entry) (sym is ∙ ap (option_map arc_value) (some-injective said said' e) ∙ e') i) m.0.standing.nodes) m.0.standing }),
          (λ miss. absurd (miss hit)),
        ),
      ))
      (λ miss. let k = r.each_seat id m.0 at in let w : LogView = record m.0 { standing = record m.0.standing { seen = y } } in
      let same : SeatOk nodes places r.log r.past r.applied r.phase w = record { part = k.part; told = k.told; seen = le_of_eq r.tail_is; met = k.met; owns = k.owns; fills = k.fills } in
      (w, keeps, tt, unmoved nodes places s r 0 id m.1 m.0 w at same (λ _ o. o), (refl, (λ hit. absurd (miss hit)), (λ _. (refl, subst (λ z. m.0.standing.seen ≤ z) (sym r.tail_is) k.seen)))))
