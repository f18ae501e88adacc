-- The steps of a call, put together, over plain variables.
use Rattle.std.proofs.Common.{◌≡◌, ℕ, suc, ◌+◌, ◌^◌, ◌<◌, List, ◌∷◌, get_or, Option, Some, None, option_map, unwrap_or, is_some, true, refl, sym, ap, ◌∙◌, subst}
use mathlib.Core.Option.{none}
use Rattle.std.specs.Arc.{arc_value}
use Rattle.atomic_table.specs.Table.{Me, step, rest, Allows}
use Rattle.nr_entry.specs.declared.entry.Entry.{Entry}
use Rattle.nr_log_end.specs.Standings.{passed_of, filled_for, fetched_with}
use Rattle.nr_oplog.specs.declared.view.LogView.{LogView}
use Rattle.nr_oplog.specs.Layout.{passed_word, stamp_word, slot_of}
use Rattle.nr_oplog.specs.Rule.{Share, LogRule}
use Rattle.nr_oplog.specs.Plays.{took_to_fill, filled, looked_for_next, passed_next}
use Rattle.nr_oplog.specs.Seats.{IsOfNode}
use Rattle.nr_oplog.proofs.Fills.{takes_to_fill, fills_cell}
use Rattle.nr_oplog.proofs.Fetches.{looks_for_next}
use Rattle.nr_oplog.proofs.Passes.{passes_next}

abbrev Sat : Type 0
Sat = Me (Option Share) LogView

module _ (nodes places : ℕ) where
  pub put_loads : (slots id : ℕ) (m : Sat) (node at word : ℕ) (entry : Entry) → IsOfNode m.0 nodes places → m.0.filling ≡ 0 → node < nodes → get_or m.0.standing.unfilled node None ≡ Some entry
      → at ≡ m.0.standing.at → word ≡ stamp_word nodes places node at → Allows (LogRule nodes places) slots id m word (λ z. z) (took_to_fill (step slots word 0 0 none) m)
  put_loads slots id m node at word entry own quiet there waits is here =
      subst (λ (i : ℕ). Allows (LogRule nodes places) slots id m i (λ z. z) (took_to_fill (step slots i 0 0 none) m)) (sym (here ∙ ap (stamp_word nodes places node) is)) (takes_to_fill nodes places slots id m node entry own quiet there waits)

  -- what was taken to be filled
  pub put_took : (slots found : ℕ) (m m' : Sat) (node at word : ℕ) → IsOfNode m.0 nodes places → node < nodes → at ≡ m.0.standing.at → word ≡ stamp_word nodes places node at → took_to_fill (step slots word 0 0 none) m found m'
      → m' ≡ (record m.0 { filling = suc node }, (slot_of places node at, None) ∷ m.1)
  put_took slots found m m' node at word own there is here did =
      let d = did node (subst (λ z. node < z) (sym own.0) there) (here ∙ (λ i. stamp_word (sym own.0 i) (sym own.1 i) node (is i))) in
      λ i. (d.0 i, (d.1 ∙ (λ j. (slot_of (own.1 j) node (sym is j), None) ∷ m.1)) i)

  -- the share was put into what was taken
  pub put_now : (m l x : Sat) (node at slot : ℕ) (share : Option Share) → l ≡ (record m.0 { filling = suc node }, (slot_of places node at, None) ∷ m.1) → slot ≡ slot_of places node at
      → x ≡ (l.0, (slot, share) ∷ rest l.1) → x ≡ (record m.0 { filling = suc node }, (slot_of places node at, share) ∷ m.1)
  put_now m l x node at slot share took there now = now ∙ (λ i. ((took i).0, (there i, share) ∷ rest (took i).1))

  put_stores' : (slots id : ℕ) (v : LogView) (more : List (ℕ × Option Share)) (node : ℕ) (share : Option Share) (entry : Entry) → IsOfNode v nodes places → node < nodes → get_or v.standing.unfilled node None ≡ Some entry
      → option_map arc_value share ≡ Some entry
      → Allows (LogRule nodes places) slots id (record v { filling = suc node }, (slot_of places node v.standing.at, share) ∷ more) (stamp_word nodes places node v.standing.at) (λ _. v.standing.at + 1)
      (λ _. filled (record v { filling = suc node }, (slot_of places node v.standing.at, share) ∷ more))
  put_stores' slots id v more node None entry own there waits value = absurd (cc)
  put_stores' slots id v more node (Some share) entry own there waits value =
      fills_cell nodes places slots id (record v { filling = suc node }, (slot_of places node v.standing.at, Some share) ∷ more) node entry share more own there refl waits (ap (λ o. unwrap_or o entry) value) refl

  pub put_stores : (slots id : ℕ) (m : Sat) (v : LogView) (more : List (ℕ × Option Share)) (node at word : ℕ) (share : Option Share) (entry : Entry) → IsOfNode v nodes places → node < nodes
      → get_or v.standing.unfilled node None ≡ Some entry → option_map arc_value share ≡ Some entry → at ≡ v.standing.at → word ≡ stamp_word nodes places node at
      → m ≡ (record v { filling = suc node }, (slot_of places node at, share) ∷ more) → Allows (LogRule nodes places) slots id m word (λ _. at + 1) (λ _. filled m)
  put_stores slots id m v more node at word share entry own there waits value is here has =
      subst (λ (q : Sat × ℕ × ℕ). Allows (LogRule nodes places) slots id q.0 q.1 (λ _. q.2 + 1) (λ _. filled q.0))
      (λ i. (sym (has ∙ (λ j. (record v { filling = suc node }, (slot_of places node (is j), share) ∷ more))) i, sym (here ∙ ap (stamp_word nodes places node) is) i, sym is i))
      (put_stores' slots id v more node share entry own there waits value)

  pub put_done : (m m' : Sat) (v : LogView) (more : List (ℕ × Option Share)) (node slot : ℕ) (share : Option Share) → v.filling ≡ 0 → m ≡ (record v { filling = suc node }, (slot, share) ∷ more) → filled m m'
      → m' ≡ (record v { standing = filled_for node v.standing }, more)
  put_done m m' v more node slot share quiet has did =
      let d : filled (record v { filling = suc node }, (slot, share) ∷ more) m' = subst (λ z. filled z m') has did in
      λ i. ((d.1 node refl ∙ (λ j. record v { standing = filled_for node v.standing; filling = sym quiet j })) i, d.0 i)

  pub lift_loads : (slots id : ℕ) (m : Sat) (node passed word : ℕ) → IsOfNode m.0 nodes places → node ≡ m.0.standing.node → passed ≡ passed_of m.0.standing → m.0.standing.held ≡ None
      → word ≡ stamp_word nodes places node passed → Allows (LogRule nodes places) slots id m word (λ z. z) (looked_for_next (step slots word 0 0 none) m)
  lift_loads slots id m node passed word own is count idle here =
      subst (λ (i : ℕ). Allows (LogRule nodes places) slots id m i (λ z. z) (looked_for_next (step slots i 0 0 none) m)) (sym (here ∙ (λ i. stamp_word nodes places (is i) (count i)))) (looks_for_next nodes places slots id m own idle)

  -- what was lifted
  pub lift_took : (slots word : ℕ) (m m' : Sat) (node passed n : ℕ) → IsOfNode m.0 nodes places → node ≡ m.0.standing.node → passed ≡ passed_of m.0.standing → n ≡ passed + 1 → looked_for_next (step slots word 0 0 none) m n m'
      → (passed < 2 ^ 63) × ((share : Share) × (m' ≡ (record m.0 { standing = fetched_with (arc_value share) m.0.standing }, (slot_of places node passed, Some share) ∷ m.1)))
  lift_took slots word m m' node passed n own is count hit did =
      let d = did.1 (hit ∙ native.Mathlib.Numerals.add-one passed ∙ ap suc count) in
      (subst (λ z. z < 2 ^ 63) (sym count) d.0, (d.1.0, λ i. (d.1.1 i, (d.1.2 ∙ (λ j. (slot_of (own.1 j) (sym is j) (sym count j), Some d.1.0) ∷ m.1)) i)))

  pub pass_stores : (slots id : ℕ) (m : Sat) (node passed : ℕ) → IsOfNode m.0 nodes places → node ≡ m.0.standing.node → passed ≡ passed_of m.0.standing → is_some m.0.standing.held ≡ true
      → m.1 ≡ (slot_of places node passed, None) ∷ rest m.1 → Allows (LogRule nodes places) slots id m (passed_word node) (λ _. passed + 1) (λ _. passed_next m)
  pass_stores slots id m node passed own is count held has =
      let e = some_of m.0.standing.held held in
      subst (λ (q : ℕ × ℕ). Allows (LogRule nodes places) slots id m (passed_word q.0) (λ _. q.1 + 1) (λ _. passed_next m)) (λ i. (sym is i, sym count i))
      (passes_next nodes places slots id m e.0 (rest m.1) own e.1 (has ∙ (λ i. (slot_of places (is i) (count i), None) ∷ rest m.1)))
    where
      some_of : (o : Option Entry) → is_some o ≡ true → (e : Entry) × (o ≡ Some e)
      some_of None h = absurd (cc)
      some_of (Some e) h = (e, refl)
