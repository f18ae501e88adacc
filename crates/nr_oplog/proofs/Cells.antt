-- What the phase of a cell tells, and what stays of it.
use Rattle.std.proofs.Common.{◌≡◌, ◌≢◌, ℕ, suc, ◌<◌, ◌≤◌, List, ◌++◌, length, get_or, Option, Some, None, MatchOption, refl, sym, ap, ◌∙◌, subst, arith, length-append}
use mathlib.Core.Option.{some, some-injective}
use lib.ListN.{get_elem?}
use Rattle.std.specs.Arc.{arc_value}
use Rattle.atomic_table.proofs.Lists.{at_longer}
use Rattle.nr_entry.specs.declared.entry.Entry.{Entry}
use Rattle.nr_oplog.specs.declared.view.LogView.{LogView}
use Rattle.nr_oplog.specs.Layout.{stamp_word, slot_of}
use Rattle.nr_oplog.specs.Rule.{Share, Homes, Phase, empty, filling, full, lifted, CellOk, Owns, FillerOk, LogRule}
use Rattle.nr_oplog.proofs.Changes.{change₂, change₂_else, at_change₂}

pub empty_not_lifted : empty ≡ lifted → ⊥
empty_not_lifted e = cc

pub filling_not_lifted : filling ≡ lifted → ⊥
filling_not_lifted e = cc

pub full_not_lifted : full ≡ lifted → ⊥
full_not_lifted e = cc

pub full_not_empty : full ≡ empty → ⊥
full_not_empty e = cc

pub full_not_filling : full ≡ filling → ⊥
full_not_filling e = cc

pub lifted_not_empty : lifted ≡ empty → ⊥
lifted_not_empty e = cc

pub lifted_not_filling : lifted ≡ filling → ⊥
lifted_not_filling e = cc

module _ (nodes places : ℕ) where
  -- a cell stays as it is where the log only grows, and its stamp and its slot stay
  pub cell_stays : (log more : List Entry) (words words' : List ℕ) (homes homes' : Homes) (passed node number : ℕ)
      → get_or words' (stamp_word nodes places node number) 0 ≡ get_or words (stamp_word nodes places node number) 0
      → get_elem? homes' (slot_of places node number) ≡ get_elem? homes (slot_of places node number)
      → (ph : Phase) → CellOk nodes places log words homes passed node number ph → CellOk nodes places (log ++ more) words' homes' passed node number ph
  cell_stays log more words words' homes homes' passed node number word home empty k = (subst (λ z. z ≤ number) (sym word) k.0, home ∙ k.1)
  cell_stays log more words words' homes homes' passed node number word home filling k =
      let l : number < length log = k.1 in (subst (λ z. z ≤ number) (sym word) k.0, omega (arith, length-append log more))
  cell_stays log more words words' homes homes' passed node number word home full k =
      let l : number < length log = k.1 in (word ∙ k.0, omega (arith, length-append log more), (k.2.0, home ∙ k.2.1, at_longer log more number (arc_value k.2.0) k.2.2))
  cell_stays log more words words' homes homes' passed node number word home lifted k =
      let l : number < length log = k.1 in (word ∙ k.0, omega (arith, length-append log more), k.2)

  module _ (log : List Entry) (words : List ℕ) (homes : Homes) (passed node number : ℕ) where
    -- a number that isn't reserved has an empty cell
    pub is_empty : length log ≤ number → (ph : Phase) → CellOk nodes places log words homes passed node number ph → ph ≡ empty
    is_empty far empty k = refl
    is_empty far filling k = let l : number < length log = k.1 in absurd (omega arith)
    is_empty far full k = let l : number < length log = k.1 in absurd (omega arith)
    is_empty far lifted k = let l : number < length log = k.1 in absurd (omega arith)

    -- a cell with its number's stamp that isn't lifted is full
    pub is_full : get_or words (stamp_word nodes places node number) 0 ≡ suc number → (ph : Phase) → ph ≢ lifted → CellOk nodes places log words homes passed node number ph
        → (ph ≡ full) × CellOk nodes places log words homes passed node number full
    is_full is empty n k = let l : get_or words (stamp_word nodes places node number) 0 ≤ number = k.0 in absurd (omega arith)
    is_full is filling n k = let l : get_or words (stamp_word nodes places node number) 0 ≤ number = k.0 in absurd (omega arith)
    is_full is full n k = (refl, k)
    is_full is lifted n k = absurd (n refl)

    -- only the cell behind those that were passed is lifted
    pub not_lifted : number ≢ passed → (ph : Phase) → CellOk nodes places log words homes passed node number ph → ph ≢ lifted
    not_lifted n ph k e = n (subst (CellOk nodes places log words homes passed node number) e k).2

  -- whether the next cell is lifted doesn't change where neither the old phase nor the new one is that
  pub holds_stay : (phase : ℕ → ℕ → Phase) (t a : ℕ) (c : Phase) → phase t a ≢ lifted → c ≢ lifted → (held : Option Entry) (x count : ℕ)
      → MatchOption held (phase x count ≢ lifted) (λ entry. phase x count ≡ lifted) → MatchOption held (change₂ phase t a c x count ≢ lifted) (λ entry. change₂ phase t a c x count ≡ lifted)
  holds_stay phase t a c old new None x count k = at_change₂ phase t a c (λ r y p. r ≡ x → y ≡ count → p ≢ lifted) x count (λ _ _. new) (λ other e e'. k) refl refl
  holds_stay phase t a c old new (Some entry) x count k =
      change₂_else phase t a c x count (λ e e'. old (sym (λ i. phase (e i) (e' i)) ∙ k)) ∙ k

  -- a share that waits for its cell has a cell that is empty, or being filled
  pub waiting_phase : (log : List Entry) (applied : ℕ → List Entry) (phase : ℕ → ℕ → Phase) (at seat busy node : ℕ) (entry : Entry) → FillerOk nodes places log applied phase at seat busy node entry
      → (phase node at ≡ full → ⊥) × (phase node at ≡ lifted → ⊥)
  waiting_phase log applied phase at seat busy node entry f = by_busy (native.Mathlib.Decide.ℕ_discrete busy (suc node))
    where
      by_busy : Dec (busy ≡ suc node) → (phase node at ≡ full → ⊥) × (phase node at ≡ lifted → ⊥)
      by_busy (yes e) = ((λ h. full_not_filling (sym h ∙ f.taken e)), (λ h. lifted_not_filling (sym h ∙ f.taken e)))
      by_busy (no n) = ((λ h. full_not_empty (sym h ∙ f.idle n)), (λ h. lifted_not_empty (sym h ∙ f.idle n)))

  -- a share that waits goes on waiting where its cell's phase stays
  pub filler_stays : (log : List Entry) (applied : ℕ → List Entry) (phase : ℕ → ℕ → Phase) (t a : ℕ) (c : Phase) (at seat busy node : ℕ) (entry : Entry) → (node ≡ t → at ≡ a → ⊥)
      → FillerOk nodes places log applied phase at seat busy node entry → FillerOk nodes places log applied (change₂ phase t a c) at seat busy node entry
  filler_stays log applied phase t a c at seat busy node entry other f = record {
    there = f.there;
    near = f.near;
    reserved = f.reserved;
    own = f.own;
    waits = f.waits;
    idle = λ n. change₂_else phase t a c node at other ∙ f.idle n;
    taken = λ e. change₂_else phase t a c node at other ∙ f.taken e;
  }

  -- two seats that reserved one number are one
  pub one_reserver : (s : Rattle.atomic_table.specs.Table.State (Option Share) LogView) (r : LogRule nodes places s) (id other : ℕ) (v u : LogView) (node x : ℕ) (e e' : Entry)
      → get_elem? s.views id ≡ some v → get_elem? s.views other ≡ some u → Owns nodes places v v.standing.node → Owns nodes places u u.standing.node
      → FillerOk nodes places r.log r.applied r.phase v.standing.at v.standing.node v.filling node e → FillerOk nodes places r.log r.applied r.phase u.standing.at u.standing.node u.filling x e'
      → u.standing.at ≡ v.standing.at → other ≡ id
  one_reserver s r id other v u node x e e' at at' own own' f f' is =
      let same : e ≡ e' = some-injective e e' (sym f.reserved ∙ ap (get_elem? r.log) (sym is) ∙ f'.reserved) in
      let nodes_same : u.standing.node ≡ v.standing.node = sym f'.own ∙ ap (λ (z : Entry). z.node) (sym same) ∙ f.own in
      r.apart other id u v u.standing.node at' at own' (subst (Owns nodes places v) (sym nodes_same) own)
