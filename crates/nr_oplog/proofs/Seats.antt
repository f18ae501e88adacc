-- What stays of the rule when only one seat's view changes.
use Rattle.std.proofs.Common.{◌≡◌, ◌≢◌, ℕ, List, set, get_or, sym, subst, ⊎_elim}
use mathlib.Core.Option.{some}
use mathlib.Core.Path.{Path}
use lib.ListN.{get_elem?}
use lib.Seq.{set-get_or}
use Rattle.std.specs.Prelude.{Option}
use Rattle.atomic_table.specs.Table.{State, keeps, stepped}
use Rattle.atomic_table.proofs.Lists.{at_set}
use Rattle.nr_oplog.specs.declared.view.LogView.{LogView}
use Rattle.nr_oplog.specs.Rule.{Share, Owns, SeatOk, LogRule}

-- what holds of the new view, and of each other view, holds of all
pub each_set : (F : LogView → Type 0) (views : List LogView) (id : ℕ) (w : LogView) → F w → ((j : ℕ) (u : LogView) → j ≢ id → get_elem? views j ≡ some u → F u)
    → (j : ℕ) (u : LogView) → get_elem? (set views id w) j ≡ some u → F u
each_set F views id w mine others j u e =
    ⊎_elim (λ (x : (j ≡ id) × Path LogView w u). subst F x.1 mine) (λ (x : (j ≢ id) × (get_elem? views j ≡ some u)). others j u x.0 x.1) (at_set views id j w u e)

module _ (nodes places : ℕ) where
  abbrev St : Type 0
  St = State (Option Share) LogView

  abbrev pub Apart : List LogView → Type 0
  Apart views = (id other : ℕ) (v w : LogView) (node : ℕ) → get_elem? views id ≡ some v → get_elem? views other ≡ some w → Owns nodes places v node → Owns nodes places w node → id ≡ other

  -- who has a node after a view changed had it before
  owner_before : (views : List LogView) (id : ℕ) (v w : LogView) → get_elem? views id ≡ some v → ((node : ℕ) → Owns nodes places w node → Owns nodes places v node)
      → (j : ℕ) (u : LogView) (node : ℕ) → get_elem? (set views id w) j ≡ some u → Owns nodes places u node → (u' : LogView) × (get_elem? views j ≡ some u') × Owns nodes places u' node
  owner_before views id v w at own j u node e has =
      ⊎_elim (λ (x : (j ≡ id) × Path LogView w u). (v, subst (λ k. get_elem? views k ≡ some v) (sym x.0) at, own node (subst (λ z. Owns nodes places z node) (sym x.1) has)))
      (λ (x : (j ≢ id) × (get_elem? views j ≡ some u)). (u, x.1, has)) (at_set views id j w u e)

  pub apart_set : (views : List LogView) (id : ℕ) (v w : LogView) → get_elem? views id ≡ some v → ((node : ℕ) → Owns nodes places w node → Owns nodes places v node) → Apart views → Apart (set views id w)
  apart_set views id v w at own apart i j u u' node ei ej oi oj =
      let a = owner_before views id v w at own i u node ei oi in let b = owner_before views id v w at own j u' node ej oj in
      apart i j a.0 b.0 node a.1 b.1 a.2 b.2

  -- only the views change
  pub reviewed : (s : St) (r : LogRule nodes places s) (views : List LogView) → ((j : ℕ) (u : LogView) → get_elem? views j ≡ some u → SeatOk nodes places r.log r.past r.applied r.phase u) → Apart views
      → LogRule nodes places record { words = s.words; homes = s.homes; views = views }
  reviewed s r views seats apart = record {
    log = r.log;
    past = r.past;
    applied = r.applied;
    phase = r.phase;
    some_place = r.some_place;
    sized = r.sized;
    tail_is = r.tail_is;
    bounded = r.bounded;
    whose = r.whose;
    applied_is = r.applied_is;
    rising = r.rising;
    each_node = r.each_node;
    each_cell = r.each_cell;
    each_seat = seats;
    apart = apart;
  }

  -- a step that changes no word and no slot
  pub unmoved : (s : St) (r : LogRule nodes places s) (i id : ℕ) (cs : List (ℕ × Option Share)) (v w : LogView) → get_elem? s.views id ≡ some v
      → SeatOk nodes places r.log r.past r.applied r.phase w → ((node : ℕ) → Owns nodes places w node → Owns nodes places v node)
      → LogRule nodes places (stepped s i (get_or s.words i 0) id cs w keeps)
  unmoved s r i id cs v w at mine own = subst (λ (ws : List ℕ). LogRule nodes places record { words = ws; homes = s.homes; views = set s.views id w }) (sym (set-get_or s.words i 0))
      (reviewed s r (set s.views id w) (each_set (SeatOk nodes places r.log r.past r.applied r.phase) s.views id w mine (λ j u _ e. r.each_seat j u e)) (apart_set s.views id v w at own r.apart))
