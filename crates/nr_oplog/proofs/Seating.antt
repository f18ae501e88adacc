-- The calls of a seat, over plain variables.
use Rattle.std.proofs.Common.{◌≡◌, ℕ, zero, suc, ◌+◌, ◌^◌, ◌<◌, ◌≤◌, Bool, true, false, List, [], ◌∷◌, ◌++◌, length, map, get_or, Option, Some, None, IsSome, option_map, option_to_list, is_some, if◌then◌else◌, refl, sym, ap, ◌∙◌, subst, inl, inr, arith, append_assoc, length-append}
use Rattle.std.specs.Arc.{arc_value}
use Rattle.atomic_table.specs.Table.{Me, rest}
use Rattle.nr_entry.specs.declared.entry.Entry.{Entry}
use Rattle.nr_entry.specs.Shares.{shares_of}
use Rattle.nr_log_end.specs.declared.standing.Standing.{Standing}
use Rattle.nr_log_end.specs.declared.standing.LogEvent.{LogEvent}
use Rattle.nr_log_end.specs.declared.standing.LogEvent.TheVariants.{Applied}
use Rattle.nr_log_end.specs.declared.reserve.Reserve.{Reserve}
use Rattle.nr_log_end.specs.declared.reserve.Reserve.TheVariants.{Taken, Full, Lost}
use Rattle.nr_log_end.specs.Reserves.{IfTaken, IfFull, IfLost}
use Rattle.nr_log_end.specs.Standings.{applied_of, passed_of, passed_on, reserved_as, IsSharesFor}
use Rattle.nr_oplog.specs.declared.view.LogView.{LogView}
use Rattle.nr_log_end.specs.declared.standing.Load.{Load}
use Rattle.nr_log_end.specs.declared.standing.Load.TheVariants.{Tail, Passed}
use Rattle.nr_oplog.specs.Layout.{slot_of}
use Rattle.nr_oplog.specs.Rule.{Share}
use Rattle.nr_oplog.specs.Plays.{with_done}
use Rattle.nr_oplog.specs.Seats.{CountsOf, IsBehind}
use Rattle.nr_log_end.specs.Tries.{IsTaken, IsFull, IsLost, most_entries}
use Rattle.nr_oplog.specs.Calls.{IsSeated, LooksAtTail, OnlyCounts}
use Rattle.nr_oplog.proofs.Fronts.{applied_append, passed_still}

abbrev Sat : Type 0
Sat = Me (Option Share) LogView

-- the share of an entry, where one is there
pub some_share : (o : Option Entry) (share : Option Share) → IsSome o → option_map arc_value share ≡ o → (entry : Entry) × (option_map arc_value share ≡ Some entry) × (o ≡ Some entry)
some_share None share some is = absurd (cc)
some_share (Some entry) share some is = (entry, is, refl)

pub first_share : (entry : Entry) (nodes : ℕ) → 0 < nodes → get_or (shares_of entry nodes) 0 None ≡ Some entry
first_share entry zero h = absurd (omega arith)
first_share entry (suc n) h = refl

-- what is no passing of an entry changes the history and the tail that was seen alone
pub seated_done : (m m' : Sat) (turns : List LogEvent) → applied_of turns ≡ [] → (n node passed : ℕ) (held : Bool) (seen at : ℕ) (shares : List (Option Entry)) (least : ℕ) → IsSeated m node passed held seen at shares least → m' ≡ (with_done turns n m.0, m.1)
    → IsSeated m' node passed held n at shares least
seated_done m m' turns none n node passed held seen at shares least s is = subst (λ z. IsSeated z node passed held n at shares least) (sym is) record {
  node_is = s.node_is;
  upto_is = s.upto_is;
  below = s.below;
  idle = s.idle;
  passed_is = ap length (passed_still m.0.standing.history turns none) ∙ s.passed_is;
  held_is = s.held_is;
  slots = s.slots;
  few = s.few;
  fewer = s.fewer;
  seen_is = refl;
  at_is = s.at_is;
  number = s.number;
  shares_are = s.shares_are;
  most = s.most;
  counts = s.counts;
  least_is = s.least_is;
}

one_more : (standing : Standing) → is_some standing.held ≡ true → passed_of (passed_on standing) ≡ passed_of standing + 1
one_more standing h = go standing.held h
  where
    go : (o : Option Entry) → is_some o ≡ true → length (applied_of (standing.history ++ map Applied (option_to_list o))) ≡ length (applied_of standing.history) + 1
    go None e = absurd (cc)
    go (Some entry) e = ap length (applied_append standing.history (Applied entry ∷ [])) ∙ length-append (applied_of standing.history) (entry ∷ [])

-- what is passed isn't held any more
pub seated_pass : (m m' : Sat) (node passed : ℕ) (held : Bool) (seen at : ℕ) (shares : List (Option Entry)) (least : ℕ) → IsSeated m node passed held seen at shares least → held ≡ true
    → m' ≡ (record m.0 { standing = passed_on m.0.standing }, rest m.1) → IsSeated m' node (passed + 1) false seen at shares least
seated_pass m m' node passed held seen at shares least s has is =
    let small : passed < 2 ^ 63 = s.fewer has in
    subst (λ z. IsSeated z node (passed + 1) false seen at shares least) (sym is) record {
      node_is = s.node_is;
      upto_is = s.upto_is;
      below = s.below;
      idle = s.idle;
      passed_is = one_more m.0.standing (s.held_is ∙ has) ∙ ap (λ z. z + 1) s.passed_is;
      held_is = refl;
      slots = ap rest (s.slots ∙ ap (λ (b : Bool). if b then (slot_of m.0.places node passed, None) ∷ [] else []) has);
      few = omega arith;
      fewer = λ e. absurd (cc);
      seen_is = s.seen_is;
      at_is = s.at_is;
      number = s.number;
      shares_are = s.shares_are;
      most = s.most;
      counts = s.counts;
      least_is = s.least_is;
    }

-- passed counts alone were loaded
pub only_counts : (v : LogView) (m n : Sat) → v ≡ m.0 → CountsOf m n → ((more : List Load) × (n.0.looks ≡ m.0.looks ++ more)) → OnlyCounts v n.0
only_counts v m n is c more = subst (λ z. OnlyCounts z n.0) (sym is) (c.1, more)

-- the log has taken all entries that it can
pub full_of_all : (v t : LogView) (places : ℕ) → LooksAtTail v t → most_entries ≤ t.standing.seen → IsFull v.standing v.looks places t.standing t.looks
full_of_all v t places l far = (ap (λ (z : LogView). z.standing) l.1, ([], (l.0, ap (λ (z : LogView). z.looks) l.1), inr far))

module _ (v t w : LogView) (l : LooksAtTail v t) (o : OnlyCounts t w) where
  standing_is : w.standing ≡ t.standing
  standing_is = ap (λ (z : LogView). z.standing) o.0

  seen_is : w.standing.seen ≡ t.standing.seen
  seen_is = ap (λ (z : Standing). z.seen) standing_is

  began : w.standing ≡ record v.standing { seen = t.standing.seen }
  began = standing_is ∙ ap (λ (z : LogView). z.standing) l.1

  looked : (more : List Load) → w.looks ≡ t.looks ++ more → w.looks ≡ v.looks ++ (Tail t.standing.seen ∷ more)
  looked more is = is ∙ ap (λ (z : LogView). z.looks ++ more) l.1 ∙ append_assoc v.looks (Tail t.standing.seen ∷ []) more

  -- a node is all places behind
  pub full_of_places : (places : ℕ) → IsBehind v.standing.nodes places t.standing.seen t w → IsFull v.standing v.looks places w.standing w.looks
  full_of_places places b = (
    began ∙ (λ i. record v.standing { seen = sym seen_is i }),
    (
      b.0 ++ Passed b.1 b.2 ∷ [],
      (subst (λ z. v.standing.seen ≤ z) (sym seen_is) l.0, looked (b.0 ++ Passed b.1 b.2 ∷ []) b.3 ∙ ap (λ z. v.looks ++ (Tail z ∷ (b.0 ++ Passed b.1 b.2 ∷ []))) (sym seen_is)),
      inl (b.0, b.1, b.2, refl, subst (λ z. b.2 + places ≤ z) (sym seen_is) b.4, b.5),
    ),
  )

  pub shares_still : (shares : List (Option Entry)) → IsSharesFor v.standing shares → IsSharesFor w.standing shares
  shares_still shares s = subst (λ z. IsSharesFor z shares) (sym began) s

  pub taken_from : (x : LogView) (shares : List (Option Entry)) (at : ℕ) → (at ≡ t.standing.seen) × (x ≡ record w { standing = reserved_as at shares w.standing })
      → IsTaken v.standing v.looks at shares x.standing x.looks
  taken_from x shares at c = (
    ap (λ (z : LogView). z.standing) c.1 ∙ ap (reserved_as at shares) began,
    (o.1.0, (subst (λ z. v.standing.seen ≤ z) (sym c.0) l.0, ap (λ (z : LogView). z.looks) c.1 ∙ looked o.1.0 o.1.1 ∙ ap (λ z. v.looks ++ (Tail z ∷ o.1.0)) (sym c.0))),
  )

  pub lost_from : (x : LogView) → (x ≡ record w { standing = record w.standing { seen = x.standing.seen } }) → t.standing.seen < x.standing.seen
      → IsLost v.standing v.looks x.standing x.looks
  lost_from x is later = (
    ap (λ (z : LogView). z.standing) is ∙ (λ i. record (began i) { seen = x.standing.seen }),
    (t.standing.seen, o.1.0, (l.0, ap (λ (z : LogView). z.looks) is ∙ looked o.1.0 o.1.1), later),
  )

pub if_taken : (r : Reserve) (P Q : ℕ → Type 0) → ((at : ℕ) → P at → Q at) → IfTaken r P → IfTaken r Q
if_taken (Taken at) P Q f p = f at p
if_taken (Full back) P Q f p = tt
if_taken (Lost back) P Q f p = tt

pub if_full : (r : Reserve) (P Q : List (Option Entry) → Type 0) → ((back : List (Option Entry)) → P back → Q back) → IfFull r P → IfFull r Q
if_full (Taken at) P Q f p = tt
if_full (Full back) P Q f p = f back p
if_full (Lost back) P Q f p = tt

pub if_lost : (r : Reserve) (P Q : List (Option Entry) → Type 0) → ((back : List (Option Entry)) → P back → Q back) → IfLost r P → IfLost r Q
if_lost (Taken at) P Q f p = tt
if_lost (Full back) P Q f p = tt
if_lost (Lost back) P Q f p = f back p
