-- Rounds, until one in which nothing was done, are at most three more than the jobs that were left.
use Rattle.std.proofs.Common.{◌≡◌, ℕ, ◌+◌, ◌≤◌, ◌<◌, Bool, true, false, inl, inr, List, [], ◌∷◌, ◌++◌, length, refl, ap, sym, ◌∙◌, subst, arith}
use Rattle.std.specs.Prelude.{◌||◌, flat_map}
use Rattle.std.proofs.lemmas.Bool.{eq-eqb}
use Rattle.std.proofs.lemmas.List.{drop_all}
use Rattle.std.proofs.lemmas.List.Folds.{list_any-append}
use Rattle.nr_model.specs.Entries.{read_jobs}
use Rattle.nr_model.specs.Connections.{Setup}
use Rattle.nr_model.specs.Nodes.{Slot, Empty, Posted, Lifted, Answered, World, fresh, node_at, worker_at, log_of, tail_of}
use Rattle.nr_model.specs.Nodes.Steps.{is_posted, posted_jobs, owed_in}
use Rattle.nr_model.specs.Nodes.Pasts.{Event, is_done, IsPast, world_after}
use Rattle.nr_model.specs.Nodes.Settling.{IsRound, AreRounds, does, left_in, after_events}
use Rattle.nr_model.proofs.NodesSteps.{AreSized, each_sized, world_after-append}
use Rattle.nr_model.proofs.NodesOwnPlaces.{ArePlaced, each_placed}
use Rattle.nr_model.proofs.NodesExecutedLists.{count, lt_or_le}
use Rattle.nr_model.proofs.NodesExecutedFits.{serves}
use Rattle.nr_model.proofs.NodesExecutedNodes.{unapplied, own_entry, first_owed, owed_from}
use Rattle.nr_model.proofs.NodesExecutedWorlds.{AreFit, each_fit}
use Rattle.nr_model.proofs.NodesRoundsLeft.{step_left}
use Rattle.nr_model.proofs.NodesRoundsRuns.{sized_run, leads_one}
use Rattle.nr_model.proofs.NodesRoundsParts.{lifting_leads, CalmSlot, IsCalmWorld}
use Rattle.nr_model.proofs.NodesRoundsCalm.{parts_of, round_calm, Inner, applying_keeps, answering_keeps, lifting_keeps, AtMost, at_most_inner, round_left}
use Rattle.nr_model.proofs.NodesRoundsIdle.{AtLeast, IsQuiet, reserving_stays, applying_stays, nothing_waits}
use Rattle.nr_model.proofs.NodesRoundsWaits.{lifting_even, AreEmptied, lifting_stays, IsResting, answering_stays}

-- a slot between rounds
calm_taken : (down : Bool) (slot : Slot) → CalmSlot down slot → is_posted slot ≡ false
calm_taken down Empty calm = refl
calm_taken down (Posted jobs) calm = absurd calm
calm_taken down (Lifted owed) calm = refl
calm_taken down (Answered executed) calm = refl

none_posted : (slot : Slot) → is_posted slot ≡ false → posted_jobs slot ≡ []
none_posted Empty e = refl
none_posted (Posted jobs) e = absurd (cc e)
none_posted (Lifted owed) e = refl
none_posted (Answered executed) e = refl

-- is empty, where nothing is owed
calm_empty : (down : Bool) (slot : Slot) → CalmSlot down slot → (down ≡ false → owed_in slot ≡ 0) → slot ≡ Empty
calm_empty down Empty calm none = refl
calm_empty down (Posted jobs) calm none = absurd calm
calm_empty down (Lifted owed) calm none = absurd (cc (eq-eqb owed 0 (none calm.0), calm.1))
calm_empty down (Answered executed) calm none = absurd calm

-- nothing is owed at a node that is up, where nothing waits and it has passed the whole log
none_owed : (setup : Setup) (world : World) (n w : ℕ) → AreFit world → ArePlaced world → n < length world.nodes → (node_at n world).passed ≡ tail_of world
    → (node_at n world).waiting ≡ [] → (node_at n world).down ≡ false → owed_in (worker_at w (node_at n world)).slot ≡ 0
none_owed setup world n w fit placed there passed waits up =
    let node = node_at n world in
    let log = log_of world.taken in
    let even = (placed n there).applied up in
    let from = first_owed node.resumed node.applied in
    let past = owed_from node.resumed node.applied in
    let behind : unapplied n from log ≡ [] = ap (flat_map (own_entry n)) (drop_all from log (omega arith)) in
    let test = serves w node.clients in
    let first : count test node.waiting ≡ 0 = ap (count test) waits in
    let second : count test (unapplied n from log) ≡ 0 = ap (count test) behind in
    let owed = (fit.nodes n there w).owed up in
    owed ∙ (λ i. first i + second i)

-- what is left behind steps was left before them
backward_inner : (setup : Setup) (least : ℕ) (G : Type 0) → Inner setup (λ world. AtLeast least world → G)
backward_inner setup least G = record {
  keeps = λ step is.
      leads_one setup step (λ world. AtLeast least world → G) (λ world. AtLeast least world → G)
      (λ world refused j f. let less = step_left setup world step refused is in j (omega arith));
}

-- in a round that begins calm nothing is done, where no fewer jobs are left behind it
pub round_still : (setup : Setup) (world : World) (events : List Event) → 1 ≤ setup.places → AreSized setup world → AreFit world → ArePlaced world
    → IsCalmWorld setup world → IsRound setup world events → left_in world.nodes ≤ left_in (after_events setup world events).nodes → does events ≡ false
round_still setup world events some sized fit placed calm round least =
    let p = parts_of setup world events round in
    let most = left_in world.nodes in
    let first = after_events setup world p.lifted in
    let second = after_events setup first p.reserved in
    let third = after_events setup second p.applied in
    let nodes = round.nodes in
    let many = sized.nodes in
    let last : AtLeast most (after_events setup third p.answered) = subst (AtLeast most) p.last least in
    let left_third : AtLeast most third =
    answering_keeps setup (λ x. AtLeast most x → AtLeast most third) (backward_inner setup most (AtLeast most third)) third p.answered p.answers (λ f. f) last in
    let left_second : AtLeast most second =
    applying_keeps setup (λ x. AtLeast most x → AtLeast most second) (backward_inner setup most (AtLeast most second)) 0 round.turns second p.applied p.applies
    (λ f. f) left_third in
    let few : AtMost most first = lifting_keeps setup (AtMost most) (at_most_inner setup most) world p.lifted p.lifts (omega arith) in
    let even = lifting_even setup world p.lifted p.lifts (record { filled = calm.filled; passed = calm.passed }) in
    let quiet : IsQuiet setup most first = record {
      sized = sized_run setup p.lifted world sized;
      filled = even.filled;
      passed = even.passed;
      few = few;
    } in
    let b = (reserving_stays setup most some).still first p.reserved p.reserves quiet left_second in
    let c = (applying_stays setup most round.turns 0 (omega arith)).still second p.applied p.applies (subst (IsQuiet setup most) (sym b.same) quiet) left_third in
    let waits : (n : ℕ) → n < setup.nodes → (node_at n first).down ≡ false → (node_at n first).waiting ≡ [] =
    λ n hn up.
    let reads = subst (λ (x : World). (node_at n x).down ≡ false → read_jobs (node_at n x).waiting ≡ []) b.same (c.tells n (omega arith) (omega arith)) in
    nothing_waits (node_at n first).waiting (b.tells n hn up) (reads up) in
    let taken = lifting_leads setup world p.lifted p.lifts tt in
    let emptied : AreEmptied setup first = λ n w hn hw up. (waits n hn up, none_posted (worker_at w (node_at n first)).slot (taken n w hn hw up)) in
    let a = (lifting_stays setup).still world p.lifted p.lifts (record {
      sized = sized;
      taken = λ m v hm hv up. calm_taken (node_at m world).down (worker_at v (node_at m world)).slot (calm.calm m v hm hv).slot;
    }) emptied in
    let none_waits : (n : ℕ) → n < setup.nodes → (node_at n world).down ≡ false → (node_at n world).waiting ≡ [] =
    subst (λ (x : World). (n : ℕ) → n < setup.nodes → (node_at n x).down ≡ false → (node_at n x).waiting ≡ []) a.same waits in
    let resting : IsResting setup world = record {
      sized = sized;
      slots = λ n w hn hw.
          calm_empty (node_at n world).down (worker_at w (node_at n world)).slot (calm.calm n w hn hw).slot
          (λ up. none_owed setup world n w fit placed (omega arith) (calm.passed n hn).passed (none_waits n hn up) up);
      none = λ n w hn hw. (calm.calm n w hn hw).none;
    } in
    let back : third ≡ world = c.same ∙ b.same ∙ a.same in
    let d = (answering_stays setup).still third p.answered p.answers (subst (IsResting setup) (sym back) resting) tt in
    let test = λ (e : Event). is_done e.outcome in
    ap does p.is ∙ list_any-append test p.lifted (p.reserved ++ (p.applied ++ p.answered))
    ∙ ap (λ (x : Bool). does p.lifted || x) (list_any-append test p.reserved (p.applied ++ p.answered)
    ∙ ap (λ (x : Bool). does p.reserved || x) (list_any-append test p.applied p.answered))
    ∙ (λ i. a.idle i || (b.idle i || (c.idle i || d.idle i)))

-- so a round that begins calm, and in which something was done, leaves fewer
pub round_fewer : (setup : Setup) (world : World) (events : List Event) → 1 ≤ setup.places → AreSized setup world → AreFit world → ArePlaced world
    → IsCalmWorld setup world → IsRound setup world events → does events ≡ true → left_in (after_events setup world events).nodes < left_in world.nodes
round_fewer setup world events some sized fit placed calm round did =
    elim (lt_or_le (left_in (after_events setup world events).nodes) (left_in world.nodes)) [
      | inl h ↦ h
      | inr h ↦ absurd (cc (did, round_still setup world events some sized fit placed calm round h))
    ]

-- a past, and what follows it
after_past : (setup : Setup) (before events : List Event) (world : World) → world ≡ world_after setup before
    → after_events setup world events ≡ world_after setup (before ++ events)
after_past setup before events world is =
    ap (λ (x : World). after_events setup x events) is ∙ sym (world_after-append setup (fresh setup) before events)

-- rounds from a calm world
rounds_from : (setup : Setup) (rounds : List (List Event)) (before : List Event) (world : World) → 1 ≤ setup.places → world ≡ world_after setup before
    → IsCalmWorld setup world → AreRounds setup world rounds → length rounds ≤ left_in world.nodes + 1
rounds_from setup [] before world some is calm are = absurd are
rounds_from setup (events ∷ []) before world some is calm are = omega arith
rounds_from setup (events ∷ next ∷ more) before world some is calm are =
    let sized = subst (AreSized setup) (sym is) (each_sized setup before) in
    let fewer = round_fewer setup world events some sized (subst AreFit (sym is) (each_fit setup before)) (subst ArePlaced (sym is) (each_placed setup before))
    calm are.0 are.1 in
    let rest = rounds_from setup (next ∷ more) (before ++ events) (after_events setup world events) some (after_past setup before events world is)
    (round_calm setup world events sized are.0) are.2 in
    omega arith

-- and from any: at most two more than the jobs that were left
pub rounds_within : (setup : Setup) (before : List Event) (world : World) (rounds : List (List Event)) → 1 ≤ setup.places
    → IsPast setup before world → AreRounds setup world rounds → length rounds ≤ left_in world.nodes + 2
rounds_within setup before world [] some past are = absurd are
rounds_within setup before world (events ∷ []) some past are = omega arith
rounds_within setup before world (events ∷ next ∷ more) some past are =
    let is = past.1 in
    let sized = subst (AreSized setup) (sym is) (each_sized setup before) in
    let left = round_left setup world events are.0 in
    let rest = rounds_from setup (next ∷ more) (before ++ events) (after_events setup world events) some (after_past setup before events world is)
    (round_calm setup world events sized are.0) are.2 in
    omega arith

-- the field of the law
pub rounds_few : (setup : Setup) (before : List Event) (world : World) (rounds : List (List Event)) → 1 ≤ setup.nodes → 1 ≤ setup.workers → 1 ≤ setup.places
    → IsPast setup before world → AreRounds setup world rounds → length rounds ≤ left_in world.nodes + 3
rounds_few setup before world rounds nodes workers some past are = let two = rounds_within setup before world rounds some past are in omega arith
