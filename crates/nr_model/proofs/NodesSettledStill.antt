-- The last of some rounds: nothing was done in it, so no step of a round is enabled in the world that they led to.
use Rattle.std.proofs.Common.{◌≡◌, ℕ, zero, suc, ◌+◌, ◌<◌, false, inl, inr, List, [], ◌∷◌, ◌++◌, length, map, refl, ap, sym, ◌∙◌, subst, arith, Contains}
use Rattle.std.specs.Prelude.{flat_map}
use Rattle.std.specs.List.{range_with_len}
use Rattle.std.proofs.lemmas.Bool.{or_parts}
use Rattle.std.proofs.lemmas.List.{append-nil}
use Rattle.std.proofs.lemmas.List.FromFn.{get_or-range_with_len, length-range_with_len}
use Rattle.std.proofs.lemmas.List.Elements.{Contains-append_left, Contains-append_right}
use Rattle.nr_model.specs.Connections.{Setup}
use Rattle.nr_model.specs.Nodes.{World}
use Rattle.nr_model.specs.Nodes.Steps.{Step, Post, Lift, Reserve, Fill, Fetch, Apply, Look, Answer, Collect, Outcome, Opened, Done, Idle, Refused, outcome, came_to, effect_by}
use Rattle.nr_model.specs.Nodes.Pasts.{Event, AreEvents, after_event, is_done}
use Rattle.nr_model.specs.Nodes.Settling.{for_workers, lifting, reserving, in_turn, applying, answering, round_of, IsRound, does, after_events, AreRounds}
use Rattle.nr_model.proofs.NodesSteps.{world_after-append}
use Rattle.nr_model.proofs.NodesExecutedLists.{first_in, later_in, in_cases, in_middle, stands}

-- where the elements of a list stand in what was made of it
in_map : {A B : Type 0} (f : A → B) (xs : List A) (y : B) → Contains (map f xs) y → (x : A) × Contains xs x × (f x ≡ y)
in_map f [] y (k, below, is) = absurd (omega arith)
in_map f (x ∷ xs) y h = elim (in_cases y (f x) (map f xs) h) [
  | inl e ↦ (x, first_in x xs, e)
  | inr behind ↦ let p = in_map f xs y behind in (p.0, later_in p.0 x xs p.1, p.2)
]

of_map : {A B : Type 0} (f : A → B) (xs : List A) (x : A) → Contains xs x → Contains (map f xs) (f x)
of_map f [] x (k, below, is) = absurd (omega arith)
of_map f (y ∷ xs) x h = elim (in_cases x y xs h) [
  | inl e ↦ subst (λ z. Contains (map f (y ∷ xs)) (f z)) e (first_in (f y) (map f xs))
  | inr behind ↦ later_in (f x) (f y) (map f xs) (of_map f xs x behind)
]

of_parts : {A B : Type 0} (f : A → List B) (xs : List A) (x : A) (y : B) → Contains xs x → Contains (f x) y → Contains (flat_map f xs) y
of_parts f [] x y (k, below, is) here = absurd (omega arith)
of_parts f (z ∷ xs) x y h here = elim (in_cases x z xs h) [
  | inl e ↦ Contains-append_left (f z) (flat_map f xs) y (subst (λ w. Contains (f w) y) (sym e) here)
  | inr behind ↦ Contains-append_right (f z) (flat_map f xs) y (of_parts f xs x y behind here)
]

in_range : (count n : ℕ) → n < count → Contains (range_with_len 0 count) n
in_range count n below =
    let long = length-range_with_len 0 count in
    let is = get_or-range_with_len 0 count n n below in
    (n, omega arith, is ∙ omega arith)

-- the steps of a round
for_worker : (setup : Setup) (steps : ℕ → ℕ → List Step) (n w : ℕ) (step : Step) → n < setup.nodes → w < setup.workers → Contains (steps n w) step
    → Contains (for_workers setup steps) step
for_worker setup steps n w step there within here =
    of_parts (λ m. flat_map (steps m) (range_with_len 0 setup.workers)) (range_with_len 0 setup.nodes) n step (in_range setup.nodes n there)
    (of_parts (steps n) (range_with_len 0 setup.workers) w step (in_range setup.workers w within) here)

in_applying : (first : ℕ) (turns : List ℕ) (n : ℕ) → n < length turns → Contains (applying first turns) (Look (first + n))
in_applying first [] n below = absurd (omega arith)
in_applying first (count ∷ turns) zero below =
    let same : first ≡ first + 0 = omega arith in
    subst (λ m. Contains (applying first (count ∷ turns)) (Look m)) same
    (in_middle (Look first) (in_turn first count) (applying (suc first) turns))
in_applying first (count ∷ turns) (suc n) below =
    let same : suc first + n ≡ first + suc n = omega arith in
    let back = later_in (Look (suc first + n)) (Look first) (applying (suc first) turns) (in_applying (suc first) turns n (omega arith)) in
    subst (λ m. Contains (applying first (count ∷ turns)) (Look m)) same
    (Contains-append_right (in_turn first count) (Look first ∷ applying (suc first) turns) (Look (suc first + n)) back)

-- none of these is enabled
pub record IsStill (setup : Setup) (world : World) : Type 0 where
  pub posts : (n w : ℕ) → n < setup.nodes → w < setup.workers → is_done (outcome setup world (Post n w)) ≡ false
  pub lifts : (n w : ℕ) → n < setup.nodes → w < setup.workers → is_done (outcome setup world (Lift n w)) ≡ false
  pub reserves : (n : ℕ) → n < setup.nodes → is_done (outcome setup world (Reserve n)) ≡ false
  pub fills : (n t : ℕ) → n < setup.nodes → t < setup.nodes → is_done (outcome setup world (Fill n t)) ≡ false
  pub fetches : (n : ℕ) → n < setup.nodes → is_done (outcome setup world (Fetch n)) ≡ false
  pub applies : (n : ℕ) → n < setup.nodes → is_done (outcome setup world (Apply n)) ≡ false
  pub looks : (n : ℕ) → n < setup.nodes → is_done (outcome setup world (Look n)) ≡ false
  pub answers : (n w : ℕ) → n < setup.nodes → w < setup.workers → is_done (outcome setup world (Answer n w)) ≡ false
  pub collects : (n w : ℕ) → n < setup.nodes → w < setup.workers → is_done (outcome setup world (Collect n w)) ≡ false

-- what isn't done changes nothing
still_by : (o : Outcome) (setup : Setup) (world : World) (step : Step) (refused : Refused) → is_done o ≡ false
    → effect_by o setup world step refused ≡ world
still_by (Opened c) setup world step refused e = absurd (cc e)
still_by Done setup world step refused e = absurd (cc e)
still_by (Idle reason) setup world step refused e = refl

-- events of which none was done
record AreIdle (setup : Setup) (world : World) (events : List Event) : Type 0 where
  same : after_events setup world events ≡ world
  idle : (e : Event) → Contains events e → is_done (came_to setup world e.step e.refused) ≡ false

are_idle : (setup : Setup) (world : World) (events : List Event) → AreEvents setup world events → does events ≡ false → AreIdle setup world events
are_idle setup world [] are none = record { same = refl; idle = λ e h. let below : h.0 < 0 = h.1 in absurd (omega arith) }
are_idle setup world (e ∷ events) are none =
    let both = or_parts (is_done e.outcome) (does events) none in
    let idle : is_done (came_to setup world e.step e.refused) ≡ false = ap is_done (sym (are.0.outcome_is)) ∙ both.0 in
    let same : after_event setup world e ≡ world = still_by (came_to setup world e.step e.refused) setup world e.step e.refused idle in
    let more = are_idle setup world events (subst (λ (w : World). AreEvents setup w events) same are.1) both.1 in
    record {
      same = ap (λ (w : World). after_events setup w events) same ∙ more.same;
      idle = λ f h. elim (in_cases f e events h) [
        | inl first ↦ subst (λ (g : Event). is_done (came_to setup world g.step g.refused) ≡ false) first idle
        | inr behind ↦ more.idle f behind
      ];
    }

-- the parts of a round
in_lifting : (setup : Setup) (turns : List ℕ) (step : Step) → Contains (lifting setup) step → Contains (round_of setup turns) step
in_lifting setup turns step h = Contains-append_left (lifting setup) (reserving setup ++ (applying 0 turns ++ answering setup)) step h

in_reserving : (setup : Setup) (turns : List ℕ) (step : Step) → Contains (reserving setup) step → Contains (round_of setup turns) step
in_reserving setup turns step h =
    Contains-append_right (lifting setup) (reserving setup ++ (applying 0 turns ++ answering setup)) step
    (Contains-append_left (reserving setup) (applying 0 turns ++ answering setup) step h)

in_answering : (setup : Setup) (turns : List ℕ) (step : Step) → Contains (answering setup) step → Contains (round_of setup turns) step
in_answering setup turns step h =
    Contains-append_right (lifting setup) (reserving setup ++ (applying 0 turns ++ answering setup)) step
    (Contains-append_right (reserving setup) (applying 0 turns ++ answering setup) step (Contains-append_right (applying 0 turns) (answering setup) step h))

in_looks : (setup : Setup) (turns : List ℕ) (n : ℕ) → n < length turns → Contains (round_of setup turns) (Look n)
in_looks setup turns n below =
    let same : 0 + n ≡ n = omega arith in
    let here : Contains (applying 0 turns) (Look n) =
    subst (λ m. Contains (applying 0 turns) (Look m)) {x = 0 + n} same (in_applying 0 turns n below) in
    Contains-append_right (lifting setup) (reserving setup ++ (applying 0 turns ++ answering setup)) (Look n)
    (Contains-append_right (reserving setup) (applying 0 turns ++ answering setup) (Look n)
    (Contains-append_left (applying 0 turns) (answering setup) (Look n) here))

-- a step of a round in which nothing was done isn't enabled
idle_step : (setup : Setup) (world : World) (events : List Event) (step : Step) → AreIdle setup world events
    → Contains (map (λ (e : Event). e.step) events) step → (refused : Refused) × (is_done (came_to setup world step refused) ≡ false)
idle_step setup world events step idle h =
    let p = in_map (λ (e : Event). e.step) events step h in
    (p.0.refused, subst (λ (s : Step). is_done (came_to setup world s p.0.refused) ≡ false) p.2 (idle.idle p.0 p.1))

-- a look comes behind an apply and a fetch
record ArePaired (setup : Setup) (world : World) (n : ℕ) : Type 0 where
  apply : is_done (outcome setup world (Apply n)) ≡ false
  fetch : is_done (outcome setup world (Fetch n)) ≡ false

idle_pair : (setup : Setup) (world : World) (events : List Event) (n : ℕ) → AreIdle setup world events → IsRound setup world events
    → Contains (map (λ (e : Event). e.step) events) (Look n) → ArePaired setup world n
idle_pair setup world events n idle round h =
    let look = in_map (λ (e : Event). e.step) events (Look n) h in
    let s = stands events look.0 look.1 in
    let p = round.some n s.front s.back look.0 s.is look.2 in
    let front = p.0 ++ p.1 ∷ p.2 ∷ [] in
    let behind = look.0 ∷ s.back in
    let whole : front ++ behind ≡ events = sym (s.is ∙ ap (λ (es : List Event). es ++ behind) p.3) in
    let apply_in : Contains events p.1 =
    subst (λ (es : List Event). Contains es p.1) whole (Contains-append_left front behind p.1 (in_middle p.1 p.0 (p.2 ∷ []))) in
    let fetch_in : Contains events p.2 =
    subst (λ (es : List Event). Contains es p.2) whole
    (Contains-append_left front behind p.2 (Contains-append_right p.0 (p.1 ∷ p.2 ∷ []) p.2 (later_in p.2 p.1 (p.2 ∷ []) (first_in p.2 [])))) in
    record {
      apply = subst (λ (t : Step). is_done (came_to setup world t p.1.refused) ≡ false) p.4 (idle.idle p.1 apply_in);
      fetch = subst (λ (t : Step). is_done (came_to setup world t p.2.refused) ≡ false) p.5 (idle.idle p.2 fetch_in);
    }

-- so none is
abbrev reserve_steps : Setup → ℕ → List Step
reserve_steps setup n = Reserve n ∷ map (Fill n) (range_with_len 0 setup.nodes)

still_round : (setup : Setup) (world : World) (events : List Event) → IsRound setup world events → AreIdle setup world events → IsStill setup world
still_round setup world events round idle =
    let turns = round.turns in
    let each : (step : Step) → Contains (round_of setup turns) step → (refused : Refused) × (is_done (came_to setup world step refused) ≡ false) =
    λ step h. idle_step setup world events step idle (subst (λ ss. Contains ss step) (sym round.steps) h) in
    let look : (n : ℕ) → n < setup.nodes → Contains (round_of setup turns) (Look n) =
    λ n there. let many = round.nodes in in_looks setup turns n (omega arith) in
    let pair : (n : ℕ) → n < setup.nodes → ArePaired setup world n =
    λ n there. idle_pair setup world events n idle round (subst (λ ss. Contains ss (Look n)) (sym round.steps) (look n there)) in
    let nodes = range_with_len 0 setup.nodes in
    record {
      posts = λ n w there within. (each (Post n w) (in_lifting setup turns (Post n w)
          (for_worker setup (λ m v. Post m v ∷ Lift m v ∷ []) n w (Post n w) there within (first_in (Post n w) (Lift n w ∷ []))))).1;
      lifts = λ n w there within. (each (Lift n w) (in_lifting setup turns (Lift n w)
          (for_worker setup (λ m v. Post m v ∷ Lift m v ∷ []) n w (Lift n w) there within
          (later_in (Lift n w) (Post n w) (Lift n w ∷ []) (first_in (Lift n w) []))))).1;
      reserves = λ n there. (each (Reserve n) (in_reserving setup turns (Reserve n)
          (of_parts (reserve_steps setup) nodes n (Reserve n) (in_range setup.nodes n there) (first_in (Reserve n) (map (Fill n) nodes))))).1;
      fills = λ n t there cell. (each (Fill n t) (in_reserving setup turns (Fill n t)
          (of_parts (reserve_steps setup) nodes n (Fill n t) (in_range setup.nodes n there)
          (later_in (Fill n t) (Reserve n) (map (Fill n) nodes) (of_map (Fill n) nodes t (in_range setup.nodes t cell)))))).1;
      fetches = λ n there. (pair n there).fetch;
      applies = λ n there. (pair n there).apply;
      looks = λ n there. (each (Look n) (look n there)).1;
      answers = λ n w there within. (each (Answer n w) (in_answering setup turns (Answer n w)
          (for_worker setup (λ m v. Answer m v ∷ Collect m v ∷ []) n w (Answer n w) there within (first_in (Answer n w) (Collect n w ∷ []))))).1;
      collects = λ n w there within. (each (Collect n w) (in_answering setup turns (Collect n w)
          (for_worker setup (λ m v. Answer m v ∷ Collect m v ∷ []) n w (Collect n w) there within
          (later_in (Collect n w) (Answer n w) (Collect n w ∷ []) (first_in (Collect n w) []))))).1;
    }

-- events and more
pub are_both : (setup : Setup) (world : World) (before later : List Event) → AreEvents setup world before
    → AreEvents setup (after_events setup world before) later → AreEvents setup world (before ++ later)
are_both setup world [] later first more = more
are_both setup world (e ∷ before) later first more = (first.0, are_both setup (after_event setup world e) before later first.1 more)

-- rounds are events, and lead to a world in which nothing is enabled
pub record AreLast (setup : Setup) (world : World) (events : List Event) : Type 0 where
  pub are : AreEvents setup world events
  pub still : IsStill setup (after_events setup world events)

abbrev pub all_of : List (List Event) → List Event
all_of rounds = flat_map (λ (events : List Event). events) rounds

pub last_round : (setup : Setup) (world : World) (rounds : List (List Event)) → AreRounds setup world rounds → AreLast setup world (all_of rounds)
last_round setup world [] are = absurd are
last_round setup world (events ∷ []) are =
    let idle = are_idle setup world events are.0.are are.1 in
    subst (AreLast setup world) (sym (append-nil events)) (record {
      are = are.0.are;
      still = subst (IsStill setup) (sym idle.same) (still_round setup world events are.0 idle);
    })
last_round setup world (events ∷ next ∷ more) are =
    let later = last_round setup (after_events setup world events) (next ∷ more) are.2 in
    record {
      are = are_both setup world events (all_of (next ∷ more)) are.0.are later.are;
      still = subst (IsStill setup) (sym (world_after-append setup world events (all_of (next ∷ more)))) later.still;
    }
