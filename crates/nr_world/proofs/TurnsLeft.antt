-- What turns of a node leave: each that does something leaves less of the log to pass, so they end.
use Rattle.std.proofs.Common.{◌≡◌, ℕ, suc, ◌+◌, ◌-◌, ◌*◌, ◌<◌, Bool, true, false, not, cond, List, [], ◌∷◌, length, get_or, map, refl, ap, sym, ◌∙◌, subst, arith}
use Rattle.std.specs.Prelude.{◌||◌}
use Rattle.std.specs.Bool.{OnTrue}
use Rattle.std.proofs.lemmas.Bool.{not-false, ltb-true}
use Rattle.std.proofs.lemmas.List.{length-drop}
use Rattle.nr_model.specs.Connections.{Setup}
use Rattle.nr_model.specs.Nodes.{Node, World, no_node, node_at, log_of, tail_of}
use Rattle.nr_model.specs.Nodes.Steps.{Step, Fetch, Apply, Done, Refused, is_node, outcome, came_to, advanced, after_step}
use Rattle.nr_model.specs.declared.reason.Reason.TheVariants.{NoSuch, Busy, Nothing}
use Rattle.nr_model.specs.Nodes.Pasts.{Event, AreEvents, is_done, after_event}
use Rattle.nr_model.specs.Nodes.Settling.{does, after_events}
use Rattle.nr_model.proofs.NodesSteps.{AreSized, each_sized, node_here, step_sized}
use Rattle.nr_model.proofs.NodesOwnPlaces.{ArePlaced, each_placed}
use Rattle.nr_model.proofs.NodesOwnAdvance.{advanced_passed, advanced_free}
use Rattle.nr_model.proofs.NodesRoundsLeft.{by_outcome}
use Rattle.nr_model.proofs.NodesRoundsRuns.{done_tells}
use Rattle.nr_model.proofs.NodesRoundsApplied.{idle_still}
use Rattle.nr_world.specs.WorldState.{WorldState, Shows}
use Rattle.nr_world.specs.Whole.{IsHeld}
use Rattle.nr_world.specs.Logs.{log_seen}
use Rattle.nr_world.specs.Rounds.{RunsBy, left_to_pass, turns_left}

-- so it is in a world
abbrev left_in_world : ℕ → World → ℕ
left_in_world n world = left_to_pass (tail_of world) (node_at n world)

-- a node is there where a step of it is done
there : (setup : Setup) (n : ℕ) (world : World) → AreSized setup world → not (is_node setup n) ≡ false → n < length world.nodes
there setup n world sized here =
    let many = sized.nodes in
    let below : n < setup.nodes = ltb-true n setup.nodes (not-false (is_node setup n) here) in
    omega arith

apply_leaves : (setup : Setup) (n : ℕ) (world : World) (refused : Refused) → AreSized setup world → ArePlaced world
    → is_done (outcome setup world (Apply n)) ≡ true → left_in_world n (after_step setup world (Apply n) refused) < left_in_world n world
apply_leaves setup n world refused sized placed done =
    let node = node_at n world in
    let log = log_of world.taken in
    let tail = tail_of world in
    let next = advanced refused n log node in
    let first = done_tells (not (is_node setup n)) NoSuch _ done in
    let held : node.fetched ≡ true = not-false node.fetched (done_tells (not node.fetched) Nothing Done first.1).0 in
    let here = there setup n world sized first.0 in
    let below : node.passed < tail = (placed n here).held held in
    let passed : next.passed ≡ suc node.passed = advanced_passed refused n log node in
    let free : next.fetched ≡ false = advanced_free refused n log node in
    let before : left_to_pass tail node ≡ 2 * (tail - node.passed) + 0 = ap (λ (b : Bool). 2 * (tail - node.passed) + cond b 0 1) held in
    let after : left_to_pass tail next ≡ 2 * (tail - suc node.passed) + 1 = λ i. 2 * (tail - passed i) + cond (free i) 0 1 in
    let less : left_to_pass tail next < left_to_pass tail node = omega arith in
    by_outcome (λ (w : World). left_in_world n w < left_in_world n world) (outcome setup world (Apply n)) setup world (Apply n) refused
    (λ idle. absurd (cc (idle, done)))
    (λ is. subst (λ (x : Node). left_to_pass tail x < left_to_pass tail node) (sym (node_here n next world here)) less)

fetch_leaves : (setup : Setup) (n : ℕ) (world : World) (refused : Refused) → AreSized setup world
    → is_done (outcome setup world (Fetch n)) ≡ true → left_in_world n (after_step setup world (Fetch n) refused) < left_in_world n world
fetch_leaves setup n world refused sized done =
    let node = node_at n world in
    let tail = tail_of world in
    let next : Node = record node { fetched = true } in
    let first = done_tells (not (is_node setup n)) NoSuch _ done in
    let free : node.fetched ≡ false = (done_tells node.fetched Busy _ first.1).0 in
    let here = there setup n world sized first.0 in
    let before : left_to_pass tail node ≡ 2 * (tail - node.passed) + 1 = ap (λ (b : Bool). 2 * (tail - node.passed) + cond b 0 1) free in
    let less : left_to_pass tail next < left_to_pass tail node = omega arith in
    by_outcome (λ (w : World). left_in_world n w < left_in_world n world) (outcome setup world (Fetch n)) setup world (Fetch n) refused
    (λ idle. absurd (cc (idle, done)))
    (λ is. subst (λ (x : Node). left_to_pass tail x < left_to_pass tail node) (sym (node_here n next world here)) less)

-- a step that is done leaves less, and one that is not leaves all as it is
turn_leaves : (a b : Bool) (world next last : World) (n : ℕ) → (a ≡ true → left_in_world n next < left_in_world n world) → (a ≡ false → next ≡ world)
    → (b ≡ true → left_in_world n last < left_in_world n next) → (b ≡ false → last ≡ next) → (a || (b || false)) ≡ true
    → left_in_world n last < left_in_world n world
turn_leaves true true world next last n first same second still some =
    let f = first refl in
    let s = second refl in
    omega arith
turn_leaves true false world next last n first same second still some =
    subst (λ (w : World). left_in_world n w < left_in_world n world) (sym (still refl)) (first refl)
turn_leaves false true world next last n first same second still some =
    subst (λ (w : World). left_in_world n last < left_in_world n w) (same refl) (second refl)
turn_leaves false false world next last n first same second still some = absurd (cc some)

turn_done : (setup : Setup) (world : World) (n : ℕ) (events : List Event) → AreSized setup world → ArePlaced world → AreEvents setup world events
    → map (λ (e : Event). e.step) events ≡ Apply n ∷ Fetch n ∷ [] → does events ≡ true
    → left_in_world n (after_events setup world events) < left_in_world n world
turn_done setup world n [] sized placed are made some = absurd (cc made)
turn_done setup world n (x ∷ []) sized placed are made some = absurd (cc made)
turn_done setup world n (x ∷ y ∷ []) sized placed are made some =
    let applies : x.step ≡ Apply n = cc in
    let fetches : y.step ≡ Fetch n = cc in
    let next = after_event setup world x in
    let last = after_event setup next y in
    let on : after_step setup world (Apply n) x.refused ≡ next = ap (λ (s : Step). after_step setup world s x.refused) (sym applies) in
    let more : after_step setup next (Fetch n) y.refused ≡ last = ap (λ (s : Step). after_step setup next s y.refused) (sym fetches) in
    let a : is_done x.outcome ≡ is_done (outcome setup world (Apply n)) = ap is_done are.0.outcome_is ∙ ap (λ (s : Step). is_done (came_to setup world s x.refused)) applies in
    let b : is_done y.outcome ≡ is_done (outcome setup next (Fetch n)) = ap is_done are.1.0.outcome_is ∙ ap (λ (s : Step). is_done (came_to setup next s y.refused)) fetches in
    turn_leaves (is_done x.outcome) (is_done y.outcome) world next last n
    (λ e. subst (λ (w : World). left_in_world n w < left_in_world n world) on (apply_leaves setup n world x.refused sized placed (sym a ∙ e)))
    (λ e. sym on ∙ idle_still setup world (Apply n) x.refused (sym a ∙ e))
    (λ e. subst (λ (w : World). left_in_world n w < left_in_world n next) more
    (fetch_leaves setup n next y.refused (step_sized setup world x.step x.refused sized) (sym b ∙ e)))
    (λ e. sym more ∙ idle_still setup next (Fetch n) y.refused (sym b ∙ e)) some
turn_done setup world n (x ∷ y ∷ z ∷ events) sized placed are made some = absurd (cc made)

shown_left : (n : ℕ) (v : WorldState) (world : World) → Shows v world → turns_left n v ≡ left_in_world n world
shown_left n v world shows =
    let base = shows.base in
    let long : length (log_seen v.log) ≡ tail_of world - v.log.base = ap length shows.log ∙ length-drop v.log.base (log_of world.taken) in
    let tail : v.log.base + length (log_seen v.log) ≡ tail_of world = omega arith in
    λ i. left_to_pass (tail i) (get_or (shows.nodes i) n no_node)

turn_leaves_less : (n : ℕ) (a b : WorldState) (done : Bool) → IsHeld a → RunsBy a b (Apply n ∷ Fetch n ∷ []) done → done ≡ true
    → turns_left n b < turns_left n a
turn_leaves_less n a b done held runs is =
    let r = runs.taken held.events held.world held.past held.shows in
    let world_is = held.past.1 in
    let sized = subst (AreSized a.setup) (sym world_is) (each_sized a.setup held.events) in
    let placed = subst ArePlaced (sym world_is) (each_placed a.setup held.events) in
    let less = turn_done a.setup held.world n r.events sized placed r.are r.steps_are (r.done_is ∙ is) in
    let before = shown_left n a held.world held.shows in
    let after = shown_left n b (after_events a.setup held.world r.events) r.shows in
    omega arith

pub turn_less : (n : ℕ) (w a b : WorldState) (done : Bool) → w ≡ a → (w.failed ≡ false → IsHeld w) → w.failed ≡ false
    → RunsBy a b (Apply n ∷ Fetch n ∷ []) done → OnTrue done (turns_left n b < turns_left n a)
turn_less n w a b true same held works runs = turn_leaves_less n a b true (subst IsHeld same (held works)) runs refl
turn_less n w a b false same held works runs = tt
