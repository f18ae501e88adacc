-- A change of one node is a change of the world that is shown.
use Rattle.std.proofs.Common.{◌≡◌, ℕ, zero, suc, ◌+◌, ◌-◌, ◌<◌, ◌≤◌, ◌^◌, inl, inr, List, [], ◌∷◌, ◌++◌, length, map, drop, get_or, set, refl, ap, sym, ◌∙◌, subst, arith, None, Option}
use Rattle.std.specs.Prelude.{fold}
use Rattle.std.proofs.lemmas.Bool.Decides.{eqb_tells}
use Rattle.std.proofs.lemmas.List.{length-map, length-set, length-drop, get_or-set_same, get_or-set_other}
use Rattle.nr_model.specs.Connections as traffic
use Rattle.nr_model.specs.Nodes as nodes
use Rattle.nr_model.specs.Nodes.Steps as steps
use Rattle.nr_model.specs.Nodes.Pasts.{Answering, Event, IsEvent, IsPast, AreEvents, AreRefused, after_event, handed_by, answer_by}
use Rattle.nr_model.proofs.NodesSteps.{world_after-append, came_plainly}
use Rattle.nr_world.specs.declared.node.WorldNode.{WorldNode}
use Rattle.nr_model.specs.declared.reason.Reason.{Reason}
use Rattle.nr_world.specs.Served.{node_seen}
use Rattle.nr_world.specs.Logs.{log_seen}
use Rattle.nr_world.specs.WorldState.{WorldState, Shows}
use Rattle.nr_world.specs.Whole.{IsWhole, AreWhole, IsHeld}
use Rattle.nr_world.specs.Taken.{Takes, Steps}
use Rattle.nr_world.proofs.Refusing.{nothing_is_refused}

-- of a list of nodes, what is seen of one, and what is seen where another stands in its place
pub seen_at : (xs : List WorldNode) (n : ℕ) (d : WorldNode) (e : nodes.Node) → n < length xs → get_or (map node_seen xs) n e ≡ node_seen (get_or xs n d)
seen_at [] n d e h = absurd (omega arith)
seen_at (x ∷ xs) zero d e h = refl
seen_at (x ∷ xs) (suc n) d e h = seen_at xs n d e (omega arith)

pub seen_set : (xs : List WorldNode) (n : ℕ) (x : WorldNode) → map node_seen (set xs n x) ≡ set (map node_seen xs) n (node_seen x)
seen_set [] n x = refl
seen_set (y ∷ xs) zero x = refl
seen_set (y ∷ xs) (suc n) x = ap (λ more. node_seen y ∷ more) (seen_set xs n x)

-- how many nodes a world has that is shown, how long its log is, and a node of it
pub nodes_many : (v : WorldState) (world : nodes.World) → Shows v world → length v.nodes ≡ length world.nodes
nodes_many v world s = sym (length-map v.nodes node_seen) ∙ ap length s.nodes

pub tail_is : (v : WorldState) (world : nodes.World) → Shows v world → v.log.base + length (log_seen v.log) ≡ nodes.tail_of world
tail_is v world s =
    let e : length (log_seen v.log) ≡ nodes.tail_of world - v.log.base = ap length s.log ∙ length-drop v.log.base (nodes.log_of world.taken) in
    let below = s.base in
    omega arith

pub node_is : (v : WorldState) (world : nodes.World) (n : ℕ) (d : WorldNode) → Shows v world → n < length v.nodes → nodes.node_at n world ≡ node_seen (get_or v.nodes n d)
node_is v world n d s h = ap (λ (xs : List nodes.Node). get_or xs n nodes.no_node) (sym s.nodes) ∙ seen_at v.nodes n d nodes.no_node h

-- Another node in its place, which has passed no fewer entries: the world is shown that has it there, with the same log.
pub shows_changed : (v : WorldState) (world after : nodes.World) (n : ℕ) (x : WorldNode) (node : nodes.Node) → Shows v world → n < length v.nodes → node_seen x ≡ node
    → after.nodes ≡ set world.nodes n node → nodes.log_of after.taken ≡ nodes.log_of world.taken → v.log.base ≤ node.passed
    → Shows (record v { nodes = set v.nodes n x }) after
shows_changed v world after n x node s there seen nodes_are taken passed = record {
  still = s.still;
  nodes = seen_set v.nodes n x ∙ (λ i. set (s.nodes i) n (seen i)) ∙ sym nodes_are;
  log = s.log ∙ ap (drop v.log.base) (sym taken);
  base = subst (λ (k : ℕ). v.log.base ≤ k) (ap length (sym taken)) s.base;
  passed = λ m here.
      let many = nodes_many v world s in
      let long : length (set world.nodes n node) ≡ length world.nodes = length-set world.nodes n node in
      let also : length after.nodes ≡ length (set world.nodes n node) = ap length nodes_are in
      let at : get_or after.nodes m nodes.no_node ≡ get_or (set world.nodes n node) m nodes.no_node = ap (λ (xs : List nodes.Node). get_or xs m nodes.no_node) nodes_are in
      elim (eqb_tells m n) [
        | inl same ↦
            let is : get_or (set world.nodes n node) m nodes.no_node ≡ node = ap (λ k. get_or (set world.nodes n node) k nodes.no_node) same.1 ∙ get_or-set_same world.nodes n node nodes.no_node (omega arith) in
            subst (λ (y : nodes.Node). v.log.base ≤ y.passed) (sym (at ∙ is)) passed
        | inr other ↦
            let is : get_or (set world.nodes n node) m nodes.no_node ≡ get_or world.nodes m nodes.no_node = get_or-set_other world.nodes n m node nodes.no_node other.1 in
            subst (λ (y : nodes.Node). v.log.base ≤ y.passed) (sym (at ∙ is)) (s.passed m (omega arith))
      ];
}

-- each of whole nodes, and another whole one in its place
pub whole_at : (xs : List WorldNode) (first n : ℕ) (d : WorldNode) → n < length xs → AreWhole first xs → IsWhole (first + n) (get_or xs n d)
whole_at [] first n d h w = absurd (omega arith)
whole_at (x ∷ xs) first zero d h (w, ws) = subst (λ k. IsWhole k x) (let e : first ≡ first + 0 = omega arith in e) w
whole_at (x ∷ xs) first (suc n) d h (w, ws) =
    subst (λ k. IsWhole k (get_or xs n d)) (let e : suc first + n ≡ first + suc n = omega arith in e) (whole_at xs (suc first) n d (omega arith) ws)

pub whole_set : (xs : List WorldNode) (first n : ℕ) (x : WorldNode) → IsWhole (first + n) x → AreWhole first xs → AreWhole first (set xs n x)
whole_set [] first n x w ws = tt
whole_set (y ∷ xs) first zero x w (v, vs) = (subst (λ k. IsWhole k x) (let e : first + 0 ≡ first = omega arith in e) w, vs)
whole_set (y ∷ xs) first (suc n) x w (v, vs) =
    (v, whole_set xs (suc first) n x (subst (λ k. IsWhole k x) (let e : first + suc n ≡ suc first + n = omega arith in e) w) vs)

-- one event more is a past of the world behind it
events_on : (setup : traffic.Setup) (world : nodes.World) (before : List Event) (e : Event) → AreEvents setup world before
    → IsEvent setup (fold (after_event setup) world before) e → AreEvents setup world (before ++ e ∷ [])
events_on setup world [] e are is = (is, tt)
events_on setup world (d ∷ before) e are is = (are.0, events_on setup (after_event setup world d) before e are.1 is)

pub past_on : (setup : traffic.Setup) (events : List Event) (world : nodes.World) (e : Event) → IsPast setup events world → IsEvent setup world e
    → IsPast setup (events ++ e ∷ []) (after_event setup world e)
past_on setup events world e past is = (
  events_on setup (nodes.fresh setup) events e past.0 (subst (λ (w : nodes.World). IsEvent setup w e) past.1 is),
  ap (λ (w : nodes.World). after_event setup w e) past.1 ∙ sym (world_after-append setup (nodes.fresh setup) events (e ∷ [])),
)

-- A step that was taken by a world that is held leaves one that is held, where its nodes are whole and its numbers fit.
pub held_on : (old new : WorldState) (step : steps.Step) (outcome : steps.Outcome) (handed : List traffic.Handed) (answer : Option Answering)
    → IsHeld old → Takes old new step outcome handed answer → AreWhole 0 new.nodes → new.log.base + length (log_seen new.log) < 2 ^ 64 → IsHeld new
held_on old new step outcome handed answer held takes whole fits =
    let t = takes.taken held.events held.world held.past held.shows in
    let e : Event = record { step = step; outcome = outcome; handed = handed; answer = answer; refused = t.refused } in
    record {
      events = held.events ++ e ∷ [];
      world = after_event old.setup held.world e;
      past = subst (λ (s : traffic.Setup). IsPast s (held.events ++ e ∷ []) (after_event old.setup held.world e)) (sym takes.setup)
          (past_on old.setup held.events held.world e held.past t.event);
      shows = t.shows;
      whole = whole;
      fits = fits;
    }

-- A step that did nothing, for the first reason that holds.
pub takes_nothing : (v : WorldState) (step : steps.Step) (reason : Reason)
    → ((events : List Event) (world : nodes.World) → IsPast v.setup events world → Shows v world → steps.outcome v.setup world step ≡ steps.Idle reason)
    → Steps v v step (steps.Idle reason)
takes_nothing v step reason is = record {
  setup = refl;
  taken = λ events world past s.
      let e = came_plainly v.setup world step ∙ is events world past s in
      record {
        refused = steps.nothing_refused;
        event = record { outcome_is = sym e; handed_is = refl; answer_is = refl; refused_are = nothing_is_refused world step (steps.Idle reason) };
        shows = subst (λ (o : steps.Outcome). Shows v (steps.effect_by o v.setup world step steps.nothing_refused)) (sym e) s;
      };
}

-- A step that was done, and hands out nothing: of its effect on the world.
pub takes_done : (old new : WorldState) (step : steps.Step) → new.setup ≡ old.setup
    → ((world : nodes.World) → handed_by world step ≡ []) → ((world : nodes.World) → answer_by world step ≡ None)
    → ((events : List Event) (world : nodes.World) → IsPast old.setup events world → Shows old world
    → (refused : steps.Refused) × AreRefused world step steps.Done refused × (steps.came_to old.setup world step refused ≡ steps.Done)
    × Shows new (steps.effect old.setup world step refused))
    → Steps old new step steps.Done
takes_done old new step same none unanswered is = record {
  setup = same;
  taken = λ events world past s.
      let t = is events world past s in
      record {
        refused = t.0;
        event = record { outcome_is = sym t.2; handed_is = sym (none world); answer_is = sym (unanswered world); refused_are = t.1 };
        shows = subst (λ (o : steps.Outcome). Shows new (steps.effect_by o old.setup world step t.0)) (sym t.2) t.3;
      };
}
