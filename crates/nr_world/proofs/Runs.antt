-- A run of steps, one after the other.
use Rattle.std.proofs.Common.{◌≡◌, List, [], ◌∷◌, ◌++◌, map, ◌<◌, ◌+◌, ◌∙◌, ℕ, length, get_or, take, refl, sym, ap, subst, Option, None}
use Rattle.nr_model.specs.Connections as traffic
use Rattle.nr_model.specs.Nodes as nodes
use Rattle.nr_model.specs.Nodes.Steps as steps
use Rattle.nr_model.specs.Nodes.Pasts.{Event, IsPast, after_event}
use Rattle.nr_model.proofs.NodesExplained.{nodes_are_explained}
use Rattle.nr_world.specs.declared.step.Happened.{Happened}
use Rattle.std.proofs.lemmas.List.{take_more, map-append}
use Rattle.nr_world.specs.declared.step.Step.{Step}
use Rattle.nr_world.specs.Seen.{step_seen, outcome_seen, handed_seen, answer_seen}
use Rattle.nr_world.specs.WorldState.{WorldState, Shows}
use Rattle.nr_world.specs.Taken.{Takes, Steps}
use Rattle.nr_world.specs.declared.step.StepOutcome.{StepOutcome}
use Rattle.nr_world.specs.declared.step.Answered.{Answered}
use Rattle.nr_world.specs.Ran.{IsOf, AreOf, HasRun}
use Rattle.nr_world.proofs.Shown.{past_on}
use Rattle.std.specs.Prelude.{option_map}

-- what a run keeps from step to step
pub record IsOn (setup : traffic.Setup) (path : List steps.Step) (happened : List Happened) (v : WorldState) : Type 0 where
  pub events : List Event
  pub world : nodes.World
  pub are : AreOf path happened events
  pub past : IsPast setup events world
  pub shows : Shows v world

of_more : (path : List steps.Step) (happened : List Happened) (events : List Event) (step : steps.Step) (came : Happened) (e : Event)
    → AreOf path happened events → IsOf step came e → AreOf (path ++ step ∷ []) (happened ++ came ∷ []) (events ++ e ∷ [])
of_more [] [] [] step came e are is = (is, tt)
of_more [] [] (d ∷ events) step came e are is = absurd are
of_more [] (h ∷ more) events step came e are is = absurd are
of_more (s ∷ path) [] events step came e are is = absurd are
of_more (s ∷ path) (h ∷ more) [] step came e are is = absurd are
of_more (s ∷ path) (h ∷ more) (d ∷ events) step came e are is = (are.0, of_more path more events step came e are.1 is)

pub none_run : (setup : traffic.Setup) (v : WorldState) → Shows v (nodes.fresh setup) → IsOn setup [] [] v
none_run setup v s = record { events = []; world = nodes.fresh setup; are = tt; past = (tt, refl); shows = s }

pub one_run : (setup : traffic.Setup) (path : List steps.Step) (happened : List Happened) (v w : WorldState) (step : steps.Step) (came : Happened)
    → IsOn setup path happened v → v.setup ≡ setup
    → Takes v w step (outcome_seen came.outcome) (map handed_seen came.handed.items) (option_map answer_seen came.answer)
    → IsOn setup (path ++ step ∷ []) (happened ++ came ∷ []) w
one_run setup path happened v w step came on same takes =
    let past = subst (λ (s : traffic.Setup). IsPast s on.events on.world) (sym same) on.past in
    let t = takes.taken on.events on.world past on.shows in
    let e : Event = record {
      step = step;
      outcome = outcome_seen came.outcome;
      handed = map handed_seen came.handed.items;
      answer = option_map answer_seen came.answer;
      refused = t.refused;
    } in
    record {
      events = on.events ++ e ∷ [];
      world = after_event v.setup on.world e;
      are = of_more path happened on.events step came e on.are (record { step_is = refl; outcome_is = refl; handed_is = refl; answer_is = refl });
      past = subst (λ (s : traffic.Setup). IsPast s (on.events ++ e ∷ []) (after_event v.setup on.world e)) same (past_on v.setup on.events on.world e past t.event);
      shows = t.shows;
    }

pub all_run : (setup : traffic.Setup) (path : List steps.Step) (happened : List Happened) (v : WorldState) → IsOn setup path happened v → HasRun setup path happened v
all_run setup path happened v on =
    record {
      events = on.events;
      world = on.world;
      are = on.are;
      past = on.past;
      shows = on.shows;
      explains = nodes_are_explained.explained setup on.events on.world on.past;
    }

-- a step that handed out nothing and took no answer
pub plain_takes : (v w : WorldState) (step : steps.Step) (outcome : StepOutcome) (happened : Happened) → Steps v w step (outcome_seen outcome)
    → happened.outcome ≡ outcome → map handed_seen happened.handed.items ≡ [] → happened.answer ≡ None
    → Takes v w step (outcome_seen happened.outcome) (map handed_seen happened.handed.items) (option_map answer_seen happened.answer)
plain_takes v w step outcome happened takes is none unanswered =
    let shown : Takes v w step (outcome_seen outcome) [] None = takes in
    subst (λ (o : StepOutcome). Takes v w step (outcome_seen o) (map handed_seen happened.handed.items) (option_map answer_seen happened.answer)) (sym is)
    (subst (λ (hs : List traffic.Handed). Takes v w step (outcome_seen outcome) hs (option_map answer_seen happened.answer)) (sym none)
    (subst (λ (a : Option Answered). Takes v w step (outcome_seen outcome) [] (option_map answer_seen a)) (sym unanswered) shown))

-- one of them more
pub run_further : (setup : traffic.Setup) (all : List Step) (i : ℕ) (x : Step) (happened new : List Happened) (v w : WorldState) (came : Happened)
    → i < length all → x ≡ get_or all i x → IsOn setup (map step_seen (take i all)) happened v → v.setup ≡ setup
    → Takes v w (step_seen x) (outcome_seen came.outcome) (map handed_seen came.handed.items) (option_map answer_seen came.answer)
    → new ≡ happened ++ came ∷ [] → IsOn setup (map step_seen (take (i + 1) all)) new w
run_further setup all i x happened new v w came below is on same takes grown =
    let more : map step_seen (take (i + 1) all) ≡ map step_seen (take i all) ++ step_seen x ∷ [] =
    ap (map step_seen) (take_more all i x below) ∙ map-append step_seen (take i all) (get_or all i x ∷ [])
    ∙ ap (λ (y : Step). map step_seen (take i all) ++ step_seen y ∷ []) (sym is) in
    subst (λ (path : List steps.Step). IsOn setup path new w) (sym more)
    (subst (λ (h : List Happened). IsOn setup (map step_seen (take i all) ++ step_seen x ∷ []) h w) (sym grown)
    (one_run setup (map step_seen (take i all)) happened v w (step_seen x) came on same takes))
