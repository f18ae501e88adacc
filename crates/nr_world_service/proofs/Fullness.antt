-- Node by node: none has room for one more connection.
use Rattle.std.proofs.Common.{◌≡◌, ℕ, ◌+◌, ◌-◌, ◌%◌, ◌<◌, ◌≤◌, true, inl, inr, List, length, get_or, ap, sym, ◌∙◌, subst, arith, ltb}
use Rattle.std.specs.List.{list_all}
use Rattle.std.proofs.lemmas.Bool.{cases_Bool, and_parts, and_from, lt-ltb, ltb-true, ltb-false}
use Rattle.std.proofs.Math.Nat.{mod-eq_of_lt, mod-lt, add-mod_right}
use Rattle.nr_model.specs.Connections.{Setup}
use Rattle.nr_model.specs.Nodes.{World, no_node, node_at}
use Rattle.nr_model.specs.Nodes.Steps.{is_worker}
use Rattle.nr_model.specs.Nodes.Pasts.{Event, IsPast}
use Rattle.nr_world.specs.WorldState.{WorldState, Shows}
use Rattle.nr_world_service.specs.Moves.{Refuses, FindsFull}
use Rattle.nr_world_service.specs.Stands.{takes_none}
use Rattle.nr_world_service.proofs.Pasts.{past_led}
use Rattle.nr_world_service.proofs.Downs.{all_by}

-- Nothing moved, and of the nodes in turn, from this one on, so many took none.
pub record HaveRefused (old new : WorldState) (first passed : ℕ) : Type 0 where
  pub shows : (events : List Event) (world : World) → IsPast old.setup events world → Shows old world → Shows new world
  pub each : (events : List Event) (world : World) → IsPast old.setup events world → Shows old world → (i : ℕ) → i < passed
      → takes_none old.setup (node_at ((first + i) % old.setup.nodes) world) ≡ true

pub none_refused : (v : WorldState) (first : ℕ) → HaveRefused v v first 0
none_refused v first = record {
  shows = λ events world past shows. shows;
  each = λ events world past shows i below. absurd (omega arith);
}

pub refused_more : (old middle new : WorldState) (first passed w : ℕ) → middle.setup ≡ old.setup → HaveRefused old middle first passed
    → Refuses middle new ((first + passed) % old.setup.nodes) w → is_worker old.setup ((first + passed) % old.setup.nodes) w ≡ true
    → HaveRefused old new first (passed + 1)
refused_more old middle new first passed w same so_far refuses there =
    let past_of : (events : List Event) (world : World) → IsPast old.setup events world → IsPast middle.setup events world =
    λ events world past. subst (λ (s : Setup). IsPast s events world) (sym same) past in
    record {
      shows = λ events world past shows. refuses.shows events world (past_of events world past) (so_far.shows events world past shows);
      each = λ events world past shows i below.
          elim (cases_Bool (ltb i passed)) [
            | inl e ↦ so_far.each events world past shows i (ltb-true i passed e)
            | inr e ↦
                let after : passed ≤ i = ltb-false i passed e in
                let is : passed ≡ i = omega arith in
                let full = refuses.full events world (past_of events world past) (so_far.shows events world past shows)
                (ap (λ (s : Setup). is_worker s ((first + passed) % old.setup.nodes) w) same ∙ there) in
                (λ j. takes_none (sym same j) (node_at ((first + sym is j) % old.setup.nodes) world)) ∙ full
          ];
    }

-- the node of a number is there, with such a worker
pub first_there : (setup : Setup) (number w : ℕ) → 1 ≤ setup.nodes → w < setup.workers → is_worker setup (number % setup.nodes) w ≡ true
first_there setup number w some within =
    and_from (ltb (number % setup.nodes) setup.nodes) (ltb w setup.workers) (lt-ltb (number % setup.nodes) setup.nodes (mod-lt number some))
    (lt-ltb w setup.workers within)

-- the next node in turn is there
pub turn_there : (setup : Setup) (first passed w : ℕ) → is_worker setup first w ≡ true → is_worker setup ((first + passed) % setup.nodes) w ≡ true
turn_there setup first passed w there =
    let both = and_parts (ltb first setup.nodes) (ltb w setup.workers) there in
    let below : first < setup.nodes = ltb-true first setup.nodes both.0 in
    let some : 0 < setup.nodes = omega arith in
    and_from (ltb ((first + passed) % setup.nodes) setup.nodes) (ltb w setup.workers)
    (lt-ltb ((first + passed) % setup.nodes) setup.nodes (mod-lt (first + passed) some)) both.1

-- in turn all nodes were asked
each_takes_none : (setup : Setup) (world : World) (first n : ℕ) → first < setup.nodes → n < setup.nodes
    → ((i : ℕ) → i < setup.nodes → takes_none setup (node_at ((first + i) % setup.nodes) world) ≡ true) → takes_none setup (node_at n world) ≡ true
each_takes_none setup world first n below here each =
    let own = mod-eq_of_lt here in
    elim (cases_Bool (ltb n first)) [
      | inl e ↦
          let before : n < first = ltb-true n first e in
          let i : ℕ = n + setup.nodes - first in
          let at : first + i ≡ n + setup.nodes = omega arith in
          let is : (first + i) % setup.nodes ≡ n = ap (λ (k : ℕ). k % setup.nodes) at ∙ add-mod_right n setup.nodes ∙ own in
          ap (λ (k : ℕ). takes_none setup (node_at k world)) (sym is) ∙ each i (omega arith)
      | inr e ↦
          let from : first ≤ n = ltb-false n first e in
          let i : ℕ = n - first in
          let at : first + i ≡ n = omega arith in
          let is : (first + i) % setup.nodes ≡ n = ap (λ (k : ℕ). k % setup.nodes) at ∙ own in
          ap (λ (k : ℕ). takes_none setup (node_at k world)) (sym is) ∙ each i (omega arith)
    ]

pub finds_full : (old new : WorldState) (first w passed : ℕ) → is_worker old.setup first w ≡ true → old.setup.nodes ≤ passed
    → HaveRefused old new first passed → FindsFull old
finds_full old new first w passed there all refused = λ events world past shows shown is.
    let setup = old.setup in
    let below : first < setup.nodes = ltb-true first setup.nodes (and_parts (ltb first setup.nodes) (ltb w setup.workers) there).0 in
    let many : length world.nodes ≡ setup.nodes = (past_led setup events world past).many in
    let each : (n : ℕ) → n < length world.nodes → takes_none setup (get_or world.nodes n no_node) ≡ true =
    λ n inside. each_takes_none setup world first n below (omega arith) (λ i turn. refused.each events world past shows i (omega arith)) in
    (λ j. list_all (takes_none setup) ((sym is.nodes ∙ shows.nodes) j)) ∙ all_by (takes_none setup) world.nodes each
