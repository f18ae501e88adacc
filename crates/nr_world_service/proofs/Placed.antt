-- Where a connection was opened.
use Rattle.std.proofs.Common.{◌≡◌, ℕ, ◌+◌, ◌%◌, ◌<◌, List, [], ◌∷◌, ◌++◌, length, get_or, refl, ap, sym, ◌∙◌, subst}
use Rattle.std.specs.Prelude.{Option, Some, None, IfSome}
use Rattle.std.proofs.lemmas.List.{get_or-set_same}
use Rattle.nr_model.specs.Items.{Connection}
use Rattle.nr_model.specs.Connections.{Setup}
use Rattle.nr_model.specs.Nodes.{Client, fresh_client, Node, no_node, World, node_at, client_at, client_of}
use Rattle.nr_model.specs.Nodes.Steps.{Open, Outcome, Opened, opened, effect_by, after_step}
use Rattle.nr_model.specs.Nodes.Pasts.{IsPast}
use Rattle.nr_entry.specs.declared.conn.ConnId.{ConnId}
use Rattle.nr_entry.specs.Jobs.{connection_of}
use Rattle.nr_world.specs.WorldState.{WorldState}
use Rattle.nr_world.specs.Taken.{Steps}
use Rattle.nr_world_service.specs.State.{IsSound}
use Rattle.nr_world_service.specs.Kept.{Taps}
use Rattle.nr_world_service.specs.Stands.{takes_none}
use Rattle.nr_world_service.specs.Placing.{node_in_turn, worker_in_turn, IsPlaced, Places, StandsAt}
use Rattle.nr_world_service.proofs.Apart.{connection_at}
use Rattle.nr_world_service.proofs.Fullness.{HaveRefused}
use Rattle.nr_world_service.proofs.Occurred.{open_there, open_within}
use Rattle.nr_world_service.proofs.Pasts.{past_led}

-- the last of a list
last_is : (clients : List Client) (client d : Client) → get_or (clients ++ client ∷ []) (length clients) d ≡ client
last_is [] client d = refl
last_is (x ∷ xs) client d = last_is xs client d

-- the worker of a connection, by the nodes
abbrev worker_in : Connection → List Node → ℕ
worker_in c nodes = (client_at c.serial (get_or nodes c.node no_node)).worker

opened_worker : (setup : Setup) (world : World) (n w : ℕ) → n < length world.nodes
    → (client_of (connection_at n (length (node_at n world).clients)) (opened setup n w world)).worker ≡ w
opened_worker setup world n w there =
    let node = node_at n world in
    let count = length node.clients in
    let client = fresh_client setup.queue_limit w (connection_at n count) in
    ap (λ (x : Node). (client_at count x).worker) (get_or-set_same world.nodes n (record node { clients = node.clients ++ client ∷ [] }) no_node there)
    ∙ ap (λ (x : Client). x.worker) (last_is node.clients client (fresh_client 0 0 (record { node = 0; serial = 0 })))

pub stands_at : (old new : WorldState) (n w : ℕ) (c : Connection) → Steps old new (Open n w) (Opened c) → StandsAt old new n w c
stands_at old new n w c steps = λ events before after past shows also.
    let setup = old.setup in
    let t = steps.taken events before past shows in
    let e = t.event.outcome_is in
    let led = past_led setup events before past in
    let there = open_there setup before n w c t.refused led.many e in
    let moved : after_step setup before (Open n w) t.refused ≡ opened setup n w before =
    ap (λ (d : Outcome). effect_by d setup before (Open n w) t.refused) (sym e) in
    let same = sym also.nodes ∙ t.shows.nodes ∙ ap (λ (x : World). x.nodes) moved in (
      ap (λ (d : Connection). d.node) there.0,
      ap (worker_in c) same ∙ ap (λ (d : Connection). worker_in d (opened setup n w before).nodes) there.0
          ∙ opened_worker setup before n w (open_within setup before n w c led.many e),
    )

-- the first node in turn that took it
pub placed_at : (old middle new : WorldState) (number first w passed n : ℕ) (c : Connection) → middle.setup ≡ old.setup → HaveRefused old middle first passed
    → StandsAt middle new n w c → first ≡ number % old.setup.nodes → w ≡ worker_in_turn old.setup number → n ≡ (first + passed) % old.setup.nodes
    → passed < old.setup.nodes → Places old new number c
placed_at old middle new number first w passed n c same so_far stands is_first is_worker_of is_node below = λ events before after past shows also.
    let setup = old.setup in
    let at = stands events before after (subst (λ (s : Setup). IsPast s events before) (sym same) past) (so_far.shows events before past shows) also in
    record {
      passed = passed;
      within = below;
      full = λ i inside.
          (λ j. takes_none setup (node_at ((sym is_first j + i) % setup.nodes) before)) ∙ so_far.each events before past shows i inside;
      node = at.0 ∙ is_node ∙ ap (λ (k : ℕ). (k + passed) % setup.nodes) is_first;
      worker = at.1 ∙ is_worker_of;
    }

pub placed_where : (old middle new : WorldState) (number first w passed n : ℕ) (conn : Option ConnId) → middle.setup ≡ old.setup
    → HaveRefused old middle first passed → IfSome conn (λ (c : ConnId). StandsAt middle new n w (connection_of c))
    → first ≡ number % old.setup.nodes → w ≡ worker_in_turn old.setup number → n ≡ (first + passed) % old.setup.nodes
    → passed < old.setup.nodes → IfSome conn (λ (c : ConnId). Places old new number (connection_of c))
placed_where old middle new number first w passed n None same so_far stands is_first is_worker_of is_node below = tt
placed_where old middle new number first w passed n (Some conn) same so_far stands is_first is_worker_of is_node below =
    placed_at old middle new number first w passed n (connection_of conn) same so_far stands is_first is_worker_of is_node below

-- in all worlds that are shown
pub placed_told : (old new : WorldState) (taps : Taps) (number : ℕ) (conn : Option ConnId) → IsSound old taps
    → IfSome conn (λ (c : ConnId). Places old new number (connection_of c)) → IfSome conn (λ (c : ConnId). IsPlaced old new number (connection_of c))
placed_told old new taps number None sound places = tt
placed_told old new taps number (Some conn) sound places = λ before after shows also.
    let p = places sound.events sound.shown after sound.past sound.shows also in
    let same = sym shows.nodes ∙ sound.shows.nodes in
    record {
      passed = p.passed;
      within = p.within;
      full = λ i inside. ap (λ (nodes : List Node). takes_none old.setup (get_or nodes (node_in_turn old.setup number i) no_node)) same ∙ p.full i inside;
      node = p.node;
      worker = p.worker;
    }
