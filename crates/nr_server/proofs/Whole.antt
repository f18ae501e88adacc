-- What holds of a connection whose service ended without a failure.
use Rattle.std.proofs.Common.{◌≡◌, ◌<◌, ◌≤◌, List, length, Bool, true, false, not, cond, inl, inr, ◌⊎◌, [], ◌++◌, refl, sym, ap, ◌∙◌, subst, arith, append-nil}
use Rattle.std.specs.Prelude.{◌||◌, Option, Some, None, IfSome}
use Rattle.std.proofs.lemmas.Bool.{cases_Bool}
use Rattle.nr_model.specs.Bytes.{Bytes}
use Rattle.nr_model.specs.Items.{Connection}
use Rattle.nr_model.specs.Sequential.{emitted_for}
use Rattle.nr_model.specs.Connections.{Setup, fed_to}
use Rattle.nr_model.specs.Nodes.{World, node_at, client_of, sequence_of}
use Rattle.nr_model.specs.Nodes.Steps.{is_client}
use Rattle.nr_model.specs.Nodes.Pasts.{Event, IsPast}
use Rattle.nr_model.proofs.NodesSteps.{a_client, each_sized}
use Rattle.nr_model.proofs.NodesAlone.{alone_since}
use Rattle.nr_world.specs.Standing.{has_ended as takes_no_more}
use Rattle.nr_service.proofs.Known.{course_ended, course_sound}
use Rattle.nr_service.specs.declared.client.Client.{Client}
use Rattle.nr_service.specs.Serving.{connection, IsServed}
use Rattle.nr_service.specs.Stories.{Story, kept_bytes, closed_in, bytes_fed, bytes_handed}
use Rattle.nr_service.specs.declared.backend.ConnectionState.{ConnectionState}
use Rattle.nr_service.specs.declared.backend.ConnectionState.TheVariants as standings
use Rattle.nr_world_service.specs.Kept.{kept_at}
use Rattle.nr_world_service.specs.Led.{IsAtRest}
use Rattle.nr_world_service.specs.Stands.{Stands}
use Rattle.nr_world_service.specs.State.{WorldBackendState}
use Rattle.nr_server.specs.Going.{IsOver}
use Rattle.nr_server.specs.Runs.{alone, IsOver as IsAtEnd, IsWhole}
use Rattle.nr_server.proofs.Pasts.{unclosed, bytes_fed_in, bytes_handed_in, none_closed}
use Rattle.nr_service.specs.Streams.{Course}

-- a node that isn't down, and whether a connection of it takes more
up_where : (down ended : Bool) (s : ConnectionState) → s ≡ cond down standings.Down (cond ended standings.Over standings.Open)
    → (s ≡ standings.Over) ⊎ (s ≡ standings.Open) → down ≡ false
up_where true ended s is (inl e) = absurd (cc (sym e ∙ is))
up_where true ended s is (inr e) = absurd (cc (sym e ∙ is))
up_where false ended s is which = refl

over_where : (down ended : Bool) → standings.Over ≡ cond down standings.Down (cond ended standings.Over standings.Open) → ended ≡ true
over_where true ended is = absurd (cc is)
over_where false true is = refl
over_where false false is = absurd (cc is)

-- a connection that takes no more, though it is there and wasn't closed
ended_or_cut : (a e k c : Bool) → a ≡ true → k ≡ false → (not a || (e || (k || c))) ≡ true → (e ≡ true) ⊎ (c ≡ true)
ended_or_cut a true k c p q h = inl refl
ended_or_cut a false k true p q h = inr refl
ended_or_cut true false false false p q h = absurd (cc h)
ended_or_cut true false true false p q h = absurd (cc q)
ended_or_cut false false k false p q h = absurd (cc p)

-- where something is kept it is there
kept_there : (a : WorldBackendState) (world : World) (c : Connection) (pending : Bytes) → ((d : Connection) → is_client world d ≡ false → kept_at d a.taps ≡ None)
    → kept_at c a.taps ≡ Some pending → is_client world c ≡ true
kept_there a world c pending absent kept =
    elim (cases_Bool (is_client world c)) [
      | inl there ↦ there
      | inr gone ↦ absurd (cc (sym (absent c gone) ∙ kept))
    ]

-- its node is alone and never came back, so no connection is from before that
stands_since : (events : List Event) (world : World) (c : Connection) → IsPast alone events world → c.node < length world.nodes
    → (node_at c.node world).since ≤ c.serial
stands_since events world c past there =
    let many : length world.nodes ≡ 1 = ap (λ (w : World). length w.nodes) past.1 ∙ (each_sized alone events).nodes in
    let below : c.node < 1 = omega arith in
    let never : (node_at c.node world).since ≡ 0 =
    ap (λ (w : World). (node_at c.node w).since) past.1 ∙ alone_since alone events (omega arith) c.node below in
    omega arith

-- all of it was sent
all_sent : (known : Option Bytes) (handed pending all : Bytes) → pending ≡ [] → handed ≡ all → IfSome known (λ bytes. handed ≡ bytes ++ pending)
    → IfSome known (λ bytes. bytes ≡ all)
all_sent None handed pending all none same is = tt
all_sent (Some bytes) handed pending all none same is =
    sym (is ∙ ap (λ (b : Bytes). bytes ++ b) none ∙ append-nil bytes) ∙ same

all_fed : (known : Option Bytes) (fed other : Bytes) → fed ≡ other → IfSome known (λ bytes. bytes ≡ fed) → IfSome known (λ bytes. bytes ≡ other)
all_fed known fed other e is = subst (λ (b : Bytes). IfSome known (λ bytes. bytes ≡ b)) e is

pub whole : {S : Type 0} (was_received was_sent : S → Option Bytes) (course : S → Option Course) (a : WorldBackendState) (story : Story) (client : Client S)
    → story.setup ≡ alone → closed_in story.occurrences ≡ [] → (rest : IsAtRest a story)
    → IsServed was_received was_sent course (λ c. kept_at c a.taps) story client
    → IsOver (λ (b : WorldBackendState) c. kept_at c b.taps) Stands a client
    → IsWhole was_received was_sent course (connection client) rest.world client.stream
whole was_received was_sent course a story client sized calm rest served over =
    let c = connection client in
    let world = rest.world in
    let node = node_at c.node world in
    let there = kept_there a world c served.pending rest.absent served.kept in
    let none : served.pending ≡ [] = sym (ap kept_bytes served.kept) ∙ over.empty in
    let past : IsPast alone rest.events world = subst (λ (s : Setup). IsPast s rest.events world) sized rest.is.past in
    let client_is = a_client world c there in
    let shut = unclosed alone rest.events world c past client_is (none_closed story rest.events world rest.is calm) in
    let up : node.down ≡ false =
    elim over.over [
      | inl stands ↦ up_where node.down (takes_no_more world c) standings.Over (stands.works rest.works world rest.shows) (inl refl)
      | inr stands ↦ up_where node.down (takes_no_more world c) standings.Open (stands.0.works rest.works world rest.shows) (inr refl)
    ] in
    let end : IsAtEnd course c world client.stream =
    elim over.over [
      | inl stands ↦
          inr (ended_or_cut (is_client world c) (client_of c world).ended (client_of c world).closed (client_of c world).queue.cut there shut
          (over_where node.down (takes_no_more world c) (stands.works rest.works world rest.shows)))
      | inr stands ↦ inl (course_ended (course client.stream) client.is_ending client.is_broken client.is_full stands.1 served.course_is)
    ] in
    record {
      over = end;
      sound = course_sound (course client.stream) client.is_ending client.is_broken client.is_full over.sound served.course_is;
      there = there;
      up = up;
      fed = all_fed (was_received client.stream) (bytes_fed c story) (fed_to c world.fed) (bytes_fed_in story rest.events world c rest.is) served.received;
      executed = rest.settled.executed c there up (stands_since rest.events world c past client_is.there);
      sent = λ uncut.
          all_sent (was_sent client.stream) (bytes_handed c story) served.pending (emitted_for c (sequence_of world)) none
          (bytes_handed_in story rest.events world c rest.is ∙ rest.settled.handed c (there, ap not up, uncut)) served.sent;
    }
