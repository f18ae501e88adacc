-- The sequence that explains a past, and connections that weren't closed.
use Rattle.std.proofs.Common.{◌≡◌, List, [], ◌∷◌, map, refl, ap, sym, ◌∙◌, subst, false}
use Rattle.nr_model.specs.Items.{Connection}
use Rattle.nr_model.specs.Connections.{Setup, Closing, fed_to, handed_to}
use Rattle.nr_model.specs.Nodes.{World, sequence_of, client_of}
use Rattle.nr_model.specs.Nodes.Pasts.{Event, IsPast, handed_in}
use Rattle.nr_model.specs.Nodes.Explained.{Explains}
use Rattle.nr_model.proofs.NodesSteps.{IsClient}
use Rattle.nr_model.proofs.NodesExplained.{nodes_are_explained}
use Rattle.nr_model.proofs.NodesOwnHolds.{IsOwn, each_own}
use Rattle.nr_model.proofs.NodesOwnOwned.{is_shut}
use Rattle.nr_service.specs.Stories.{Occurrence, Story, fed_in, handed_in as pieces_in, closed_in, bytes_fed, bytes_handed}
use Rattle.nr_world_service.specs.Led.{IsOf}
use Rattle.nr_world_service.proofs.Apart.{IsApart}
use Rattle.nr_world_service.proofs.Occurred.{told_handed}
use Rattle.nr_world_service.proofs.Pasts.{past_led}

-- what was taken, in order, explains a past
pub past_explained : (setup : Setup) (events : List Event) (world : World) → IsPast setup events world → Explains (sequence_of world) setup events world
past_explained setup events world past = nodes_are_explained.explained setup events world past

-- what happened in a story is what happened by its events: its bytes are those of the world that they led to
apart_of : (story : Story) (events : List Event) (world : World) → IsOf story events world → IsApart world story.occurrences
apart_of story events world is = subst (IsApart world) is.told (past_led story.setup events world is.past).apart

pub feedings_in : (story : Story) (events : List Event) (world : World) → IsOf story events world → world.fed ≡ fed_in story.occurrences
feedings_in story events world is = (apart_of story events world is).feeds

pub bytes_fed_in : (story : Story) (events : List Event) (world : World) (c : Connection) → IsOf story events world
    → bytes_fed c story ≡ fed_to c world.fed
bytes_fed_in story events world c is = ap (fed_to c) (sym (apart_of story events world is).feeds)

pub bytes_handed_in : (story : Story) (events : List Event) (world : World) (c : Connection) → IsOf story events world
    → bytes_handed c story ≡ handed_to c (handed_in events)
bytes_handed_in story events world c is =
    ap (λ (os : List Occurrence). handed_to c (pieces_in os)) (sym is.told) ∙ ap (handed_to c) (told_handed events)

empty_by : {A B : Type 0} (f : A → B) (xs : List A) → map f xs ≡ [] → xs ≡ []
empty_by f [] none = refl
empty_by f (x ∷ xs) none = absurd (cc none)

pub none_closed : (story : Story) (events : List Event) (world : World) → IsOf story events world → closed_in story.occurrences ≡ [] → world.closed ≡ []
none_closed story events world is calm =
    empty_by (λ (closing : Closing). closing.connection) world.closed ((apart_of story events world is).closes ∙ calm)

-- a connection that is there was not closed, where none was
pub unclosed : (setup : Setup) (events : List Event) (world : World) (c : Connection) → IsPast setup events world → IsClient world c → world.closed ≡ []
    → (client_of c world).closed ≡ false
unclosed setup events world c past is none =
    let own = subst (λ (w : World). IsClient w c → IsOwn w c) (sym past.1) (each_own setup events c) is in sym own.shut ∙ ap (is_shut c) none
