-- What holds of a connection however its service ended.
use Rattle.std.proofs.Common.{◌≡◌, ℕ, [], ◌++◌, sym, ap, ◌∙◌, subst, append_assoc}
use Rattle.std.specs.Prelude.{Option, Some, None, IfSome}
use Rattle.nr_model.specs.Bytes.{Bytes, IsBeginningOf}
use Rattle.nr_model.specs.Sequential.{emitted_for}
use Rattle.nr_model.specs.Connections.{Setup, Feeding, fed_to, handed_to}
use Rattle.nr_model.specs.Nodes.{World, sequence_of}
use Rattle.nr_model.specs.Nodes.Pasts.{Event, IsPast, handed_in}
use Rattle.nr_model.specs.Nodes.Explained.{waiting_for}
use Rattle.nr_service.specs.declared.client.Client.{Client}
use Rattle.nr_service.specs.Serving.{connection, IsLeft}
use Rattle.nr_service.specs.Readings.{AreFedByClock}
use Rattle.nr_service.specs.Stories.{Story, fed_in, closings_in, closed_in, bytes_fed, bytes_handed}
use Rattle.nr_service.proofs.Occurrences.{no_closings}
use Rattle.nr_world_service.specs.Led.{IsOf}
use Rattle.nr_server.specs.Runs.{alone, IsBegun}
use Rattle.nr_server.proofs.Pasts.{past_explained, feedings_in, bytes_fed_in, bytes_handed_in, none_closed}
use Rattle.std.specs.Prelude.{List}

-- a beginning of a beginning
pub longer : (known : Option Bytes) (handed all : Bytes) → IsBeginningOf handed all → IfSome known (λ bytes. IsBeginningOf bytes handed)
    → IfSome known (λ bytes. IsBeginningOf bytes all)
longer None handed all more is = tt
longer (Some bytes) handed all more is =
    (is.0 ++ more.0, sym (append_assoc bytes is.0 more.0) ∙ ap (λ (b : Bytes). b ++ more.0) is.1 ∙ more.1)

-- what was fed by another name
pub fed_as : (known : Option Bytes) (fed other : Bytes) → fed ≡ other → IfSome known (λ bytes. IsBeginningOf fed bytes)
    → IfSome known (λ bytes. IsBeginningOf other bytes)
fed_as known fed other e is = subst (λ (b : Bytes). IfSome known (λ bytes. IsBeginningOf b bytes)) e is

-- what was handed out in a past is a beginning of what is emitted along its sequence
pub begins : {S M : Type 0} (was_received was_sent : S → Option Bytes) (gives : M → M → Option ℕ → Type 0) (first last : M) (now : ℕ) (story : Story)
    (events : List Event) (world : World) (client : Client S) → story.setup ≡ alone → closed_in story.occurrences ≡ [] → IsOf story events world
    → AreFedByClock gives first last now (fed_in story.occurrences) (closings_in story.occurrences) → IsLeft was_received was_sent story client
    → IsBegun was_received was_sent gives first (connection client) events world client.stream
begins was_received was_sent gives first last now story events world client sized calm is timed left =
    let c = connection client in
    let past : IsPast alone events world = subst (λ (s : Setup). IsPast s events world) sized is.past in
    let explained = past_explained alone events world past in
    let beginning = explained.accounts.beginning c in
    let handed = handed_to c (handed_in events) in
    let waits = waiting_for world c in
    let out : bytes_handed c story ≡ handed = bytes_handed_in story events world c is in
    record {
      past = past;
      explained = explained;
      unclosed = none_closed story events world is calm;
      in_time = record {
        last = last;
        now = now;
        by_clock = subst (λ (fed : List Feeding). AreFedByClock gives first last now fed []) (sym (feedings_in story events world is))
            (subst (AreFedByClock gives first last now (fed_in story.occurrences)) (no_closings story.occurrences calm) timed);
      };
      fed = fed_as (was_received client.stream) (bytes_fed c story) (fed_to c world.fed) (bytes_fed_in story events world c is) left.received;
      sent =
          longer (was_sent client.stream) (bytes_handed c story) (emitted_for c (sequence_of world))
          (waits ++ beginning.0, ap (λ (b : Bytes). b ++ (waits ++ beginning.0)) out ∙ sym (append_assoc handed waits beginning.0) ∙ beginning.1) left.sent;
    }
