-- What a worker leaves, however its service ended.
use Rattle.std.proofs.Common.{◌≡◌, ℕ, List, [], ◌++◌, Option, None, Some, append-nil, ap, sym, ◌∙◌}
use Rattle.std.specs.Prelude.{All, IfSome, slice_index_or}
use Rattle.std.proofs.lemmas.List.Elements.{All-append}
use Rattle.nr_model.specs.Bytes.{Bytes, IsBeginningOf}
use Rattle.nr_model.specs.Connections.{Setup}
use Rattle.nr_log_end.specs.declared.standing.Standing.{Standing}
use Rattle.nr_service.specs.Pollers.{Parting}
use Rattle.nr_service.specs.Endings.{ByEnding, RanOut}
use Rattle.nr_service.specs.Serving.{IsLeft, IsServed, IsServing, connection}
use Rattle.nr_service.specs.Stories.{Kept, Story, bytes_fed, bytes_handed}
use Rattle.nr_service.specs.Streams.{Course}
use Rattle.nr_service.specs.declared.client.Client.{Client}
use Rattle.nr_service.specs.declared.ended.Ended.{Ended}
use Rattle.nr_service.specs.declared.ended.Ended.TheVariants as endings
use Rattle.nr_service.specs.declared.service.Service.{Service}
use Rattle.nr_worker_service.specs.Serving.{WorkerBackendState}
use Rattle.nr_worker_service.specs.Led.{HasLedTo, size_of}
use Rattle.nr_crew.specs.Left.{AreServedWhole, IsAnswered, IsServedWhole}

-- who is served was fed a beginning of what its stream received, and was sent one of what was handed out
fed_front : (o : Option Bytes) (fed : Bytes) → IfSome o (λ bytes. bytes ≡ fed) → IfSome o (λ bytes. IsBeginningOf fed bytes)
fed_front None fed is = tt
fed_front (Some bytes) fed is = ([], append-nil fed ∙ sym is)

sent_front : (o : Option Bytes) (handed kept : Bytes) → IfSome o (λ bytes. handed ≡ bytes ++ kept) → IfSome o (λ bytes. IsBeginningOf bytes handed)
sent_front None handed kept is = tt
sent_front (Some bytes) handed kept is = (kept, sym is)

module _ {S D M : Type 0} (was_received was_sent : S → Option Bytes) (course : S → Option Course) (gives : M → M → Option ℕ → Type 0)
    (keeps : WorkerBackendState → Kept) (parted : D → Option (List (Parting S))) (first : M) (setup : Setup) (service : Service WorkerBackendState S D M) where
  is_left_one : (story : Story) (client : Client S) → IsServed was_received was_sent course (keeps service.answers) story client
      → IsLeft was_received was_sent story client
  is_left_one story client s = record {
    received = fed_front (was_received client.stream) (bytes_fed (connection client) story) s.received;
    sent = sent_front (was_sent client.stream) (bytes_handed (connection client) story) s.pending s.sent;
  }

  -- what is left behind a turn, and that each that is there was served whole
  abbrev IsRemaining : Ended → Type 0
  IsRemaining ended =
      (r : RanOut was_received was_sent gives HasLedTo parted first setup service) × AreServedWhole was_received was_sent r.story ended service.clients.items

  ran_out : IsServing was_received was_sent course gives HasLedTo keeps parted first setup service
      → (r : RanOut was_received was_sent gives HasLedTo parted first setup service) × All (IsServedWhole was_received was_sent r.story) service.clients.items
  ran_out s =
      let r : RanOut was_received was_sent gives HasLedTo parted first setup service = record {
        story = s.story;
        gone = s.gone;
        sized = s.sized;
        known = s.served.past;
        left = All-append (IsLeft was_received was_sent s.story) s.gone service.clients.items s.left
            (λ k d within. is_left_one s.story (slice_index_or service.clients.items k d) (s.served.each k d within));
        given_back = s.given_back;
        opened = s.opened;
        apart = s.apart;
        in_time = s.in_time;
      } in (
        r,
        λ k d within.
            let c = s.served.each k d within in
            record { kept = c.pending; received = c.received; sent = c.sent },
      )

  -- its clients are left, in any case
  pub is_left : (ended : Ended) → ByEnding ended (IsServing was_received was_sent course gives HasLedTo keeps parted first setup service)
      (RanOut was_received was_sent gives HasLedTo parted first setup service) → IsRemaining ended
  is_left endings.Stopped s = ran_out s
  is_left (endings.Memory memory) r = (r, tt)
  is_left endings.Down r = (r, tt)
  is_left endings.Device s = ran_out s

-- so it was answered
pub is_answered : {S D M : Type 0} (was_received was_sent : S → Option Bytes) (gives : M → M → Option ℕ → Type 0) (parted : D → Option (List (Parting S)))
    (first : M) (node number : ℕ) (service : Service WorkerBackendState S D M) (ended : Ended) (mark : Option Standing) → mark ≡ service.answers.desk.mark
    → (r : RanOut was_received was_sent gives HasLedTo parted first (size_of node number) service)
    → AreServedWhole was_received was_sent r.story ended service.clients.items
    → IsAnswered was_received was_sent gives (parted service.device) node number ended mark service.clients.items
is_answered was_received was_sent gives parted first node number service ended mark is r whole = record {
  worker = r.known.worker;
  led = r.known.led;
  node_is = ap (λ (s : Setup). s.nodes) (sym r.known.sized ∙ r.sized);
  number_is = ap (λ (s : Setup). s.workers) (sym r.known.sized ∙ r.sized);
  marked = r.known.reflects.mark ∙ sym is;
  served = record {
    story = r.story;
    gone = r.gone;
    first = first;
    tells = r.known.tells;
    earlier = r.known.earlier;
    left = r.left;
    whole = whole;
    opened = r.opened;
    apart = r.apart;
    given_back = r.given_back;
    in_time = record { last = service.clock; now = service.moment; by_clock = r.in_time };
  };
}
