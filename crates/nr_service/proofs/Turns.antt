-- A service at first, and behind a turn.
use Rattle.std.proofs.Common.{◌≡◌, ℕ, Bool, true, false, List, [], ◌++◌, map, refl, sym, ap, ◌∙◌, subst, append-nil}
use Rattle.std.specs.Prelude.{Option, Some, None, All}
use Rattle.std.specs.List.{Contains, IsDistinct}
use Rattle.std.specs.List.Sorted.{IsPermutation}
use Rattle.std.proofs.lemmas.List.{map-append}
use Rattle.std.proofs.lemmas.List.Elements.{All-nil, All-append, All-weaker}
use Rattle.std.proofs.lemmas.List.Sorted.{All-permutation, IsPermutation-refl}
use Rattle.nr_model.specs.Bytes.{Bytes}
use Rattle.nr_model.specs.Items.{Connection, same_connection}
use Rattle.nr_model.specs.Connections.{Setup, Feeding}
use Rattle.nr_service.specs.Arriving.{ArrivesFew, refused}
use Rattle.nr_service.specs.Readings.{Feedings, IsFedAmong, IsFedAt, IsNeverFed, ReadsClock}
use Rattle.nr_service.specs.Serving.{connection, streams_of, AreOpened, IsApart, IsLeft, IsServed, AreServed, IsServing}
use Rattle.nr_service.specs.Leaving.{client_of, parting_of, shut_by, LetsGo}
use Rattle.nr_service.specs.Silence.{AreHeard, OpensAt}
use Rattle.nr_service.specs.Steps.{Accepts, HasServed, Exchanges}
use Rattle.nr_service.specs.Pollers.{Abandoned, AreGivenBack, Parting, stream_of}
use Rattle.nr_service.specs.declared.backend.ConnectionState.{ConnectionState}
use Rattle.nr_service.specs.declared.client.Client.{Client}
use Rattle.nr_service.specs.declared.service.Service.{Service}
use Rattle.nr_service.specs.Stories.{Closing, Story, Past, Kept, beginning, closings_in, fed_in, going_on, opened_in}
use Rattle.nr_service.proofs.Closing.{closes_fed, closes_opened, closes_timed}
use Rattle.nr_service.proofs.Left.{all_front, all_left, exchange_serves, gone_streams, left_on}
use Rattle.nr_service.proofs.Occurrences.{closings_both, closings_still, fed_both, fed_on, opened_both, opened_on, still_apart}
use Rattle.nr_service.proofs.Parted.{left_through, more_back, none_among, opened_gone, opened_more, opened_same, others_back}
use Rattle.nr_service.proofs.Served.{has_then, has_weaker}
use Rattle.nr_service.proofs.Timed.{fed_then, fed_unread, none_timed}
use Rattle.nr_service.specs.Streams.{Course}
use Rattle.nr_service.specs.Sweeps.{AreSent, LooksSoon}
use Rattle.nr_service.specs.Turns.{IsSameWorker, Turns, bounds_of, most_accepted}

-- none were given back of nobody
none_back : {S : Type 0} (known : Option (List (Parting S))) → AreGivenBack [] known
none_back None = tt
none_back (Some given) = none_among (map stream_of given)

-- no client is served yet, and the clock wasn't read
pub begun : {A S D M : Type 0} (was_received was_sent : S → Option Bytes) (course : S → Option Course) (gives : M → M → Option ℕ → Type 0)
    (is_past : A → Past) (keeps : A → Kept) (parted : D → Option (List (Parting S))) (service : Service A S D M) (answers : A) (clock : M)
    → service.clients.items ≡ [] → service.moment ≡ 0 → service.answers ≡ answers → service.clock ≡ clock → (setup : Setup)
    → is_past answers (beginning setup) → IsServing was_received was_sent course gives is_past keeps parted clock setup service
unfolding IsDistinct
begun {A} {S} was_received was_sent course gives is_past keeps parted service answers clock none zero same unread setup past = record {
  story = beginning setup;
  gone = [];
  sized = refl;
  served = subst (λ (clients : List (Client S)).
      AreServed was_received was_sent course (is_past service.answers) (keeps service.answers) (beginning setup) clients) (sym none)
      (record {
        past = subst (λ (a : A). is_past a (beginning setup)) (sym same) past;
        each = All-nil (IsServed was_received was_sent course (keeps service.answers) (beginning setup));
        apart = tt;
      });
  left = All-nil (IsLeft was_received was_sent (beginning setup));
  given_back = none_back (parted service.device);
  opened = subst (λ (clients : List (Client S)). AreOpened (beginning setup) [] clients) (sym none) (IsPermutation-refl []);
  apart = tt;
  in_time = fed_unread gives clock clock service.clock 0 service.moment [] [] [] [] refl refl (record { clock_is = unread; moment_is = zero }) (none_timed gives clock);
}

-- some were taken on, and bytes were exchanged
pub served_to : {A S : Type 0} (was_received was_sent : S → Option Bytes) (course : S → Option Course) (is_past is_settled : A → Past) (keeps : A → Kept)
    (busy : A → Bool) (now : ℕ) (a b c : A) (xs ys zs : List (Client S)) (story : Story)
    → (taken : Accepts was_received was_sent course is_past keeps a b xs ys)
    → Exchanges was_received was_sent course is_past is_settled keeps busy now b c ys zs
    → AreServed was_received was_sent course (is_past a) (keeps a) story xs
    → HasServed was_received was_sent course (IsFedAmong now (map connection ys)) (map connection taken.accepted ++ []) (is_past c) (keeps c) story zs
served_to was_received was_sent course is_past is_settled keeps busy now a b c xs ys zs story taken exchanged s =
    let allowed = IsFedAmong now (map connection ys) in
    let first = has_weaker was_received was_sent course IsNeverFed allowed (map connection taken.accepted) (is_past b) (keeps b) story ys
    (λ feeding never. absurd never) (taken.serves.further story s) in
    has_then was_received was_sent course allowed (is_past b) (is_past c) (keeps b) (keeps c) story ys zs first
    ((exchange_serves was_received was_sent course is_past is_settled keeps busy now b c ys zs exchanged).further first.next first.served)

-- so are those that left before, and nobody else was ever there
pub record GoesOn {S : Type 0} (was_received was_sent : S → Option Bytes) (story : Story) (gone clients : List (Client S)) : Type 0 where
  pub left : All (IsLeft was_received was_sent story) gone
  pub opened : AreOpened story gone clients
  pub apart : IsApart story

pub goes_to : {S : Type 0} (was_received was_sent : S → Option Bytes) (course : S → Option Course) (allowed : Feedings) (opened : List Connection)
    (is_past : Past) (kept : Kept) (story : Story) (gone old accepted taken new : List (Client S))
    → (done : HasServed was_received was_sent course allowed opened is_past kept story new)
    → opened ≡ map connection accepted → taken ≡ old ++ accepted → map connection new ≡ map connection taken
    → ((feeding : Feeding) → allowed feeding → Contains (map connection taken) feeding.connection)
    → GoesOn was_received was_sent story gone old → GoesOn was_received was_sent done.next gone new
goes_to was_received was_sent course allowed opened is_past kept story gone old accepted taken new done are items same among so_far =
    let were = opened_in story.occurrences in
    let now = opened_in done.next.occurrences in
    let more : now ≡ were ++ map connection accepted =
    opened_on story done.next done.more done.is ∙ ap (λ (l : List Connection). were ++ l) (done.opens ∙ are) in
    let all = opened_more were now gone old accepted taken so_far.opened more items in
    let apart = done.apart so_far.apart in
    record {
      left = left_through was_received was_sent story done.next done.more gone taken done.is all apart
          (All-weaker allowed (λ (feeding : Feeding). Contains (map connection taken) feeding.connection) among (fed_in done.more) done.feeds) so_far.left;
      opened = opened_same now gone taken new all same;
      apart = apart;
    }

-- some were taken on, the clock was read, bytes were exchanged at the moment behind that, and some were let go
pub turned : {A S D M : Type 0} (was_received was_sent : S → Option Bytes) (course : S → Option Course) (gives : M → M → Option ℕ → Type 0)
    (is_past is_settled : A → Past) (keeps : A → Kept) (stands : A → Connection → ConnectionState → Type 0) (busy : A → Bool)
    (is_full : A → Type 0) (is_placed : A → A → ℕ → Connection → Type 0) (is_gone : A → Connection → Type 0)
    (parted : D → Option (List (Parting S))) (waits : D → D → Bool → Bool → Type 0) (answer : Bool) (old new : Service A S D M)
    → Turns was_received was_sent course is_past is_settled keeps stands busy is_full is_placed is_gone parted waits gives answer old new
    → (first : M) (setup : Setup) → IsServing was_received was_sent course gives is_past keeps parted first setup old
    → IsServing was_received was_sent course gives is_past keeps parted first setup new
turned {A} {S} {D} {M} was_received was_sent course gives is_past is_settled keeps stands busy is_full is_placed is_gone parted waits answer old new turn
    first setup s =
    let b = turn.worked in
    let xs = turn.taken in
    let ys = turn.served in
    let accepted = turn.accepts.accepted in
    let gone = turn.lets_go in
    let done = served_to was_received was_sent course is_past is_settled keeps busy new.moment old.answers turn.opened b old.clients.items xs ys s.story
    turn.accepts turn.exchanges s.served in
    let shut = shut_by new.moment gone.gone in
    let went = map client_of gone.gone in
    let next = going_on done.next shut in
    let goes = goes_to was_received was_sent course (IsFedAmong new.moment (map connection xs)) (map connection accepted ++ []) (is_past b) (keeps b)
    s.story s.gone old.clients.items accepted xs ys done (append-nil (map connection accepted)) turn.accepts.items turn.same (λ feeding fed. fed.1)
    (record { left = s.left; opened = s.opened; apart = s.apart }) in
    let fed : fed_in (done.next.occurrences ++ shut) ≡ fed_in s.story.occurrences ++ fed_in done.more =
    fed_both done.next.occurrences shut
    ∙ ap (λ (l : List Feeding). fed_in done.next.occurrences ++ l) (closes_fed new.moment gone.gone)
    ∙ append-nil (fed_in done.next.occurrences)
    ∙ fed_on s.story done.next done.more done.is in
    let closed : closings_in (done.next.occurrences ++ shut) ≡ closings_in s.story.occurrences ++ closings_in shut =
    closings_both done.next.occurrences shut
    ∙ ap (λ (l : List Closing). l ++ closings_in shut) (closings_still s.story done.next done.more done.is done.closed) in
    let opened : opened_in next.occurrences ≡ opened_in done.next.occurrences =
    opened_both done.next.occurrences shut
    ∙ ap (λ (l : List Connection). opened_in done.next.occurrences ++ l) (closes_opened new.moment gone.gone)
    ∙ append-nil (opened_in done.next.occurrences) in
    record {
      story = next;
      gone = s.gone ++ went;
      sized = ap (λ (story : Story). story.setup) done.is ∙ s.sized;
      served = gone.further done.next done.served;
      left = All-append (IsLeft was_received was_sent next) s.gone went
          (left_on was_received was_sent done.next shut s.gone (closes_fed new.moment gone.gone) goes.left)
          (all_front (IsLeft was_received was_sent next) went new.clients.items
          (All-permutation (IsLeft was_received was_sent next) ys (went ++ new.clients.items) gone.all
          (left_on was_received was_sent done.next shut ys (closes_fed new.moment gone.gone)
          (all_left was_received was_sent course (keeps b) done.next ys done.served.each))));
      given_back = subst (λ (known : Option (List (Parting S))). AreGivenBack (streams_of (s.gone ++ went)) known) (sym turn.parts_none)
          (subst (λ (streams : List S). AreGivenBack streams (parted turn.left_device))
          (ap (λ (streams : List S). streams_of s.gone ++ streams) (gone_streams gone.gone)
          ∙ sym (map-append (λ (client : Client S). client.stream) s.gone went))
          (more_back (streams_of s.gone) (map parting_of gone.gone) (parted turn.device) (parted turn.left_device) gone.parts
          (others_back (streams_of s.gone) (map Abandoned (refused turn.arrives.came)) (parted old.device) (parted turn.device) turn.arrives.away
          s.given_back)));
      opened = subst (λ (l : List Connection). IsPermutation l (map connection ((s.gone ++ went) ++ new.clients.items))) (sym opened)
          (opened_gone (opened_in done.next.occurrences) s.gone ys went new.clients.items goes.opened gone.all);
      apart = still_apart done.next shut (closes_opened new.moment gone.gone) goes.apart;
      in_time = fed_then gives first old.clock new.clock old.moment new.moment (fed_in s.story.occurrences) (fed_in done.more)
          (fed_in (done.next.occurrences ++ shut)) (closings_in s.story.occurrences) (closings_in shut) (closings_in (done.next.occurrences ++ shut)) fed closed
          turn.reads (All-weaker (IsFedAmong new.moment (map connection xs)) (IsFedAt new.moment) (λ feeding is. is.0) (fed_in done.more) done.feeds)
          (closes_timed new.moment gone.gone) s.in_time;
    }

-- it is one by the answer of its wait
pub took : {A S D M : Type 0} (was_received was_sent : S → Option Bytes) (course : S → Option Course) (gives : M → M → Option ℕ → Type 0)
    (is_past is_settled : A → Past) (keeps : A → Kept) (stands : A → Connection → ConnectionState → Type 0) (busy : A → Bool)
    (is_full : A → Type 0) (is_placed : A → A → ℕ → Connection → Type 0) (is_gone : A → Connection → Type 0)
    (parted : D → Option (List (Parting S))) (waits : D → D → Bool → Bool → Type 0) (told answer is_busy : Bool) (a b : A) (d e : D)
    (xs ys : List (Client S)) (old new : Service A S D M)
    → Accepts was_received was_sent course is_past keeps old.answers a old.clients.items xs
    → ArrivesFew most_accepted is_full is_placed parted old.answers a old.accepted new.accepted old.device d old.clients.items xs
    → OpensAt old.moment old.clients.items xs
    → ReadsClock gives old.clock new.clock old.moment new.moment
    → Exchanges was_received was_sent course is_past is_settled keeps busy new.moment a b xs ys
    → map connection ys ≡ map connection xs → AreHeard new.moment xs ys
    → LetsGo was_received was_sent course is_past keeps stands busy is_gone parted (bounds_of new) b new.answers d e ys new.clients.items
    → IsSameWorker old new → parted new.device ≡ parted e → (busy new.answers ≡ true → is_busy ≡ true)
    → LooksSoon old.until new.until (is_busy ≡ false → IsDistinct same_connection (map connection ys)
    → AreSent (keeps new.answers) (stands new.answers) (busy new.answers) (bounds_of new) new.clients.items)
    → waits e new.device is_busy told → told ≡ answer
    → Turns was_received was_sent course is_past is_settled keeps stands busy is_full is_placed is_gone parted waits gives answer old new
took was_received was_sent course gives is_past is_settled keeps stands busy is_full is_placed is_gone parted waits told answer is_busy a b d e xs ys old new
    accepts came opens reads exchanges same heard gone worker none at_once looked waited is = record {
      opened = a;
      worked = b;
      device = d;
      left_device = e;
      taken = xs;
      served = ys;
      accepts = accepts;
      arrives = came.arrives;
      few = came.few;
      opens = opens;
      reads = reads;
      exchanges = exchanges;
      same = same;
      heard = heard;
      lets_go = gone;
      worker = worker;
      parts_none = none;
      is_busy = is_busy;
      waited = subst (waits e new.device is_busy) is waited;
      at_once = at_once;
      looked = looked;
    }
