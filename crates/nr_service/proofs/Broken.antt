-- What holds of a service where memory ran out in a turn.
use Rattle.std.proofs.Common.{◌≡◌, ℕ, Bool, true, false, ◌||◌, inl, inr, List, [], ◌++◌, map, refl, ap, ◌∙◌, subst, sym, append_assoc, append-nil}
use Rattle.std.specs.Prelude.{Option, Result, Ok, Err, IfErr, All}
use Rattle.std.specs.List.{Contains}
use Rattle.std.specs.List.Sorted.{IsPermutation}
use Rattle.std.proofs.lemmas.List.{map-append}
use Rattle.std.proofs.lemmas.List.Elements.{All-append, All-weaker}
use Rattle.nr_model.specs.Bytes.{Bytes}
use Rattle.nr_model.specs.Items.{Connection}
use Rattle.nr_model.specs.Connections.{Setup, Feeding}
use Rattle.nr_service.specs.Arriving.{refused}
use Rattle.nr_service.specs.Pollers.{Abandoned, AreGivenBack, Parting}
use Rattle.nr_service.specs.Endings.{ByCause, ByEnding, BreaksOff, BreaksOffAccepting, BreaksOffExchanging, BreaksOffLettingGo, RanOut}
use Rattle.nr_service.specs.Readings.{IsFedAmong, IsFedAt, IsNeverFed}
use Rattle.nr_service.specs.Serving.{connection, streams_of, IsApart, IsLeft, IsServing}
use Rattle.nr_service.specs.declared.client.Client.{Client}
use Rattle.nr_blob.specs.declared.memory.Memory.{Memory}
use Rattle.nr_service.specs.declared.ended.Ended.{Ended}
use Rattle.nr_service.specs.declared.ended.Ended.TheVariants as endings
use Rattle.nr_service.specs.declared.service.Service.{Service}
use Rattle.nr_service.specs.Stories.{Closing, IsLeftOf, Story, Past, Kept, closings_in, fed_in, opened_in}
use Rattle.nr_service.proofs.Left.{all_left, left_on}
use Rattle.nr_service.proofs.Occurrences.{closings_on, closings_still, fed_on, opened_on, still_apart}
use Rattle.nr_service.proofs.Parted.{left_through, more_back, opened_gone, opened_same, others_back}
use Rattle.nr_service.proofs.Timed.{fed_alone, fed_then, fed_unread, none_fed}
use Rattle.nr_service.proofs.Turns.{goes_to, served_to, turned}
use Rattle.nr_service.specs.Streams.{Course}
use Rattle.nr_service.specs.Turns.{Turns}
use Rattle.nr_service.specs.declared.backend.ConnectionState.{ConnectionState}

-- memory ran out while connections were accepted
ran_accepting : {A S D M : Type 0} (was_received was_sent : S → Option Bytes) (course : S → Option Course) (gives : M → M → Option ℕ → Type 0)
    (is_past is_left : A → Past) (keeps : A → Kept) (is_full : A → Type 0) (is_placed : A → A → ℕ → Connection → Type 0)
    (parted : D → Option (List (Parting S))) (old new : Service A S D M)
    → BreaksOffAccepting was_received was_sent course is_past is_left keeps is_full is_placed parted old new
    → (first : M) (setup : Setup) → IsServing was_received was_sent course gives is_past keeps parted first setup old
    → RanOut was_received was_sent gives is_left parted first setup new
ran_accepting was_received was_sent course gives is_past is_left keeps is_full is_placed parted old new way first setup s =
    let until = way.until in
    let done = until.accepts.serves.further s.story s.served in
    let goes = goes_to was_received was_sent course IsNeverFed (map connection until.accepts.accepted) (is_past until.opened) (keeps until.opened)
    s.story s.gone old.clients.items until.accepts.accepted new.clients.items new.clients.items done refl until.accepts.items refl
    (λ feeding never. absurd never) (record { left = s.left; opened = s.opened; apart = s.apart }) in
    record {
      story = done.next;
      gone = s.gone;
      sized = ap (λ (story : Story). story.setup) done.is ∙ s.sized;
      known = until.left done.next done.served.past;
      left = All-append (IsLeft was_received was_sent done.next) s.gone new.clients.items goes.left
          (all_left was_received was_sent course (keeps until.opened) done.next new.clients.items done.served.each);
      given_back = others_back (streams_of s.gone) (map Abandoned (refused until.arrives.came)) (parted old.device) (parted new.device) until.arrives.away
          s.given_back;
      opened = goes.opened;
      apart = goes.apart;
      in_time = fed_unread gives first old.clock new.clock old.moment new.moment (fed_in s.story.occurrences) (fed_in done.next.occurrences)
          (closings_in s.story.occurrences) (closings_in done.next.occurrences)
          (fed_on s.story done.next done.more done.is ∙ ap (λ (fed : List Feeding). fed_in s.story.occurrences ++ fed) (none_fed (fed_in done.more) done.feeds)
          ∙ append-nil (fed_in s.story.occurrences))
          (closings_still s.story done.next done.more done.is done.closed) way.unread s.in_time;
    }

-- while bytes were exchanged
ran_exchanging : {A S D M : Type 0} (was_received was_sent : S → Option Bytes) (course : S → Option Course) (gives : M → M → Option ℕ → Type 0)
    (is_past is_left : A → Past) (keeps : A → Kept) (is_full : A → Type 0) (is_placed : A → A → ℕ → Connection → Type 0)
    (parted : D → Option (List (Parting S))) (old new : Service A S D M)
    → BreaksOffExchanging was_received was_sent course is_past is_left keeps is_full is_placed parted gives old new
    → (first : M) (setup : Setup) → IsServing was_received was_sent course gives is_past keeps parted first setup old
    → RanOut was_received was_sent gives is_left parted first setup new
ran_exchanging was_received was_sent course gives is_past is_left keeps is_full is_placed parted old new way first setup s =
    let done = way.accepts.serves.further s.story s.served in
    let goes = goes_to was_received was_sent course IsNeverFed (map connection way.accepts.accepted) (is_past way.opened) (keeps way.opened)
    s.story s.gone old.clients.items way.accepts.accepted way.taken way.taken done refl way.accepts.items refl
    (λ feeding never. absurd never) (record { left = s.left; opened = s.opened; apart = s.apart }) in
    let l = way.leaves.further done.next done.served in
    let still : opened_in l.next.occurrences ≡ opened_in done.next.occurrences =
    opened_on done.next l.next l.more l.is ∙ ap (λ (opened : List Connection). opened_in done.next.occurrences ++ opened) l.opens
    ∙ append-nil (opened_in done.next.occurrences) in
    let opened = subst (λ (all : List Connection). IsPermutation all (map connection (s.gone ++ way.taken))) (sym still) goes.opened in
    let apart = subst (λ (story : Story). IsApart story) (sym l.is) (still_apart done.next l.more l.opens goes.apart) in
    let fed : fed_in l.next.occurrences ≡ fed_in s.story.occurrences ++ fed_in l.more =
    fed_on done.next l.next l.more l.is ∙ ap (λ (fed : List Feeding). fed ++ fed_in l.more)
    (fed_on s.story done.next done.more done.is ∙ ap (λ (fed : List Feeding). fed_in s.story.occurrences ++ fed) (none_fed (fed_in done.more) done.feeds)
    ∙ append-nil (fed_in s.story.occurrences)) in
    record {
      story = l.next;
      gone = s.gone;
      sized = ap (λ (story : Story). story.setup) l.is ∙ ap (λ (story : Story). story.setup) done.is ∙ s.sized;
      known = l.left;
      left = All-append (IsLeft was_received was_sent l.next) s.gone new.clients.items
          (left_through was_received was_sent done.next l.next l.more s.gone way.taken l.is opened apart
          (All-weaker (IsFedAmong new.moment (map connection way.taken)) (λ (feeding : Feeding). Contains (map connection way.taken) feeding.connection)
          (λ feeding is. is.1) (fed_in l.more) l.feeds) goes.left)
          l.each;
      given_back = others_back (streams_of s.gone) (map Abandoned (refused way.arrives.came)) (parted old.device) (parted new.device) way.arrives.away
          s.given_back;
      opened = opened_same (opened_in l.next.occurrences) s.gone way.taken new.clients.items opened way.same;
      apart = apart;
      in_time = fed_alone gives first old.clock new.clock old.moment new.moment (fed_in s.story.occurrences) (fed_in l.more)
          (fed_in l.next.occurrences) (closings_in s.story.occurrences) (closings_in l.next.occurrences) fed
          (closings_still done.next l.next l.more l.is l.closed ∙ closings_still s.story done.next done.more done.is done.closed) way.reads
          (All-weaker (IsFedAmong new.moment (map connection way.taken)) (IsFedAt new.moment) (λ feeding is. is.0) (fed_in l.more) l.feeds) s.in_time;
    }

-- or while some were let go
ran_letting_go : {A S D M : Type 0} (was_received was_sent : S → Option Bytes) (course : S → Option Course) (gives : M → M → Option ℕ → Type 0)
    (is_past is_left is_settled : A → Past) (keeps : A → Kept) (busy : A → Bool) (is_full : A → Type 0) (is_placed : A → A → ℕ → Connection → Type 0)
    (parted : D → Option (List (Parting S))) (old new : Service A S D M)
    → BreaksOffLettingGo was_received was_sent course is_past is_left is_settled keeps busy is_full is_placed parted gives old new
    → (first : M) (setup : Setup) → IsServing was_received was_sent course gives is_past keeps parted first setup old
    → RanOut was_received was_sent gives is_left parted first setup new
ran_letting_go {A} {S} {D} {M} was_received was_sent course gives is_past is_left is_settled keeps busy is_full is_placed parted old new way first setup s =
    let done = served_to was_received was_sent course is_past is_settled keeps busy new.moment old.answers way.opened way.worked old.clients.items way.taken
    way.served s.story way.accepts way.exchanges s.served in
    let goes = goes_to was_received was_sent course (IsFedAmong new.moment (map connection way.taken)) (map connection way.accepts.accepted ++ [])
    (is_past way.worked) (keeps way.worked) s.story s.gone old.clients.items way.accepts.accepted way.taken way.served done
    (append-nil (map connection way.accepts.accepted)) way.accepts.items way.same (λ feeding fed. fed.1)
    (record { left = s.left; opened = s.opened; apart = s.apart }) in
    let lost = way.loses in
    let l = lost.further done.next done.served in
    let still : opened_in l.next.occurrences ≡ opened_in done.next.occurrences =
    opened_on done.next l.next l.more l.is ∙ ap (λ (opened : List Connection). opened_in done.next.occurrences ++ opened) l.opens
    ∙ append-nil (opened_in done.next.occurrences) in
    let fed : fed_in l.next.occurrences ≡ fed_in s.story.occurrences ++ fed_in done.more =
    fed_on done.next l.next l.more l.is ∙ ap (λ (fed : List Feeding). fed_in done.next.occurrences ++ fed) l.fed
    ∙ append-nil (fed_in done.next.occurrences) ∙ fed_on s.story done.next done.more done.is in
    record {
      story = l.next;
      gone = s.gone ++ lost.missing;
      sized = ap (λ (story : Story). story.setup) l.is ∙ ap (λ (story : Story). story.setup) done.is ∙ s.sized;
      known = l.left;
      left = subst (λ (clients : List (Client S)). All (IsLeft was_received was_sent l.next) clients)
          (sym (append_assoc s.gone lost.missing new.clients.items))
          (All-append (IsLeft was_received was_sent l.next) s.gone (lost.missing ++ new.clients.items)
          (subst (λ (story : Story). All (IsLeft was_received was_sent story) s.gone) (sym l.is)
          (left_on was_received was_sent done.next l.more s.gone l.fed goes.left)) l.each);
      given_back = subst (λ (streams : List S). AreGivenBack streams (parted new.device))
          (ap (λ (streams : List S). streams_of s.gone ++ streams) lost.parts.are
          ∙ sym (map-append (λ (client : Client S). client.stream) s.gone lost.missing))
          (more_back (streams_of s.gone) lost.parts.more (parted way.device) (parted new.device) lost.parts.parts
          (others_back (streams_of s.gone) (map Abandoned (refused way.arrives.came)) (parted old.device) (parted way.device) way.arrives.away
          s.given_back));
      opened = subst (λ (all : List Connection). IsPermutation all (map connection ((s.gone ++ lost.missing) ++ new.clients.items))) (sym still)
          (opened_gone (opened_in done.next.occurrences) s.gone way.served lost.missing new.clients.items goes.opened lost.all);
      apart = subst (λ (story : Story). IsApart story) (sym l.is) (still_apart done.next l.more l.opens goes.apart);
      in_time = fed_then gives first old.clock new.clock old.moment new.moment (fed_in s.story.occurrences) (fed_in done.more)
          (fed_in l.next.occurrences) (closings_in s.story.occurrences) (closings_in l.more) (closings_in l.next.occurrences) fed
          (closings_on done.next l.next l.more l.is
          ∙ ap (λ (closed : List Closing). closed ++ closings_in l.more) (closings_still s.story done.next done.more done.is done.closed)) way.reads
          (All-weaker (IsFedAmong new.moment (map connection way.taken)) (IsFedAt new.moment) (λ feeding is. is.0) (fed_in done.more) done.feeds) l.closes
          s.in_time;
    }

-- in any part of a turn
pub ran_out : {A S D M : Type 0} (was_received was_sent : S → Option Bytes) (course : S → Option Course) (gives : M → M → Option ℕ → Type 0)
    (is_past is_left is_settled : A → Past) (keeps : A → Kept) (busy : A → Bool) (is_full : A → Type 0) (is_placed : A → A → ℕ → Connection → Type 0)
    (parted : D → Option (List (Parting S))) (old new : Service A S D M)
    → BreaksOff was_received was_sent course is_past is_left is_settled keeps busy is_full is_placed parted gives old new
    → (first : M) (setup : Setup) → IsServing was_received was_sent course gives is_past keeps parted first setup old
    → RanOut was_received was_sent gives is_left parted first setup new
ran_out was_received was_sent course gives is_past is_left is_settled keeps busy is_full is_placed parted old new breaks first setup s =
    elim breaks.way [
      | inl way ↦ ran_accepting was_received was_sent course gives is_past is_left keeps is_full is_placed parted old new way first setup s
      | inr rest ↦ elim rest [
        | inl way ↦ ran_exchanging was_received was_sent course gives is_past is_left keeps is_full is_placed parted old new way first setup s
        | inr way ↦ ran_letting_go was_received was_sent course gives is_past is_left is_settled keeps busy is_full is_placed parted old new way first setup s
      ]
    ]

-- they are served yet, and so they are left as they are
pub ran_out_still : {A S D M : Type 0} (was_received was_sent : S → Option Bytes) (course : S → Option Course) (gives : M → M → Option ℕ → Type 0)
    (is_past is_left : A → Past) (keeps : A → Kept) (parted : D → Option (List (Parting S))) (service : Service A S D M) (first : M) (setup : Setup)
    → IsLeftOf (is_past service.answers) (is_left service.answers)
    → IsServing was_received was_sent course gives is_past keeps parted first setup service
    → RanOut was_received was_sent gives is_left parted first setup service
ran_out_still was_received was_sent course gives is_past is_left keeps parted service first setup left s = record {
  story = s.story;
  gone = s.gone;
  sized = s.sized;
  known = left s.story s.served.past;
  left = All-append (IsLeft was_received was_sent s.story) s.gone service.clients.items s.left
      (all_left was_received was_sent course (keeps service.answers) s.story service.clients.items s.served.each);
  given_back = s.given_back;
  opened = s.opened;
  apart = s.apart;
  in_time = s.in_time;
}

-- the error is that memory ran out
pub ends_by_memory : {T : Type 0} (memory : Memory) (result : Result T Ended) (P Q R : Type 0) → IfErr result (λ ended. ended ≡ endings.Memory memory) → Q
    → IfErr result (λ ended. ByCause ended P Q R)
ends_by_memory memory (Ok _) P Q R is q = tt
ends_by_memory memory (Err ended) P Q R is q = subst (λ (e : Ended). ByCause e P Q R) (sym is) q

-- whatever the error is
by_cause : {T : Type 0} (result : Result T Ended) (P Q R S : Type 0) → IfErr result (λ ended. ByCause ended ⊥ P Q) → (P → S) → (Q → R)
    → IfErr result (λ ended. ByEnding ended R S)
by_cause (Ok _) P Q R S is breaks turn = tt
by_cause (Err endings.Stopped) P Q R S is breaks turn = absurd is
by_cause (Err (endings.Memory memory)) P Q R S is breaks turn = breaks is
by_cause (Err endings.Down) P Q R S is breaks turn = breaks is
by_cause (Err endings.Device) P Q R S is breaks turn = turn is

-- the clients are served yet, or where memory ran out they are left
pub ends_by : {A S D M T : Type 0} (was_received was_sent : S → Option Bytes) (course : S → Option Course) (gives : M → M → Option ℕ → Type 0)
    (is_past is_left is_settled : A → Past) (keeps : A → Kept) (stands : A → Connection → ConnectionState → Type 0) (busy : A → Bool)
    (is_full : A → Type 0) (is_placed : A → A → ℕ → Connection → Type 0) (is_gone : A → Connection → Type 0)
    (parted : D → Option (List (Parting S))) (waits : D → D → Bool → Bool → Type 0) (answer : Bool) (old new : Service A S D M) (result : Result T Ended)
    → IfErr result (λ ended. ByCause ended ⊥
    (BreaksOff was_received was_sent course is_past is_left is_settled keeps busy is_full is_placed parted gives old new)
    (Turns was_received was_sent course is_past is_settled keeps stands busy is_full is_placed is_gone parted waits gives answer old new))
    → (first : M) (setup : Setup) → IsServing was_received was_sent course gives is_past keeps parted first setup old
    → IfErr result (λ ended. ByEnding ended (IsServing was_received was_sent course gives is_past keeps parted first setup new)
    (RanOut was_received was_sent gives is_left parted first setup new))
ends_by was_received was_sent course gives is_past is_left is_settled keeps stands busy is_full is_placed is_gone parted waits answer old new result ended
    first setup s =
    by_cause result _ _ _ _ ended
    (λ breaks. ran_out was_received was_sent course gives is_past is_left is_settled keeps busy is_full is_placed parted old new breaks first setup s)
    (λ turn.
    turned was_received was_sent course gives is_past is_settled keeps stands busy is_full is_placed is_gone parted waits answer old new turn first setup s)

-- where what answers is busy, work is at hand
pub at_once : (asked told busy : Bool) → told ≡ busy → busy ≡ true → (asked || told) ≡ true
at_once true told busy is so = refl
at_once false told busy is so = is ∙ so
