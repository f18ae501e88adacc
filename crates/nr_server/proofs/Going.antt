-- How a service's clients go on from exchange to exchange, whatever answers them.
use Rattle.std.proofs.Common.{◌≡◌, ℕ, Bool, List, [], ◌∷◌, ◌++◌, refl, sym, ap, ◌∙◌, subst}
use Rattle.std.specs.Prelude.{map, Option, All}
use Rattle.std.proofs.lemmas.List.Elements.{All-head, All-weaker}
use Rattle.nr_model.specs.Bytes.{Bytes}
use Rattle.nr_model.specs.Items.{Connection}
use Rattle.nr_service.specs.declared.client.Client.{Client}
use Rattle.nr_service.specs.Readings.{AreFedByClock, IsFedAmong, IsFedAt, IsFedAtRest, ReadsClock}
use Rattle.nr_service.specs.Serving.{connection, AreServed, IsLeft, IsServed}
use Rattle.nr_service.specs.Steps.{Exchanges, Leaves}
use Rattle.nr_service.proofs.Left.{still_left}
use Rattle.nr_service.proofs.Timed.{fed_alone}
use Rattle.nr_service.specs.Stories.{Occurrence, Story, Past, Kept, IsLeftOf, opened_in, fed_in, closings_in, closed_in, going_on}
use Rattle.nr_service.proofs.Occurrences.{opened_both, closed_both, closings_still, fed_on, going_none, going_both}
use Rattle.nr_service.specs.declared.backend.ConnectionState.{ConnectionState}
use Rattle.nr_server.specs.Going.{AreCutOff, HasEnded, HasFirstFailed, InTime, IsDone}
use Rattle.nr_service.proofs.Known.{course_failed}
use Rattle.nr_server.specs.declared.run.Done.{Done}
use Rattle.nr_server.specs.declared.run.Done.TheVariants as dones
use Rattle.nr_service.specs.Streams.{Course}

-- the clients are served by a story that goes on from this one, in which nothing more was opened or closed
pub record Goes {A S : Type 0} (was_received was_sent : S → Option Bytes) (course : S → Option Course) (is_past : A → Past) (keeps : A → Kept)
    (in_time : InTime) (story : Story) (answers : A) (clients : List (Client S)) : Type 0 where
  pub next : Story
  pub more : List Occurrence
  pub is : next ≡ going_on story more
  pub opens : opened_in more ≡ []
  pub closed : closed_in more ≡ []
  pub timed : in_time (fed_in next.occurrences) (closings_in next.occurrences)
  pub served : AreServed was_received was_sent course (is_past answers) (keeps answers) next clients

-- nothing was done yet
pub starts : {A S : Type 0} (was_received was_sent : S → Option Bytes) (course : S → Option Course) (is_past : A → Past) (keeps : A → Kept)
    (in_time : InTime) (story : Story) (answers : A) (clients : List (Client S))
    → AreServed was_received was_sent course (is_past answers) (keeps answers) story clients → in_time (fed_in story.occurrences) (closings_in story.occurrences)
    → Goes was_received was_sent course is_past keeps in_time story answers clients
starts was_received was_sent course is_past keeps in_time story answers clients served timed =
    record { next = story; more = []; is = sym (going_none story); opens = refl; closed = refl; timed = timed; served = served }

-- and nothing is left to be done
pub record Rests {A S : Type 0} (was_received was_sent : S → Option Bytes) (course : S → Option Course) (is_past is_settled : A → Past) (keeps : A → Kept)
    (in_time : InTime) (story : Story) (answers : A) (clients : List (Client S)) : Type 0 where
  pub goes : Goes was_received was_sent course is_past keeps in_time story answers clients
  pub rest : is_settled answers goes.next

-- behind an exchange
pub exchanged : {A S M : Type 0} (was_received was_sent : S → Option Bytes) (course : S → Option Course) (is_past is_settled : A → Past) (keeps : A → Kept)
    (busy : A → Bool)
    (gives : M → M → Option ℕ → Type 0) (first clock read : M) (before now : ℕ) (story : Story) (a b : A) (old new : List (Client S))
    → ReadsClock gives clock read before now
    → Goes was_received was_sent course is_past keeps (AreFedByClock gives first clock before) story a old
    → Exchanges was_received was_sent course is_past is_settled keeps busy now a b old new
    → Rests was_received was_sent course is_past is_settled keeps (AreFedByClock gives first read now) story b new
exchanged was_received was_sent course is_past is_settled keeps busy gives first clock read before now story a b old new reads goes exchanges =
    let s = exchanges.further goes.next goes.served in
    record {
      goes = record {
        next = s.has.next;
        more = goes.more ++ s.has.more;
        is = s.has.is ∙ ap (λ (at : Story). going_on at s.has.more) goes.is ∙ going_both story goes.more s.has.more;
        opens = opened_both goes.more s.has.more ∙ (λ i. goes.opens i ++ s.has.opens i);
        closed = closed_both goes.more s.has.more ∙ (λ i. goes.closed i ++ s.has.closed i);
        timed = fed_alone gives first clock read before now (fed_in goes.next.occurrences) (fed_in s.has.more) (fed_in s.has.next.occurrences)
            (closings_in goes.next.occurrences) (closings_in s.has.next.occurrences) (fed_on goes.next s.has.next s.has.more s.has.is)
            (closings_still goes.next s.has.next s.has.more s.has.is s.has.closed) reads
            (All-weaker (IsFedAtRest (busy exchanges.ready) now (map connection old)) (IsFedAt now) (λ feeding is. is.1.0) (fed_in s.has.more) s.has.feeds)
            goes.timed;
        served = s.has.served;
      };
      rest = s.rest;
    }

-- or where memory ran out in it
pub failed : {A S M : Type 0} (was_received was_sent : S → Option Bytes) (course : S → Option Course) (is_past is_left : A → Past) (keeps : A → Kept)
    (gives : M → M → Option ℕ → Type 0) (first clock read : M) (before now : ℕ) (story : Story) (a b : A) (old new : List (Client S))
    → ReadsClock gives clock read before now
    → Goes was_received was_sent course is_past keeps (AreFedByClock gives first clock before) story a old
    → Leaves was_received was_sent course is_past is_left keeps (IsFedAmong now (map connection old)) a b old new
    → AreCutOff was_received was_sent is_left (AreFedByClock gives first read now) story b new
failed was_received was_sent course is_past is_left keeps gives first clock read before now story a b old new reads goes leaves =
    let l = leaves.further goes.next goes.served in
    record {
      next = l.next;
      more = goes.more ++ l.more;
      is = l.is ∙ ap (λ (at : Story). going_on at l.more) goes.is ∙ going_both story goes.more l.more;
      closed = closed_both goes.more l.more ∙ (λ i. goes.closed i ++ l.closed i);
      timed = fed_alone gives first clock read before now (fed_in goes.next.occurrences) (fed_in l.more) (fed_in l.next.occurrences)
          (closings_in goes.next.occurrences) (closings_in l.next.occurrences) (fed_on goes.next l.next l.more l.is)
          (closings_still goes.next l.next l.more l.is l.closed) reads
          (All-weaker (IsFedAmong now (map connection old)) (IsFedAt now) (λ feeding is. is.0) (fed_in l.more) l.feeds) goes.timed;
      left = l.left;
      each = l.each;
    }

-- where all were served they are left so
pub goes_left : {A S : Type 0} (was_received was_sent : S → Option Bytes) (course : S → Option Course) (is_past is_left : A → Past) (keeps : A → Kept)
    (in_time : InTime) (story : Story) (answers : A) (clients : List (Client S)) → IsLeftOf (is_past answers) (is_left answers)
    → Goes was_received was_sent course is_past keeps in_time story answers clients
    → AreCutOff was_received was_sent is_left in_time story answers clients
goes_left was_received was_sent course is_past is_left keeps in_time story answers clients left goes = record {
  next = goes.next;
  more = goes.more;
  is = goes.is;
  closed = goes.closed;
  timed = goes.timed;
  left = left goes.next goes.served.past;
  each = All-weaker (IsServed was_received was_sent course (keeps answers) goes.next) (IsLeft was_received was_sent goes.next)
      (λ client s. still_left was_received was_sent course (keeps answers) goes.next client s) clients goes.served.each;
}

-- the stream of the first one failed, where it is broken
first_failed : {A S : Type 0} (was_received was_sent : S → Option Bytes) (course : S → Option Course) (keeps : A → Kept)
    (stands : A → Connection → ConnectionState → Type 0) (story : Story) (a : A) (clients : List (Client S)) (done : Done)
    → All (IsServed was_received was_sent course (keeps a) story) clients → IsDone keeps stands a clients done → done ≡ dones.Broken
    → HasFirstFailed course clients
first_failed was_received was_sent course keeps stands story a [] done all is e = tt
first_failed was_received was_sent course keeps stands story a (client ∷ clients) done all is e =
    course_failed (course client.stream) client.is_ending client.is_broken client.is_full (is.1 e)
    (All-head (IsServed was_received was_sent course (keeps a) story) client clients all).course_is

-- so they end, however that is
pub ends_failed : {A S M : Type 0} (was_received was_sent : S → Option Bytes) (course : S → Option Course) (is_past is_left is_settled : A → Past) (keeps : A → Kept)
    (stands : A → Connection → ConnectionState → Type 0) (gives : M → M → Option ℕ → Type 0) (first clock read : M) (before now : ℕ) (story : Story) (a b : A)
    (old new : List (Client S)) → ReadsClock gives clock read before now
    → Goes was_received was_sent course is_past keeps (AreFedByClock gives first clock before) story a old
    → Leaves was_received was_sent course is_past is_left keeps (IsFedAmong now (map connection old)) a b old new
    → HasEnded was_received was_sent course is_past is_left is_settled keeps stands (AreFedByClock gives first read now) story b new dones.Memory
ends_failed was_received was_sent course is_past is_left is_settled keeps stands gives first clock read before now story a b old new reads goes leaves =
    record {
      left = failed was_received was_sent course is_past is_left keeps gives first clock read before now story a b old new reads goes leaves;
      broken = λ e. absurd (cc e);
      whole = λ e. absurd (cc e);
    }

pub ends_by : {A S : Type 0} (was_received was_sent : S → Option Bytes) (course : S → Option Course) (is_past is_left is_settled : A → Past) (keeps : A → Kept)
    (stands : A → Connection → ConnectionState → Type 0) (in_time : InTime) (story : Story) (a : A) (clients : List (Client S)) (done : Done)
    → IsLeftOf (is_past a) (is_left a)
    → Rests was_received was_sent course is_past is_settled keeps in_time story a clients → IsDone keeps stands a clients done
    → HasEnded was_received was_sent course is_past is_left is_settled keeps stands in_time story a clients done
ends_by was_received was_sent course is_past is_left is_settled keeps stands in_time story a clients done left rests is =
    record {
      left = goes_left was_received was_sent course is_past is_left keeps in_time story a clients left rests.goes;
      broken = first_failed was_received was_sent course keeps stands rests.goes.next a clients done rests.goes.served.each is;
      whole = λ e. record {
        next = rests.goes.next;
        more = rests.goes.more;
        is = rests.goes.is;
        opens = rests.goes.opens;
        closed = rests.goes.closed;
        timed = rests.goes.timed;
        served = rests.goes.served;
        rest = rests.rest;
        first = subst (IsDone keeps stands a clients) e is;
      };
    }

pub ends_at_last : {A S : Type 0} (was_received was_sent : S → Option Bytes) (course : S → Option Course) (is_past is_left is_settled : A → Past) (keeps : A → Kept)
    (stands : A → Connection → ConnectionState → Type 0) (in_time : InTime) (story : Story) (a : A) (clients : List (Client S))
    → IsLeftOf (is_past a) (is_left a) → Goes was_received was_sent course is_past keeps in_time story a clients
    → HasEnded was_received was_sent course is_past is_left is_settled keeps stands in_time story a clients dones.Memory
ends_at_last was_received was_sent course is_past is_left is_settled keeps stands in_time story a clients left goes =
    record { left = goes_left was_received was_sent course is_past is_left keeps in_time story a clients left goes; broken = λ e. absurd (cc e); whole = λ e. absurd (cc e) }
