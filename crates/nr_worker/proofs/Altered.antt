-- The code's worker stands for the same worker of the law once bytes of a connection were written, or no more are taken from it: what its seat keeps is altered then,
-- and which jobs it gave is not.
use Rattle.std.proofs.Common.{◌≡◌, ◌<◌, ℕ, false, cond, List, Option, Some, None, refl, ap, ◌∙◌, sym, subst, eq-eqb}
use Rattle.std.specs.Option.{option_map}
use Rattle.nr_model.specs.Items.{Connection}
use Rattle.nr_entry.specs.Jobs.{items_of}
use Rattle.nr_worker.specs.Seated.{OpenConnectionState, cut_off, with_written}
use Rattle.nr_worker.specs.Placed.{IsPut, OpenConnectionsState, seat_at}
use Rattle.nr_worker.specs.Portions.{EachSeat}
use Rattle.nr_worker.proofs.Putting.{each_put, named}
use Rattle.nr_worker.specs.Worker.{Served}
use Rattle.nr_worker.specs.Working.{AreAccountedFor, Goes, IsBelow, IsSeatOf, IsSeated, WorkState, unchanged}
use Rattle.nr_worker.proofs.Batched.{goes_nowhere}
use Rattle.nr_worker.proofs.Lists.{all_weaker}

-- what holds of a seat holds of it once it is altered
from_altered : (f : OpenConnectionState → OpenConnectionState) (P : OpenConnectionState → Type 0) (o : Option OpenConnectionState) → ((s : OpenConnectionState) → P s → P (f s))
    → ((s : OpenConnectionState) → o ≡ Some s → P s) → (t : OpenConnectionState) → option_map f o ≡ Some t → P t
from_altered f P None keeps was t is = absurd (cc is)
from_altered f P (Some s) keeps was t is =
    let same : f s ≡ t = ap (λ (o : Option OpenConnectionState). elim o [ None ↦ f s | Some z ↦ z ]) is in
    subst P same (keeps s (was s refl))

seated_still : (f : OpenConnectionState → OpenConnectionState) → ((s : OpenConnectionState) (x : Served) → IsSeatOf s x → IsSeatOf (f s) x)
    → (served : List Served) (c : Connection) (s : OpenConnectionState) → IsSeated served c s → IsSeated served c (f s)
seated_still f stays served c s at = record {
  known = at.known;
  seat = all_weaker (λ (x : Served). x.connection ≡ c → IsSeatOf s x) (λ (x : Served). x.connection ≡ c → IsSeatOf (f s) x)
      (λ x seat mine. stays s x (seat mine)) served at.seat;
}

-- it holds of each seat
each_altered : (f : OpenConnectionState → OpenConnectionState) (P : Connection → OpenConnectionState → Type 0) → ((c : Connection) (s : OpenConnectionState) → P c s → P c (f s))
    → (node serial : ℕ) (old new : OpenConnectionsState) → IsPut serial (option_map f (seat_at serial old)) old new
    → EachSeat P node old → EachSeat P node new
each_altered f P keeps node serial old new put was =
    each_put P node serial (option_map f (seat_at serial old)) old new put
    (from_altered f (P (named node serial)) (seat_at serial old) (keeps (named node serial))
    (λ s at. was (named node serial) s (ap (λ b. cond b (seat_at serial old) None) (eq-eqb node node refl) ∙ at))) was

altered_by : (f : OpenConnectionState → OpenConnectionState) → ((s : OpenConnectionState) (x : Served) → IsSeatOf s x → IsSeatOf (f s) x)
    → ((s : OpenConnectionState) → (f s).session.next ≡ s.session.next) → ((s : OpenConnectionState) → (f s).cut ≡ false → s.cut ≡ false)
    → (v u : WorkState) (seats : OpenConnectionsState) (serial : ℕ) → u ≡ v
    → IsPut serial (option_map f (seat_at serial u.seats)) u.seats seats → Goes unchanged v (record u { seats = seats })
altered_by f stays next uncut v u seats serial same put =
    let below : ℕ → Connection → Type 0 = λ next c. IsBelow u.worker.seat.lane.posted (items_of u.jobs) c next in
    subst (λ (x : WorkState). Goes unchanged x (record u { seats = seats })) same (record {
      leads = λ d led r. record {
        then = d;
        led = led;
        goes = goes_nowhere d;
        reflects = record {
          node = r.node;
          worker = r.worker;
          posted = r.posted;
          heard = r.heard;
          mark = r.mark;
          below = r.below;
          apart = r.apart;
          jobs = r.jobs;
          seats = each_altered f (IsSeated d.served) (seated_still f stays d.served) u.worker.node serial u.seats seats put r.seats;
          numbers = each_altered f (λ c s. below s.session.next c) (λ c s is. subst (λ k. below k c) (sym (next s)) is) u.worker.node serial u.seats seats
              put r.numbers;
          accounted = each_altered f (AreAccountedFor u.down (items_of u.jobs) u.worker.seat.lane)
              (λ c s all takes number under. all (uncut s takes) number (subst (λ k. number < k) (next s) under)) u.worker.node serial u.seats seats
              put r.accounted;
        };
        served = refl;
      };
    })

pub written_by : (v u : WorkState) (seats : OpenConnectionsState) (serial count : ℕ) → u ≡ v
    → IsPut serial (option_map (with_written count) (seat_at serial u.seats)) u.seats seats → Goes unchanged v (record u { seats = seats })
written_by v u seats serial count =
    altered_by (with_written count)
    (λ s x is. record { unclosed = is.unclosed; live = is.live; handed = is.handed; own = is.own; session = is.session; counted = is.counted; few = is.few })
    (λ s. refl) (λ s takes. takes) v u seats serial

pub stopped_by : (v u : WorkState) (seats : OpenConnectionsState) (serial : ℕ) → u ≡ v
    → IsPut serial (option_map cut_off (seat_at serial u.seats)) u.seats seats → Goes unchanged v (record u { seats = seats })
stopped_by =
    altered_by cut_off
    (λ s x is. record {
      unclosed = is.unclosed;
      live = is.live;
      handed = is.handed;
      own = is.own;
      session = λ takes. absurd (cc takes);
      counted = λ takes. absurd (cc takes);
      few = is.few;
    })
    (λ s. refl) (λ s takes. absurd (cc takes))
