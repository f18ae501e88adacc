-- Rounds behind others, and the moments at which bytes were fed and connections closed in them.
use Rattle.std.proofs.Common.{◌≡◌, ℕ, List, [], ◌∷◌, ◌++◌, refl, sym, ap, ◌∙◌, subst, append_assoc, append-nil}
use Rattle.std.specs.Prelude.{Option, All}
use Rattle.std.proofs.lemmas.List.Elements.{All-head, All-nil}
use Rattle.nr_model.specs.Connections.{Feeding}
use Rattle.nr_service.specs.Readings.{AreFedByClock, AreReadings, AreTimed, closes_of, feeds_of, IsClosedAt, IsFedAt, IsNeverFed, IsUnread, moment_after, moment_behind, ReadsClock, readings_of, ClockRound}
use Rattle.nr_service.specs.Stories.{Closing}

-- where none may be fed, none was
pub none_fed : (feeds : List Feeding) → All IsNeverFed feeds → feeds ≡ []
none_fed [] never = refl
none_fed (feeding ∷ feeds) never = absurd (All-head IsNeverFed feeding feeds never)

-- one more reading
readings_then : {M : Type 0} (gives : M → M → Option ℕ → Type 0) (first middle last : M) (rounds : List ClockRound) (round : ClockRound)
    → AreReadings gives first (readings_of rounds) middle → gives middle last round.reading
    → AreReadings gives first (readings_of (rounds ++ round ∷ [])) last
readings_then {M} gives first middle last [] round are given =
    (last, subst (λ (m : M). gives m last round.reading) are given, refl)
readings_then gives first middle last (front ∷ rounds) round are given =
    (are.0, are.1, readings_then gives are.0 middle last rounds round are.2 given)

feeds_then : (rounds : List ClockRound) (round : ClockRound) → feeds_of (rounds ++ round ∷ []) ≡ feeds_of rounds ++ round.feeds
feeds_then [] round = append-nil round.feeds
feeds_then (first ∷ rounds) round =
    ap (λ (fed : List Feeding). first.feeds ++ fed) (feeds_then rounds round) ∙ sym (append_assoc first.feeds (feeds_of rounds) round.feeds)

closes_then : (rounds : List ClockRound) (round : ClockRound) → closes_of (rounds ++ round ∷ []) ≡ closes_of rounds ++ round.closes
closes_then [] round = append-nil round.closes
closes_then (first ∷ rounds) round =
    ap (λ (closes : List Closing). first.closes ++ closes) (closes_then rounds round) ∙ sym (append_assoc first.closes (closes_of rounds) round.closes)

moment_then : (before : ℕ) (rounds : List ClockRound) (round : ClockRound)
    → moment_after before (rounds ++ round ∷ []) ≡ moment_behind (moment_after before rounds) round.reading
moment_then before [] round = refl
moment_then before (first ∷ rounds) round = moment_then (moment_behind before first.reading) rounds round

timed_then : (before : ℕ) (rounds : List ClockRound) (round : ClockRound) → AreTimed before rounds
    → All (IsFedAt (moment_behind (moment_after before rounds) round.reading)) round.feeds
    → All (IsClosedAt (moment_behind (moment_after before rounds) round.reading)) round.closes → AreTimed before (rounds ++ round ∷ [])
timed_then before [] round timed fed closed = (fed, closed, tt)
timed_then before (first ∷ rounds) round timed fed closed =
    (timed.0, timed.1, timed_then (moment_behind before first.reading) rounds round timed.2 fed closed)

-- no clock was read yet
pub none_timed : {M : Type 0} (gives : M → M → Option ℕ → Type 0) (first : M) → AreFedByClock gives first first 0 [] []
none_timed gives first = record { rounds = []; readings = refl; fed = refl; closed = refl; timed = tt; moment_is = refl }

-- the clock was read once more, and bytes were fed and connections closed at the moment behind that
pub fed_then : {M : Type 0} (gives : M → M → Option ℕ → Type 0) (first old new : M) (before after : ℕ) (feeds more all : List Feeding)
    (closes more_closes all_closes : List Closing) → all ≡ feeds ++ more → all_closes ≡ closes ++ more_closes → ReadsClock gives old new before after
    → All (IsFedAt after) more → All (IsClosedAt after) more_closes → AreFedByClock gives first old before feeds closes
    → AreFedByClock gives first new after all all_closes
fed_then gives first old new before after feeds more all closes more_closes all_closes is closes_are reads at closed_at by =
    let round : ClockRound = record { reading = reads.reading; feeds = more; closes = more_closes } in
    let behind : moment_behind (moment_after 0 by.rounds) reads.reading ≡ after =
    ap (λ (time : ℕ). moment_behind time reads.reading) by.moment_is ∙ sym reads.moment_is in
    record {
      rounds = by.rounds ++ round ∷ [];
      readings = readings_then gives first old new by.rounds round by.readings reads.given;
      fed = feeds_then by.rounds round ∙ ap (λ (fed : List Feeding). fed ++ more) by.fed ∙ sym is;
      closed = closes_then by.rounds round ∙ ap (λ (closed : List Closing). closed ++ more_closes) by.closed ∙ sym closes_are;
      timed = timed_then 0 by.rounds round by.timed (subst (λ (time : ℕ). All (IsFedAt time) more) (sym behind) at)
          (subst (λ (time : ℕ). All (IsClosedAt time) more_closes) (sym behind) closed_at);
      moment_is = moment_then 0 by.rounds round ∙ behind;
    }

-- it was, bytes were fed then, and no connection was closed
pub fed_alone : {M : Type 0} (gives : M → M → Option ℕ → Type 0) (first old new : M) (before after : ℕ) (feeds more all : List Feeding)
    (closes all_closes : List Closing) → all ≡ feeds ++ more → all_closes ≡ closes → ReadsClock gives old new before after → All (IsFedAt after) more
    → AreFedByClock gives first old before feeds closes → AreFedByClock gives first new after all all_closes
fed_alone gives first old new before after feeds more all closes all_closes is same reads at by =
    fed_then gives first old new before after feeds more all closes [] all_closes is (same ∙ sym (append-nil closes)) reads at (All-nil (IsClosedAt after)) by

-- it wasn't read, and nothing was fed or closed
pub fed_unread : {M : Type 0} (gives : M → M → Option ℕ → Type 0) (first old new : M) (before after : ℕ) (feeds all : List Feeding)
    (closes all_closes : List Closing) → all ≡ feeds → all_closes ≡ closes → IsUnread old new before after
    → AreFedByClock gives first old before feeds closes → AreFedByClock gives first new after all all_closes
fed_unread {M} gives first old new before after feeds all closes all_closes is same unread by = record {
  rounds = by.rounds;
  readings = subst (λ (clock : M). AreReadings gives first (readings_of by.rounds) clock) (sym unread.clock_is) by.readings;
  fed = by.fed ∙ sym is;
  closed = by.closed ∙ sym same;
  timed = by.timed;
  moment_is = by.moment_is ∙ sym unread.moment_is;
}
