-- Pasts that go on: what holds of a connection that isn't there, in each of them.
use Rattle.std.proofs.Common.{◌≡◌, ℕ, zero, suc, ◌<◌, Bool, true, false, List, [], ◌∷◌, ◌++◌, length, map, replicate, get_or, refl, ap, sym, ◌∙◌, subst, arith, append_assoc, append-nil, ltb}
use Rattle.std.specs.Prelude.{◌||◌, flat_map}
use Rattle.std.specs.List.{list_any, range_with_len}
use Rattle.std.proofs.lemmas.Bool.{or_parts, ltb-true}
use Rattle.std.proofs.lemmas.Grind.{flat_map-append}
use Rattle.std.proofs.lemmas.List.{length-replicate, map-append}
use Rattle.std.proofs.lemmas.List.Folds.{list_any-append}
use Rattle.nr_model.specs.Bytes.{Bytes}
use Rattle.nr_model.specs.Keyspace.{moment}
use Rattle.nr_model.specs.Items.{Connection, same_connection}
use Rattle.nr_model.specs.Connections.{Setup, Handed, Feeding, handed_to, fed_to}
use Rattle.nr_model.specs.Nodes.{Node, World, fresh, fresh_node, no_node, node_at}
use Rattle.nr_model.specs.Nodes.Steps.{Step, Open, Feed, Post, Lift, Reserve, Fill, Fetch, Apply, Look, Answer, Collect, Close, Refuse, Revive, Refused, is_client, after_step}
use Rattle.nr_model.specs.Nodes.Pasts.{Event, AreEvents, IsEvent, IsPast, is_done, handed_by, after_event, handed_in}
use Rattle.nr_model.specs.Nodes.Settling.{IsRound, AreRounds, after_events, for_workers, lifting, reserving, in_turn, applying, answering, round_of}
use Rattle.nr_world.specs.Settles.{events_of}
use Rattle.nr_service.specs.Stories.{Occurrence, HandedOut, opened_in, fed_in, handed_in as pieces_in, closed_in, is_among}
use Rattle.nr_service.proofs.Occurrences.{opened_both, fed_both, handed_both as pieces_both, closed_both}
use Rattle.nr_world_service.specs.Told.{told_of, told_in}
use Rattle.nr_world_service.proofs.Names.{names, is_open, step_alike}
use Rattle.nr_world_service.proofs.Apart.{AreOwn, IsApart, Grows, alike_grows, grows_absent, other_client, fed_more, handed_more, handed_apart, by_hand, step_own, is_feed, step_fed, feed_by, open_by, opened_own, opened_grows}
use Rattle.nr_world_service.proofs.Occurred.{one_handed, event_fed, event_closed, event_opened, is_outer, inner_told}

-- opens, and the other steps
by_open : (P : Step → Type 0) → ((n w : ℕ) → P (Open n w)) → ((step : Step) → is_open step ≡ false → P step) → (step : Step) → P step
by_open P opens others (Open n w) = opens n w
by_open P opens others (Feed c time bytes) = others (Feed c time bytes) refl
by_open P opens others (Post n w) = others (Post n w) refl
by_open P opens others (Lift n w) = others (Lift n w) refl
by_open P opens others (Reserve n) = others (Reserve n) refl
by_open P opens others (Fill n t) = others (Fill n t) refl
by_open P opens others (Fetch n) = others (Fetch n) refl
by_open P opens others (Apply n) = others (Apply n) refl
by_open P opens others (Look n) = others (Look n) refl
by_open P opens others (Answer n w) = others (Answer n w) refl
by_open P opens others (Collect n w) = others (Collect n w) refl
by_open P opens others (Close c time) = others (Close c time) refl
by_open P opens others (Refuse n) = others (Refuse n) refl
by_open P opens others (Revive n f) = others (Revive n f) refl

-- feeds, and the other steps
by_feed : (P : Step → Type 0) → ((c : Connection) (time : ℕ) (bytes : Bytes) → P (Feed c time bytes)) → ((step : Step) → is_feed step ≡ false → P step)
    → (step : Step) → P step
by_feed P feeds others (Open n w) = others (Open n w) refl
by_feed P feeds others (Feed c time bytes) = feeds c time bytes
by_feed P feeds others (Post n w) = others (Post n w) refl
by_feed P feeds others (Lift n w) = others (Lift n w) refl
by_feed P feeds others (Reserve n) = others (Reserve n) refl
by_feed P feeds others (Fill n t) = others (Fill n t) refl
by_feed P feeds others (Fetch n) = others (Fetch n) refl
by_feed P feeds others (Apply n) = others (Apply n) refl
by_feed P feeds others (Look n) = others (Look n) refl
by_feed P feeds others (Answer n w) = others (Answer n w) refl
by_feed P feeds others (Collect n w) = others (Collect n w) refl
by_feed P feeds others (Close c time) = others (Close c time) refl
by_feed P feeds others (Refuse n) = others (Refuse n) refl
by_feed P feeds others (Revive n f) = others (Revive n f) refl

grows_same : (world : World) → Grows world world
grows_same world = record { many = refl; counts = λ m. omega arith }

grows_on : (a b c : World) → Grows a b → Grows b c → Grows a c
grows_on a b c x y = record {
  many = y.many ∙ x.many;
  counts = λ m.
      let p = x.counts m in
      let q = y.counts m in
      omega arith;
}

-- a node that there is
node_there : (setup : Setup) (world : World) (n : ℕ) → length world.nodes ≡ setup.nodes → ltb n setup.nodes ≡ true → n < length world.nodes
node_there setup world n many below =
    let there : n < setup.nodes = ltb-true n setup.nodes below in
    omega arith

-- each step
step_grows : (setup : Setup) (world : World) (step : Step) (refused : Refused) → length world.nodes ≡ setup.nodes
    → Grows world (after_step setup world step refused)
step_grows setup world step refused many =
    by_open (λ s. Grows world (after_step setup world s refused))
    (λ n w. open_by (λ (after : World). Grows world after) setup world n w refused (grows_same world)
    (λ here. opened_grows setup n w world (node_there setup world n many here)))
    (λ s is. alike_grows world (after_step setup world s refused) (step_alike setup world s refused is)) step

abbrev AreAllOwn : World → Type 0
AreAllOwn world = (n : ℕ) → AreOwn n 0 (names (node_at n world))

all_own : (setup : Setup) (world : World) (step : Step) (refused : Refused) → length world.nodes ≡ setup.nodes → AreAllOwn world
    → AreAllOwn (after_step setup world step refused)
all_own setup world step refused many own =
    by_open (λ s. AreAllOwn (after_step setup world s refused))
    (λ n w. open_by AreAllOwn setup world n w refused own (λ here. opened_own setup n w world (node_there setup world n many here) own))
    (λ s is. step_own setup world s refused is own) step

none_fed : (setup : Setup) (world : World) (step : Step) (refused : Refused) (c : Connection) → is_client world c ≡ false → fed_to c world.fed ≡ []
    → fed_to c (after_step setup world step refused).fed ≡ []
none_fed setup world step refused c absent none =
    by_feed (λ s. fed_to c (after_step setup world s refused).fed ≡ [])
    (λ d time bytes. feed_by (λ (after : World). fed_to c after.fed ≡ []) setup world d time bytes refused none
    (λ here. fed_more c world.fed (record { connection = d; moment = moment time; bytes = bytes }) none (other_client world d c here absent)))
    (λ s is. ap (fed_to c) (step_fed setup world s refused is) ∙ none) step

event_apart : (setup : Setup) (world : World) (told : List Occurrence) (e : Event) → length world.nodes ≡ setup.nodes → IsApart world told
    → IsEvent setup world e → IsApart (after_event setup world e) (told ++ told_of e)
event_apart setup world told e many apart is =
    let grows = step_grows setup world e.step e.refused many in
    record {
      own = all_own setup world e.step e.refused many apart.own;
      feeds = event_fed setup world e is.outcome_is ∙ ap (λ (l : List Feeding). l ++ fed_in (told_of e)) apart.feeds ∙ sym (fed_both told (told_of e));
      closes = event_closed setup world e is.outcome_is ∙ ap (λ (l : List Connection). l ++ closed_in (told_of e)) apart.closes
          ∙ sym (closed_both told (told_of e));
      opened = λ c absent.
          let before = grows_absent world (after_event setup world e) c grows absent in
          ap (is_among c) (opened_both told (told_of e))
          ∙ list_any-append (λ (other : Connection). same_connection other c) (opened_in told) (opened_in (told_of e))
          ∙ (λ i. apart.opened c before i || event_opened setup world e c many is.outcome_is absent i);
      fed = λ c absent.
          let before = grows_absent world (after_event setup world e) c grows absent in
          none_fed setup world e.step e.refused c before (apart.fed c before);
      handed = λ c absent.
          let before = grows_absent world (after_event setup world e) c grows absent in
          let none = by_hand c (is_done e.outcome) (handed_by world e.step) (handed_apart world e.step c apart.own before) in
          ap (handed_to c) (pieces_both told (told_of e) ∙ ap (λ (l : List Handed). pieces_in told ++ l) (one_handed e))
          ∙ handed_more c (pieces_in told) e.handed (apart.handed c before) (ap (handed_to c) is.handed_is ∙ none);
    }

-- and many of them
pub record HaveLed (setup : Setup) (world after : World) (told : List Occurrence) : Type 0 where
  pub many : length after.nodes ≡ setup.nodes
  pub grows : Grows world after
  pub apart : IsApart after told

pub each_led : (setup : Setup) (world : World) (told : List Occurrence) (events : List Event) → length world.nodes ≡ setup.nodes → IsApart world told
    → AreEvents setup world events → HaveLed setup world (after_events setup world events) (told ++ told_in events)
each_led setup world told [] many apart are =
    record { many = many; grows = grows_same world; apart = subst (IsApart world) (sym (append-nil told)) apart }
each_led setup world told (e ∷ events) many apart are =
    let grows = step_grows setup world e.step e.refused many in
    let next = after_event setup world e in
    let later = each_led setup next (told ++ told_of e) events (grows.many ∙ many) (event_apart setup world told e many apart are.0) are.1 in
    record {
      many = later.many;
      grows = grows_on world next (after_events setup next events) grows later.grows;
      apart = subst (IsApart (after_events setup next events)) (append_assoc told (told_of e) (told_in events)) later.apart;
    }

-- at first
no_names : (k n : ℕ) (node : Node) → names node ≡ [] → names (get_or (replicate k node) n no_node) ≡ []
no_names zero n node none = refl
no_names (suc k) zero node none = none
no_names (suc k) (suc n) node none = no_names k n node none

fresh_apart : (setup : Setup) → IsApart (fresh setup) []
fresh_apart setup = record {
  own = λ n. subst (AreOwn n 0) (sym (no_names setup.nodes n (fresh_node setup) refl)) tt;
  feeds = refl;
  closes = refl;
  opened = λ c absent. refl;
  fed = λ c absent. refl;
  handed = λ c absent. refl;
}

-- so in each past
pub past_led : (setup : Setup) (events : List Event) (world : World) → IsPast setup events world → HaveLed setup (fresh setup) world (told_in events)
past_led setup events world past =
    subst (λ (w : World). HaveLed setup (fresh setup) w (told_in events)) (sym past.1)
    (each_led setup (fresh setup) [] events (length-replicate setup.nodes (fresh_node setup)) (fresh_apart setup) past.0)

-- events behind events
pub both_are : (setup : Setup) (world : World) (first second : List Event) → AreEvents setup world first
    → AreEvents setup (after_events setup world first) second → AreEvents setup world (first ++ second)
both_are setup world [] second are more = more
both_are setup world (e ∷ first) second are more = (are.0, both_are setup (after_event setup world e) first second are.1 more)

pub after_both : (setup : Setup) (world : World) (first second : List Event)
    → after_events setup world (first ++ second) ≡ after_events setup (after_events setup world first) second
after_both setup world [] second = refl
after_both setup world (e ∷ first) second = after_both setup (after_event setup world e) first second

pub past_then : (setup : Setup) (events more : List Event) (world : World) → IsPast setup events world → AreEvents setup world more
    → IsPast setup (events ++ more) (after_events setup world more)
past_then setup events more world past are = (
  both_are setup (fresh setup) events more past.0 (subst (λ (w : World). AreEvents setup w more) past.1 are),
  ap (λ (w : World). after_events setup w more) past.1 ∙ sym (after_both setup (fresh setup) events more),
)

-- the events of rounds
pub rounds_are : (setup : Setup) (world : World) (rounds : List (List Event)) → AreRounds setup world rounds → AreEvents setup world (events_of rounds)
rounds_are setup world [] are = absurd are
rounds_are setup world (events ∷ []) are = subst (AreEvents setup world) (sym (append-nil events)) are.0.are
rounds_are setup world (events ∷ next ∷ more) are =
    both_are setup world events (events_of (next ∷ more)) are.0.are (rounds_are setup (after_events setup world events) (next ∷ more) are.2)

-- no step of a round is an open, a feed or a close
abbrev outer : List Step → Bool
outer steps = list_any is_outer steps

none_both : (xs ys : List Step) → outer xs ≡ false → outer ys ≡ false → outer (xs ++ ys) ≡ false
none_both xs ys first second = list_any-append is_outer xs ys ∙ (λ i. first i || second i)

none_each : (f : ℕ → List Step) (xs : List ℕ) → ((x : ℕ) → outer (f x) ≡ false) → outer (flat_map f xs) ≡ false
none_each f [] each = refl
none_each f (x ∷ xs) each = none_both (f x) (flat_map f xs) (each x) (none_each f xs each)

none_fill : (n : ℕ) (xs : List ℕ) → outer (map (Fill n) xs) ≡ false
none_fill n [] = refl
none_fill n (x ∷ xs) = none_fill n xs

none_for : (setup : Setup) (f : ℕ → ℕ → List Step) → ((n w : ℕ) → outer (f n w) ≡ false) → outer (for_workers setup f) ≡ false
none_for setup f each =
    none_each (λ n. flat_map (f n) (range_with_len 0 setup.workers)) (range_with_len 0 setup.nodes)
    (λ n. none_each (f n) (range_with_len 0 setup.workers) (each n))

none_turn : (n turns : ℕ) → outer (in_turn n turns) ≡ false
none_turn n zero = refl
none_turn n (suc turns) = none_turn n turns

none_applying : (n : ℕ) (turns : List ℕ) → outer (applying n turns) ≡ false
none_applying n [] = refl
none_applying n (many ∷ more) = none_both (in_turn n many) (Look n ∷ applying (suc n) more) (none_turn n many) (none_applying (suc n) more)

none_round : (setup : Setup) (turns : List ℕ) → outer (round_of setup turns) ≡ false
none_round setup turns =
    none_both (lifting setup) (reserving setup ++ (applying 0 turns ++ answering setup)) (none_for setup (λ n w. Post n w ∷ Lift n w ∷ []) (λ n w. refl))
    (none_both (reserving setup) (applying 0 turns ++ answering setup)
    (none_each (λ n. Reserve n ∷ map (Fill n) (range_with_len 0 setup.nodes)) (range_with_len 0 setup.nodes) (λ n. none_fill n (range_with_len 0 setup.nodes)))
    (none_both (applying 0 turns) (answering setup) (none_applying 0 turns) (none_for setup (λ n w. Answer n w ∷ Collect n w ∷ []) (λ n w. refl))))

-- so by rounds nothing happens but that bytes are handed out
told_pieces : (events : List Event) → outer (map (λ (e : Event). e.step) events) ≡ false → told_in events ≡ map HandedOut (handed_in events)
told_pieces [] none = refl
told_pieces (e ∷ events) none =
    let both = or_parts (is_outer e.step) (outer (map (λ (d : Event). d.step) events)) none in
    ap (λ (l : List Occurrence). l ++ map HandedOut e.handed ++ told_in events) (inner_told e.step e.outcome both.0)
    ∙ ap (λ (l : List Occurrence). map HandedOut e.handed ++ l) (told_pieces events both.1)
    ∙ sym (map-append HandedOut e.handed (handed_in events))

round_told : (setup : Setup) (world : World) (events : List Event) → IsRound setup world events → told_in events ≡ map HandedOut (handed_in events)
round_told setup world events round = told_pieces events (ap outer round.steps ∙ none_round setup round.turns)

pub rounds_told : (setup : Setup) (world : World) (rounds : List (List Event)) → AreRounds setup world rounds
    → told_in (events_of rounds) ≡ map HandedOut (handed_in (events_of rounds))
rounds_told setup world [] are = absurd are
rounds_told setup world (events ∷ []) are =
    subst (λ (es : List Event). told_in es ≡ map HandedOut (handed_in es)) (sym (append-nil events)) (round_told setup world events are.0)
rounds_told setup world (events ∷ next ∷ more) are =
    let rest = events_of (next ∷ more) in
    flat_map-append told_of events rest
    ∙ (λ i. round_told setup world events are.0 i ++ rounds_told setup (after_events setup world events) (next ∷ more) are.2 i)
    ∙ sym (map-append HandedOut (handed_in events) (handed_in rest))
    ∙ ap (map HandedOut) (sym (flat_map-append (λ (e : Event). e.handed) events rest))
