-- Each step that a service asks for, as one by which the nodes go on.
use Rattle.std.proofs.Common.{◌≡◌, ℕ, ◌<◌, Bool, true, false, not, cond, inl, inr, List, [], ◌∷◌, ◌++◌, length, map, refl, ap, sym, ◌∙◌, subst, arith, append-nil, ltb}
use Rattle.std.specs.Prelude.{◌&&◌, ◌||◌, nat_le, Option, Some, None, IfNone, is_some, option_map}
use Rattle.std.proofs.lemmas.Bool.{cases_Bool, and_parts, or_parts, ltb-true, not-false}
use Rattle.std.proofs.lemmas.List.{get_or-set_same}
use Rattle.std.proofs.lemmas.Grind.{flat_map-append}
use Rattle.nr_model.specs.Bytes.{Bytes}
use Rattle.nr_model.specs.Keyspace.{moment}
use Rattle.nr_model.specs.Items.{Connection}
use Rattle.nr_model.specs.Connections.{Setup, Handed}
use Rattle.nr_model.specs.Nodes.{Client, fresh_client, Node, no_node, World, node_at, client_at, client_of}
use Rattle.nr_model.specs.Nodes.Steps.{Step, Open, Feed, Close, Outcome, Opened, Done, Idle, Refused, idle_where, is_worker, is_client, in_use, is_overrun, came_to, closed_client, closed_node, closed, effect_by, after_step}
use Rattle.nr_model.specs.declared.reason.Reason.TheVariants.{NoSuch, Ended, TooMany, Down}
use Rattle.nr_model.specs.Nodes.Pasts.{Event, IsPast}
use Rattle.nr_model.specs.Nodes.Settling.{after_events}
use Rattle.nr_service.specs.Stories as stories
use Rattle.nr_service.specs.Stories.{Occurrence, opened_in}
use Rattle.nr_service.proofs.Occurrences.{pieces_opened}
use Rattle.nr_service.specs.declared.backend.ConnectionState.TheVariants as standings
use Rattle.nr_world.specs.Standing.{has_ended}
use Rattle.nr_world.specs.WorldState.{WorldState, Shows}
use Rattle.nr_world.specs.Taken.{Steps}
use Rattle.nr_world.specs.Settles.{SettlesWorld, events_of}
use Rattle.nr_entry.specs.declared.conn.ConnId.{ConnId}
use Rattle.nr_entry.specs.Jobs.{connection_of}
use Rattle.nr_world_service.specs.Told.{told_by, told_of, told_in, opening}
use Rattle.nr_world_service.specs.Moves.{AreNew, IsFurther, Moves, Refuses, Rests, ClosesConnection}
use Rattle.nr_world_service.specs.Stands.{StandsIn, is_gone}
use Rattle.nr_world_service.proofs.Apart.{connection_at, idle_told, grows_absent}
use Rattle.nr_world_service.proofs.Occurred.{open_there}
use Rattle.nr_world_service.proofs.Pasts.{past_led, each_led, past_then, both_are, after_both, rounds_are, rounds_told}

-- a step that hands out nothing
step_moves : (old new : WorldState) (step : Step) (o : Outcome) (more : List Occurrence) → Steps old new step o
    → ((events : List Event) (world : World) (refused : Refused) → IsPast old.setup events world → Shows old world
    → o ≡ came_to old.setup world step refused
    → (told_by step o ≡ more) × AreNew world (after_step old.setup world step refused) (opened_in more))
    → Moves old new more
step_moves old new step o more steps is = record {
  setup = steps.setup;
  further = λ events world past shows.
      let t = steps.taken events world past shows in
      let told = is events world t.refused past shows t.event.outcome_is in
      record {
        events = record { step = step; outcome = o; handed = []; answer = None; refused = t.refused } ∷ [];
        are = (t.event, tt);
        shows = t.shows;
        told = append-nil (told_by step o ++ []) ∙ append-nil (told_by step o) ∙ told.0;
        is_new = told.1;
      };
}

-- a feed of a connection that takes bytes
stands_open : (down over : Bool) → standings.Open ≡ cond down standings.Down (cond over standings.Over standings.Open) → (down ≡ false) × (over ≡ false)
stands_open true over e = absurd (cc e)
stands_open false true e = absurd (cc e)
stands_open false false e = (refl, refl)

-- it asked for no end, was not closed, and its queue isn't cut, so that it was not overrun either
takes_path : (ended closed cut fell : Bool) → (ended || (closed || cut)) ≡ false → ((ended || (closed || (cut && not fell))) ≡ false) × (cut ≡ false)
takes_path true closed cut fell e = absurd (cc e)
takes_path false true cut fell e = absurd (cc e)
takes_path false false true fell e = absurd (cc e)
takes_path false false false fell e = (refl, refl)

feed_path : (a b d k : Bool) → a ≡ false → b ≡ false → d ≡ false → k ≡ false
    → idle_where a NoSuch (idle_where b Ended (idle_where d Down (idle_where k Ended Done))) ≡ Done
feed_path a b d k e f g h = rw (e, f, g, h)

pub feed_moves : (old new : WorldState) (c : Connection) (time : ℕ) (bytes : Bytes) (o : Outcome) → StandsIn old c standings.Open
    → Steps old new (Feed c time bytes) o → Moves old new (stories.Fed (record { connection = c; moment = moment time; bytes = bytes }) ∷ [])
feed_moves old new c time bytes o stands steps =
    step_moves old new (Feed c time bytes) o (stories.Fed (record { connection = c; moment = moment time; bytes = bytes }) ∷ []) steps
    (λ events world refused past shows e.
    let client = client_of c world in
    let over = client.ended || (client.closed || client.queue.cut) in
    let takes = stands_open (node_at c.node world).down (has_ended world c) (stands world shows) in
    let on = or_parts (not (is_client world c)) over takes.1 in
    let still = takes_path client.ended client.closed client.queue.cut client.fell on.1 in
    let done = feed_path (not (is_client world c)) (client.ended || (client.closed || is_overrun client)) (node_at c.node world).down client.queue.cut
    on.0 still.0 takes.0 still.1 in
    (ap (told_by (Feed c time bytes)) (e ∙ done), tt))

-- an open that opened a connection
not_yet : (world : World) (n : ℕ) → is_client world (connection_at n (length (node_at n world).clients)) ≡ false
not_yet world n =
    let count = length (node_at n world).clients in
    elim (cases_Bool (is_client world (connection_at n count))) [
      | inl e ↦
          let both = and_parts (ltb n (length world.nodes)) (ltb count count) e in
          let below : count < count = ltb-true count count both.1 in
          absurd (omega arith)
      | inr e ↦ e
    ]

pub open_moves : (old new : WorldState) (n w : ℕ) (c : Connection) → Steps old new (Open n w) (Opened c) → Moves old new (stories.Opened c ∷ [])
open_moves old new n w c steps =
    step_moves old new (Open n w) (Opened c) (stories.Opened c ∷ []) steps
    (λ events world refused past shows e.
    let there = open_there old.setup world n w c refused (past_led old.setup events world past).many e in
    (refl, (ap (is_client world) there.0 ∙ not_yet world n, there.1, tt)))

-- a close: its connection takes no room any more
gone_third : (a b : Bool) → (a || (b || true)) ≡ true
gone_third true b = refl
gone_third false true = refl
gone_third false false = refl

gone_second : (a d : Bool) → (a || (true || d)) ≡ true
gone_second true d = refl
gone_second false d = refl

closed_gone : (world : World) (c : Connection) (time : ℕ) → is_client world c ≡ true → (client_of c (closed c time world)).closed ≡ true
closed_gone world c time here =
    let node = node_at c.node world in
    let both = and_parts (ltb c.node (length world.nodes)) (ltb c.serial (length node.clients)) here in
    let client = closed_client (client_of c world) in
    let blank = fresh_client 0 0 (record { node = 0; serial = 0 }) in
    let at = get_or-set_same world.nodes c.node (closed_node c time node) no_node (ltb-true c.node (length world.nodes) both.0) in
    ap (λ (n : Node). (client_at c.serial n).closed) at
    ∙ ap (λ (d : Client). d.closed) (get_or-set_same node.clients c.serial client blank (ltb-true c.serial (length node.clients) both.1))

close_gone : (setup : Setup) (world : World) (c : Connection) (time : ℕ) (refused : Refused)
    → is_gone (after_step setup world (Close c time) refused) c ≡ true
close_gone setup world c time refused =
    let step = Close c time in
    let absent = not (is_client world c) in
    let down = (node_at c.node world).down in
    let P : World → Type 0 = λ w. is_gone w c ≡ true in
    idle_told P setup world step refused absent NoSuch _ (λ is. λ i. is i || (down || (client_of c world).closed)) (λ here.
    idle_told P setup world step refused (client_of c world).closed Ended _ (λ is. (λ i. absent || (down || is i)) ∙ gone_third absent down) (λ still.
    idle_told P setup world step refused down Down _
    (λ is. (λ i. absent || (is i || (client_of c world).closed)) ∙ gone_second absent (client_of c world).closed) (λ up.
    let after = closed c time world in
    (λ i. not (is_client after c) || ((node_at c.node after).down || closed_gone world c time (not-false (is_client world c) here) i))
    ∙ gone_third (not (is_client after c)) (node_at c.node after).down)))

close_told : (a b d : Bool) (c : Connection) (time : ℕ)
    → told_by (Close c time) (idle_where a NoSuch (idle_where b Ended (idle_where d Down Done))) ≡ cond (a || (d || b)) [] (stories.closed_at c time ∷ [])
close_told true b d c time = refl
close_told false true true c time = refl
close_told false true false c time = refl
close_told false false true c time = refl
close_told false false false c time = refl

-- so it is in each world that is shown
pub gone_in : (a b : World) (c : Connection) → a.nodes ≡ b.nodes → is_gone a c ≡ true → is_gone b c ≡ true
gone_in a b c same is = sym (ap (λ (nodes : List Node). is_gone (record a { nodes = nodes }) c) same) ∙ is

close_opens : (c : Connection) (o : Outcome) (time : ℕ) → opened_in (told_by (Close c time) o) ≡ []
close_opens c (Opened d) time = refl
close_opens c Done time = refl
close_opens c (Idle reason) time = refl

pub close_closes : (old new : WorldState) (c : Connection) (time : ℕ) (o : Outcome) → Steps old new (Close c time) o → ClosesConnection old new c time
close_closes old new c time o steps = record {
  shut = told_by (Close c time) o;
  moves = step_moves old new (Close c time) o (told_by (Close c time) o) steps
      (λ events world refused past shows e.
      (refl, subst (AreNew world (after_step old.setup world (Close c time) refused)) (sym (close_opens c o time)) tt));
  is = λ events world past shows.
      ap (told_by (Close c time)) (steps.taken events world past shows).event.outcome_is
      ∙ close_told (not (is_client world c)) (client_of c world).closed (node_at c.node world).down c time;
  gone = λ events world past shows shown new_shows.
      let t = steps.taken events world past shows in
      gone_in (after_step old.setup world (Close c time) t.refused) shown c (sym t.shows.nodes ∙ new_shows.nodes)
      (close_gone old.setup world c time t.refused);
}

-- an open that opened none: nothing moves, and the node takes none
abbrev pub opens : Outcome → Bool
opens (Opened c) = true
opens Done = false
opens (Idle reason) = false

full_by : (a b d : Bool) (x : Connection) → opens (idle_where (not a) NoSuch (idle_where b TooMany (idle_where d Down (Opened x)))) ≡ false → a ≡ true
    → (d || b) ≡ true
full_by false b d x none is = absurd (cc is)
full_by true true true x none is = refl
full_by true true false x none is = refl
full_by true false true x none is = refl
full_by true false false x none is = absurd (cc none)

unmoved_by : (a b d : Bool) (x : Connection) (setup : Setup) (world : World) (step : Step) (refused : Refused)
    → opens (idle_where a NoSuch (idle_where b TooMany (idle_where d Down (Opened x)))) ≡ false
    → effect_by (idle_where a NoSuch (idle_where b TooMany (idle_where d Down (Opened x)))) setup world step refused ≡ world
unmoved_by true b d x setup world step refused none = refl
unmoved_by false true d x setup world step refused none = refl
unmoved_by false false true x setup world step refused none = refl
unmoved_by false false false x setup world step refused none = absurd (cc none)

pub open_refuses : (old new : WorldState) (n w : ℕ) (o : Outcome) → opens o ≡ false → Steps old new (Open n w) o → Refuses old new n w
open_refuses old new n w o none steps = record {
  shows = λ events world past shows.
      let t = steps.taken events world past shows in
      let node = node_at n world in
      subst (Shows new) (unmoved_by (not (is_worker old.setup n w)) (nat_le old.setup.connections (in_use node)) node.down (connection_at n (length node.clients))
      old.setup world (Open n w) t.refused (ap opens (sym t.event.outcome_is) ∙ none)) t.shows;
  full = λ events world past shows is.
      let t = steps.taken events world past shows in
      let node = node_at n world in
      full_by (is_worker old.setup n w) (nat_le old.setup.connections (in_use node)) node.down (connection_at n (length node.clients))
      (ap opens (sym t.event.outcome_is) ∙ none) is;
}

unopened_told : (n w : ℕ) (o : Outcome) → opens o ≡ false → told_by (Open n w) o ≡ []
unopened_told n w (Opened c) none = absurd (cc none)
unopened_told n w Done none = refl
unopened_told n w (Idle reason) none = refl

pub unopened_moves : (old new : WorldState) (n w : ℕ) (o : Outcome) → opens o ≡ false → Steps old new (Open n w) o → Moves old new []
unopened_moves old new n w o none steps =
    step_moves old new (Open n w) o [] steps (λ events world refused past shows e. (unopened_told n w o none, tt))

-- rounds of steps
settle_moves : (old new : WorldState) (handed : List Handed) → SettlesWorld old new handed → Moves old new (map stories.HandedOut handed)
settle_moves old new handed settles = record {
  setup = settles.setup;
  further = λ events world past shows.
      let h = settles.taken events world past shows in
      record {
        events = events_of h.rounds;
        are = rounds_are old.setup world h.rounds h.are;
        shows = h.shows;
        told = rounds_told old.setup world h.rounds h.are ∙ ap (map stories.HandedOut) (sym h.handed_is);
        is_new = subst (AreNew world (after_events old.setup world (events_of h.rounds))) (sym (pieces_opened handed)) tt;
      };
}

pub settle_rests : (old new : WorldState) (handed : List Handed) → SettlesWorld old new handed → Rests old new handed
settle_rests old new handed settles = record { moves = settle_moves old new handed settles; settles = settles }

-- nothing, and more behind it
pub none_moves : (v : WorldState) → Moves v v []
none_moves v = record {
  setup = refl;
  further = λ events world past shows. record { events = []; are = tt; shows = shows; told = refl; is_new = tt };
}

new_since : (world middle after : World) (connections : List Connection) → ((c : Connection) → is_client middle c ≡ false → is_client world c ≡ false)
    → AreNew middle after connections → AreNew world after connections
new_since world middle after [] earlier is = tt
new_since world middle after (c ∷ connections) earlier is = (earlier c is.0, is.1, new_since world middle after connections earlier is.2)

pub moves_on : (a b c : WorldState) (more : List Occurrence) → Moves a b [] → Moves b c more → Moves a c more
moves_on a b c more first second = record {
  setup = second.setup ∙ first.setup;
  further = λ events world past shows.
      let f = first.further events world past shows in
      let setup = a.setup in
      let middle = after_events setup world f.events in
      let later = past_then setup events f.events world past f.are in
      let t = subst (λ (s : Setup). IsFurther s c more middle) first.setup
      (second.further (events ++ f.events) middle (subst (λ (s : Setup). IsPast s (events ++ f.events) middle) (sym first.setup) later) f.shows) in
      let led = past_led setup events world past in
      let grown = each_led setup world (told_in events) f.events led.many led.apart f.are in
      let last = after_both setup world f.events t.events in
      record {
        events = f.events ++ t.events;
        are = both_are setup world f.events t.events f.are t.are;
        shows = subst (Shows c) (sym last) t.shows;
        told = flat_map-append told_of f.events t.events ∙ (λ i. f.told i ++ t.told i);
        is_new = subst (λ (w : World). AreNew world w (opened_in more)) (sym last)
            (new_since world middle (after_events setup middle t.events) (opened_in more)
            (λ d absent. grows_absent world middle d grown.grows absent) t.is_new);
      };
}

-- none took it, and the next one did, or didn't
pub none_is : (o : Option ConnId) → is_some o ≡ false → [] ≡ opening (option_map connection_of o)
none_is None is = refl
none_is (Some conn) is = absurd (cc is)

pub where_none : (o : Option ConnId) (P : Type 0) → is_some o ≡ false → IfNone o P → P
where_none None P is told = told
where_none (Some conn) P is told = absurd (cc is)
