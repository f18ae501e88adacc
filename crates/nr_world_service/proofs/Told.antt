-- What each call adds to every story.
use Rattle.std.proofs.Common.{◌≡◌, ℕ, Bool, true, false, cond, inl, inr, Option, Some, None, List, [], ◌∷◌, ◌++◌, length, map, refl, ap, sym, ◌∙◌, subst}
use Rattle.std.specs.Prelude.{IfSome, IfNone}
use Rattle.std.specs.Option.{option_map}
use Rattle.std.proofs.lemmas.Bool.{cases_Bool}
use Rattle.std.proofs.lemmas.Grind.{flat_map-append}
use Rattle.std.proofs.lemmas.List.{length-map}
use Rattle.nr_model.specs.Bytes.{Bytes}
use Rattle.nr_model.specs.Keyspace.{moment}
use Rattle.nr_model.specs.Items.{Connection, same_connection}
use Rattle.nr_model.specs.Connections.{Setup, Handed, handed_to, fed_to}
use Rattle.nr_model.specs.Nodes.{World}
use Rattle.nr_model.specs.Nodes.Steps.{is_client}
use Rattle.nr_model.specs.Nodes.Pasts.{Event, AreEvents, IsPast}
use Rattle.nr_model.specs.Nodes.Settling.{IsSettled, after_events}
use Rattle.nr_entry.specs.declared.conn.ConnId.{ConnId}
use Rattle.nr_entry.specs.Jobs.{connection_of}
use Rattle.nr_world.specs.Served.{node_seen}
use Rattle.nr_world.specs.WorldState.{WorldState, Shows}
use Rattle.nr_world.specs.Settles.{SettlesWorld, events_of}
use Rattle.nr_service.specs.Stories.{Occurrence, Opened, Fed, HandedOut, Story, closed_at, IsOpened, IsFed, HasWorked, IsShut, IsClosed, Keeps, opened_in, fed_in, handed_in, is_among, going_on}
use Rattle.nr_service.proofs.Occurrences.{going_none}
use Rattle.nr_world_service.specs.Kept.{Taps, is_conn, kept_at, IsPut, AreKept, IsTapped}
use Rattle.nr_world_service.specs.State.{WorldBackendState, IsSound}
use Rattle.nr_world_service.specs.Told.{told_of, told_in, opening}
use Rattle.nr_world_service.specs.Led.{IsOf, HasLedTo, IsAtRest, HasOnceLed}
use Rattle.nr_world_service.specs.Moves.{IsFurther, Moves, FindsFull, Rests, ClosesConnection}
use Rattle.nr_world_service.specs.Stands.{is_gone, IsGone, IsFull}
use Rattle.nr_world_service.proofs.Apart.{same_client, other_client, grows_absent}
use Rattle.nr_world_service.proofs.Pasts.{past_led, each_led, past_then, rounds_are, rounds_told}
use Rattle.nr_world_service.proofs.Steps.{gone_in}
use Rattle.nr_world_service.proofs.Found.{same_conn, conn_same, is_conn_itself}

-- The events of a story, and more behind them: the story goes on by what happened by these.
story_on : (setup : Setup) (story : Story) (events more : List Event) (world : World) (told : List Occurrence)
    → IsOf story events world → setup ≡ story.setup → AreEvents setup world more → told_in more ≡ told
    → IsOf (going_on story told) (events ++ more) (after_events setup world more)
story_on setup story events more world told is sized are adds =
    let after = after_events setup world more in
    let past = past_then setup events more world (subst (λ (s : Setup). IsPast s events world) (sym sized) is.past) are in
    record {
      past = subst (λ (s : Setup). IsPast s (events ++ more) after) sized past;
      told = flat_map-append told_of events more ∙ (λ i. is.told i ++ adds i);
    }

-- its past, at the setup that what answers has
past_of_led : (a : WorldBackendState) (story : Story) → (led : HasLedTo a story) → IsPast a.world.setup led.events led.world
past_of_led a story led = subst (λ (s : Setup). IsPast s led.events led.world) (sym led.sized) led.is.past

-- a story goes on
led_on : (old new : WorldBackendState) (story : Story) (more : List Occurrence) → Moves old.world new.world more → HasLedTo old story
    → HasLedTo new (going_on story more)
led_on old new story more moves led =
    let setup = old.world.setup in
    let f = moves.further led.events led.world (past_of_led old story led) led.shows in
    record {
      events = led.events ++ f.events;
      world = after_events setup led.world f.events;
      is = story_on setup story led.events f.events led.world more led.is led.sized f.are f.told;
      sized = moves.setup ∙ led.sized;
      shows = f.shows;
    }

same_story : (old new : WorldBackendState) (story : Story) → Moves old.world new.world [] → HasLedTo old story → HasLedTo new story
same_story old new story moves led = subst (HasLedTo new) (going_none story) (led_on old new story [] moves led)

-- what is kept stays kept for connections that are there
sound_on : (old new : WorldState) (before after : Taps) (more : List Occurrence) → IsSound old before → Moves old new more
    → ((events : List Event) (world : World) → (f : IsFurther old.setup new more world) → (c : Connection)
    → is_client (after_events old.setup world f.events) c ≡ false → kept_at c before ≡ None → kept_at c after ≡ None)
    → IsSound new after
sound_on old new before after more sound moves none =
    let setup = old.setup in
    let f = moves.further sound.events sound.shown sound.past sound.shows in
    let led = past_led setup sound.events sound.shown sound.past in
    let grown = each_led setup sound.shown (told_in sound.events) f.events led.many led.apart f.are in
    let world = after_events setup sound.shown f.events in
    let past = past_then setup sound.events f.events sound.shown sound.past f.are in
    record {
      events = sound.events ++ f.events;
      shown = world;
      past = subst (λ (s : Setup). IsPast s (sound.events ++ f.events) world) (sym moves.setup) past;
      shows = f.shows;
      absent = λ c absent. none sound.events sound.shown f c absent (sound.absent c (grows_absent sound.shown world c grown.grows absent));
    }

pub sound_kept : (old new : WorldState) (before after : Taps) (more : List Occurrence) → IsSound old before
    → Moves old new more → ((c : Connection) → kept_at c before ≡ None → kept_at c after ≡ None) → IsSound new after
sound_kept old new before after more sound moves none =
    sound_on old new before after more sound moves (λ events world f c absent was. none c was)

-- in each world that is shown, bytes are kept for its connections alone
absent_in : (world : WorldState) (taps : Taps) (shown : World) → IsSound world taps → Shows world shown → (c : Connection)
    → is_client shown c ≡ false → kept_at c taps ≡ None
absent_in world taps shown sound shows c absent =
    sound.absent c (same_client sound.shown shown c (sym sound.shows.nodes ∙ shows.nodes) ∙ absent)

-- behind each change of the taps
pub put_none : (old new : Taps) (conn : ConnId) → IsPut conn None old new → (c : Connection) → kept_at c old ≡ None → kept_at c new ≡ None
put_none old new conn put c none =
    put.at c ∙ elim (is_conn c conn) as (λ b. cond b None (kept_at c old) ≡ None) [ true ↦ refl | false ↦ none ]

pub added_absent : (old new : Taps) (handed : List Handed) → AreKept handed old new → (c : Connection) → kept_at c old ≡ None → kept_at c new ≡ None
added_absent old new handed put c none =
    put.at c ∙ ap (option_map (λ (bytes : Bytes). bytes ++ handed_to c handed)) none

opened_none : (old new : Taps) (conn : ConnId) (c : Connection) → IsPut conn (Some []) old new → is_conn c conn ≡ false → kept_at c old ≡ None
    → kept_at c new ≡ None
opened_none old new conn c put other none = put.at c ∙ ap (λ b. cond b (Some []) (kept_at c old)) other ∙ none

-- another connection than the one that was opened
apart_from : (world : World) (conn : ConnId) (c : Connection) → is_client world (connection_of conn) ≡ true → is_client world c ≡ false
    → is_conn c conn ≡ false
apart_from world conn c here absent = sym (conn_same c conn) ∙ other_client world (connection_of conn) c here absent

sound_opened : (old new : WorldState) (before after : Taps) (conn : ConnId) → IsSound old before → Moves old new (Opened (connection_of conn) ∷ [])
    → IsPut conn (Some []) before after → IsSound new after
sound_opened old new before after conn sound moves put =
    sound_on old new before after (Opened (connection_of conn) ∷ []) sound moves
    (λ events world f c absent was. opened_none before after conn c put
    (apart_from (after_events old.setup world f.events) conn c f.is_new.1 absent) was)

abbrev pub Kept : WorldBackendState → Connection → Option Bytes
Kept a c = kept_at c a.taps

others_kept : (old new : Taps) (conn : ConnId) (w : Option Bytes) → IsPut conn w old new
    → (other : Connection) → same_connection other (connection_of conn) ≡ false → kept_at other new ≡ kept_at other old
others_kept old new conn w put other apart = put.at other ∙ ap (λ b. cond b w (kept_at other old)) (sym (same_conn other conn) ∙ apart)

own_kept : (old new : Taps) (conn : ConnId) (w : Option Bytes) → IsPut conn w old new → kept_at (connection_of conn) new ≡ w
own_kept old new conn w put =
    put.at (connection_of conn) ∙ ap (λ b. cond b w (kept_at (connection_of conn) old)) (is_conn_itself conn)

-- a connection was opened
pub is_opened : (old new : WorldBackendState) (conn : ConnId) → IsSound old.world old.taps
    → Moves old.world new.world (Opened (connection_of conn) ∷ []) → IsPut conn (Some []) old.taps new.taps
    → IsOpened (connection_of conn) (HasLedTo old) (HasLedTo new) (Kept old) (Kept new)
is_opened old new conn sound moves put =
    let c = connection_of conn in
    let setup = old.world.setup in
    let before : (story : Story) (led : HasLedTo old story) → is_client led.world c ≡ false = λ story led.
    (moves.further led.events led.world (past_of_led old story led) led.shows).is_new.0 in
    record {
      past = λ story led. led_on old new story (Opened c ∷ []) moves led;
      first = λ story led.
          ap (λ (os : List Occurrence). is_among c (opened_in os)) (sym led.is.told)
          ∙ (past_led setup led.events led.world (past_of_led old story led)).apart.opened c (before story led);
      fed = λ story led.
          let apart = (past_led setup led.events led.world (past_of_led old story led)).apart in
          ap (λ (os : List Occurrence). fed_to c (fed_in os)) (sym led.is.told) ∙ ap (fed_to c) (sym apart.feeds) ∙ apart.fed c (before story led);
      handed = λ story led.
          ap (λ (os : List Occurrence). handed_to c (handed_in os)) (sym led.is.told)
          ∙ (past_led setup led.events led.world (past_of_led old story led)).apart.handed c (before story led);
      closed = sound.absent c (moves.further sound.events sound.shown sound.past sound.shows).is_new.0;
      kept = own_kept old.taps new.taps conn (Some []) put;
      others = others_kept old.taps new.taps conn (Some []) put;
    }

-- none was
pub is_same : (old new : WorldBackendState) → Moves old.world new.world [] → new.taps ≡ old.taps
    → Keeps (HasLedTo old) (HasLedTo new) (Kept old) (Kept new)
is_same old new moves same = record {
  past = λ story led. same_story old new story moves led;
  kept = λ c. ap (kept_at c) same;
}

-- bytes were fed
pub is_fed : (old new : WorldBackendState) (c : Connection) (time : ℕ) (bytes : Bytes)
    → Moves old.world new.world (Fed (record { connection = c; moment = moment time; bytes = bytes }) ∷ []) → new.taps ≡ old.taps
    → IsFed c time bytes (HasLedTo old) (HasLedTo new) (Kept old) (Kept new)
is_fed old new c time bytes moves same = record {
  past = λ story led. led_on old new story (Fed (record { connection = c; moment = moment time; bytes = bytes }) ∷ []) moves led;
  kept = λ other. ap (kept_at other) same;
}

-- bytes were handed out, and the world behind that is settled
rests_on : (old new : WorldBackendState) (story : Story) (handed : List Handed) → IsSound new.world new.taps → SettlesWorld old.world new.world handed
    → new.failed ≡ false → HasLedTo old story → IsAtRest new (going_on story (map HandedOut handed))
rests_on old new story handed sound settles works led =
    let setup = old.world.setup in
    let past = past_of_led old story led in
    let h = settles.taken led.events led.world past led.shows in
    let more = events_of h.rounds in
    let after = after_events setup led.world more in
    record {
      events = led.events ++ more;
      world = after;
      is = story_on setup story led.events more led.world (map HandedOut handed) led.is led.sized
          (rounds_are setup led.world h.rounds h.are) (rounds_told setup led.world h.rounds h.are ∙ ap (map HandedOut) (sym h.handed_is));
      sized = settles.setup ∙ led.sized;
      shows = h.shows;
      works = works;
      settled = subst (λ (s : Setup). IsSettled s (led.events ++ more) after) led.sized h.settled;
      absent = absent_in new.world new.taps after sound h.shows;
    }

pub has_worked : (old new : WorldBackendState) (handed : List Handed) → IsSound old.world old.taps → new.failed ≡ false → Rests old.world new.world handed
    → AreKept handed old.taps new.taps → HasWorked (HasLedTo old) (HasLedTo new) (IsAtRest new) (Kept old) (Kept new)
has_worked old new handed sound works rests put =
    let after = sound_kept old.world new.world old.taps new.taps (map HandedOut handed) sound rests.moves (added_absent old.taps new.taps handed put) in
    record {
      handed = handed;
      past = λ story led. led_on old new story (map HandedOut handed) rests.moves led;
      rest = λ story led. rests_on old new story handed after rests.settles works led;
      kept = put.at;
    }

-- what a close added tells whether its connection took no room before
shut_told : (old : WorldState) (world : World) (c : Connection) (time : ℕ) (shut : List Occurrence) → Shows old world
    → shut ≡ cond (is_gone world c) [] (closed_at c time ∷ []) → IsShut c time (IsGone old c) shut
shut_told old world c time shut shows is =
    elim (cases_Bool (is_gone world c)) [
      | inl gone ↦ inr (
        is ∙ ap (λ (b : Bool). cond b [] (closed_at c time ∷ [])) gone,
        λ shown also. gone_in world shown c (sym shows.nodes ∙ also.nodes) gone,
      )
      | inr there ↦ inl (is ∙ ap (λ (b : Bool). cond b [] (closed_at c time ∷ [])) there, λ gone. absurd (cc (gone world shows, there)))
    ]

-- a connection was closed
pub is_closed : (old new : WorldBackendState) (conn : ConnId) (time : ℕ) → IsSound old.world old.taps → ClosesConnection old.world new.world (connection_of conn) time
    → IsPut conn None old.taps new.taps
    → IsClosed (connection_of conn) time (IsGone old.world (connection_of conn)) (HasLedTo old) (HasLedTo new) (Kept old) (Kept new)
is_closed old new conn time sound closes put = record {
  shut = closes.shut;
  is = shut_told old.world sound.shown (connection_of conn) time closes.shut sound.shows (closes.is sound.events sound.shown sound.past sound.shows);
  past = λ story led. led_on old new story closes.shut closes.moves led;
  kept = own_kept old.taps new.taps conn None put;
  others = others_kept old.taps new.taps conn None put;
}

-- as many nodes as the setup says
pub nodes_many : (world : WorldState) (taps : Taps) → IsSound world taps → length world.nodes ≡ world.setup.nodes
nodes_many world taps sound =
    sym (length-map world.nodes node_seen) ∙ ap length sound.shows.nodes ∙ (past_led world.setup sound.events sound.shown sound.past).many

-- a connection was opened, or none was
pub sound_tapped : (old new : WorldState) (before after : Taps) (opened : Option ConnId) → IsSound old before
    → Moves old new (opening (option_map connection_of opened)) → IsTapped opened before after → IsSound new after
sound_tapped old new before after None sound moves same =
    sound_kept old new before after [] sound moves (λ c none. ap (kept_at c) same ∙ none)
sound_tapped old new before after (Some conn) sound moves put = sound_opened old new before after conn sound moves put

-- in terms of what was opened
pub opened_told : (old new : WorldBackendState) (opened : Option ConnId) → IsSound old.world old.taps
    → Moves old.world new.world (opening (option_map connection_of opened)) → IsTapped opened old.taps new.taps
    → IfSome opened (λ (conn : ConnId). IsOpened (connection_of conn) (HasLedTo old) (HasLedTo new) (Kept old) (Kept new))
opened_told old new None sound moves tapped = tt
opened_told old new (Some conn) sound moves put = is_opened old new conn sound moves put

pub none_told : (old new : WorldBackendState) (opened : Option ConnId) → Moves old.world new.world (opening (option_map connection_of opened))
    → IsTapped opened old.taps new.taps → IfNone opened (Keeps (HasLedTo old) (HasLedTo new) (Kept old) (Kept new))
none_told old new None moves same = is_same old new moves same
none_told old new (Some conn) moves put = tt

-- its connection takes no room any more, in each world that is shown
pub gone_told : (old new : WorldState) (taps : Taps) (c : Connection) (time : ℕ) → IsSound old taps → ClosesConnection old new c time → IsGone new c
gone_told old new taps c time sound closes = closes.gone sound.events sound.shown sound.past sound.shows

-- none was opened since no node had room
pub full_told : (old : WorldState) (taps : Taps) (opened : Option ConnId) → IsSound old taps → IfNone opened (FindsFull old)
    → IfNone opened (IsFull old)
full_told old taps None sound full = full sound.events sound.shown sound.past sound.shows
full_told old taps (Some conn) sound full = tt

-- what led to it once is left of it, whatever became of it
pub once_led : (a : WorldBackendState) (story : Story) → HasLedTo a story → HasOnceLed story
once_led a story led = record { to = a; led = led }
