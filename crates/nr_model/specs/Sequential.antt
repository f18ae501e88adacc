-- One sequential Redis: what it answers, item after item, from the empty keyspace. Each item looks back at what was before it.
use Rattle.std.specs.Prelude.{ℕ, ◌+◌, ◌*◌, Bool, true, false, not, ◌&&◌, ◌||◌, ◌==◌, cond, max, List, [], ◌∷◌, ◌++◌, length, map, fold, filter, flat_map, reverse, Option, Some, None, bytes_eq, pos, codes}
use Rattle.std.specs.List.{list_any}
use Rattle.std.specs.Str.{str_to_ascii_lowercase}
use Rattle.std.specs.FinMap as map
pub mod Events
pub mod Subscribers
pub mod Messages
pub mod Watches
use Rattle.nr_model.specs.Bytes.{Bytes}
use Rattle.nr_model.specs.Replies.{Reply, Int, Error, NullArray, array, reply_text}
use Rattle.nr_model.specs.Keyspace.{Key, Keyspace, live}
use Rattle.nr_model.specs.declared.command.Command.{Command}
use Rattle.nr_model.specs.declared.command.Command.TheVariants.{Perform, Session}
use Rattle.nr_model.specs.declared.command.Operation.TheVariants.{Look, Change}
use Rattle.nr_model.specs.declared.command.Session.TheVariants.{Multi, Exec, Discard, Watch, Unwatch, Quit, Subscribe, Unsubscribe, Publish, Pubsub}
use Rattle.nr_model.specs.Commands.{look, change}
use Rattle.nr_model.specs.Commands.Shape.{Done}
use Rattle.nr_model.specs.Commands.Texts.{ok}
use Rattle.nr_model.specs.Names.{Held}
use Rattle.nr_model.specs.Items.{Connection, same_connection, Call, arguments, Deed, Say, Act, Run, Abort, End, Item, Sequence}
use Rattle.nr_model.specs.Sequential.Events.{Emission, Event, Past, keyspace_after, database_of, now_of}
use Rattle.nr_model.specs.Sequential.Subscribers.{held_of, subscribers, names_held}
use Rattle.nr_model.specs.Sequential.Messages.{Subscriptions, deliveries, subscribe_replies, unsubscribe_replies, pubsub_reply}
use Rattle.nr_model.specs.Sequential.Watches.{is_spoiled}

-- What a deed finds: the keyspace, its connection's database and what that holds, who is subscribed to what, and whether a watch of its
-- connection was broken. The past gives it here; a state gives it elsewhere.
pub record Found : Type 0 where
  pub keyspace : Keyspace
  pub database : ℕ
  pub held : Held
  pub subscriptions : Subscriptions
  pub spoiled : Bool

-- what commands of one item leave: the keyspace, the connection's database, the keys touched, the messages sent and the replies
pub record Progress : Type 0 where
  pub keyspace : Keyspace
  pub database : ℕ
  pub touched : List Key
  pub messages : List Emission
  pub replies : List Reply

abbrev pub start : Found → Progress
start found = record { keyspace = found.keyspace; database = found.database; touched = []; messages = []; replies = [] }

abbrev pub with_replies : List Reply → Progress → Progress
with_replies replies p = record p { replies = p.replies ++ replies }

abbrev pub with_done : Done → Progress → Progress
with_done done p =
    record {
      keyspace = done.keyspace;
      database = done.database;
      touched = p.touched ++ done.touched;
      messages = p.messages;
      replies = p.replies ++ done.reply ∷ [];
    }

-- PUBLISH channel message: to each that subscribed, and then how many messages those are
abbrev pub published : Subscriptions → List Bytes → Progress → Progress
published subscriptions (channel ∷ message ∷ words) p =
    let sent = deliveries subscriptions channel message in
    record p { messages = p.messages ++ sent; replies = p.replies ++ Int (pos (length sent)) ∷ [] }
published subscriptions (channel ∷ []) p = p
published subscriptions [] p = p

-- One command at a moment. A look leaves the keyspace as it is, keys past their deadline too; another finds the live keyspace.
-- WATCH, UNWATCH and DISCARD answer OK: what they change is read back from the past.
abbrev pub acted : Found → ℕ → Command → Call → Progress → Progress
acted found now (Perform (Look command)) call p = with_replies (look command now (live p.keyspace now) p.database (arguments call) ∷ []) p
acted found now (Perform (Change command)) call p = with_done (change command now (live p.keyspace now) p.database (arguments call)) p
acted found now (Session (Subscribe kind)) call p = with_replies (subscribe_replies kind found.held (arguments call)) p
acted found now (Session (Unsubscribe kind)) call p = with_replies (unsubscribe_replies kind found.held (arguments call)) p
acted found now (Session Publish) call p = published found.subscriptions (arguments call) p
acted found now (Session Pubsub) call p = with_replies (pubsub_reply found.subscriptions (arguments call) ∷ []) p
acted found now (Session Multi) call p = with_replies (ok ∷ []) p
acted found now (Session Exec) call p = with_replies (ok ∷ []) p
acted found now (Session Discard) call p = with_replies (ok ∷ []) p
acted found now (Session Watch) call p = with_replies (ok ∷ []) p
acted found now (Session Unwatch) call p = with_replies (ok ∷ []) p
acted found now (Session Quit) call p = with_replies (ok ∷ []) p

-- the commands of a transaction, at one moment
abbrev pub acted_all : Found → ℕ → List Call → Progress → Progress
acted_all found now calls p = fold (λ q call. acted found now call.command call q) p calls

abbrev pub one_reply : Reply → Progress → Progress
one_reply reply p = record p { replies = reply ∷ [] }

-- a transaction's replies are one array, and the null array where a watch was broken: then nothing is run
abbrev pub run_calls : Found → ℕ → List Call → Progress → Progress
run_calls found now calls p =
    elim found.spoiled [
      | true ↦ one_reply NullArray p
      | false ↦ let q = acted_all found now calls p in one_reply (array q.replies) q
    ]

abbrev pub last_reply : Option Reply → Progress → Progress
last_reply None p = p
last_reply (Some reply) p = one_reply reply p

abbrev pub exec_abort : Bytes
exec_abort = codes "EXECABORT Transaction discarded because of previous errors."

-- what a deed leaves
abbrev pub done_by : Found → ℕ → Deed → Progress → Progress
done_by found now (Say reply) p = one_reply reply p
done_by found now (Act call) p = acted found now call.command call p
done_by found now (Run calls) p = run_calls found now calls p
done_by found now Abort p = one_reply (Error exec_abort) p
done_by found now (End reply) p = last_reply reply p

-- an end forgets the connection's database
abbrev pub database_left : Deed → ℕ → ℕ
database_left (End reply) database = 0
database_left (Say reply) database = database
database_left (Act call) database = database
database_left (Run calls) database = database
database_left Abort database = database

-- what a connection's deed finds behind a past
abbrev pub found_after : Past → Connection → ℕ → Found
found_after past c now =
    record {
      keyspace = keyspace_after past;
      database = database_of c past;
      held = held_of c past;
      subscriptions = record { subscribers = λ kind name. subscribers kind name past; names = λ kind. names_held kind past };
      spoiled = is_spoiled c now [] past;
    }

-- messages first, and then the replies, to the connection
abbrev pub emissions_of : Connection → Progress → List Emission
emissions_of c p = p.messages ++ map (λ reply. record { connection = c; reply = reply }) p.replies

unfoldable pub event_of : Past → Item → Event
event_of past item =
    let now = now_of past item in
    let found = found_after past item.connection now in
    let p = done_by found now item.deed (start found) in
    record {
      item = item;
      now = now;
      keyspace = p.keyspace;
      database = database_left item.deed p.database;
      touched = p.touched;
      emitted = emissions_of item.connection p;
    }

-- the past after a sequence that follows this past
unfoldable pub past_from : Past → Sequence → Past
past_from past [] = past
past_from past (item ∷ items) = past_from (event_of past item ∷ past) items

-- what happened along a sequence
abbrev pub past_of : Sequence → Past
past_of items = past_from [] items

-- The keyspace of one sequential Redis after a sequence.
abbrev pub redis : Sequence → Keyspace
redis items = keyspace_after (past_of items)

-- What one sequential Redis emits along a sequence, in order.
abbrev pub emit : Sequence → List Emission
emit items = flat_map (λ event. event.emitted) (reverse (past_of items))

-- the bytes of what is emitted for one connection
abbrev pub bytes_for : Connection → List Emission → Bytes
bytes_for c [] = []
bytes_for c (emission ∷ emissions) =
    cond (same_connection emission.connection c) (reply_text emission.reply ++ bytes_for c emissions) (bytes_for c emissions)

abbrev pub emitted_for : Connection → Sequence → Bytes
emitted_for c items = bytes_for c (emit items)

-- what is emitted for the connections of one node
abbrev pub for_node : ℕ → List Emission → List Emission
for_node node emissions = filter (λ emission. emission.connection.node == node) emissions
