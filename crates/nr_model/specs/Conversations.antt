-- What holds of the conversation of a connection: it can be cut anywhere, and each request has one deed; where a transaction is open, when it
-- was begun, what was queued and what spoiled it can be read back from the requests; and what it holds is what its subscribers say.
use Rattle.std.specs.Prelude.{◌≡◌, ◌↔◌, ◌+◌, ◌≤◌, Bool, true, false, cond, List, [], ◌∷◌, ◌++◌, length, map, filter, flat_map, Option, Some, None}
use Rattle.std.specs.List.{list_any}
use Rattle.nr_model.specs.Requests.{Frame}
use Rattle.nr_model.specs.declared.fault.Fault.{Fault}
use Rattle.nr_model.specs.declared.command.Command.{Command}
use Rattle.nr_model.specs.declared.command.Command.TheVariants.{Perform, Session}
use Rattle.nr_model.specs.declared.command.Session.TheVariants.{Multi, Exec, Discard, Unwatch, Quit, Subscribe, Unsubscribe, Publish, Pubsub}
use Rattle.nr_model.specs.Items.{Connection, same_connection, Call, Deed, is_end, Item, Sequence}
use Rattle.nr_model.specs.Modes.{Transaction, Mode, plain, is_subscribed, Reading, Unknown, WrongArity, Known, reading, Answer, answer, Conversation, conversation, last_deed}
use Rattle.nr_model.specs.Sequential.Subscribers.{held_of}
use Rattle.nr_model.specs.Sequential.{past_of}

-- a conversation, and what follows in the mode that it left, unless it ended
abbrev pub followed_by : Conversation → Conversation → Conversation
followed_by c more = cond c.ended c (record { deeds = c.deeds ++ more.deeds; mode = more.mode; ended = more.ended })

-- a conversation that goes on, and what its next request asks for
abbrev pub with_answer : Conversation → Answer → Conversation
with_answer c a = record { deeds = c.deeds ++ a.deed ∷ []; mode = a.mode; ended = is_end a.deed }

-- how requests are read by which a transaction ends: its connection's end too
abbrev pub command_closes : Command → Bool
command_closes (Session Exec) = true
command_closes (Session Discard) = true
command_closes (Session Quit) = true
command_closes _ = false

abbrev pub closes : Reading → Bool
closes (Unknown name) = false
closes (WrongArity command) = false
closes (Known call) = command_closes call.command

-- what a request adds to those that are queued: MULTI and WATCH are refused there
abbrev pub command_queued : Command → Call → List Call
command_queued (Perform operation) call = call ∷ []
command_queued (Session Unwatch) call = call ∷ []
command_queued (Session Publish) call = call ∷ []
command_queued (Session Pubsub) call = call ∷ []
command_queued _ call = []

abbrev pub queued_by : Reading → List Call
queued_by (Unknown name) = []
queued_by (WrongArity command) = []
queued_by (Known call) = command_queued call.command call

-- a request that spoils an open transaction: an unknown name, a wrong count of words, or a command on subscriptions
abbrev pub command_spoils : Command → Bool
command_spoils (Session (Subscribe kind)) = true
command_spoils (Session (Unsubscribe kind)) = true
command_spoils _ = false

abbrev pub spoils : Reading → Bool
spoils (Unknown name) = true
spoils (WrongArity command) = true
spoils (Known call) = command_spoils call.command

abbrev pub begins : Reading → Mode → Type 0
begins r mode = (call : Call) × (r ≡ Known call) × (call.command ≡ Session Multi) × (mode.transaction ≡ None) × (is_subscribed mode ≡ false)

-- A transaction is open behind requests: a MULTI among them began it, none since ended it; these were queued since, and it is spoiled where one of them spoiled it.
pub record IsOpen (table : List Command) (frames : List Frame) (t : Transaction) : Type 0 where
  pub front : List Frame
  pub multi : Frame
  pub since : List Frame
  pub parts : frames ≡ front ++ multi ∷ since
  pub begun : begins (reading table multi) (conversation table plain front None).mode
  pub open_since : list_any (λ frame. closes (reading table frame)) since ≡ false
  pub queued : t.queued ≡ flat_map (λ frame. queued_by (reading table frame)) since
  pub spoiled : t.spoiled ≡ list_any (λ frame. spoils (reading table frame)) since

-- the deeds of a connection along a sequence
abbrev pub own_deeds : Connection → Sequence → List Deed
own_deeds c items = map {A = Item} (λ item. item.deed) (filter (λ item. same_connection item.connection c) items)

pub record ConversationLaw : Type 0 where
  -- requests in two parts
  pub joins : (table : List Command) (mode : Mode) (frames more : List Frame) (fault : Option Fault)
      → conversation table mode (frames ++ more) fault ≡ followed_by (conversation table mode frames None) (conversation table (conversation table mode frames None).mode more fault)
  -- one request more
  pub one_more : (table : List Command) (mode : Mode) (frames : List Frame) (frame : Frame) → (conversation table mode frames None).ended ≡ false
      → conversation table mode (frames ++ frame ∷ []) None
      ≡ with_answer (conversation table mode frames None) (answer table (conversation table mode frames None).mode frame)
  -- each request has one deed while the connection goes on, a fault one more, and nothing follows an end
  pub counts : (table : List Command) (mode : Mode) (frames : List Frame) → (conversation table mode frames None).ended ≡ false
      → length (conversation table mode frames None).deeds ≡ length frames
  pub at_most : (table : List Command) (mode : Mode) (frames : List Frame) (fault : Option Fault)
      → length (conversation table mode frames fault).deeds ≤ length frames + length (last_deed fault mode).deeds
  -- a transaction is open exactly where the requests say so
  pub transactions : (table : List Command) (frames : List Frame) (t : Transaction) → (conversation table plain frames None).ended ≡ false
      → ((conversation table plain frames None).mode.transaction ≡ Some t) ↔ IsOpen table frames t
  -- while it goes on, a connection holds what the sequential Redis says that it is subscribed to, wherever its deeds stand in a sequence
  pub holds : (table : List Command) (frames : List Frame) (items : Sequence) (c : Connection) → (conversation table plain frames None).ended ≡ false
      → own_deeds c items ≡ (conversation table plain frames None).deeds → held_of c (past_of items) ≡ (conversation table plain frames None).mode.held
