-- The mode of a connection, and what each of its requests asks of the server: its deeds (Redis command reference, transactions, pub/sub).
use Rattle.std.specs.Prelude.{Bool, true, false, nat_lt, cond, if◌then◌else◌, List, [], ◌∷◌, ◌++◌, length, Option, Some, None, codes}
use Rattle.nr_model.specs.Bytes.{Bytes}
use Rattle.nr_model.specs.Requests.{Frame, Framing, framing_of, fault_text}
use Rattle.nr_model.specs.declared.fault.Fault.{Fault}
use Rattle.nr_model.specs.Replies.{Reply, Simple, Error, Bulk, array}
use Rattle.nr_model.specs.declared.command.Command.{Command}
use Rattle.nr_model.specs.declared.command.Command.TheVariants.{Perform, Session}
use Rattle.nr_model.specs.declared.command.Operation.TheVariants.{Look}
use Rattle.nr_model.specs.declared.command.Look.TheVariants as looks
use Rattle.nr_model.specs.declared.command.ServerLook.TheVariants.{Ping}
use Rattle.nr_model.specs.declared.command.Kind.{Kind}
use Rattle.nr_model.specs.declared.command.Session.TheVariants.{Multi, Exec, Discard, Watch, Quit, Subscribe, Unsubscribe}
use Rattle.nr_model.specs.Commands.{row_of, named}
use Rattle.nr_model.specs.Commands.Shape.{arity_ok}
use Rattle.nr_model.specs.Commands.Texts.{ok, wrong_arity, unknown_command}
use Rattle.nr_model.specs.Names.{Held, holding_none, how_many_held, after_subscribe, after_unsubscribe}
use Rattle.nr_model.specs.Items.{Call, arguments, Deed, Say, Act, Run, Abort, End, is_end}

-- a transaction that MULTI began: the commands queued since, and whether one since was refused
pub record Transaction : Type 0 where
  pub queued : List Call
  pub spoiled : Bool

-- The mode of a connection: its open transaction, if there is one, and what it is subscribed to
pub record Mode : Type 0 where
  pub transaction : Option Transaction
  pub held : Held

-- the mode of a connection that has sent nothing
abbrev pub plain : Mode
plain = record { transaction = None; held = holding_none }

abbrev pub is_subscribed : Mode → Bool
is_subscribed mode = nat_lt 0 (how_many_held mode.held)

abbrev pub spoiled_transaction : Option Transaction → Option Transaction
spoiled_transaction None = None
spoiled_transaction (Some t) = Some (record { queued = t.queued; spoiled = true })

-- an open transaction is spoiled
abbrev pub spoiled : Mode → Mode
spoiled mode = record mode { transaction = spoiled_transaction mode.transaction }

abbrev pub closed : Mode → Mode
closed mode = record mode { transaction = None }

abbrev pub with_queued : Mode → Transaction → Call → Mode
with_queued mode t call = record mode { transaction = Some (record { queued = t.queued ++ call ∷ []; spoiled = t.spoiled }) }

-- A request is first looked up, then its words are counted, and then the mode decides.
pub data Reading : Type 0 where
  Unknown : Bytes → Reading
  WrongArity : Command → Reading
  Known : Call → Reading

abbrev pub counted : Command → Frame → Reading
counted command frame = if arity_ok (row_of command).arity (length frame) then Known (record { command = command; words = frame }) else WrongArity command

abbrev pub found : Bytes → Frame → Option Command → Reading
found name frame None = Unknown name
found name frame (Some command) = counted command frame

-- a request's name; a frame has at least one word
abbrev pub first_word : Frame → Bytes
first_word [] = []
first_word (name ∷ words) = name

abbrev pub reading : List Command → Frame → Reading
reading table frame = found (first_word frame) frame (named table (first_word frame))

-- what a request asks for, and the mode behind it
pub record Answer : Type 0 where
  pub deed : Deed
  pub mode : Mode

abbrev pub asks : Deed → Mode → Answer
asks deed mode = record { deed = deed; mode = mode }

abbrev pub says : Reply → Mode → Answer
says reply mode = asks (Say reply) mode

abbrev pub denies : Bytes → Mode → Answer
denies text mode = says (Error text) mode

-- QUIT: OK, and the end
abbrev pub quits : Mode → Answer
quits mode = asks (End (Some ok)) mode

abbrev pub subscribes : Kind → Call → Mode → Answer
subscribes kind call mode = asks (Act call) (record mode { held = after_subscribe kind mode.held (arguments call) })

abbrev pub unsubscribes : Kind → Call → Mode → Answer
unsubscribes kind call mode = asks (Act call) (record mode { held = after_unsubscribe kind mode.held (arguments call) })

-- PING [message] of a subscribed connection
abbrev pub subscribed_ping : List Bytes → Reply
subscribed_ping [] = array (Bulk (codes "pong") ∷ Bulk [] ∷ [])
subscribed_ping (message ∷ []) = array (Bulk (codes "pong") ∷ Bulk message ∷ [])
subscribed_ping (message ∷ more ∷ words) = Error (wrong_arity (codes "ping"))

abbrev pub not_while_subscribed : Bytes → Bytes
not_while_subscribed name = codes "ERR Can't execute '" ++ name ++ codes "': not allowed while subscribed"

abbrev pub not_in_transaction : Bytes → Bytes
not_in_transaction name = codes "ERR " ++ name ++ codes " is not allowed inside a transaction"

-- a connection with subscriptions: the four subscribing commands, PING and QUIT alone
abbrev pub when_subscribed : Command → Call → Mode → Answer
when_subscribed (Perform (Look (looks.Server Ping))) call mode = says (subscribed_ping (arguments call)) mode
when_subscribed (Session Quit) call mode = quits mode
when_subscribed (Session (Subscribe kind)) call mode = subscribes kind call mode
when_subscribed (Session (Unsubscribe kind)) call mode = unsubscribes kind call mode
when_subscribed _ call mode = denies (not_while_subscribed (row_of call.command).name) mode

-- `+QUEUED`
abbrev pub queued_reply : Reply
queued_reply = Simple (codes "QUEUED")

-- a connection in a transaction: what isn't refused or ends it is queued
abbrev pub in_transaction : Command → Call → Transaction → Mode → Answer
in_transaction (Session Multi) call t mode = denies (codes "ERR MULTI calls can not be nested") mode
in_transaction (Session Watch) call t mode = denies (codes "ERR WATCH inside MULTI is not allowed") mode
in_transaction (Session Exec) call t mode = asks (if t.spoiled then Abort else Run t.queued) (closed mode)
in_transaction (Session Discard) call t mode = asks (Act call) (closed mode)
in_transaction (Session Quit) call t mode = quits mode
in_transaction (Session (Subscribe kind)) call t mode = denies (not_in_transaction (row_of call.command).name) (spoiled mode)
in_transaction (Session (Unsubscribe kind)) call t mode = denies (not_in_transaction (row_of call.command).name) (spoiled mode)
in_transaction _ call t mode = says queued_reply (with_queued mode t call)

-- a connection with neither
abbrev pub by_itself : Command → Call → Mode → Answer
by_itself (Session Multi) call mode = says ok (record mode { transaction = Some (record { queued = []; spoiled = false }) })
by_itself (Session Exec) call mode = denies (codes "ERR EXEC without MULTI") mode
by_itself (Session Discard) call mode = denies (codes "ERR DISCARD without MULTI") mode
by_itself (Session Quit) call mode = quits mode
by_itself (Session (Subscribe kind)) call mode = subscribes kind call mode
by_itself (Session (Unsubscribe kind)) call mode = unsubscribes kind call mode
by_itself _ call mode = asks (Act call) mode

abbrev pub unsubscribed_answer : Option Transaction → Call → Mode → Answer
unsubscribed_answer None call mode = by_itself call.command call mode
unsubscribed_answer (Some t) call mode = in_transaction call.command call t mode

abbrev pub known_answer : Call → Mode → Answer
known_answer call mode =
    if is_subscribed mode then when_subscribed call.command call mode else unsubscribed_answer mode.transaction call mode

abbrev pub reading_answer : Reading → Mode → Answer
reading_answer (Unknown name) mode = denies (unknown_command name) (spoiled mode)
reading_answer (WrongArity command) mode = denies (wrong_arity (row_of command).name) (spoiled mode)
reading_answer (Known call) mode = known_answer call mode

-- what a request asks for in a mode, where these names are served
abbrev pub answer : List Command → Mode → Frame → Answer
answer table mode frame = reading_answer (reading table frame) mode

-- What requests ask for one after the other, and what they leave: the mode, and whether the connection ended
pub record Conversation : Type 0 where
  pub deeds : List Deed
  pub mode : Mode
  pub ended : Bool

abbrev pub first_deed : Answer → Conversation → Conversation
first_deed a more =
    cond (is_end a.deed) (record { deeds = a.deed ∷ []; mode = a.mode; ended = true })
    (record { deeds = a.deed ∷ more.deeds; mode = more.mode; ended = more.ended })

-- a fault gets its error, and ends the connection
abbrev pub last_deed : Option Fault → Mode → Conversation
last_deed None mode = record { deeds = []; mode = mode; ended = false }
last_deed (Some fault) mode = record { deeds = End (Some (Error (fault_text fault))) ∷ []; mode = mode; ended = true }

-- nothing follows an end
abbrev pub conversation : List Command → Mode → List Frame → Option Fault → Conversation
conversation table mode [] fault = last_deed fault mode
conversation table mode (frame ∷ frames) fault =
    let a = answer table mode frame in first_deed a (conversation table a.mode frames fault)

abbrev pub framed_conversation : List Command → Mode → Framing → Conversation
framed_conversation table mode framing = conversation table mode framing.frames framing.fault

-- the deeds of all the bytes that a connection sent, where these names are served
abbrev pub deeds_by : List Command → Bytes → List Deed
deeds_by table bytes = (framed_conversation table plain (framing_of bytes)).deeds
