-- Rows of modes and deeds: what the bytes of a connection ask for.
use Rattle.std.specs.Prelude.{◌≡◌, List, [], ◌∷◌, ◌++◌, Some, codes, flat_map}
use Rattle.nr_model.specs.Bytes.{Bytes, crlf}
use Rattle.nr_model.specs.Replies.{Simple, Error, Bulk, array}
use Rattle.nr_model.specs.declared.command.Command.{Command}
use Rattle.nr_model.specs.Commands.{served}
use Rattle.nr_model.specs.Rows.Commands as commands
use Rattle.nr_model.specs.Commands.Texts.{ok}
use Rattle.nr_model.specs.Items.{Call, Deed, Say, Act, Run, Abort, End}
use Rattle.nr_model.specs.Modes.{deeds_by}

-- requests as they are typed, a line each
abbrev pub typed : List Bytes → Bytes
typed lines = flat_map (λ line. line ++ crlf) lines

abbrev pub call : Command → List Bytes → Call
call command words = record { command = command; words = words }

abbrev pub get_k : Call
get_k = call commands.get (codes "GET" ∷ codes "k" ∷ [])

abbrev pub watch_k : Call
watch_k = call commands.watch (codes "WATCH" ∷ codes "k" ∷ [])

abbrev pub subscribe_news : Call
subscribe_news = call commands.subscribe (codes "SUBSCRIBE" ∷ codes "news" ∷ [])

abbrev pub queued : Deed
queued = Say (Simple (codes "QUEUED"))

abbrev pub denied : Bytes → Deed
denied text = Say (Error text)

pub record ModeRows : Type 0 where
  -- a transaction queues its commands, and EXEC runs them
  pub transaction : deeds_by served (typed (codes "WATCH k" ∷ codes "MULTI" ∷ codes "GET k" ∷ codes "EXEC" ∷ []))
      ≡ Act watch_k ∷ Say ok ∷ queued ∷ Run (get_k ∷ []) ∷ []
  -- an unknown name spoils it, and so does a wrong count of words
  pub unknown_spoils : deeds_by served (typed (codes "MULTI" ∷ codes "SET a 1" ∷ codes "NOSUCH" ∷ codes "EXEC" ∷ []))
      ≡ Say ok ∷ queued ∷ denied (codes "ERR unknown command 'NOSUCH'") ∷ Abort ∷ []
  pub arity_spoils : deeds_by served (typed (codes "MULTI" ∷ codes "GET" ∷ codes "EXEC now" ∷ codes "EXEC" ∷ []))
      ≡ Say ok ∷ denied (codes "ERR wrong number of arguments for 'get' command")
      ∷ denied (codes "ERR wrong number of arguments for 'exec' command") ∷ Abort ∷ []
  -- a subscribing command in a transaction is refused, and spoils it
  pub subscribing_spoils : deeds_by served (typed (codes "MULTI" ∷ codes "SUBSCRIBE news" ∷ codes "EXEC" ∷ []))
      ≡ Say ok ∷ denied (codes "ERR subscribe is not allowed inside a transaction") ∷ Abort ∷ []
  -- WATCH and MULTI in a transaction are refused, and it goes on unspoiled
  pub watch_inside : deeds_by served (typed (codes "WATCH k" ∷ codes "MULTI" ∷ codes "WATCH x" ∷ codes "MULTI" ∷ codes "EXEC" ∷ []))
      ≡ Act watch_k ∷ Say ok ∷ denied (codes "ERR WATCH inside MULTI is not allowed") ∷ denied (codes "ERR MULTI calls can not be nested") ∷ Run [] ∷ []
  -- EXEC and DISCARD outside of a transaction; DISCARD ends one
  pub outside : deeds_by served (typed (codes "EXEC" ∷ codes "DISCARD" ∷ []))
      ≡ denied (codes "ERR EXEC without MULTI") ∷ denied (codes "ERR DISCARD without MULTI") ∷ []
  pub discarded : deeds_by served (typed (codes "MULTI" ∷ codes "GET k" ∷ codes "DISCARD" ∷ codes "GET k" ∷ []))
      ≡ Say ok ∷ queued ∷ Act (call commands.discard (codes "DISCARD" ∷ [])) ∷ Act get_k ∷ []
  -- SELECT in a transaction is queued
  pub select_queued : deeds_by served (typed (codes "MULTI" ∷ codes "SELECT 2" ∷ codes "EXEC" ∷ []))
      ≡ Say ok ∷ queued ∷ Run (call commands.select (codes "SELECT" ∷ codes "2" ∷ []) ∷ []) ∷ []
  -- a subscribed connection: PING answers two bulks, other commands are refused, QUIT ends it
  pub subscribed : deeds_by served
      (typed (codes "SUBSCRIBE news" ∷ codes "PING" ∷ codes "PING hi" ∷ codes "PING a b" ∷ codes "GET k" ∷ codes "MULTI" ∷ codes "get" ∷ []))
      ≡ Act subscribe_news ∷ Say (array (Bulk (codes "pong") ∷ Bulk [] ∷ [])) ∷ Say (array (Bulk (codes "pong") ∷ Bulk (codes "hi") ∷ []))
      ∷ denied (codes "ERR wrong number of arguments for 'ping' command") ∷ denied (codes "ERR Can't execute 'get': not allowed while subscribed")
      ∷ denied (codes "ERR Can't execute 'multi': not allowed while subscribed") ∷ denied (codes "ERR wrong number of arguments for 'get' command") ∷ []
  -- with the last subscription gone it is as before
  pub unsubscribed : deeds_by served (typed (codes "subscribe news" ∷ codes "UNSUBSCRIBE" ∷ codes "GET k" ∷ []))
      ≡ Act (call commands.subscribe (codes "subscribe" ∷ codes "news" ∷ [])) ∷ Act (call commands.unsubscribe (codes "UNSUBSCRIBE" ∷ [])) ∷ Act get_k ∷ []
  -- nothing follows an end: QUIT, or a fault, which comes behind the whole requests before it
  pub quit : deeds_by served (typed (codes "MULTI" ∷ codes "QUIT now" ∷ codes "GET k" ∷ [])) ≡ Say ok ∷ End (Some ok) ∷ []
  pub faulty : deeds_by served (codes "GET k\r\n*1\r\n@GET k\r\n")
      ≡ Act get_k ∷ End (Some (Error (codes "ERR Protocol error: expected '$', got '@'"))) ∷ []
  -- the names that are served, in any case of letters; another name is unknown, and quoted on one line
  pub known : deeds_by served (typed (codes "PiNg" ∷ codes "GeT k" ∷ codes "SET k v" ∷ codes "del k" ∷ codes "sElEcT 2" ∷ codes "publish c m" ∷ []))
      ≡ Act (call commands.ping (codes "PiNg" ∷ [])) ∷ Act (call commands.get (codes "GeT" ∷ codes "k" ∷ []))
      ∷ Act (call commands.set (codes "SET" ∷ codes "k" ∷ codes "v" ∷ [])) ∷ Act (call commands.del (codes "del" ∷ codes "k" ∷ []))
      ∷ Act (call commands.select (codes "sElEcT" ∷ codes "2" ∷ [])) ∷ Act (call commands.publish (codes "publish" ∷ codes "c" ∷ codes "m" ∷ [])) ∷ []
  pub unknown : deeds_by served (codes "NOSUCH k\r\n*1\r\n$6\r\nPI\r\nNG\r\n")
      ≡ denied (codes "ERR unknown command 'NOSUCH'") ∷ denied (codes "ERR unknown command 'PI  NG'") ∷ []
