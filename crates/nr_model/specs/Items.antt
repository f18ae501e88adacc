-- Items: what a connection asked for, at its place in the sequence of all that was executed.
use Rattle.std.specs.Prelude.{ℕ, Bool, true, false, not, ◌&&◌, ◌==◌, List, drop, Option}
use Rattle.std.specs.declared.cmp.Ordering.{Ordering}
use Rattle.std.specs.Ordering.{nat_cmp, ordering_then}
use Rattle.nr_model.specs.Bytes.{Bytes}
use Rattle.nr_model.specs.Replies.{Reply}
use Rattle.nr_model.specs.declared.command.Command.{Command}
use Rattle.nr_model.specs.Commands.{is_look}

-- a connection: the node that serves it, and its number among that node's connections, never used again
pub record Connection : Type 0 where
  pub node : ℕ
  pub serial : ℕ

abbrev pub connection_cmp : Connection → Connection → Ordering
connection_cmp a b = ordering_then (nat_cmp a.node b.node) (nat_cmp a.serial b.serial)

abbrev pub same_connection : Connection → Connection → Bool
same_connection a b = a.node == b.node && a.serial == b.serial

-- a request whose name was found and whose words are as many as its command asks for
pub record Call : Type 0 where
  pub command : Command
  pub words : List Bytes

-- the words behind the name
abbrev pub arguments : Call → List Bytes
arguments call = drop 1 call.words

-- What a request, or a connection's end, asks of the server: a reply that needs no state; one command; the commands of a transaction,
-- or its refusal because it was spoiled; the end, with a last reply or none.
pub data Deed : Type 0 where
  Say : Reply → Deed
  Act : Call → Deed
  Run : List Call → Deed
  Abort : Deed
  End : Option Reply → Deed

-- a deed of a connection: its number among the connection's deeds, from 0 on, and its moment
pub record Item : Type 0 where
  pub connection : Connection
  pub number : ℕ
  pub moment : ℕ
  pub deed : Deed

abbrev pub Sequence : Type 0
Sequence = List Item

-- Updates are logged: commands that are no look, transactions, ends. Replies that need no state and looks are reads, which take no entry.
abbrev pub is_update : Deed → Bool
is_update (Say reply) = false
is_update (Act call) = not (is_look call.command)
is_update (Run calls) = true
is_update Abort = true
is_update (End reply) = true

abbrev pub is_end : Deed → Bool
is_end (Say reply) = false
is_end (Act call) = false
is_end (Run calls) = false
is_end Abort = false
is_end (End reply) = true
