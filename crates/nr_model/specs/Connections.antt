-- How large a server is, and what is exchanged with its connections: the bytes fed, those handed out, and the closes.
use Rattle.std.specs.Prelude.{ℕ, Bool, true, false, cond, List, [], ◌∷◌, ◌++◌, Option}
use Rattle.nr_model.specs.Bytes.{Bytes}
use Rattle.nr_model.specs.Items.{Connection, same_connection, Item}

-- how large a server is: nodes, places of the log, workers a node, connections a node, and the bytes that a queue holds
pub record Setup : Type 0 where
  pub nodes : ℕ
  pub places : ℕ
  pub workers : ℕ
  pub connections : ℕ
  pub queue_limit : ℕ

-- bytes that a collect handed to a connection
pub record Handed : Type 0 where
  pub connection : Connection
  pub bytes : Bytes

-- bytes that were fed to a connection
pub record Feeding : Type 0 where
  pub connection : Connection
  pub moment : ℕ
  pub bytes : Bytes

-- a connection that was closed, and the job that its close put, if it put one
pub record Closing : Type 0 where
  pub connection : Connection
  pub job : Option Item

-- all the bytes that were fed to a connection
abbrev pub fed_to : Connection → List Feeding → Bytes
fed_to c [] = []
fed_to c (feeding ∷ feedings) = cond (same_connection feeding.connection c) (feeding.bytes ++ fed_to c feedings) (fed_to c feedings)

abbrev pub handed_to : Connection → List Handed → Bytes
handed_to c [] = []
handed_to c (handed ∷ more) = cond (same_connection handed.connection c) (handed.bytes ++ handed_to c more) (handed_to c more)

abbrev pub is_some_bytes : Bytes → Bool
is_some_bytes [] = false
is_some_bytes (c ∷ cs) = true
