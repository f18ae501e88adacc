-- A keyspace may go to another thread, and be shared by threads: by its parts, from the sorted set on, which the toolchain keeps no such lemma of.
use denote.Param.Send.{IsSend, IsSync, view_send, view_sync, sendable}
use denote.Param.SendFields.{declared_send, declared_sync}
use Rattle.std.proofs.Crossing.{send, sync, crosses}
use Rattle.std.proofs.collections.HashMap.TheSendSync as map
use Rattle.nr_blob.proofs.blob.Blob.TheSendSync as blob
use Rattle.nr_strings.proofs.string.Str.TheSendSync as str
use Rattle.nr_lists.proofs.list.List.TheSendSync as list
use Rattle.nr_hashes.proofs.hash.Hash.TheSendSync as hash
use Rattle.nr_sets.proofs.set.Set.TheSendSync as set
use Rattle.nr_ordered.proofs.Crossing.{tree_send, tree_sync}
use Rattle.nr_zsets.proofs.Crossing.{zset_send, zset_sync}
use Rattle.nr_keyspace.proofs.databases.sweeps.Sweeps.TheSendSync as sweeps
use Rattle.nr_keyspace.specs.contracts.deadlines.Deadlines as Deadlines
use Rattle.nr_keyspace.specs.contracts.value.Value as Value
use Rattle.nr_keyspace.specs.contracts.database.KeyEntry as KeyEntry
use Rattle.nr_keyspace.specs.contracts.database.Database as Database
use Rattle.nr_keyspace.specs.contracts.databases.Databases as Databases
use Rattle.nr_keyspace.specs.contracts.keyspace.Keyspace as Keyspace

ruleset parts = (sendable, crosses, blob.the_send, blob.the_sync)

value_send : IsSend (Value.the_field).row
value_send = search (parts, zset_send, str.the_send, list.the_send, hash.the_send, set.the_send) depth 60 fits 100000

value_sync : IsSync (Value.the_field).row
value_sync = search (parts, zset_sync, str.the_sync, list.the_sync, hash.the_sync, set.the_sync) depth 60 fits 100000

entry_send : IsSend (KeyEntry.the_field).row
entry_send = search (parts, value_send) depth 60 fits 100000

entry_sync : IsSync (KeyEntry.the_field).row
entry_sync = search (parts, value_sync) depth 60 fits 100000

deadlines_send : IsSend Deadlines.the_row
deadlines_send = view_send Deadlines.TheInside.the_row _ _ _ _ (declared_send Deadlines.TheInside.the_type (send, (tree_send, tt)))

deadlines_sync : IsSync Deadlines.the_row
deadlines_sync = view_sync Deadlines.TheInside.the_row _ _ _ _ (declared_sync Deadlines.TheInside.the_type (sync, (tree_sync, tt)))

database_send : IsSend Database.the_row
database_send = view_send Database.TheInside.the_row _ _ _ _ (declared_send Database.TheInside.the_type (search (parts, map.the_send, entry_send) depth 60 fits 100000, (deadlines_send, tt)))

database_sync : IsSync Database.the_row
database_sync = view_sync Database.TheInside.the_row _ _ _ _ (declared_sync Database.TheInside.the_type (search (parts, map.the_sync, entry_sync) depth 60 fits 100000, (deadlines_sync, tt)))

databases_send : IsSend Databases.the_row
databases_send = search (parts, database_send) depth 60 fits 100000

databases_sync : IsSync Databases.the_row
databases_sync = search (parts, database_sync) depth 60 fits 100000

pub keyspace_send : IsSend Keyspace.the_row
keyspace_send = view_send Keyspace.TheInside.the_row _ _ _ _ (declared_send Keyspace.TheInside.the_type (databases_send, (sweeps.the_send, (search parts depth 60, tt))))

pub keyspace_sync : IsSync Keyspace.the_row
keyspace_sync = view_sync Keyspace.TheInside.the_row _ _ _ _ (declared_sync Keyspace.TheInside.the_type (databases_sync, (sweeps.the_sync, (search parts depth 60, tt))))
