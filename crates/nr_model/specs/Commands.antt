-- Commands: what one does to the live keyspace, and the table of their names. Each section of commands has a file.
use Rattle.std.specs.Prelude.{ℕ, Bool, true, false, List, [], ◌∷◌, ◌++◌, Option, Some, None, find, bytes_eq, codes}
use Rattle.std.specs.Str.{str_to_ascii_lowercase}
pub mod Shape
pub mod Texts
pub mod Reading
pub mod Server
pub mod Keys
pub mod Strings
pub mod Held
pub mod Lists
pub mod Hashes
pub mod Sets
pub mod SortedSets
use Rattle.nr_model.specs.Bytes.{Bytes}
use Rattle.nr_model.specs.Replies.{Reply}
use Rattle.nr_model.specs.Keyspace.{Keyspace}
use Rattle.nr_model.specs.Commands.Shape.{Arity, Exactly, AtLeast, Done, staying}
use Rattle.nr_model.specs.Commands.Server as server
use Rattle.nr_model.specs.Commands.Keys as keys
use Rattle.nr_model.specs.Commands.Strings as strings
use Rattle.nr_model.specs.Commands.Lists as lists
use Rattle.nr_model.specs.Commands.Hashes as hashes
use Rattle.nr_model.specs.Commands.Sets as sets
use Rattle.nr_model.specs.Commands.SortedSets as sorted_sets
use Rattle.nr_model.specs.declared.command.Command.{Command}
use Rattle.nr_model.specs.declared.command.Command.TheVariants as commands
use Rattle.nr_model.specs.declared.command.Operation.{Operation}
use Rattle.nr_model.specs.declared.command.Operation.TheVariants as operations
use Rattle.nr_model.specs.declared.command.Look.{Look}
use Rattle.nr_model.specs.declared.command.Look.TheVariants as looks
use Rattle.nr_model.specs.declared.command.Change.{Change}
use Rattle.nr_model.specs.declared.command.Change.TheVariants as changes
use Rattle.nr_model.specs.declared.command.Session.{Session}
use Rattle.nr_model.specs.declared.command.Session.TheVariants as sessions
use Rattle.nr_model.specs.declared.command.Kind.TheVariants as kinds
use Rattle.nr_model.specs.declared.command.Unit.TheVariants as units
use Rattle.nr_model.specs.declared.command.Timing.TheVariants as timings
use Rattle.nr_model.specs.declared.command.End.TheVariants as ends
use Rattle.nr_model.specs.declared.command.Combination.TheVariants as combinations
use Rattle.nr_model.specs.declared.command.Direction.TheVariants as directions
use Rattle.nr_model.specs.declared.command.RangeForm.TheVariants as forms
use Rattle.nr_model.specs.declared.command.RangeBy.TheVariants as ranges
use Rattle.nr_model.specs.declared.command.Joining.TheVariants as joinings
use Rattle.nr_model.specs.declared.command.ServerLook.{ServerLook}
use Rattle.nr_model.specs.declared.command.ServerLook.TheVariants as server_looks
use Rattle.nr_model.specs.declared.command.ServerChange.{ServerChange}
use Rattle.nr_model.specs.declared.command.ServerChange.TheVariants as server_changes
use Rattle.nr_model.specs.declared.command.KeysLook.{KeysLook}
use Rattle.nr_model.specs.declared.command.KeysLook.TheVariants as keys_looks
use Rattle.nr_model.specs.declared.command.KeysChange.{KeysChange}
use Rattle.nr_model.specs.declared.command.KeysChange.TheVariants as keys_changes
use Rattle.nr_model.specs.declared.command.StringsLook.{StringsLook}
use Rattle.nr_model.specs.declared.command.StringsLook.TheVariants as strings_looks
use Rattle.nr_model.specs.declared.command.StringsChange.{StringsChange}
use Rattle.nr_model.specs.declared.command.StringsChange.TheVariants as strings_changes
use Rattle.nr_model.specs.declared.command.ListsLook.{ListsLook}
use Rattle.nr_model.specs.declared.command.ListsLook.TheVariants as lists_looks
use Rattle.nr_model.specs.declared.command.ListsChange.{ListsChange}
use Rattle.nr_model.specs.declared.command.ListsChange.TheVariants as lists_changes
use Rattle.nr_model.specs.declared.command.HashesLook.{HashesLook}
use Rattle.nr_model.specs.declared.command.HashesLook.TheVariants as hashes_looks
use Rattle.nr_model.specs.declared.command.HashesChange.{HashesChange}
use Rattle.nr_model.specs.declared.command.HashesChange.TheVariants as hashes_changes
use Rattle.nr_model.specs.declared.command.SetsLook.{SetsLook}
use Rattle.nr_model.specs.declared.command.SetsLook.TheVariants as sets_looks
use Rattle.nr_model.specs.declared.command.SetsChange.{SetsChange}
use Rattle.nr_model.specs.declared.command.SetsChange.TheVariants as sets_changes
use Rattle.nr_model.specs.declared.command.SortedSetsLook.{SortedSetsLook}
use Rattle.nr_model.specs.declared.command.SortedSetsLook.TheVariants as sorted_sets_looks
use Rattle.nr_model.specs.declared.command.SortedSetsChange.{SortedSetsChange}
use Rattle.nr_model.specs.declared.command.SortedSetsChange.TheVariants as sorted_sets_changes

-- Whether a command reads the keyspace and leaves it as it is. Another may change it, or what the server knows of a connection.
abbrev pub session_looks : Session → Bool
session_looks sessions.Pubsub = true
session_looks _ = false

abbrev pub is_look : Command → Bool
is_look (commands.Perform (operations.Look look)) = true
is_look (commands.Perform (operations.Change change)) = false
is_look (commands.Session command) = session_looks command

-- The reply of a command that only looks, at a moment, for a connection whose database is this one. The arguments are the words behind the name.
unfoldable pub look : Look → ℕ → Keyspace → ℕ → List Bytes → Reply
look (looks.Server command) now keyspace database arguments = server.look command now keyspace database arguments
look (looks.Keys command) now keyspace database arguments = keys.look command now keyspace database arguments
look (looks.Strings command) now keyspace database arguments = strings.look command now keyspace database arguments
look (looks.Lists command) now keyspace database arguments = lists.look command now keyspace database arguments
look (looks.Hashes command) now keyspace database arguments = hashes.look command now keyspace database arguments
look (looks.Sets command) now keyspace database arguments = sets.look command now keyspace database arguments
look (looks.SortedSets command) now keyspace database arguments = sorted_sets.look command now keyspace database arguments

-- What a command does that may change the keyspace. SELECT alone changes the database.
unfoldable pub change : Change → ℕ → Keyspace → ℕ → List Bytes → Done
change (changes.Server command) now keyspace database arguments = server.change command now keyspace database arguments
change (changes.Keys command) now keyspace database arguments = staying database (keys.change command now keyspace database arguments)
change (changes.Strings command) now keyspace database arguments = staying database (strings.change command now keyspace database arguments)
change (changes.Lists command) now keyspace database arguments = staying database (lists.change command now keyspace database arguments)
change (changes.Hashes command) now keyspace database arguments = staying database (hashes.change command now keyspace database arguments)
change (changes.Sets command) now keyspace database arguments = staying database (sets.change command now keyspace database arguments)
change (changes.SortedSets command) now keyspace database arguments = staying database (sorted_sets.change command now keyspace database arguments)

-- a row of the table of names: the name in lower case, and how many words a request has
pub record Row : Type 0 where
  pub name : Bytes
  pub arity : Arity

abbrev pub row : Bytes → Arity → Row
row name arity = record { name = name; arity = arity }

-- Connection and server
abbrev pub server_look_row : ServerLook → Row
server_look_row server_looks.Ping = row (codes "ping") (AtLeast 1)
server_look_row server_looks.Echo = row (codes "echo") (Exactly 2)
server_look_row server_looks.Time = row (codes "time") (Exactly 1)
server_look_row server_looks.DbSize = row (codes "dbsize") (Exactly 1)

abbrev pub server_change_row : ServerChange → Row
server_change_row server_changes.Select = row (codes "select") (Exactly 2)
server_change_row server_changes.FlushDb = row (codes "flushdb") (AtLeast 1)
server_change_row server_changes.FlushAll = row (codes "flushall") (AtLeast 1)
server_change_row server_changes.SwapDb = row (codes "swapdb") (Exactly 3)

-- Keys
abbrev pub keys_look_row : KeysLook → Row
keys_look_row keys_looks.Exists = row (codes "exists") (AtLeast 2)
keys_look_row keys_looks.Touch = row (codes "touch") (AtLeast 2)
keys_look_row keys_looks.Type = row (codes "type") (Exactly 2)
keys_look_row keys_looks.Keys = row (codes "keys") (Exactly 2)
keys_look_row (keys_looks.Ttl units.Seconds) = row (codes "ttl") (Exactly 2)
keys_look_row (keys_looks.Ttl units.Milliseconds) = row (codes "pttl") (Exactly 2)
keys_look_row (keys_looks.ExpireTime units.Seconds) = row (codes "expiretime") (Exactly 2)
keys_look_row (keys_looks.ExpireTime units.Milliseconds) = row (codes "pexpiretime") (Exactly 2)

abbrev pub keys_change_row : KeysChange → Row
keys_change_row keys_changes.Del = row (codes "del") (AtLeast 2)
keys_change_row keys_changes.Unlink = row (codes "unlink") (AtLeast 2)
keys_change_row keys_changes.Rename = row (codes "rename") (Exactly 3)
keys_change_row keys_changes.RenameNx = row (codes "renamenx") (Exactly 3)
keys_change_row keys_changes.Copy = row (codes "copy") (AtLeast 3)
keys_change_row keys_changes.Move = row (codes "move") (Exactly 3)
keys_change_row (keys_changes.Expire timings.InSeconds) = row (codes "expire") (AtLeast 3)
keys_change_row (keys_changes.Expire timings.InMilliseconds) = row (codes "pexpire") (AtLeast 3)
keys_change_row (keys_changes.Expire timings.AtSecond) = row (codes "expireat") (AtLeast 3)
keys_change_row (keys_changes.Expire timings.AtMillisecond) = row (codes "pexpireat") (AtLeast 3)
keys_change_row keys_changes.Persist = row (codes "persist") (Exactly 2)

-- Strings
abbrev pub strings_look_row : StringsLook → Row
strings_look_row strings_looks.Get = row (codes "get") (Exactly 2)
strings_look_row strings_looks.MGet = row (codes "mget") (AtLeast 2)
strings_look_row strings_looks.StrLen = row (codes "strlen") (Exactly 2)
strings_look_row strings_looks.GetRange = row (codes "getrange") (Exactly 4)
strings_look_row strings_looks.SubStr = row (codes "substr") (Exactly 4)
strings_look_row strings_looks.GetBit = row (codes "getbit") (Exactly 3)
strings_look_row strings_looks.BitCount = row (codes "bitcount") (AtLeast 2)

abbrev pub strings_change_row : StringsChange → Row
strings_change_row strings_changes.Set = row (codes "set") (AtLeast 3)
strings_change_row strings_changes.SetNx = row (codes "setnx") (Exactly 3)
strings_change_row (strings_changes.SetEx units.Seconds) = row (codes "setex") (Exactly 4)
strings_change_row (strings_changes.SetEx units.Milliseconds) = row (codes "psetex") (Exactly 4)
strings_change_row strings_changes.GetSet = row (codes "getset") (Exactly 3)
strings_change_row strings_changes.GetDel = row (codes "getdel") (Exactly 2)
strings_change_row strings_changes.GetEx = row (codes "getex") (AtLeast 2)
strings_change_row strings_changes.MSet = row (codes "mset") (AtLeast 3)
strings_change_row strings_changes.MSetNx = row (codes "msetnx") (AtLeast 3)
strings_change_row strings_changes.Append = row (codes "append") (Exactly 3)
strings_change_row strings_changes.SetRange = row (codes "setrange") (Exactly 4)
strings_change_row strings_changes.Incr = row (codes "incr") (Exactly 2)
strings_change_row strings_changes.Decr = row (codes "decr") (Exactly 2)
strings_change_row strings_changes.IncrBy = row (codes "incrby") (Exactly 3)
strings_change_row strings_changes.DecrBy = row (codes "decrby") (Exactly 3)
strings_change_row strings_changes.SetBit = row (codes "setbit") (Exactly 4)
strings_change_row strings_changes.BitOp = row (codes "bitop") (AtLeast 4)

-- Lists
abbrev pub lists_look_row : ListsLook → Row
lists_look_row lists_looks.LLen = row (codes "llen") (Exactly 2)
lists_look_row lists_looks.LRange = row (codes "lrange") (Exactly 4)
lists_look_row lists_looks.LIndex = row (codes "lindex") (Exactly 3)
lists_look_row lists_looks.LPos = row (codes "lpos") (AtLeast 3)

abbrev pub lists_change_row : ListsChange → Row
lists_change_row (lists_changes.Push ends.Left) = row (codes "lpush") (AtLeast 3)
lists_change_row (lists_changes.Push ends.Right) = row (codes "rpush") (AtLeast 3)
lists_change_row (lists_changes.PushX ends.Left) = row (codes "lpushx") (AtLeast 3)
lists_change_row (lists_changes.PushX ends.Right) = row (codes "rpushx") (AtLeast 3)
lists_change_row (lists_changes.Pop ends.Left) = row (codes "lpop") (AtLeast 2)
lists_change_row (lists_changes.Pop ends.Right) = row (codes "rpop") (AtLeast 2)
lists_change_row lists_changes.LSet = row (codes "lset") (Exactly 4)
lists_change_row lists_changes.LTrim = row (codes "ltrim") (Exactly 4)
lists_change_row lists_changes.LInsert = row (codes "linsert") (Exactly 5)
lists_change_row lists_changes.LRem = row (codes "lrem") (Exactly 4)
lists_change_row lists_changes.LMove = row (codes "lmove") (Exactly 5)
lists_change_row lists_changes.RPopLPush = row (codes "rpoplpush") (Exactly 3)
lists_change_row lists_changes.LMPop = row (codes "lmpop") (AtLeast 4)

-- Hashes
abbrev pub hashes_look_row : HashesLook → Row
hashes_look_row hashes_looks.HGet = row (codes "hget") (Exactly 3)
hashes_look_row hashes_looks.HMGet = row (codes "hmget") (AtLeast 3)
hashes_look_row hashes_looks.HLen = row (codes "hlen") (Exactly 2)
hashes_look_row hashes_looks.HExists = row (codes "hexists") (Exactly 3)
hashes_look_row hashes_looks.HStrLen = row (codes "hstrlen") (Exactly 3)
hashes_look_row hashes_looks.HKeys = row (codes "hkeys") (Exactly 2)
hashes_look_row hashes_looks.HVals = row (codes "hvals") (Exactly 2)
hashes_look_row hashes_looks.HGetAll = row (codes "hgetall") (Exactly 2)

abbrev pub hashes_change_row : HashesChange → Row
hashes_change_row hashes_changes.HSet = row (codes "hset") (AtLeast 4)
hashes_change_row hashes_changes.HMSet = row (codes "hmset") (AtLeast 4)
hashes_change_row hashes_changes.HSetNx = row (codes "hsetnx") (Exactly 4)
hashes_change_row hashes_changes.HDel = row (codes "hdel") (AtLeast 3)
hashes_change_row hashes_changes.HIncrBy = row (codes "hincrby") (Exactly 4)

-- Sets
abbrev pub sets_look_row : SetsLook → Row
sets_look_row sets_looks.SIsMember = row (codes "sismember") (Exactly 3)
sets_look_row sets_looks.SMIsMember = row (codes "smismember") (AtLeast 3)
sets_look_row sets_looks.SCard = row (codes "scard") (Exactly 2)
sets_look_row sets_looks.SMembers = row (codes "smembers") (Exactly 2)
sets_look_row (sets_looks.Combine combinations.Intersection) = row (codes "sinter") (AtLeast 2)
sets_look_row (sets_looks.Combine combinations.Union) = row (codes "sunion") (AtLeast 2)
sets_look_row (sets_looks.Combine combinations.Difference) = row (codes "sdiff") (AtLeast 2)
sets_look_row sets_looks.SInterCard = row (codes "sintercard") (AtLeast 3)

abbrev pub sets_change_row : SetsChange → Row
sets_change_row sets_changes.SAdd = row (codes "sadd") (AtLeast 3)
sets_change_row sets_changes.SRem = row (codes "srem") (AtLeast 3)
sets_change_row sets_changes.SMove = row (codes "smove") (Exactly 4)
sets_change_row (sets_changes.CombineStore combinations.Intersection) = row (codes "sinterstore") (AtLeast 3)
sets_change_row (sets_changes.CombineStore combinations.Union) = row (codes "sunionstore") (AtLeast 3)
sets_change_row (sets_changes.CombineStore combinations.Difference) = row (codes "sdiffstore") (AtLeast 3)

-- Sorted sets
abbrev pub sorted_sets_look_row : SortedSetsLook → Row
sorted_sets_look_row sorted_sets_looks.ZScore = row (codes "zscore") (Exactly 3)
sorted_sets_look_row sorted_sets_looks.ZMScore = row (codes "zmscore") (AtLeast 3)
sorted_sets_look_row sorted_sets_looks.ZCard = row (codes "zcard") (Exactly 2)
sorted_sets_look_row (sorted_sets_looks.Rank directions.Ascending) = row (codes "zrank") (Exactly 3)
sorted_sets_look_row (sorted_sets_looks.Rank directions.Descending) = row (codes "zrevrank") (Exactly 3)
sorted_sets_look_row sorted_sets_looks.ZCount = row (codes "zcount") (Exactly 4)
sorted_sets_look_row sorted_sets_looks.ZLexCount = row (codes "zlexcount") (Exactly 4)
sorted_sets_look_row (sorted_sets_looks.Range forms.Any) = row (codes "zrange") (AtLeast 4)
sorted_sets_look_row (sorted_sets_looks.Range forms.Reversed) = row (codes "zrevrange") (AtLeast 4)
sorted_sets_look_row (sorted_sets_looks.Range (forms.ByScores directions.Ascending)) = row (codes "zrangebyscore") (AtLeast 4)
sorted_sets_look_row (sorted_sets_looks.Range (forms.ByScores directions.Descending)) = row (codes "zrevrangebyscore") (AtLeast 4)
sorted_sets_look_row (sorted_sets_looks.Range (forms.ByMembers directions.Ascending)) = row (codes "zrangebylex") (AtLeast 4)
sorted_sets_look_row (sorted_sets_looks.Range (forms.ByMembers directions.Descending)) = row (codes "zrevrangebylex") (AtLeast 4)

abbrev pub sorted_sets_change_row : SortedSetsChange → Row
sorted_sets_change_row sorted_sets_changes.ZAdd = row (codes "zadd") (AtLeast 4)
sorted_sets_change_row sorted_sets_changes.ZIncrBy = row (codes "zincrby") (Exactly 4)
sorted_sets_change_row sorted_sets_changes.ZRem = row (codes "zrem") (AtLeast 3)
sorted_sets_change_row (sorted_sets_changes.RemRange ranges.Places) = row (codes "zremrangebyrank") (Exactly 4)
sorted_sets_change_row (sorted_sets_changes.RemRange ranges.Scores) = row (codes "zremrangebyscore") (Exactly 4)
sorted_sets_change_row (sorted_sets_changes.RemRange ranges.Members) = row (codes "zremrangebylex") (Exactly 4)
sorted_sets_change_row (sorted_sets_changes.Pop directions.Ascending) = row (codes "zpopmin") (AtLeast 2)
sorted_sets_change_row (sorted_sets_changes.Pop directions.Descending) = row (codes "zpopmax") (AtLeast 2)
sorted_sets_change_row (sorted_sets_changes.JoinStore joinings.Union) = row (codes "zunionstore") (AtLeast 4)
sorted_sets_change_row (sorted_sets_changes.JoinStore joinings.Intersection) = row (codes "zinterstore") (AtLeast 4)

-- Transactions, and messages
abbrev pub session_row : Session → Row
session_row sessions.Multi = row (codes "multi") (Exactly 1)
session_row sessions.Exec = row (codes "exec") (Exactly 1)
session_row sessions.Discard = row (codes "discard") (Exactly 1)
session_row sessions.Watch = row (codes "watch") (AtLeast 2)
session_row sessions.Unwatch = row (codes "unwatch") (Exactly 1)
session_row sessions.Quit = row (codes "quit") (AtLeast 1)
session_row (sessions.Subscribe kinds.Channels) = row (codes "subscribe") (AtLeast 2)
session_row (sessions.Subscribe kinds.Patterns) = row (codes "psubscribe") (AtLeast 2)
session_row (sessions.Unsubscribe kinds.Channels) = row (codes "unsubscribe") (AtLeast 1)
session_row (sessions.Unsubscribe kinds.Patterns) = row (codes "punsubscribe") (AtLeast 1)
session_row sessions.Publish = row (codes "publish") (Exactly 3)
session_row sessions.Pubsub = row (codes "pubsub") (AtLeast 2)

abbrev pub look_row : Look → Row
look_row (looks.Server command) = server_look_row command
look_row (looks.Keys command) = keys_look_row command
look_row (looks.Strings command) = strings_look_row command
look_row (looks.Lists command) = lists_look_row command
look_row (looks.Hashes command) = hashes_look_row command
look_row (looks.Sets command) = sets_look_row command
look_row (looks.SortedSets command) = sorted_sets_look_row command

abbrev pub change_row : Change → Row
change_row (changes.Server command) = server_change_row command
change_row (changes.Keys command) = keys_change_row command
change_row (changes.Strings command) = strings_change_row command
change_row (changes.Lists command) = lists_change_row command
change_row (changes.Hashes command) = hashes_change_row command
change_row (changes.Sets command) = sets_change_row command
change_row (changes.SortedSets command) = sorted_sets_change_row command

abbrev pub operation_row : Operation → Row
operation_row (operations.Look command) = look_row command
operation_row (operations.Change command) = change_row command

abbrev pub row_of : Command → Row
row_of (commands.Perform operation) = operation_row operation
row_of (commands.Session command) = session_row command

-- the commands that are served, by section
abbrev pub server_look : ServerLook → Command
server_look command = commands.Perform (operations.Look (looks.Server command))

abbrev pub server_change : ServerChange → Command
server_change command = commands.Perform (operations.Change (changes.Server command))

abbrev pub keys_look : KeysLook → Command
keys_look command = commands.Perform (operations.Look (looks.Keys command))

abbrev pub keys_change : KeysChange → Command
keys_change command = commands.Perform (operations.Change (changes.Keys command))

abbrev pub strings_look : StringsLook → Command
strings_look command = commands.Perform (operations.Look (looks.Strings command))

abbrev pub strings_change : StringsChange → Command
strings_change command = commands.Perform (operations.Change (changes.Strings command))

abbrev pub lists_look : ListsLook → Command
lists_look command = commands.Perform (operations.Look (looks.Lists command))

abbrev pub lists_change : ListsChange → Command
lists_change command = commands.Perform (operations.Change (changes.Lists command))

abbrev pub hashes_look : HashesLook → Command
hashes_look command = commands.Perform (operations.Look (looks.Hashes command))

abbrev pub hashes_change : HashesChange → Command
hashes_change command = commands.Perform (operations.Change (changes.Hashes command))

abbrev pub sets_look : SetsLook → Command
sets_look command = commands.Perform (operations.Look (looks.Sets command))

abbrev pub sets_change : SetsChange → Command
sets_change command = commands.Perform (operations.Change (changes.Sets command))

abbrev pub sorted_sets_look : SortedSetsLook → Command
sorted_sets_look command = commands.Perform (operations.Look (looks.SortedSets command))

abbrev pub sorted_sets_change : SortedSetsChange → Command
sorted_sets_change command = commands.Perform (operations.Change (changes.SortedSets command))

abbrev pub server_looks_served : List Command
server_looks_served =
    server_look server_looks.Ping
    ∷ server_look server_looks.Echo
    ∷ server_look server_looks.Time
    ∷ server_look server_looks.DbSize ∷ []

abbrev pub server_changes_served : List Command
server_changes_served =
    server_change server_changes.Select
    ∷ server_change server_changes.FlushDb
    ∷ server_change server_changes.FlushAll
    ∷ server_change server_changes.SwapDb ∷ []

abbrev pub keys_looks_served : List Command
keys_looks_served =
    keys_look keys_looks.Exists
    ∷ keys_look keys_looks.Touch
    ∷ keys_look keys_looks.Type
    ∷ keys_look keys_looks.Keys
    ∷ keys_look (keys_looks.Ttl units.Seconds)
    ∷ keys_look (keys_looks.Ttl units.Milliseconds)
    ∷ keys_look (keys_looks.ExpireTime units.Seconds)
    ∷ keys_look (keys_looks.ExpireTime units.Milliseconds) ∷ []

abbrev pub keys_changes_served : List Command
keys_changes_served =
    keys_change keys_changes.Del
    ∷ keys_change keys_changes.Unlink
    ∷ keys_change keys_changes.Rename
    ∷ keys_change keys_changes.RenameNx
    ∷ keys_change keys_changes.Copy
    ∷ keys_change keys_changes.Move
    ∷ keys_change (keys_changes.Expire timings.InSeconds)
    ∷ keys_change (keys_changes.Expire timings.InMilliseconds)
    ∷ keys_change (keys_changes.Expire timings.AtSecond)
    ∷ keys_change (keys_changes.Expire timings.AtMillisecond)
    ∷ keys_change keys_changes.Persist ∷ []

abbrev pub strings_looks_served : List Command
strings_looks_served =
    strings_look strings_looks.Get
    ∷ strings_look strings_looks.MGet
    ∷ strings_look strings_looks.StrLen
    ∷ strings_look strings_looks.GetRange
    ∷ strings_look strings_looks.SubStr
    ∷ strings_look strings_looks.GetBit
    ∷ strings_look strings_looks.BitCount ∷ []

abbrev pub strings_changes_served : List Command
strings_changes_served =
    strings_change strings_changes.Set
    ∷ strings_change strings_changes.SetNx
    ∷ strings_change (strings_changes.SetEx units.Seconds)
    ∷ strings_change (strings_changes.SetEx units.Milliseconds)
    ∷ strings_change strings_changes.GetSet
    ∷ strings_change strings_changes.GetDel
    ∷ strings_change strings_changes.GetEx
    ∷ strings_change strings_changes.MSet
    ∷ strings_change strings_changes.MSetNx
    ∷ strings_change strings_changes.Append
    ∷ strings_change strings_changes.SetRange
    ∷ strings_change strings_changes.Incr
    ∷ strings_change strings_changes.Decr
    ∷ strings_change strings_changes.IncrBy
    ∷ strings_change strings_changes.DecrBy
    ∷ strings_change strings_changes.SetBit
    ∷ strings_change strings_changes.BitOp ∷ []

abbrev pub lists_looks_served : List Command
lists_looks_served =
    lists_look lists_looks.LLen
    ∷ lists_look lists_looks.LRange
    ∷ lists_look lists_looks.LIndex
    ∷ lists_look lists_looks.LPos ∷ []

abbrev pub lists_changes_served : List Command
lists_changes_served =
    lists_change (lists_changes.Push ends.Left)
    ∷ lists_change (lists_changes.Push ends.Right)
    ∷ lists_change (lists_changes.PushX ends.Left)
    ∷ lists_change (lists_changes.PushX ends.Right)
    ∷ lists_change (lists_changes.Pop ends.Left)
    ∷ lists_change (lists_changes.Pop ends.Right)
    ∷ lists_change lists_changes.LSet
    ∷ lists_change lists_changes.LTrim
    ∷ lists_change lists_changes.LInsert
    ∷ lists_change lists_changes.LRem
    ∷ lists_change lists_changes.LMove
    ∷ lists_change lists_changes.RPopLPush
    ∷ lists_change lists_changes.LMPop ∷ []

abbrev pub hashes_looks_served : List Command
hashes_looks_served =
    hashes_look hashes_looks.HGet
    ∷ hashes_look hashes_looks.HMGet
    ∷ hashes_look hashes_looks.HLen
    ∷ hashes_look hashes_looks.HExists
    ∷ hashes_look hashes_looks.HStrLen
    ∷ hashes_look hashes_looks.HKeys
    ∷ hashes_look hashes_looks.HVals
    ∷ hashes_look hashes_looks.HGetAll ∷ []

abbrev pub hashes_changes_served : List Command
hashes_changes_served =
    hashes_change hashes_changes.HSet
    ∷ hashes_change hashes_changes.HMSet
    ∷ hashes_change hashes_changes.HSetNx
    ∷ hashes_change hashes_changes.HDel
    ∷ hashes_change hashes_changes.HIncrBy ∷ []

abbrev pub sets_looks_served : List Command
sets_looks_served =
    sets_look sets_looks.SIsMember
    ∷ sets_look sets_looks.SMIsMember
    ∷ sets_look sets_looks.SCard
    ∷ sets_look sets_looks.SMembers
    ∷ sets_look (sets_looks.Combine combinations.Intersection)
    ∷ sets_look (sets_looks.Combine combinations.Union)
    ∷ sets_look (sets_looks.Combine combinations.Difference)
    ∷ sets_look sets_looks.SInterCard ∷ []

abbrev pub sets_changes_served : List Command
sets_changes_served =
    sets_change sets_changes.SAdd
    ∷ sets_change sets_changes.SRem
    ∷ sets_change sets_changes.SMove
    ∷ sets_change (sets_changes.CombineStore combinations.Intersection)
    ∷ sets_change (sets_changes.CombineStore combinations.Union)
    ∷ sets_change (sets_changes.CombineStore combinations.Difference) ∷ []

abbrev pub sorted_sets_looks_served : List Command
sorted_sets_looks_served =
    sorted_sets_look sorted_sets_looks.ZScore
    ∷ sorted_sets_look sorted_sets_looks.ZMScore
    ∷ sorted_sets_look sorted_sets_looks.ZCard
    ∷ sorted_sets_look (sorted_sets_looks.Rank directions.Ascending)
    ∷ sorted_sets_look (sorted_sets_looks.Rank directions.Descending)
    ∷ sorted_sets_look sorted_sets_looks.ZCount
    ∷ sorted_sets_look sorted_sets_looks.ZLexCount
    ∷ sorted_sets_look (sorted_sets_looks.Range forms.Any)
    ∷ sorted_sets_look (sorted_sets_looks.Range forms.Reversed)
    ∷ sorted_sets_look (sorted_sets_looks.Range (forms.ByScores directions.Ascending))
    ∷ sorted_sets_look (sorted_sets_looks.Range (forms.ByScores directions.Descending))
    ∷ sorted_sets_look (sorted_sets_looks.Range (forms.ByMembers directions.Ascending))
    ∷ sorted_sets_look (sorted_sets_looks.Range (forms.ByMembers directions.Descending)) ∷ []

abbrev pub sorted_sets_changes_served : List Command
sorted_sets_changes_served =
    sorted_sets_change sorted_sets_changes.ZAdd
    ∷ sorted_sets_change sorted_sets_changes.ZIncrBy
    ∷ sorted_sets_change sorted_sets_changes.ZRem
    ∷ sorted_sets_change (sorted_sets_changes.RemRange ranges.Places)
    ∷ sorted_sets_change (sorted_sets_changes.RemRange ranges.Scores)
    ∷ sorted_sets_change (sorted_sets_changes.RemRange ranges.Members)
    ∷ sorted_sets_change (sorted_sets_changes.Pop directions.Ascending)
    ∷ sorted_sets_change (sorted_sets_changes.Pop directions.Descending)
    ∷ sorted_sets_change (sorted_sets_changes.JoinStore joinings.Union)
    ∷ sorted_sets_change (sorted_sets_changes.JoinStore joinings.Intersection) ∷ []

-- those that are performed on the keyspace: on strings, on keys of any kind, on the server, and on collections
abbrev pub plain_served : List Command
plain_served =
    strings_looks_served ++ strings_changes_served ++ keys_looks_served ++ keys_changes_served ++ server_looks_served ++ server_changes_served

abbrev pub hashes_served : List Command
hashes_served = hashes_looks_served ++ hashes_changes_served

abbrev pub sorted_sets_served : List Command
sorted_sets_served = sorted_sets_looks_served ++ sorted_sets_changes_served

abbrev pub collections_served : List Command
collections_served = lists_looks_served ++ lists_changes_served ++ hashes_served ++ sets_looks_served ++ sets_changes_served ++ sorted_sets_served

abbrev pub operations_served : List Command
operations_served = plain_served ++ collections_served

-- and those that speak of connections
abbrev pub sessions_served : List Command
sessions_served =
    commands.Session sessions.Multi ∷ commands.Session sessions.Exec ∷ commands.Session sessions.Discard ∷ commands.Session sessions.Watch
    ∷ commands.Session sessions.Unwatch ∷ commands.Session sessions.Quit
    ∷ commands.Session (sessions.Subscribe kinds.Channels) ∷ commands.Session (sessions.Subscribe kinds.Patterns)
    ∷ commands.Session (sessions.Unsubscribe kinds.Channels) ∷ commands.Session (sessions.Unsubscribe kinds.Patterns)
    ∷ commands.Session sessions.Publish ∷ commands.Session sessions.Pubsub ∷ []

-- the commands whose names are served; another name is an unknown command
abbrev pub served : List Command
served = operations_served ++ sessions_served

-- the command of a name among these, whatever the case of its ASCII letters
abbrev pub named : List Command → Bytes → Option Command
named table name = find (λ c. bytes_eq (row_of c).name (str_to_ascii_lowercase name)) table
