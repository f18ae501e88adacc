-- Connection and server (Redis command reference, connection management and server management).
use Rattle.std.specs.Prelude.{ℕ, zero, suc, ◌*◌, ◌/◌, ◌%◌, ◌^◌, ◌==◌, Bool, not, ◌||◌, List, [], ◌∷◌, ◌++◌, length, map, codes, decimal, ℤ, pos, negsuc, Ok, Err, ⊤, nat_lt, if◌then◌else◌}
use Rattle.std.specs.FinMap as finmap
use Rattle.nr_model.specs.Bytes.{Bytes}
use Rattle.nr_model.specs.Numbers.{int_value}
use Rattle.nr_model.specs.Replies.{Reply, Simple, Int, Bulk, array}
use Rattle.nr_model.specs.Keyspace.{Key, key_of, Keyspace, how_many_databases, exchanged, names_in}
use Rattle.nr_model.specs.Commands.Shape.{Effect, Done, staying, unchanged, refusal, answered, performed}
use Rattle.nr_model.specs.Commands.Reading.{Read, fault, read_then, one_word, two_words, integer_or, database_of, database_index, is_word}
use Rattle.nr_model.specs.declared.refused.Refused.{Refused}
use Rattle.nr_model.specs.declared.refused.Refused.TheVariants.{Syntax, FirstDatabase, SecondDatabase, PingArity}
use Rattle.nr_model.specs.declared.command.ServerLook.{ServerLook}
use Rattle.nr_model.specs.declared.command.ServerLook.TheVariants.{Ping, Echo, Time, DbSize}
use Rattle.nr_model.specs.declared.command.ServerChange.{ServerChange}
use Rattle.nr_model.specs.declared.command.ServerChange.TheVariants.{Select, FlushDb, FlushAll, SwapDb}
use Rattle.nr_model.specs.Commands.Texts.{ok}

-- PING [message]: PONG, or the message
abbrev pub ping : List Bytes → Reply
ping [] = Simple (codes "PONG")
ping (message ∷ []) = Bulk message
ping (message ∷ more ∷ words) = refusal PingArity

-- ECHO message: the message
abbrev pub echo : List Bytes → Reply
echo words = answered (one_word words) Bulk

-- SELECT index: the connection's database is this one of the sixteen
abbrev pub selected : Keyspace → ℕ → Read ℕ → Done
selected keyspace database (Ok index) = staying index (unchanged keyspace ok)
selected keyspace database (Err error) = staying database (unchanged keyspace error)

abbrev pub select : Keyspace → ℕ → List Bytes → Done
select keyspace database words = selected keyspace database (read_then (one_word words) database_index)

-- TIME: the seconds of the moment, and the microseconds behind them
abbrev pub time : ℕ → Reply
time now = array (Bulk (decimal (now / 1000)) ∷ Bulk (decimal (1000 * (now % 1000))) ∷ [])

-- DBSIZE: how many keys the connection's database has
abbrev pub db_size : Keyspace → ℕ → Reply
db_size keyspace database = Int (pos (length (names_in keyspace database)))

-- the names of a database's keys, as keys of a database
abbrev pub named_in : Keyspace → ℕ → ℕ → List Key
named_in keyspace source target = map (key_of target) (names_in keyspace source)

-- FLUSHDB [ASYNC | SYNC]: removes the keys of the connection's database
abbrev pub flush_words : List Bytes → Read ⊤
flush_words [] = Ok tt
flush_words (word ∷ []) = if is_word (codes "async") word || is_word (codes "sync") word then Ok tt else fault Syntax
flush_words (word ∷ more ∷ words) = fault Syntax

abbrev pub flush_db : Keyspace → ℕ → List Bytes → Effect
flush_db keyspace database words =
    performed keyspace (flush_words words) (λ _. record {
      reply = ok;
      keyspace = finmap.retain_keys keyspace (λ key. not (key.database == database));
      touched = named_in keyspace database database;
    })

-- FLUSHALL [ASYNC | SYNC]: removes all keys
abbrev pub named_below : Keyspace → ℕ → List Key
named_below keyspace zero = []
named_below keyspace (suc database) = named_below keyspace database ++ named_in keyspace database database

abbrev pub flush_all : Keyspace → List Bytes → Effect
flush_all keyspace words =
    performed keyspace (flush_words words) (λ _. record {
      reply = ok;
      keyspace = finmap.empty;
      touched = named_below keyspace how_many_databases;
    })

-- SWAPDB index index: the keys of each database are those of the other; touched in both is what either has
abbrev pub small_integer : ℤ → Bool
small_integer (pos n) = nat_lt n (2 ^ 31)
small_integer (negsuc n) = nat_lt n (2 ^ 31)

abbrev pub small_or : Refused → ℤ → Read ℤ
small_or why n = if small_integer n then Ok n else fault why

abbrev pub index_or : Refused → Bytes → Read ℤ
index_or why word = read_then (integer_or why (int_value word)) (small_or why)

abbrev pub swap_request : List Bytes → Read (ℕ × ℕ)
swap_request words =
    read_then (two_words words) (λ pair.
    read_then (index_or FirstDatabase pair.0) (λ a. read_then (index_or SecondDatabase pair.1) (λ b.
    read_then (database_of a) (λ a. read_then (database_of b) (λ b. Ok (a, b))))))

abbrev pub swapped : ℕ → ℕ → Keyspace → Keyspace
swapped a b keyspace = finmap.from_entries (map (λ e. (exchanged a b e.0, e.1)) (finmap.entries keyspace))

abbrev pub in_both : ℕ → ℕ → Keyspace → List Key
in_both a b keyspace = named_in keyspace a a ++ named_in keyspace a b ++ named_in keyspace b a ++ named_in keyspace b b

abbrev pub swap_db : Keyspace → List Bytes → Effect
swap_db keyspace words =
    performed keyspace (swap_request words) (λ pair.
    if pair.0 == pair.1 then unchanged keyspace ok
    else record {
      reply = ok;
      keyspace = swapped pair.0 pair.1 keyspace;
      touched = in_both pair.0 pair.1 keyspace;
    })

-- a command that only looks, at a moment; the arguments are the words behind the name
abbrev pub look : ServerLook → ℕ → Keyspace → ℕ → List Bytes → Reply
look Ping now keyspace database arguments = ping arguments
look Echo now keyspace database arguments = echo arguments
look Time now keyspace database arguments = time now
look DbSize now keyspace database arguments = db_size keyspace database

-- a command that may change the keyspace, or the database
abbrev pub change : ServerChange → ℕ → Keyspace → ℕ → List Bytes → Done
change Select now keyspace database arguments = select keyspace database arguments
change FlushDb now keyspace database arguments = staying database (flush_db keyspace database arguments)
change FlushAll now keyspace database arguments = staying database (flush_all keyspace arguments)
change SwapDb now keyspace database arguments = staying database (swap_db keyspace arguments)
