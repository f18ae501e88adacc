-- Watches: whether a transaction has to be given up (Redis, transactions, WATCH).
use Rattle.std.specs.Prelude.{ℕ, Bool, true, false, not, ◌&&◌, ◌||◌, ◌==◌, List, [], ◌∷◌, ◌++◌, map, Option, Some, None, bytes_eq}
use Rattle.std.specs.List.{list_any}
use Rattle.std.specs.FinMap as finmap
use Rattle.nr_model.specs.Bytes.{Bytes}
use Rattle.nr_model.specs.Keyspace.{Key, Stored, is_live_at}
use Rattle.nr_model.specs.declared.command.Command.{Command}
use Rattle.nr_model.specs.declared.command.Command.TheVariants.{Session}
use Rattle.nr_model.specs.declared.command.Session.TheVariants.{Watch, Unwatch, Discard}
use Rattle.nr_model.specs.Items.{Connection, same_connection, arguments, Deed, Say, Act, Run, Abort, End}
use Rattle.nr_model.specs.Sequential.Events.{Event, Past}

abbrev pub same_key : Key → Key → Bool
same_key a b = a.database == b.database && bytes_eq a.name b.name

-- a connection's deed forgets its watches: a transaction's run or refusal, its end, UNWATCH and DISCARD
abbrev pub command_forgets : Command → Bool
command_forgets (Session Unwatch) = true
command_forgets (Session Discard) = true
command_forgets _ = false

abbrev pub forgets : Deed → Bool
forgets (Run calls) = true
forgets Abort = true
forgets (End reply) = true
forgets (Act call) = command_forgets call.command
forgets (Say reply) = false

abbrev pub command_watches : Command → ℕ → List Bytes → List Key
command_watches (Session Watch) database names = map (λ name. record { database = database; name = name }) names
command_watches _ database names = []

-- the keys that a deed watches, in the database that its connection has
abbrev pub watched_keys : ℕ → Deed → List Key
watched_keys database (Act call) = command_watches call.command database (arguments call)
watched_keys database (Say reply) = []
watched_keys database (Run calls) = []
watched_keys database Abort = []
watched_keys database (End reply) = []

-- what was live at one moment is past its deadline at another
abbrev pub has_passed : Option Stored → ℕ → ℕ → Bool
has_passed None before now = false
has_passed (Some stored) before now = is_live_at before stored.deadline && not (is_live_at now stored.deadline)

-- a key watched in an event was touched since, or was live then and has passed its deadline by now
abbrev pub is_broken : Event → ℕ → List Key → Key → Bool
is_broken event now touched key =
    list_any (same_key key) touched || has_passed (finmap.get event.keyspace key) event.now now

-- A connection's transaction is given up where one of its WATCHes is broken that it hasn't forgotten since. The keys were touched after the past.
abbrev pub is_spoiled : Connection → ℕ → List Key → Past → Bool
is_spoiled c now touched [] = false
is_spoiled c now touched (event ∷ older) =
    let own = same_connection event.item.connection c in
    let earlier = is_spoiled c now (touched ++ event.touched) older in
    not (own && forgets event.item.deed)
    && ((own && list_any (is_broken event now touched) (watched_keys event.database event.item.deed)) || earlier)
