-- One sequential Redis as a server that goes from state to state and remembers no item: a law says that it finds, leaves and emits what the
-- sequential Redis does, which looks back, along every sequence.
use Rattle.std.specs.Prelude.{◌≡◌, ℕ, Bool, false, not, ◌||◌, ◌==◌, cond, max, List, [], ◌∷◌, ◌++◌, map, filter, flat_map, Option, Some, None, unwrap_or, ℤ}
use Rattle.std.specs.List.{list_any}
use Rattle.std.specs.FinMap as finmap
use Rattle.std.specs.FinSet as finset
use Rattle.nr_model.specs.Bytes.{Bytes}
use Rattle.nr_model.specs.Keyspace.{Key, Keyspace, Stored, byte_cmp, is_live_at}
use Rattle.nr_model.specs.declared.command.Command.{Command}
use Rattle.nr_model.specs.declared.command.Command.TheVariants.{Session}
use Rattle.nr_model.specs.declared.command.Kind.{Kind}
use Rattle.nr_model.specs.declared.command.Session.TheVariants.{Subscribe, Unsubscribe}
use Rattle.nr_model.specs.Names.{in_order, Held, holding_none, held, how_many_held, after_subscribe, after_unsubscribe}
use Rattle.nr_model.specs.Items.{Connection, connection_cmp, arguments, Deed, Say, Act, Run, Abort, End, Item, Sequence, is_update}
use Rattle.nr_model.specs.Sequential.Events.{Emission, database_of}
use Rattle.nr_model.specs.Sequential.Subscribers.{names, held_of, subscribers, names_held}
use Rattle.nr_model.specs.Sequential.Messages.{Subscriptions}
use Rattle.nr_model.specs.Sequential.Watches.{same_key, forgets, watched_keys, is_spoiled}
use Rattle.nr_model.specs.Sequential.{Found, Progress, start, done_by, database_left, emissions_of, past_of, redis, emit}

-- a watch: its key, and the deadline that what it held had, if that was live
pub record Watch : Type 0 where
  pub key : Key
  pub deadline : Option ℤ

-- What one sequential Redis has to remember: its keyspace, the greatest moment of the updates so far, the databases that are not 0, what
-- connections hold, their watches in the order in which they were begun, and the connections of which a watched key was touched.
pub record Server : Type 0 where
  pub keyspace : Keyspace
  pub logged : ℕ
  pub databases : finmap.FinMap connection_cmp ℕ
  pub held : finmap.FinMap connection_cmp Held
  pub watches : finmap.FinMap connection_cmp (List Watch)
  pub touched : finset.FinSet connection_cmp

-- before any item
abbrev pub fresh : Server
fresh = record { keyspace = finmap.empty; logged = 0; databases = finmap.empty; held = finmap.empty; watches = finmap.empty; touched = finset.empty }

-- What it knows of a connection
abbrev pub database_in : finmap.FinMap connection_cmp ℕ → Connection → ℕ
database_in databases c = unwrap_or (finmap.get databases c) 0

abbrev pub held_in : finmap.FinMap connection_cmp Held → Connection → Held
held_in all c = unwrap_or (finmap.get all c) holding_none

abbrev pub watches_in : finmap.FinMap connection_cmp (List Watch) → Connection → List Watch
watches_in watches c = unwrap_or (finmap.get watches c) []

-- the connections that hold a name, in order, and the names that some connection holds, in byte order
abbrev pub subscribers_in : finmap.FinMap connection_cmp Held → Kind → Bytes → List Connection
subscribers_in all kind name = filter (λ c. names (held kind (held_in all c)) name) (finmap.keys all)

abbrev pub names_in : finmap.FinMap connection_cmp Held → Kind → List Bytes
names_in all kind = in_order byte_cmp (flat_map (λ c. held kind (held_in all c)) (finmap.keys all))

-- what was live when it was watched has passed its deadline
abbrev pub has_gone : ℕ → Option ℤ → Bool
has_gone now deadline = not (is_live_at now deadline)

-- a watched key was touched, or has passed its deadline
abbrev pub is_spoiled_in : Server → Connection → ℕ → Bool
is_spoiled_in s c now = finset.contains s.touched c || list_any (λ w. has_gone now w.deadline) (watches_in s.watches c)

abbrev pub subscriptions_in : Server → Subscriptions
subscriptions_in s = record { subscribers = λ kind name. subscribers_in s.held kind name; names = λ kind. names_in s.held kind }

-- what a connection's deed finds
abbrev pub found_in : Server → Connection → ℕ → Found
found_in s c now =
    record {
      keyspace = s.keyspace;
      database = database_in s.databases c;
      held = held_in s.held c;
      subscriptions = subscriptions_in s;
      spoiled = is_spoiled_in s c now;
    }

-- What a deed changes: its connection's database
abbrev pub with_database : finmap.FinMap connection_cmp ℕ → Connection → ℕ → finmap.FinMap connection_cmp ℕ
with_database databases c database =
    cond (database_in databases c == database) databases (cond (database == 0) (finmap.remove databases c) (finmap.insert databases c database))

-- what its connection holds
abbrev pub with_held_by : finmap.FinMap connection_cmp Held → Connection → Held → finmap.FinMap connection_cmp Held
with_held_by all c h = cond (how_many_held h == 0) (finmap.remove all c) (finmap.insert all c h)

abbrev pub held_behind_command : finmap.FinMap connection_cmp Held → Connection → Command → List Bytes → finmap.FinMap connection_cmp Held
held_behind_command all c (Session (Subscribe kind)) words = with_held_by all c (after_subscribe kind (held_in all c) words)
held_behind_command all c (Session (Unsubscribe kind)) words = with_held_by all c (after_unsubscribe kind (held_in all c) words)
held_behind_command all c _ words = all

abbrev pub held_behind : finmap.FinMap connection_cmp Held → Connection → Deed → finmap.FinMap connection_cmp Held
held_behind all c (Say reply) = all
held_behind all c (Act call) = held_behind_command all c call.command (arguments call)
held_behind all c (Run calls) = all
held_behind all c Abort = all
held_behind all c (End reply) = finmap.remove all c

-- its connection's watches
abbrev pub watched_deadline : ℕ → Option Stored → Option ℤ
watched_deadline now None = None
watched_deadline now (Some stored) = cond (is_live_at now stored.deadline) stored.deadline None

abbrev pub watch_of : Keyspace → ℕ → Key → Watch
watch_of keyspace now key = record { key = key; deadline = watched_deadline now (finmap.get keyspace key) }

abbrev pub watches_added : finmap.FinMap connection_cmp (List Watch) → Connection → List Watch → finmap.FinMap connection_cmp (List Watch)
watches_added watches c [] = watches
watches_added watches c (w ∷ ws) = finmap.insert watches c (watches_in watches c ++ w ∷ ws)

abbrev pub watches_behind : finmap.FinMap connection_cmp (List Watch) → Connection → Bool → List Watch → finmap.FinMap connection_cmp (List Watch)
watches_behind watches c forgotten begun = cond forgotten (finmap.remove watches c) (watches_added watches c begun)

-- and, of all connections, which watched a key that was touched
abbrev pub watches_one : List Key → List Watch → Bool
watches_one keys watches = list_any (λ w. list_any (same_key w.key) keys) watches

abbrev pub touched_by : finmap.FinMap connection_cmp (List Watch) → List Key → finset.FinSet connection_cmp → finset.FinSet connection_cmp
touched_by watches [] touched = touched
touched_by watches (key ∷ keys) touched =
    finset.union touched (finset.from_list (filter (λ c. watches_one (key ∷ keys) (watches_in watches c)) (finmap.keys watches)))

abbrev pub touched_behind : finset.FinSet connection_cmp → Connection → Bool → finset.FinSet connection_cmp
touched_behind touched c forgotten = cond forgotten (finset.remove touched c) touched

-- an item's now, and what its deed leaves
abbrev pub now_in : Server → Item → ℕ
now_in s item = max item.moment s.logged

abbrev pub progress_in : Server → Item → Progress
progress_in s item =
    let now = now_in s item in
    let found = found_in s item.connection now in
    done_by found now item.deed (start found)

-- the state behind an item: only an update moves the greatest moment
abbrev pub stepped : Server → Item → Server
stepped s item =
    let c = item.connection in
    let now = now_in s item in
    let p = progress_in s item in
    let database = database_left item.deed p.database in
    let forgotten = forgets item.deed in
    record {
      keyspace = p.keyspace;
      logged = cond (is_update item.deed) now s.logged;
      databases = with_database s.databases c database;
      held = held_behind s.held c item.deed;
      watches = watches_behind s.watches c forgotten (map (watch_of p.keyspace now) (watched_keys database item.deed));
      touched = touched_behind (touched_by s.watches p.touched s.touched) c forgotten;
    }

-- what an item emits: it depends on the state and the item alone
abbrev pub emitted_in : Server → Item → List Emission
emitted_in s item = emissions_of item.connection (progress_in s item)

-- after a sequence, and all that it emits
abbrev pub after_all : Server → Sequence → Server
after_all s [] = s
after_all s (item ∷ items) = after_all (stepped s item) items

abbrev pub emitted_all : Server → Sequence → List Emission
emitted_all s [] = []
emitted_all s (item ∷ items) = emitted_in s item ++ emitted_all (stepped s item) items

-- The server is the sequential Redis along every sequence: what it finds, what it emits, and a read leaves it as it is.
pub record IsRedis : Type 0 where
  pub keyspace : (items : Sequence) → redis items ≡ (after_all fresh items).keyspace
  pub emissions : (items : Sequence) → emit items ≡ emitted_all fresh items
  pub databases : (items : Sequence) (c : Connection) → database_of c (past_of items) ≡ database_in (after_all fresh items).databases c
  pub held : (items : Sequence) (c : Connection) → held_of c (past_of items) ≡ held_in (after_all fresh items).held c
  pub subscribers : (items : Sequence) (kind : Kind) (name : Bytes) → subscribers kind name (past_of items) ≡ subscribers_in (after_all fresh items).held kind name
  pub names : (items : Sequence) (kind : Kind) → names_held kind (past_of items) ≡ names_in (after_all fresh items).held kind
  pub spoiled : (items : Sequence) (c : Connection) (now : ℕ) → is_spoiled c now [] (past_of items) ≡ is_spoiled_in (after_all fresh items) c now
  pub reads : (s : Server) (item : Item) → is_update item.deed ≡ false → stepped s item ≡ s
