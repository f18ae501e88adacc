-- What a deed leaves of a server, and what it emits.
use Rattle.std.specs.Prelude.{ℕ, List, map}
use Rattle.nr_model.specs.Bytes.{Bytes}
use Rattle.nr_model.specs.Keyspace.{Key}
use Rattle.nr_model.specs.Items.{Connection, Deed}
use Rattle.nr_model.specs.Sequential.Events.{Emission}
use Rattle.nr_model.specs.Sequential.Watches.{forgets, watched_keys}
use Rattle.nr_model.specs.Sequential.{Progress, start, done_by, database_left, emissions_of}
use Rattle.nr_model.specs.Servers.{Server, found_in, with_database, held_behind, watch_of, watches_behind, touched_by, touched_behind}

-- what its commands leave
abbrev pub left_by : Server → Connection → ℕ → Deed → Progress
left_by s c now deed = let found = found_in s c now in done_by found now deed (start found)

-- the server behind a deed that left this, but for the moment of the updates
abbrev pub behind : Server → Connection → ℕ → Deed → Progress → Server
behind s c now deed p =
    let database = database_left deed p.database in
    record {
      keyspace = p.keyspace;
      logged = s.logged;
      databases = with_database s.databases c database;
      held = held_behind s.held c deed;
      watches = watches_behind s.watches c (forgets deed) (map (watch_of p.keyspace now) (watched_keys database deed));
      touched = touched_behind (touched_by s.watches p.touched s.touched) c (forgets deed);
    }

abbrev pub after_deed : Server → Connection → ℕ → Deed → Server
after_deed s c now deed = behind s c now deed (left_by s c now deed)

abbrev pub emitted_by : Server → Connection → ℕ → Deed → List Emission
emitted_by s c now deed = emissions_of c (left_by s c now deed)

-- the keys of these names in a database
abbrev pub keys_of : ℕ → List Bytes → List Key
keys_of database names = map (λ name. record { database = database; name = name }) names
