-- Codes of what a server remembers.
use Rattle.std.specs.Prelude.{ℕ, ℤ, List, Option, refl}
use Rattle.std.specs.Coded.{Coded, code_by, coded×, coded_ℕ, coded_ℤ, coded_list, coded_option}
use Rattle.std.specs.FinMap as finmap
use Rattle.std.specs.FinSet as finset
use Rattle.nr_model.specs.Keyspace.{Key, Keyspace, coded_key, coded_keyspace}
use Rattle.nr_model.specs.Names.{Held}
use Rattle.nr_model.specs.Items.{Connection, connection_cmp}
use Rattle.nr_model.specs.Servers.{Server, Watch}
use Rattle.nr_pubsub.specs.Holdings.{coded_held}

abbrev pub coded_connection : Coded Connection
coded_connection = code_by (ℕ × ℕ) (coded× coded_ℕ coded_ℕ) (λ c. (c.node, c.serial)) (λ p. record { node = p.0; serial = p.1 }) (λ _. refl)

abbrev pub coded_watch : Coded Watch
coded_watch = code_by (Key × Option ℤ) (coded× coded_key (coded_option coded_ℤ)) (λ w. (w.key, w.deadline)) (λ p. record { key = p.0; deadline = p.1 }) (λ _. refl)

abbrev Databases : Type 0
Databases = finmap.FinMap connection_cmp ℕ

abbrev AllHeld : Type 0
AllHeld = finmap.FinMap connection_cmp Held

abbrev AllWatches : Type 0
AllWatches = finmap.FinMap connection_cmp (List Watch)

abbrev pub coded_server : Coded Server
coded_server =
    code_by (Keyspace × (ℕ × (Databases × (AllHeld × (AllWatches × finset.FinSet connection_cmp)))))
    (coded× coded_keyspace (coded× coded_ℕ (coded× (finmap.code coded_connection coded_ℕ) (coded× (finmap.code coded_connection coded_held)
    (coded× (finmap.code coded_connection (coded_list coded_watch)) (finset.code coded_connection))))))
    (λ s. (s.keyspace, (s.logged, (s.databases, (s.held, (s.watches, s.touched))))))
    (λ p. record { keyspace = p.0; logged = p.1.0; databases = p.1.1.0; held = p.1.1.1.0; watches = p.1.1.1.1.0; touched = p.1.1.1.1.1 }) (λ _. refl)
