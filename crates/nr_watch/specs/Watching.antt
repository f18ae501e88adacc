-- What connections watch, and of which a watched key was touched (Redis, transactions: WATCH).
use Rattle.std.specs.Prelude.{ℕ, ℤ, List, [], ◌∷◌, Option, refl}
use Rattle.std.specs.FinMap as map
use Rattle.std.specs.FinSet as set
use Rattle.std.specs.Coded.{Coded, code_by, coded×, coded_ℕ, coded_ℤ, coded_list, coded_option}
use Rattle.nr_model.specs.Keyspace.{Key, coded_key}
use Rattle.nr_model.specs.Items.{Connection, connection_cmp}
use Rattle.nr_model.specs.Servers.{Watch, touched_by}

-- the watches of each connection in the order in which they were begun, and the connections of which a watched key was touched
pub record Watching : Type 0 where
  pub watches : map.FinMap connection_cmp (List Watch)
  pub touched : set.FinSet connection_cmp

-- nothing is watched
abbrev pub nobody : Watching
nobody = record { watches = map.empty; touched = set.empty }

-- behind a change of what a key holds
abbrev pub touched_at : Watching → Key → Watching
touched_at w key = record w { touched = touched_by w.watches (key ∷ []) w.touched }

-- Codes, by which these can be what contracts see of a type.
abbrev pub coded_connection : Coded Connection
coded_connection = code_by (ℕ × ℕ) (coded× coded_ℕ coded_ℕ) (λ c. (c.node, c.serial)) (λ p. record { node = p.0; serial = p.1 }) (λ _. refl)

abbrev pub coded_watch : Coded Watch
coded_watch = code_by (Key × Option ℤ) (coded× coded_key (coded_option coded_ℤ)) (λ w. (w.key, w.deadline))
    (λ p. record { key = p.0; deadline = p.1 }) (λ _. refl)

abbrev pub coded_watches : Coded (map.FinMap connection_cmp (List Watch))
coded_watches = map.code coded_connection (coded_list coded_watch)

abbrev pub coded_touched : Coded (set.FinSet connection_cmp)
coded_touched = set.code coded_connection

abbrev pub coded_watching : Coded Watching
coded_watching = code_by (map.FinMap connection_cmp (List Watch) × set.FinSet connection_cmp) (coded× coded_watches coded_touched)
    (λ w. (w.watches, w.touched)) (λ p. record { watches = p.0; touched = p.1 }) (λ _. refl)
