-- What the commands on hashes read and write: fields with their values, in byte order (Redis command reference, hash; order own).
use Rattle.std.specs.Prelude.{List, [], ◌∷◌, flat_map}
use Rattle.std.specs.FinMap as map
use Rattle.std.specs.Coded.{Coded}
use Rattle.nr_model.specs.Bytes.{Bytes}
use Rattle.nr_model.specs.Keyspace.{byte_cmp, coded_bytes}

-- fields, each with its value
abbrev pub Hash : Type 0
Hash = map.FinMap byte_cmp Bytes

abbrev pub coded_hash : Coded Hash
coded_hash = map.code coded_bytes coded_bytes

-- each field and its value in turn
abbrev pub in_turn : Hash → List Bytes
in_turn hash = flat_map (λ pair. pair.0 ∷ pair.1 ∷ []) (map.entries hash)
