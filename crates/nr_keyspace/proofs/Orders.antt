-- The orders of deadlines, names and keys: total, and only equal ones tie.
use Rattle.std.proofs.Common.{ℕ, ap}
use Rattle.std.specs.Cmp.{IsTotalOrder, int_cmp_total}
use Rattle.std.specs.Cmp.Lexicographic.{nat_list_cmp_total}
use Rattle.std.specs.Ordering.{int_cmp, nat_cmp}
use Rattle.std.specs.FinMap as map
use Rattle.std.proofs.lemmas.Cmp.{on_total, then_total}
use Rattle.std.proofs.lemmas.Map.Lookups.{exact_signed, exact_unsigned, exact_bytes, exact_pairs}
use Rattle.nr_model.specs.Bytes.{Bytes}
use Rattle.nr_model.specs.Keyspace.{Key, key_cmp, byte_cmp}
use Rattle.nr_keyspace.specs.Deadlines.{Due, due_cmp}

pub due_total : IsTotalOrder due_cmp
due_total = then_total (on_total (λ (d : Due). d.0) int_cmp_total) (on_total (λ (d : Due). d.1) nat_list_cmp_total)

pub due_exact : map.IsAntisymmetric due_cmp
due_exact a b h = exact_pairs int_cmp byte_cmp exact_signed exact_bytes a b h

pub key_exact : map.IsAntisymmetric key_cmp
key_exact a b h =
    ap (λ (p : ℕ × Bytes). let k : Key = record { database = p.0; name = p.1 } in k)
    (exact_pairs nat_cmp byte_cmp exact_unsigned exact_bytes (a.database, a.name) (b.database, b.name) h)
