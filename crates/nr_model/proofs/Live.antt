-- What a keyspace's live part has at a key.
use Rattle.std.proofs.Common.{◌≡◌, ℕ, cond, refl, ap, ◌∙◌}
use Rattle.std.specs.Prelude.{Option, Some, None}
use Rattle.std.specs.FinMap as map
use Rattle.std.specs.Cmp.{IsTotalOrder, tied_itself}
use Rattle.std.specs.Ordering.{is_eq}
use Rattle.std.proofs.lemmas.Cmp.{on_total, then_total}
use Rattle.std.specs.Cmp.{nat_cmp_total}
use Rattle.std.specs.Cmp.Lexicographic.{nat_list_cmp_total}
use Rattle.nr_model.specs.Keyspace.{Key, key_cmp, Stored, Keyspace, live, only_live, is_stored_live}

pub key_total : IsTotalOrder key_cmp
key_total = then_total (on_total (λ (k : Key). k.database) nat_cmp_total) (on_total (λ (k : Key). k.name) nat_list_cmp_total)

only_live-cond : (now : ℕ) (stored : Option Stored) → cond (is_stored_live now stored) stored None ≡ only_live now stored
only_live-cond now None = refl
only_live-cond now (Some stored) = refl

pub get-live : (m : Keyspace) (now : ℕ) (key : Key) → map.get (live m now) key ≡ only_live now (map.get m key)
get-live m now key =
    map.get-retain_keys m (λ k. is_stored_live now (map.get m k)) key (λ x tied. ap (is_stored_live now) (map.get_tied key_total m key x tied))
    ∙ only_live-cond now (map.get m key)

get-insert_same : (m : Keyspace) (key : Key) (stored : Stored) → map.get (map.insert m key stored) key ≡ Some stored
get-insert_same m key stored =
    map.get-insert key_total m key stored key ∙ ap (λ r. cond (is_eq r) (Some stored) (map.get m key)) (tied_itself key_total key)

-- what was just stored is read back while it is live
pub get-live-insert : (m : Keyspace) (key : Key) (stored : Stored) (now : ℕ) → map.get (live (map.insert m key stored) now) key ≡ only_live now (Some stored)
get-live-insert m key stored now = get-live (map.insert m key stored) now key ∙ ap (only_live now) (get-insert_same m key stored)
