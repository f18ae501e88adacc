-- A key taken out, whether it was there or not.
use Rattle.std.proofs.Common.{◌≡◌, ℕ, Bool, true, false, cond, refl, ap, sym, ◌∙◌}
use Rattle.std.specs.Prelude.{Option, Some, None, OnSome, IfNone}
use Rattle.std.specs.Option.{option_map}
use Rattle.std.specs.FinMap as map
use Rattle.std.specs.Ordering.{eq_by_cmp}
use Rattle.std.specs.Cmp.{Equal-is}
use Rattle.nr_model.specs.Keyspace.{Key, key_cmp, Stored, Keyspace, live}
use Rattle.nr_model.proofs.Live.{key_total}
use Rattle.nr_keyspace.proofs.Orders.{key_exact}
use Rattle.nr_keyspace.specs.Values.{value_of}
use Rattle.nr_keyspace.specs.declared.value.Value.{Value}

missing_at : (m : Keyspace) (key q : Key) (b : Bool) → eq_by_cmp key_cmp q key ≡ b → map.get m key ≡ None → cond b None (map.get m q) ≡ map.get m q
missing_at m key q true is missing = sym missing ∙ ap (map.get m) (sym (key_exact q key ((Equal-is (key_cmp q key)).0 is)))
missing_at m key q false is missing = refl

-- where it was not there
pub remove_missing : (m : Keyspace) (key : Key) → map.get m key ≡ None → map.remove m key ≡ m
remove_missing m key missing = map.same_map key_total key_exact _ _ (λ q.
    map.get-remove key_total m key q ∙ missing_at m key q (eq_by_cmp key_cmp q key) refl missing)

none_of : (held : Option Stored) → None ≡ option_map (λ stored. stored.value) held → held ≡ None
none_of None is = refl
none_of (Some stored) is = absurd (cc is)

-- what a removal leaves
pub removed_or_missing : (given : Option Value) (old new : Keyspace) (now : ℕ) (key : Key) → live old now ≡ old
    → option_map value_of given ≡ option_map (λ stored. stored.value) (map.get (live old now) key)
    → OnSome given (new ≡ map.remove old key) → IfNone given (new ≡ old) → new ≡ map.remove old key
removed_or_missing (Some value) old new now key swept found removed unchanged = removed
removed_or_missing None old new now key swept found removed unchanged =
    unchanged ∙ sym (remove_missing old key (ap (λ m. map.get m key) (sym swept) ∙ none_of (map.get (live old now) key) found))
