-- What a look-up finds after a change at one key.
use Rattle.std.proofs.Common.{◌≡◌, Bool, true, false, cond, Option, Some, List, refl, ap, sym, ◌∙◌}
use Rattle.std.specs.declared.cmp.Ordering.{Ordering}
use Rattle.std.specs.Ordering.{eq_by_cmp, is_eq}
use Rattle.std.specs.Cmp.{IsTotalOrder, Equal-is, alike_right}
use Rattle.std.specs.Cmp.Lexicographic.{nat_list_cmp_total}
use Rattle.std.specs.Map.{lookup, KeepsOthers}
use Rattle.std.specs.FinMap.{IsAntisymmetric}
use Rattle.std.proofs.lemmas.Map.Lookups.{exact_bytes}
use Rattle.nr_model.specs.Bytes.{Bytes}
use Rattle.nr_model.specs.Keyspace.{byte_cmp}
use Rattle.nr_model.specs.Items.{Connection, connection_cmp}
use Rattle.nr_model.proofs.Subscribed.{connection_total, connection_exact}
use Rattle.nr_model.proofs.Ordered.{tied-is}
use Rattle.nr_entry.specs.declared.conn.ConnId.{ConnId}
use Rattle.nr_entry.specs.Jobs.{connection_of}
use Rattle.nr_watch.specs.Kept.{Watcher, Kept, is_conn, kept_at}

-- the key of an entry is this one, and two are the same
abbrev pub is_key : {Q K : Type 0} → (Q → Q → Ordering) → (K → Q) → Q → K → Bool
is_key R seen q k = eq_by_cmp R q (seen k)

abbrev pub same_key : {Q K : Type 0} → (Q → Q → Ordering) → (K → Q) → K → K → Bool
same_key R seen a b = eq_by_cmp R (seen a) (seen b)

module _ {Q K X : Type 0} (R : Q → Q → Ordering) (o : IsTotalOrder R) (exact : IsAntisymmetric R) (seen : K → Q) where
  pub changed : (old new : List (K × X)) (key : Q) (w : Option X) → lookup (is_key R seen key) new ≡ w
      → KeepsOthers (same_key R seen) (is_key R seen key) old new
      → (q : Q) → lookup (is_key R seen q) new ≡ cond (eq_by_cmp R q key) w (lookup (is_key R seen q) old)
  unfolding KeepsOthers
  changed old new key w at_key others q =
      elim (eq_by_cmp R q key) as (λ t. eq_by_cmp R q key ≡ t → lookup (is_key R seen q) new ≡ cond t w (lookup (is_key R seen q) old)) [
        | true ↦ λ t. ap (λ n. lookup (is_key R seen n) new) (tied-is R o exact q key t) ∙ at_key
        | false ↦ λ t. others (is_key R seen q)
            (λ x y same. ap is_eq (o.congr q (seen x) (seen y) ((Equal-is (R q (seen x))).0 same)))
            (λ k same. sym (ap is_eq (alike_right o key (seen k) q ((Equal-is (R key (seen k))).0 same))) ∙ t)
      ] refl

pub is_the_name : (q name : Bytes) → eq_by_cmp byte_cmp q name ≡ true → q ≡ name
is_the_name q name here = tied-is byte_cmp nat_list_cmp_total exact_bytes q name here

pub is_the_conn : (c : Connection) (conn : ConnId) → is_conn c conn ≡ true → c ≡ connection_of conn
is_the_conn c conn here = tied-is connection_cmp connection_total connection_exact c (connection_of conn) here

pub kept_changed : (old new : Kept) (conn : ConnId) (w : Option Watcher) → lookup (is_conn (connection_of conn)) new ≡ w
    → KeepsOthers (same_key connection_cmp connection_of) (is_conn (connection_of conn)) old new
    → (c : Connection) → kept_at c new ≡ cond (is_conn c conn) w (kept_at c old)
kept_changed old new conn w at_key others c =
    changed connection_cmp connection_total connection_exact connection_of old new (connection_of conn) w at_key others c

-- what was found, written back
pub kept_alike : (old new : Kept) (conn : ConnId) (found : Watcher) → Some found ≡ kept_at (connection_of conn) old
    → ((c : Connection) → kept_at c new ≡ cond (is_conn c conn) (Some found) (kept_at c old)) → (c : Connection) → kept_at c new ≡ kept_at c old
kept_alike old new conn found was at c =
    at c ∙ elim (is_conn c conn) as (λ b. is_conn c conn ≡ b → cond b (Some found) (kept_at c old) ≡ kept_at c old) [
      | true ↦ λ here. was ∙ ap (λ d. kept_at d old) (sym (is_the_conn c conn here))
      | false ↦ λ _. refl
    ] refl
