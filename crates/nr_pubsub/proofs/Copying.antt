-- A copy of an index, set by set.
use Rattle.std.proofs.Common.{◌≡◌, cond, Some, ◌∷◌, [], ap, ◌∙◌}
use Rattle.std.specs.List.Sorted.{IsStrictlySortedBy}
use Rattle.std.specs.Map.{keys_of}
use Rattle.std.specs.BTreeSet.{BTreeSet}
use Rattle.std.specs.Ordering.{eq_by_cmp}
use Rattle.std.specs.Cmp.Lexicographic.{nat_list_cmp_total}
use Rattle.std.specs.FinMap as finmap
use Rattle.std.proofs.lemmas.Map.Lookups.{exact_bytes}
use Rattle.nr_model.specs.Bytes.{Bytes}
use Rattle.nr_model.specs.Keyspace.{byte_cmp}
use Rattle.nr_entry.specs.declared.conn.ConnId.{ConnId}
use Rattle.nr_pubsub.specs.Standings.{Standing, connections, standing_of}
use Rattle.nr_pubsub.proofs.Seen.{IsCopied, copied_none, copied_more, copied_all, changed}
use Rattle.nr_pubsub.proofs.Indexed.{Entries, IsChanged, seen_set}

abbrev pub IsIndexCopied : Standing → Entries → Entries → Type 0
IsIndexCopied all copied left = IsCopied byte_cmp nat_list_cmp_total exact_bytes (λ (n : Bytes). n) seen_set all (standing_of copied) left

pub index_copied_none : (all copied : Entries) → copied ≡ [] → IsStrictlySortedBy byte_cmp (keys_of all) → IsIndexCopied (standing_of all) copied all
index_copied_none all copied none rises =
    copied_none byte_cmp nat_list_cmp_total exact_bytes (λ (n : Bytes). n) seen_set (standing_of copied) all (ap standing_of none) rises

pub index_copied_more : (all : Standing) (old new : Entries) (name key : Bytes) (set copy : BTreeSet ConnId) (left : Entries)
    → IsIndexCopied all old ((name, set) ∷ left) → IsChanged old new key (Some copy) → key ≡ name → copy.keys ≡ set.keys → IsIndexCopied all new left
index_copied_more all old new name key set copy left so_far at same_key same_set =
    copied_more byte_cmp nat_list_cmp_total exact_bytes (λ (n : Bytes). n) seen_set all (standing_of old) (standing_of new) (name, set) left so_far
    (λ q. changed byte_cmp nat_list_cmp_total (λ (n : Bytes). n) seen_set old new key (Some copy) at q
    ∙ (λ i. cond (eq_by_cmp byte_cmp q (same_key i)) (Some (connections (same_set i))) (finmap.get (standing_of old) q)))

pub index_copied_all : (all : Standing) (copied : Entries) → IsIndexCopied all copied [] → standing_of copied ≡ all
index_copied_all all copied whole = copied_all byte_cmp nat_list_cmp_total exact_bytes (λ (n : Bytes). n) seen_set all (standing_of copied) whole
