-- What changes of the code's map are on the databases of connections.
use Rattle.std.proofs.Common.{◌≡◌, ℕ, cond, Option, Some, None, List, [], ◌∷◌, ap, sym, ◌∙◌, refl, subst}
use Rattle.std.specs.Prelude.{unwrap_or}
use Rattle.std.specs.Map.{lookup, keys_of}
use Rattle.std.specs.List.Sorted.{IsStrictlySortedBy}
use Rattle.std.specs.Option.{option_map}
use Rattle.std.specs.Ordering.{eq_by_cmp}
use Rattle.std.specs.FinMap as finmap
use Rattle.nr_model.specs.Items.{Connection, connection_cmp}
use Rattle.nr_model.specs.Servers.{database_in}
use Rattle.nr_model.proofs.Subscribed.{connection_total, connection_exact}
use Rattle.nr_entry.specs.Jobs.{connection_of}
use Rattle.nr_entry.specs.declared.conn.ConnId.{ConnId}
use Rattle.nr_pubsub.proofs.Seen.{get-seen, changed, IsCopied, copied_none, copied_more, copied_all}
use Rattle.nr_machine.specs.Stored.{databases_of}

abbrev pub Entries : Type 0
Entries = List (ConnId × ℕ)

abbrev pub AllDatabases : Type 0
AllDatabases = finmap.FinMap connection_cmp ℕ

abbrev pub kept_at : Entries → Connection → Option ℕ
kept_at entries c = lookup (λ k. eq_by_cmp connection_cmp c (connection_of k)) entries

as_it_is : (o : Option ℕ) → option_map (λ (n : ℕ). n) o ≡ o
as_it_is None = refl
as_it_is (Some n) = refl

-- what the code finds is the database, where that isn't 0
get-kept : (entries : Entries) (all : AllDatabases) (c : Connection) → databases_of entries ≡ all → finmap.get all c ≡ kept_at entries c
get-kept entries all c seen =
    ap (λ m. finmap.get m c) (sym seen) ∙ get-seen connection_cmp connection_total connection_of (λ (n : ℕ). n) entries c ∙ as_it_is (kept_at entries c)

pub one_found : (entries : Entries) (all : AllDatabases) (c : Connection) (n : ℕ) → databases_of entries ≡ all → Some n ≡ kept_at entries c
    → n ≡ database_in all c
one_found entries all c n seen is = ap (λ o. unwrap_or o 0) (is ∙ sym (get-kept entries all c seen))

pub none_found : (entries : Entries) (all : AllDatabases) (c : Connection) → databases_of entries ≡ all → None ≡ kept_at entries c
    → 0 ≡ database_in all c
none_found entries all c seen none = ap (λ o. unwrap_or o 0) (none ∙ sym (get-kept entries all c seen))

-- one connection has another database, or 0
abbrev pub IsChanged : Entries → Entries → Connection → Option ℕ → Type 0
IsChanged old new c w =
    (q : ConnId) → kept_at new (connection_of q) ≡ cond (eq_by_cmp connection_cmp c (connection_of q)) w (kept_at old (connection_of q))

found_behind : (old new : Entries) (c : Connection) (w : Option ℕ) → IsChanged old new c w
    → (q : Connection) → finmap.get (databases_of new) q ≡ cond (eq_by_cmp connection_cmp q c) w (finmap.get (databases_of old) q)
found_behind old new c w at q =
    changed connection_cmp connection_total connection_of (λ (n : ℕ). n) old new c w (λ d. at (record { node = d.node; serial = d.serial })) q
    ∙ ap (λ o. cond (eq_by_cmp connection_cmp q c) o (finmap.get (databases_of old) q)) (as_it_is w)

pub put_is : (old new : Entries) (all : AllDatabases) (c : Connection) (n : ℕ) → databases_of old ≡ all → IsChanged old new c (Some n)
    → databases_of new ≡ finmap.insert all c n
put_is old new all c n seen at =
    finmap.same_map connection_total connection_exact _ _
    (λ q. found_behind old new c (Some n) at q ∙ sym (finmap.get-insert connection_total (databases_of old) c n q))
    ∙ ap (λ m. finmap.insert m c n) seen

pub forgotten_is : (old new : Entries) (all : AllDatabases) (c : Connection) → databases_of old ≡ all → IsChanged old new c None
    → databases_of new ≡ finmap.remove all c
forgotten_is old new all c seen at =
    finmap.same_map connection_total connection_exact _ _
    (λ q. found_behind old new c None at q ∙ sym (finmap.get-remove connection_total (databases_of old) c q))
    ∙ ap (λ m. finmap.remove m c) seen

-- a copy, connection by connection
abbrev pub AreCopied : AllDatabases → AllDatabases → Entries → Type 0
AreCopied all copied left = IsCopied connection_cmp connection_total connection_exact connection_of (λ (n : ℕ). n) all copied left

pub none_copied : (entries : Entries) (all copied : AllDatabases) → databases_of entries ≡ all → copied ≡ finmap.empty
    → IsStrictlySortedBy (λ a b. connection_cmp (connection_of a) (connection_of b)) (keys_of entries) → AreCopied all copied entries
none_copied entries all copied seen none rises =
    subst (λ m. AreCopied m copied entries) seen
    (copied_none connection_cmp connection_total connection_exact connection_of (λ (n : ℕ). n) copied entries none rises)

pub one_copied : (all old new : AllDatabases) (conn : ConnId) (n : ℕ) (left : Entries) → AreCopied all old ((conn, n) ∷ left)
    → new ≡ finmap.insert old (connection_of conn) n → AreCopied all new left
one_copied all old new conn n left so_far is =
    copied_more connection_cmp connection_total connection_exact connection_of (λ (n : ℕ). n) all old new (conn, n) left so_far
    (λ q. ap (λ m. finmap.get m q) is ∙ finmap.get-insert connection_total old (connection_of conn) n q)

pub all_copied : (all copied : AllDatabases) → AreCopied all copied [] → copied ≡ all
all_copied all copied whole = copied_all connection_cmp connection_total connection_exact connection_of (λ (n : ℕ). n) all copied whole
