-- What is kept, as contracts see it.
use Rattle.std.proofs.Common.{◌≡◌, Bool, true, false, cond, Option, Some, None, List, [], ◌∷◌, map, length, refl, ap, sym, ◌∙◌, arith}
use Rattle.std.specs.Prelude.{◌&&◌, ◌||◌, filter, is_some, unwrap_or}
use Rattle.std.specs.Option.{option_map}
use Rattle.std.specs.List.{list_any}
use Rattle.std.specs.Ordering.{eq_by_cmp}
use Rattle.std.specs.FinMap as finmap
use Rattle.std.specs.FinSet as set
use Rattle.nr_model.specs.Items.{Connection, connection_cmp}
use Rattle.nr_model.specs.Servers.{Watch, watches_in}
use Rattle.nr_model.proofs.Subscribed.{connection_total, connection_exact}
use Rattle.nr_model.proofs.Ordered.{has-filter}
use Rattle.nr_entry.specs.declared.conn.ConnId.{ConnId}
use Rattle.nr_entry.specs.Jobs.{connection_of}
use Rattle.nr_watch.specs.Watching.{Watching, nobody}
use Rattle.nr_watch.specs.Kept.{Watcher, Kept, is_conn, kept_at, watches_at, is_marked, watches_of, touched_of, watching_of}
use Rattle.nr_watch.proofs.Standing.{is_conn_itself}

abbrev pub list_of : Option Watcher → Option (List Watch)
list_of o = option_map (λ (w : Watcher). w.watches) o

abbrev listed : Kept → List (Connection × List Watch)
listed kept = map {A = ConnId × Watcher} (λ e. (connection_of e.0, e.1.watches)) kept

abbrev conns_of : Kept → List Connection
conns_of kept = map {A = ConnId × Watcher} (λ e. connection_of e.0) kept

cond-list : (b : Bool) (w : Watcher) (o : Option Watcher) → list_of (cond b (Some w) o) ≡ cond b (Some w.watches) (list_of o)
cond-list true w o = refl
cond-list false w o = refl

find-listed : (c : Connection) (kept : Kept) → finmap.find connection_cmp c (listed kept) ≡ list_of (kept_at c kept)
find-listed c [] = refl
find-listed c (e ∷ kept) = ap (cond (is_conn c e.0) (Some e.1.watches)) (find-listed c kept) ∙ sym (cond-list (is_conn c e.0) e.1 (kept_at c kept))

pub get-watches : (kept : Kept) (c : Connection) → finmap.get (watches_of kept) c ≡ list_of (kept_at c kept)
get-watches kept c = finmap.get-from_entries connection_total (listed kept) c ∙ find-listed c kept

cond-some : (b : Bool) (w : Watcher) (o : Option Watcher) → (b || is_some o) ≡ is_some (cond b (Some w) o)
cond-some true w o = refl
cond-some false w o = refl

has-conn : (c : Connection) (kept : Kept) → list_any (eq_by_cmp connection_cmp c) (conns_of kept) ≡ is_some (kept_at c kept)
has-conn c [] = refl
has-conn c (e ∷ kept) = ap (λ b. is_conn c e.0 || b) (has-conn c kept) ∙ cond-some (is_conn c e.0) e.1 (kept_at c kept)

marked_some : (o : Option Watcher) → (is_marked o && is_some o) ≡ is_marked o
marked_some None = refl
marked_some (Some w) = elim w.touched as (λ b. (b && true) ≡ b) [ true ↦ refl | false ↦ refl ]

pub contains-touched : (kept : Kept) (c : Connection) → set.contains (touched_of kept) c ≡ is_marked (kept_at c kept)
contains-touched kept c =
    let marked : Connection → Bool = λ d. is_marked (kept_at d kept) in
    set.contains-from_list connection_total (filter marked (conns_of kept)) c
    ∙ has-filter connection_cmp connection_total connection_exact c marked (conns_of kept)
    ∙ ap (λ b. marked c && b) (has-conn c kept)
    ∙ marked_some (kept_at c kept)

unwrapped : (o : Option Watcher) → unwrap_or (list_of o) [] ≡ watches_at o
unwrapped None = refl
unwrapped (Some w) = refl

pub watches-seen : (kept : Kept) (c : Connection) → watches_in (watches_of kept) c ≡ watches_at (kept_at c kept)
watches-seen kept c = ap (λ (o : Option (List Watch)). unwrap_or o []) (get-watches kept c) ∙ unwrapped (kept_at c kept)

-- it is seen as what answers alike
pub seen_as : (kept : Kept) (w : Watching) → ((c : Connection) → list_of (kept_at c kept) ≡ finmap.get w.watches c)
    → ((c : Connection) → is_marked (kept_at c kept) ≡ set.contains w.touched c) → watching_of kept ≡ w
seen_as kept w watches touched =
    let lists : watches_of kept ≡ w.watches = finmap.same_map connection_total connection_exact _ _ (λ c. get-watches kept c ∙ watches c) in
    let marks : touched_of kept ≡ w.touched = set.same_set connection_total connection_exact _ _ (λ c. contains-touched kept c ∙ touched c) in
    λ i. record { watches = lists i; touched = marks i }

pub seen_alike : (old new : Kept) → ((c : Connection) → kept_at c new ≡ kept_at c old) → watching_of new ≡ watching_of old
seen_alike old new same = seen_as new (watching_of old)
    (λ c. ap list_of (same c) ∙ sym (get-watches old c)) (λ c. ap is_marked (same c) ∙ sym (contains-touched old c))

-- nothing is kept where nobody watches anything
pub none_kept : (kept : Kept) → length kept ≡ 0 → watching_of kept ≡ nobody
none_kept [] none = refl
none_kept (e ∷ kept) none = absurd (omega arith)

pub kept_none : (kept : Kept) → watching_of kept ≡ nobody → length kept ≡ 0
kept_none [] seen = refl
kept_none (e ∷ kept) seen =
    let own = connection_of e.0 in
    let first : Some e.1.watches ≡ list_of (kept_at own (e ∷ kept)) =
    ap (λ b. list_of (cond b (Some e.1) (kept_at own kept))) (sym (is_conn_itself e.0)) in
    let none : Some e.1.watches ≡ None =
    first ∙ sym (get-watches (e ∷ kept) own) ∙ ap (λ (w : Watching). finmap.get w.watches own) seen ∙ finmap.get-empty connection_cmp own in
    absurd (cc none)

-- what a connection's watches are asked
pub asked_seen : (kept : Kept) (w : Watching) (c : Connection) (found : Option Watcher) (p : Watch → Bool) → watching_of kept ≡ w → found ≡ kept_at c kept
    → (is_marked found || list_any p (watches_at found)) ≡ (set.contains w.touched c || list_any p (watches_in w.watches c))
asked_seen kept w c found p seen is =
    ap (λ o. is_marked o || list_any p (watches_at o)) is
    ∙ (λ i. sym (contains-touched kept c) i || list_any p (sym (watches-seen kept c) i))
    ∙ ap (λ (v : Watching). set.contains v.touched c || list_any p (watches_in v.watches c)) seen
