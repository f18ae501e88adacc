-- Watches, item by item, are spoiled where the past says so.
use Rattle.std.proofs.Common.{◌≡◌, ℕ, Bool, true, false, not, cond, List, [], ◌∷◌, ◌++◌, map, refl, ap, sym, ◌∙◌, append-nil}
use Rattle.std.specs.Prelude.{◌&&◌, ◌||◌, filter, Option, Some, None, unwrap_or, is_some}
use Rattle.std.specs.List.{list_any}
use Rattle.std.specs.FinMap as finmap
use Rattle.std.specs.FinSet as finset
use Rattle.std.proofs.lemmas.List.Folds.{list_any-append}
use Rattle.nr_model.specs.Keyspace.{Key, Stored, is_live_at}
use Rattle.nr_model.specs.Items.{Connection, connection_cmp, same_connection, Deed}
use Rattle.nr_model.specs.Sequential.Events.{Event}
use Rattle.nr_model.specs.Sequential.Watches.{same_key, forgets, watched_keys, has_passed, is_broken}
use Rattle.nr_model.specs.Servers.{Watch, watches_in, has_gone, watched_deadline, watch_of, watches_added, watches_behind, watches_one, touched_by, touched_behind}
use Rattle.nr_model.proofs.Ordered.{has-filter, or_false, or_true}
use Rattle.nr_model.proofs.Subscribed.{connection_total, connection_exact, tied_back, same-is}

abbrev Watching : Type 0
Watching = finmap.FinMap connection_cmp (List Watch)

abbrev Touched : Type 0
Touched = finset.FinSet connection_cmp

-- a watch is broken by its deadline, or by keys that were touched
abbrev pub is_broken_by : ℕ → List Key → Watch → Bool
is_broken_by now keys w = has_gone now w.deadline || list_any (same_key w.key) keys

-- spoiled with keys that were touched since
abbrev pub spoiled_with : Touched → Watching → Connection → ℕ → List Key → Bool
spoiled_with touched watches c now keys = finset.contains touched c || list_any (is_broken_by now keys) (watches_in watches c)

any_false : {A : Type 0} (p : A → Bool) → ((x : A) → p x ≡ false) → (xs : List A) → list_any p xs ≡ false
any_false p none [] = refl
any_false p none (x ∷ xs) = (λ i. none x i || any_false p none xs i)

and_true : (a : Bool) → (a && true) ≡ a
and_true true = refl
and_true false = refl

and_false : (a : Bool) → (a && false) ≡ false
and_false true = refl
and_false false = refl

or_swap : (a b : Bool) → (a || b) ≡ (b || a)
or_swap true true = refl
or_swap true false = refl
or_swap false true = refl
or_swap false false = refl

moved : (a b c : Bool) → (a || (b || c)) ≡ ((a || c) || b)
moved true b c = refl
moved false b c = or_swap b c

-- the connections of which a watched key was touched
among : (watches : Watching) (c : Connection) (keys : List Key) (o : Option (List Watch)) → (watches_one keys (unwrap_or o []) && is_some o) ≡ watches_one keys (unwrap_or o [])
among watches c keys None = refl
among watches c keys (Some ws) = and_true (watches_one keys ws)

contains-touched_by : (watches : Watching) (keys : List Key) (touched : Touched) (c : Connection)
    → finset.contains (touched_by watches keys touched) c ≡ (finset.contains touched c || watches_one keys (watches_in watches c))
contains-touched_by watches [] touched c =
    sym (ap (λ b. finset.contains touched c || b) (any_false (λ w. list_any (same_key w.key) []) (λ w. refl) (watches_in watches c)) ∙ or_false (finset.contains touched c))
contains-touched_by watches (key ∷ keys) touched c =
    let p : Connection → Bool = λ d. watches_one (key ∷ keys) (watches_in watches d) in
    let more = finset.from_list {R = connection_cmp} (filter p (finmap.keys watches)) in
    let is : finset.contains more c ≡ p c =
    finset.contains-from_list connection_total (filter p (finmap.keys watches)) c
    ∙ has-filter connection_cmp connection_total connection_exact c p (finmap.keys watches)
    ∙ ap (λ b. p c && b) (sym (finmap.contains_key-keys watches c))
    ∙ among watches c (key ∷ keys) (finmap.get watches c) in
    finset.contains-union connection_total touched more c ∙ ap (λ b. finset.contains touched c || b) is

contains-behind : (touched : Touched) (c d : Connection) (forgotten : Bool) → finset.contains (touched_behind touched c forgotten) d ≡ (not (same_connection c d && forgotten) && finset.contains touched d)
contains-behind touched c d true =
    finset.contains-remove connection_total touched c d ∙ ap (λ b. not b && finset.contains touched d) (tied_back d c ∙ sym (and_true (same_connection c d)))
contains-behind touched c d false = ap (λ b. not b && finset.contains touched d) (sym (and_false (same_connection c d)))

-- the watches of a connection
gone : (watches : Watching) (c d : Connection) → watches_in (finmap.remove watches c) d ≡ cond (same_connection c d) [] (watches_in watches d)
gone watches c d =
    ap (λ o. unwrap_or o []) (finmap.get-remove connection_total watches c d ∙ ap (λ b. cond b None (finmap.get watches d)) (tied_back d c))
    ∙ elim (same_connection c d) as (λ b. unwrap_or (cond b None (finmap.get watches d)) [] ≡ cond b [] (watches_in watches d)) [ true ↦ refl | false ↦ refl ]

put_in : (watches : Watching) (c d : Connection) (ws : List Watch) → watches_in (finmap.insert watches c ws) d ≡ cond (same_connection c d) ws (watches_in watches d)
put_in watches c d ws =
    ap (λ o. unwrap_or o []) (finmap.get-insert connection_total watches c ws d ∙ ap (λ b. cond b (Some ws) (finmap.get watches d)) (tied_back d c))
    ∙ elim (same_connection c d) as (λ b. unwrap_or (cond b (Some ws) (finmap.get watches d)) [] ≡ cond b ws (watches_in watches d)) [ true ↦ refl | false ↦ refl ]

added : (watches : Watching) (c d : Connection) (begun : List Watch) → watches_in (watches_added watches c begun) d ≡ cond (same_connection c d) (watches_in watches d ++ begun) (watches_in watches d)
added watches c d [] = elim (same_connection c d) as (λ b. watches_in watches d ≡ cond b (watches_in watches d ++ []) (watches_in watches d)) [ true ↦ sym (append-nil (watches_in watches d)) | false ↦ refl ]
added watches c d (w ∷ ws) =
    let at : (b : Bool) → same_connection c d ≡ b → cond b (watches_in watches c ++ w ∷ ws) (watches_in watches d) ≡ cond b (watches_in watches d ++ w ∷ ws) (watches_in watches d) =
    λ b. elim b as (λ b. same_connection c d ≡ b → cond b (watches_in watches c ++ w ∷ ws) (watches_in watches d) ≡ cond b (watches_in watches d ++ w ∷ ws) (watches_in watches d)) [
      | true ↦ λ e. ap (λ x. watches_in watches x ++ w ∷ ws) (same-is c d e)
      | false ↦ λ e. refl
    ] in
    put_in watches c d (watches_in watches c ++ w ∷ ws) ∙ at (same_connection c d) refl

-- a watch that is begun is broken as the past says
passed-is : (stored : Option Stored) (before now : ℕ) → has_gone now (watched_deadline before stored) ≡ has_passed stored before now
passed-is None before now = refl
passed-is (Some stored) before now = elim (is_live_at before stored.deadline) as (λ b. has_gone now (cond b stored.deadline None) ≡ (b && not (is_live_at now stored.deadline))) [ true ↦ refl | false ↦ refl ]

begun-is : (event : Event) (now : ℕ) (keys : List Key) (watched : List Key)
    → list_any (is_broken_by now keys) (map (watch_of event.keyspace event.now) watched) ≡ list_any (is_broken event now keys) watched
begun-is event now keys [] = refl
begun-is event now keys (key ∷ watched) =
    let touched = list_any (same_key key) keys in
    λ i. ((ap (λ b. b || touched) (passed-is (finmap.get event.keyspace key) event.now now) ∙ or_swap (has_passed (finmap.get event.keyspace key) event.now now) touched) i) || begun-is event now keys watched i

-- keys touched in two parts
parts : (g a b m n : Bool) → ((g || (a || b)) || (m || n)) ≡ (((g || a) || m) || (b || n))
parts true a b m n = refl
parts false true b m n = refl
parts false false true m n = sym (or_true m)
parts false false false m n = refl

in_parts : (now : ℕ) (keys more : List Key) (ws : List Watch) → list_any (is_broken_by now (keys ++ more)) ws ≡ (list_any (is_broken_by now keys) ws || watches_one more ws)
in_parts now keys more [] = refl
in_parts now keys more (w ∷ ws) =
    (λ i. (has_gone now w.deadline || list_any-append (same_key w.key) keys more i) || in_parts now keys more ws i)
    ∙ parts (has_gone now w.deadline) (list_any (same_key w.key) keys) (list_any (same_key w.key) more) (list_any (is_broken_by now keys) ws) (watches_one more ws)

-- by whether the item is the connection's, and whether it forgets
decided : (own forgotten new touched broken hit : Bool) (behind : Bool)
    → behind ≡ cond own (cond forgotten false (broken || new)) broken
    → (not (own && forgotten) && ((own && new) || (touched || (broken || hit)))) ≡ ((not (own && forgotten) && (touched || hit)) || behind)
decided true true new touched broken hit behind e = sym e
decided true false true touched broken hit behind e = sym (ap (λ b. (touched || hit) || b) (e ∙ or_true broken) ∙ or_true (touched || hit))
decided true false false touched broken hit behind e = moved touched broken hit ∙ ap (λ b. (touched || hit) || b) (sym (or_false broken) ∙ sym e)
decided false forgotten new touched broken hit behind e = moved touched broken hit ∙ ap (λ b. (touched || hit) || b) (sym e)

behind_is : (watches : Watching) (e c : Connection) (forgotten : Bool) (begun : List Watch) (now : ℕ) (keys : List Key) (new : Bool) → list_any (is_broken_by now keys) begun ≡ new
    → list_any (is_broken_by now keys) (watches_in (watches_behind watches e forgotten begun) c)
    ≡ cond (same_connection e c) (cond forgotten false (list_any (is_broken_by now keys) (watches_in watches c) || new)) (list_any (is_broken_by now keys) (watches_in watches c))
behind_is watches e c true begun now keys new is =
    ap (list_any (is_broken_by now keys)) (gone watches e c)
    ∙ elim (same_connection e c) as (λ b. list_any (is_broken_by now keys) (cond b [] (watches_in watches c)) ≡ cond b false (list_any (is_broken_by now keys) (watches_in watches c))) [ true ↦ refl | false ↦ refl ]
behind_is watches e c false begun now keys new is =
    let ws = watches_in watches c in
    ap (list_any (is_broken_by now keys)) (added watches e c begun)
    ∙ elim (same_connection e c) as (λ b. list_any (is_broken_by now keys) (cond b (ws ++ begun) ws) ≡ cond b (list_any (is_broken_by now keys) ws || new) (list_any (is_broken_by now keys) ws)) [
      | true ↦ list_any-append (is_broken_by now keys) ws begun ∙ ap (λ b. list_any (is_broken_by now keys) ws || b) is
      | false ↦ refl
    ]

-- one item further
pub spoiled-behind : (watches : Watching) (touched : Touched) (event : Event) (deed : Deed) (c : Connection) (now : ℕ) (keys : List Key)
    → (not (same_connection event.item.connection c && forgets deed)
    && ((same_connection event.item.connection c && list_any (is_broken event now keys) (watched_keys event.database deed)) || spoiled_with touched watches c now (keys ++ event.touched)))
    ≡ spoiled_with (touched_behind (touched_by watches event.touched touched) event.item.connection (forgets deed))
    (watches_behind watches event.item.connection (forgets deed) (map (watch_of event.keyspace event.now) (watched_keys event.database deed))) c now keys
spoiled-behind watches touched event deed c now keys =
    let e = event.item.connection in
    let own = same_connection e c in
    let forgotten = forgets deed in
    let begun = map (watch_of event.keyspace event.now) (watched_keys event.database deed) in
    let broken = list_any (is_broken_by now keys) (watches_in watches c) in
    let hit = watches_one event.touched (watches_in watches c) in
    let new = list_any (is_broken event now keys) (watched_keys event.database deed) in
    let behind : list_any (is_broken_by now keys) (watches_in (watches_behind watches e forgotten begun) c) ≡ cond own (cond forgotten false (broken || new)) broken =
    behind_is watches e c forgotten begun now keys new (begun-is event now keys (watched_keys event.database deed)) in
    ap (λ b. not (own && forgotten) && ((own && new) || (finset.contains touched c || b))) (in_parts now keys event.touched (watches_in watches c))
    ∙ decided own forgotten new (finset.contains touched c) broken hit (list_any (is_broken_by now keys) (watches_in (watches_behind watches e forgotten begun) c)) behind
    ∙ ap (λ b. b || list_any (is_broken_by now keys) (watches_in (watches_behind watches e forgotten begun) c))
    (ap (λ b. not (own && forgotten) && b) (sym (contains-touched_by watches event.touched touched c)) ∙ sym (contains-behind (touched_by watches event.touched touched) e c forgotten))
