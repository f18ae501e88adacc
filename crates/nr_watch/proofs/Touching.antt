-- What it is to touch keys: of the connections that watch one of them.
use Rattle.std.proofs.Common.{◌≡◌, Bool, true, false, Option, Some, None, List, [], ◌∷◌, refl, ap, sym, ◌∙◌}
use Rattle.std.specs.Prelude.{◌&&◌, ◌||◌, filter, fold, is_some, unwrap_or}
use Rattle.std.specs.Option.{option_map}
use Rattle.std.specs.List.{list_any}
use Rattle.std.specs.FinMap as finmap
use Rattle.std.specs.FinSet as set
use Rattle.nr_model.specs.Keyspace.{Key}
use Rattle.nr_model.specs.Items.{Connection, connection_cmp}
use Rattle.nr_model.specs.Sequential.Watches.{same_key}
use Rattle.nr_model.specs.Servers.{Watch, watches_in, watches_one, touched_by}
use Rattle.nr_model.proofs.Subscribed.{connection_total, connection_exact}
use Rattle.nr_model.proofs.Ordered.{has-filter, or_false, or_assoc}
use Rattle.nr_watch.specs.Watching.{Watching, nobody, touched_at}
use Rattle.nr_watch.specs.Kept.{Watcher, marked_at, Kept, kept_at, watches_at, is_marked, watches_of, touched_of, watching_of}
use Rattle.nr_watch.proofs.Seen.{list_of, get-watches, contains-touched, watches-seen, seen_as}

abbrev Lists : Type 0
Lists = finmap.FinMap connection_cmp (List Watch)

abbrev Conns : Type 0
Conns = set.FinSet connection_cmp

none_watched : (watches : List Watch) → watches_one [] watches ≡ false
none_watched [] = refl
none_watched (w ∷ watches) = none_watched watches

and_true : (a : Bool) → (a && true) ≡ a
and_true true = refl
and_true false = refl

among : (keys : List Key) (o : Option (List Watch)) → (watches_one keys (unwrap_or o []) && is_some o) ≡ watches_one keys (unwrap_or o [])
among keys None = refl
among keys (Some watches) = and_true (watches_one keys watches)

-- touched before, or by one of the keys
pub contains-touched_by : (watches : Lists) (keys : List Key) (touched : Conns) (c : Connection)
    → set.contains (touched_by watches keys touched) c ≡ (set.contains touched c || watches_one keys (watches_in watches c))
contains-touched_by watches [] touched c =
    sym (ap (λ b. set.contains touched c || b) (none_watched (watches_in watches c)) ∙ or_false (set.contains touched c))
contains-touched_by watches (key ∷ keys) touched c =
    let passes : Connection → Bool = λ d. watches_one (key ∷ keys) (watches_in watches d) in
    let more = set.from_list {R = connection_cmp} (filter passes (finmap.keys watches)) in
    let is : set.contains more c ≡ passes c =
    set.contains-from_list connection_total (filter passes (finmap.keys watches)) c
    ∙ has-filter connection_cmp connection_total connection_exact c passes (finmap.keys watches)
    ∙ ap (λ b. passes c && b) (sym (finmap.contains_key-keys watches c))
    ∙ among (key ∷ keys) (finmap.get watches c) in
    set.contains-union connection_total touched more c ∙ ap (λ b. set.contains touched c || b) is

joined : (a b m n : Bool) → (((a || false) || m) || (b || n)) ≡ ((a || b) || (m || n))
joined true b m n = refl
joined false true true n = refl
joined false true false n = refl
joined false false m n = refl

-- one key and the others
watches_more : (key : Key) (keys : List Key) (watches : List Watch)
    → (watches_one (key ∷ []) watches || watches_one keys watches) ≡ watches_one (key ∷ keys) watches
watches_more key keys [] = refl
watches_more key keys (w ∷ watches) =
    joined (same_key w.key key) (list_any (same_key w.key) keys) (watches_one (key ∷ []) watches) (watches_one keys watches)
    ∙ ap (λ b. (same_key w.key key || list_any (same_key w.key) keys) || b) (watches_more key keys watches)

touched_more : (watches : Lists) (key : Key) (keys : List Key) (touched : Conns)
    → touched_by watches keys (touched_by watches (key ∷ []) touched) ≡ touched_by watches (key ∷ keys) touched
touched_more watches key keys touched = set.same_set connection_total connection_exact _ _ (λ c.
    let own = watches_in watches c in
    contains-touched_by watches keys (touched_by watches (key ∷ []) touched) c
    ∙ ap (λ b. b || watches_one keys own) (contains-touched_by watches (key ∷ []) touched c)
    ∙ or_assoc (set.contains touched c) (watches_one (key ∷ []) own) (watches_one keys own)
    ∙ ap (λ b. set.contains touched c || b) (watches_more key keys own)
    ∙ sym (contains-touched_by watches (key ∷ keys) touched c))

-- to touch keys one after the other is to touch them all
pub touched_in_turn : (w : Watching) (keys : List Key) → fold touched_at w keys ≡ record w { touched = touched_by w.watches keys w.touched }
touched_in_turn w [] = refl
touched_in_turn w (key ∷ keys) =
    touched_in_turn (touched_at w key) keys
    ∙ (λ i. record { watches = w.watches; touched = touched_more w.watches key keys w.touched i })

-- where nobody watches anything, no touch changes anything
nobody_marked : (keys : List Key) → touched_by nobody.watches keys nobody.touched ≡ nobody.touched
nobody_marked keys = set.same_set connection_total connection_exact _ _ (λ c.
    contains-touched_by finmap.empty keys set.empty c
    ∙ ap (λ b. set.contains {R = connection_cmp} set.empty c || watches_one keys (unwrap_or b [])) (finmap.get-empty connection_cmp c)
    ∙ or_false (set.contains {R = connection_cmp} set.empty c))

pub nobody_touched : (key : Key) → touched_at nobody key ≡ nobody
nobody_touched key = λ i. record { watches = nobody.watches; touched = nobody_marked (key ∷ []) i }

-- to mark each that watches the key is to touch it
one_key : (key : Key) (watches : List Watch) → list_any (λ w. same_key w.key key) watches ≡ watches_one (key ∷ []) watches
one_key key [] = refl
one_key key (w ∷ watches) = λ i. sym (or_false (same_key w.key key)) i || one_key key watches i

marked_list : (key : Key) (o : Option Watcher) → list_of (option_map (marked_at key) o) ≡ list_of o
marked_list key None = refl
marked_list key (Some w) = refl

marked_flag : (key : Key) (o : Option Watcher) → is_marked (option_map (marked_at key) o) ≡ (is_marked o || watches_one (key ∷ []) (watches_at o))
marked_flag key None = refl
marked_flag key (Some w) = ap (λ b. w.touched || b) (one_key key w.watches)

pub touched_seen : (old new : Kept) (key : Key) → ((c : Connection) → kept_at c new ≡ option_map (marked_at key) (kept_at c old))
    → watching_of new ≡ touched_at (watching_of old) key
touched_seen old new key at = seen_as new (touched_at (watching_of old) key)
    (λ c. ap list_of (at c) ∙ marked_list key (kept_at c old) ∙ sym (get-watches old c))
    (λ c. ap is_marked (at c) ∙ marked_flag key (kept_at c old)
    ∙ (λ i. sym (contains-touched old c) i || watches_one (key ∷ []) (sym (watches-seen old c) i))
    ∙ sym (contains-touched_by (watches_of old) (key ∷ []) (touched_of old) c))
