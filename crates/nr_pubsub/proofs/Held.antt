-- What changes of the code's map are on what connections hold.
use Rattle.std.proofs.Common.{◌≡◌, Bool, true, false, cond, Option, Some, None, List, [], ◌∷◌, refl, ap, sym, ◌∙◌, subst, Bor}
use Rattle.std.specs.Prelude.{unwrap_or, ◌==◌}
use Rattle.std.specs.Map.{lookup, keys_of}
use Rattle.std.specs.List.Sorted.{IsStrictlySortedBy}
use Rattle.std.specs.Option.{option_map, option_copied}
use Rattle.std.specs.Ordering.{eq_by_cmp}
use Rattle.std.specs.FinMap as finmap
use Rattle.nr_model.specs.Bytes.{Bytes}
use Rattle.nr_model.specs.Items.{Connection, connection_cmp}
use Rattle.nr_model.specs.Keyspace.{byte_cmp}
use Rattle.nr_model.specs.Names.{Held, holding_none, held, how_many_held, subscribed, unsubscribed}
use Rattle.nr_model.specs.Servers.{held_in, with_held_by}
use Rattle.nr_model.specs.declared.command.Kind.{Kind}
use Rattle.nr_model.specs.declared.command.Kind.TheVariants.{Channels, Patterns}
use Rattle.nr_model.proofs.Ordered.{tied-is}
use Rattle.nr_model.proofs.Subscribed.{connection_total, connection_exact}
use Rattle.nr_entry.specs.Jobs.{connection_of}
use Rattle.nr_entry.specs.declared.conn.ConnId.{ConnId}
use Rattle.nr_pubsub.specs.Holdings.{AllHeld, all_held_of}
use Rattle.nr_pubsub.proofs.Connections.{conn_of, is_conn}
use Rattle.nr_pubsub.proofs.Seen.{get-seen, changed, twice, IsCopied, copied_none, copied_more, copied_all}

abbrev pub Holdings : Type 0
Holdings = List (ConnId × Held)

abbrev pub held_at : Holdings → Connection → Option Held
held_at entries c = lookup (is_conn c) entries

as_it_is : {A : Type 0} (o : Option A) → option_map (λ x. x) o ≡ o
as_it_is None = refl
as_it_is (Some x) = refl

pub seen_holding : (o : Option (Bor Held)) → option_map (λ h. h.now) o ≡ option_copied o
seen_holding None = refl
seen_holding (Some h) = refl

pub get-held : (entries : Holdings) (c : Connection) → finmap.get (all_held_of entries) c ≡ held_at entries c
get-held entries c = get-seen connection_cmp connection_total connection_of (λ (h : Held). h) entries c ∙ as_it_is (held_at entries c)

-- one connection holds something else, or nothing
abbrev pub IsChanged : Holdings → Holdings → Connection → Option Held → Type 0
IsChanged old new c w = (q : ConnId) → held_at new (connection_of q) ≡ cond (is_conn c q) w (held_at old (connection_of q))

pub changed_twice : (a b d : Holdings) (c : Connection) (v w : Option Held) → IsChanged a b c v → IsChanged b d c w → IsChanged a d c w
changed_twice a b d c v w first second q =
    second q ∙ ap (cond (is_conn c q) w) (first q) ∙ twice (is_conn c q) w v (held_at a (connection_of q))

found_behind : (old new : Holdings) (c : Connection) (w : Option Held) → IsChanged old new c w
    → (q : Connection) → finmap.get (all_held_of new) q ≡ cond (eq_by_cmp connection_cmp q c) w (finmap.get (all_held_of old) q)
found_behind old new c w at q =
    changed connection_cmp connection_total connection_of (λ (h : Held). h) old new c w (λ q. at (conn_of q)) q
    ∙ ap (λ o. cond (eq_by_cmp connection_cmp q c) o (finmap.get (all_held_of old) q)) (as_it_is w)

pub inserted_is : (old new : Holdings) (c : Connection) (h : Held) → IsChanged old new c (Some h) → all_held_of new ≡ finmap.insert (all_held_of old) c h
inserted_is old new c h at = finmap.same_map connection_total connection_exact _ _
    (λ q. found_behind old new c (Some h) at q ∙ sym (finmap.get-insert connection_total (all_held_of old) c h q))

pub removed_is : (old new : Holdings) (c : Connection) → IsChanged old new c None → all_held_of new ≡ finmap.remove (all_held_of old) c
removed_is old new c at = finmap.same_map connection_total connection_exact _ _
    (λ q. found_behind old new c None at q ∙ sym (finmap.get-remove connection_total (all_held_of old) c q))

-- to take out what isn't there, and to put in what is there
pub removed_none : (all : AllHeld) (c : Connection) → finmap.get all c ≡ None → finmap.remove all c ≡ all
removed_none all c none = finmap.same_map connection_total connection_exact _ _ (λ q.
    finmap.get-remove connection_total all c q
    ∙ elim (eq_by_cmp connection_cmp q c) as (λ t. eq_by_cmp connection_cmp q c ≡ t → cond t None (finmap.get all q) ≡ finmap.get all q) [
      | true ↦ λ here. sym none ∙ ap (finmap.get all) (sym (tied-is connection_cmp connection_total connection_exact q c here))
      | false ↦ λ _. refl
    ] refl)

pub inserted_again : (all : AllHeld) (c : Connection) (h : Held) → finmap.get all c ≡ Some h → finmap.insert all c h ≡ all
inserted_again all c h there = finmap.same_map connection_total connection_exact _ _ (λ q.
    finmap.get-insert connection_total all c h q
    ∙ elim (eq_by_cmp connection_cmp q c) as (λ t. eq_by_cmp connection_cmp q c ≡ t → cond t (Some h) (finmap.get all q) ≡ finmap.get all q) [
      | true ↦ λ here. sym there ∙ ap (finmap.get all) (sym (tied-is connection_cmp connection_total connection_exact q c here))
      | false ↦ λ _. refl
    ] refl)

-- what the code finds is what is held
pub found_is : (entries : Holdings) (all : AllHeld) (c : Connection) (found : Option Held) → all_held_of entries ≡ all → found ≡ held_at entries c
    → finmap.get all c ≡ found
found_is entries all c found seen is = ap (λ m. finmap.get m c) (sym seen) ∙ get-held entries c ∙ sym is

pub held_is : (all : AllHeld) (c : Connection) (found : Option Held) → finmap.get all c ≡ found → held_in all c ≡ unwrap_or found holding_none
held_is all c found is = ap (λ o. unwrap_or o holding_none) is

-- SUBSCRIBE of one that holds something, and of one that holds nothing
pub subscribed_is : (old new : Holdings) (all : AllHeld) (c : Connection) (kind : Kind) (name : Bytes) (h after : Held) → all_held_of old ≡ all
    → Some h ≡ held_at old c → IsChanged old new c (Some after) → after ≡ subscribed kind h name
    → all_held_of new ≡ finmap.insert all c (subscribed kind (held_in all c) name)
subscribed_is old new all c kind name h after seen there at is =
    inserted_is old new c after at
    ∙ (λ i. finmap.insert (seen i) c (is i))
    ∙ ap (λ x. finmap.insert all c (subscribed kind x name)) (sym (held_is all c (Some h) (found_is old all c (Some h) seen there)))

pub first_subscribed : (entries : Holdings) (all new : AllHeld) (c : Connection) (kind : Kind) (name : Bytes) → all_held_of entries ≡ all
    → None ≡ held_at entries c
    → new ≡ finmap.insert (all_held_of entries) c (subscribed kind holding_none name) → new ≡ finmap.insert all c (subscribed kind (held_in all c) name)
first_subscribed entries all new c kind name seen none is =
    is ∙ ap (λ m. finmap.insert m c (subscribed kind holding_none name)) seen
    ∙ ap (λ x. finmap.insert all c (subscribed kind x name)) (sym (held_is all c None (found_is entries all c None seen none)))

-- what is written back as it was
pub written_back : (old new : Holdings) (c : Connection) (h after : Held) → Some h ≡ held_at old c → IsChanged old new c (Some after) → after ≡ h
    → all_held_of new ≡ all_held_of old
written_back old new c h after there at same =
    inserted_is old new c after at ∙ ap (finmap.insert (all_held_of old) c) same ∙ inserted_again (all_held_of old) c h (get-held old c ∙ sym there)

-- UNSUBSCRIBE: of the last name, of another, and of one that holds nothing
abbrev pub unsubscribed_by : AllHeld → Connection → Kind → Bytes → AllHeld
unsubscribed_by all c kind name = with_held_by all c (unsubscribed kind (held_in all c) name)

behind_is : (all : AllHeld) (c : Connection) (kind : Kind) (name : Bytes) (h after : Held) (b : Bool) → finmap.get all c ≡ Some h
    → after ≡ unsubscribed kind h name
    → (how_many_held after == 0) ≡ b → unsubscribed_by all c kind name ≡ cond b (finmap.remove all c) (finmap.insert all c after)
behind_is all c kind name h after b there is empty =
    ap (with_held_by all c) (ap (λ x. unsubscribed kind x name) (held_is all c (Some h) there) ∙ sym is)
    ∙ ap (λ t. cond t (finmap.remove all c) (finmap.insert all c after)) empty

pub last_given_up : (old new : Holdings) (all : AllHeld) (c : Connection) (kind : Kind) (name : Bytes) (h after : Held) → all_held_of old ≡ all
    → Some h ≡ held_at old c
    → IsChanged old new c None → after ≡ unsubscribed kind h name → (how_many_held after == 0) ≡ true → all_held_of new ≡ unsubscribed_by all c kind name
last_given_up old new all c kind name h after seen there at is empty =
    removed_is old new c at ∙ ap (λ m. finmap.remove m c) seen
    ∙ sym (behind_is all c kind name h after true (found_is old all c (Some h) seen there) is empty)

pub one_given_up : (old new : Holdings) (all : AllHeld) (c : Connection) (kind : Kind) (name : Bytes) (h after : Held) → all_held_of old ≡ all
    → Some h ≡ held_at old c
    → IsChanged old new c (Some after) → after ≡ unsubscribed kind h name → (how_many_held after == 0) ≡ false → all_held_of new
    ≡ unsubscribed_by all c kind name
one_given_up old new all c kind name h after seen there at is some =
    inserted_is old new c after at ∙ ap (λ m. finmap.insert m c after) seen
    ∙ sym (behind_is all c kind name h after false (found_is old all c (Some h) seen there) is some)

none_given_up : (kind : Kind) (name : Bytes) → unsubscribed kind holding_none name ≡ holding_none
none_given_up Channels name = refl
none_given_up Patterns name = refl

pub nothing_given_up : (entries : Holdings) (all : AllHeld) (c : Connection) (kind : Kind) (name : Bytes) → all_held_of entries ≡ all
    → None ≡ held_at entries c
    → all_held_of entries ≡ unsubscribed_by all c kind name
nothing_given_up entries all c kind name seen none =
    let absent = found_is entries all c None seen none in
    seen ∙ sym (removed_none all c absent)
    ∙ ap (with_held_by all c) (sym (none_given_up kind name) ∙ ap (λ x. unsubscribed kind x name) (sym (held_is all c None absent)))

-- a copy, connection by connection
abbrev pub IsHeldCopied : AllHeld → Holdings → Holdings → Type 0
IsHeldCopied all copied left = IsCopied connection_cmp connection_total connection_exact connection_of (λ (h : Held). h) all (all_held_of copied) left

pub held_copied_none : (all copied : Holdings) → copied ≡ [] → IsStrictlySortedBy (λ a b. connection_cmp (connection_of a) (connection_of b)) (keys_of all)
    → IsHeldCopied (all_held_of all) copied all
held_copied_none all copied none rises =
    copied_none connection_cmp connection_total connection_exact connection_of (λ (h : Held). h) (all_held_of copied) all (ap all_held_of none) rises

pub held_copied_more : (all : AllHeld) (old new : Holdings) (conn : ConnId) (h copy : Held) (left : Holdings) → IsHeldCopied all old ((conn, h) ∷ left)
    → IsChanged old new (connection_of conn) (Some copy) → copy ≡ h → IsHeldCopied all new left
held_copied_more all old new conn h copy left so_far at same =
    copied_more connection_cmp connection_total connection_exact connection_of (λ (h : Held). h) all (all_held_of old) (all_held_of new) (conn, h) left so_far
    (λ q. found_behind old new (connection_of conn) (Some copy) at q
    ∙ ap (λ x. cond (eq_by_cmp connection_cmp q (connection_of conn)) (Some x) (finmap.get (all_held_of old) q)) same)

pub held_copied_all : (all : AllHeld) (copied : Holdings) → IsHeldCopied all copied [] → all_held_of copied ≡ all
held_copied_all all copied whole = copied_all connection_cmp connection_total connection_exact connection_of (λ (h : Held). h) all (all_held_of copied) whole

-- who holds nothing holds it in order
nothing_rises : (kind : Kind) → IsStrictlySortedBy byte_cmp (held kind holding_none)
unfolding IsStrictlySortedBy
nothing_rises Channels = tt
nothing_rises Patterns = tt

pub none_rises : (all : AllHeld) (c : Connection) (kind : Kind) → finmap.get all c ≡ None → IsStrictlySortedBy byte_cmp (held kind (held_in all c))
none_rises all c kind none = subst (λ h. IsStrictlySortedBy byte_cmp (held kind h)) (sym (held_is all c None none)) (nothing_rises kind)
