-- The subscribers of a name, where what one connection holds changes.
use Rattle.std.proofs.Common.{◌≡◌, Bool, true, false, cond, not, ◌||◌, ◌&&◌, Option, Some, None, List, [], ◌∷◌}
use Rattle.std.proofs.Common.{length, refl, ap, sym, ◌∙◌, subst, arith, true≢false}
use Rattle.std.specs.Prelude.{T, filter, unwrap_or, is_some, ◌==◌, bytes_eq}
use Rattle.std.specs.declared.cmp.Ordering.TheVariants.{Less, Equal, Greater}
use Rattle.std.specs.Ordering.{eq_by_cmp, is_eq}
use Rattle.std.specs.Cmp.{unsigned_Decides, eq_by_cmp_equiv, tied_itself}
use Rattle.std.specs.Cmp.Lexicographic.{nat_list_cmp_total, texts_ties}
use Rattle.std.specs.FinMap as finmap
use Rattle.nr_model.specs.Bytes.{Bytes}
use Rattle.nr_model.specs.Keyspace.{byte_cmp}
use Rattle.nr_model.specs.Items.{Connection, connection_cmp}
use Rattle.nr_model.specs.Names.{Held, holding_none, how_many_held, put, subscribed, unsubscribed}
use Rattle.nr_model.specs.Servers.{held_in, with_held_by, subscribers_in}
use Rattle.nr_model.specs.Sequential.Subscribers.{same_kind, names}
use Rattle.nr_model.specs.declared.command.Kind.{Kind}
use Rattle.nr_model.specs.declared.command.Kind.TheVariants.{Channels, Patterns}
use Rattle.nr_model.proofs.Ordered.{has, IsOrdered, ordered-filter, has-filter, ordered-put, has-put, tied-is, same_ordered, or_false}
use Rattle.nr_model.proofs.Subscribed.{connection_total, connection_exact, holds, holds-subscribed, holds-unsubscribed}
use Rattle.nr_pubsub.specs.Holdings.{AllHeld}
use Rattle.nr_pubsub.specs.Standings.{without}
use Rattle.nr_pubsub.proofs.Sets.{cond_and}
use Rattle.nr_pubsub.proofs.Seen.{sorted_keys}

-- the keys of a finite map are in order
keys_ordered : (all : AllHeld) → IsOrdered connection_cmp (finmap.keys all)
keys_ordered all = subst T (sorted_keys connection_cmp (finmap.entries all)) (finmap.entries_sorted all)

-- who holds a name is a subscriber of it
implies_and : (a b : Bool) → (a ≡ true → b ≡ true) → (a && b) ≡ a
implies_and true b h = h refl
implies_and false b h = refl

pub none_holds : (kind : Kind) (name : Bytes) → holds kind name holding_none ≡ false
none_holds Channels name = refl
none_holds Patterns name = refl

holder_is_there : (kind : Kind) (name : Bytes) (o : Option Held) → holds kind name (unwrap_or o holding_none) ≡ true → is_some o ≡ true
holder_is_there kind name None h = absurd (true≢false (sym h ∙ none_holds kind name))
holder_is_there kind name (Some h) k = refl

pub has-subscribers : (all : AllHeld) (kind : Kind) (name : Bytes) (c : Connection)
    → has connection_cmp c (subscribers_in all kind name) ≡ holds kind name (held_in all c)
has-subscribers all kind name c =
    has-filter connection_cmp connection_total connection_exact c (λ d. holds kind name (held_in all d)) (finmap.keys all)
    ∙ implies_and (holds kind name (held_in all c)) (has connection_cmp c (finmap.keys all))
    (λ h. sym (finmap.contains_key-keys all c) ∙ holder_is_there kind name (finmap.get all c) h)

pub ordered-subscribers : (all : AllHeld) (kind : Kind) (name : Bytes) → IsOrdered connection_cmp (subscribers_in all kind name)
ordered-subscribers all kind name = ordered-filter connection_cmp (λ d. holds kind name (held_in all d)) (finmap.keys all) (keys_ordered all)

-- with a connection, or without it
abbrev pub placed_by : Bool → Connection → List Connection → List Connection
placed_by is_there c cs = cond is_there (put connection_cmp c cs) (without c cs)

ordered-placed : (b : Bool) (c : Connection) (cs : List Connection) → IsOrdered connection_cmp cs → IsOrdered connection_cmp (placed_by b c cs)
ordered-placed true c cs ordered = ordered-put connection_cmp connection_total c cs ordered
ordered-placed false c cs ordered = ordered-filter connection_cmp (λ d. not (eq_by_cmp connection_cmp c d)) cs ordered

cond_or : (b c : Bool) → (b || c) ≡ cond b true c
cond_or true c = refl
cond_or false c = refl

has-placed : (b : Bool) (c d : Connection) (cs : List Connection)
    → has connection_cmp d (placed_by b c cs) ≡ cond (eq_by_cmp connection_cmp c d) b (has connection_cmp d cs)
has-placed true c d cs =
    has-put connection_cmp connection_total d c cs ∙ ap (λ t. t || has connection_cmp d cs) ((eq_by_cmp_equiv connection_total).symm d c)
    ∙ cond_or (eq_by_cmp connection_cmp c d) (has connection_cmp d cs)
has-placed false c d cs =
    has-filter connection_cmp connection_total connection_exact d (λ e. not (eq_by_cmp connection_cmp c e)) cs
    ∙ sym (cond_and (eq_by_cmp connection_cmp c d) (has connection_cmp d cs))

-- what one connection holds is another, and nothing else
abbrev pub IsHeldBy : AllHeld → AllHeld → Connection → Held → Type 0
IsHeldBy old new c h = (d : Connection) → held_in new d ≡ cond (eq_by_cmp connection_cmp c d) h (held_in old d)

holds-cond : (kind : Kind) (name : Bytes) (b : Bool) (h k : Held) → holds kind name (cond b h k) ≡ cond b (holds kind name h) (holds kind name k)
holds-cond kind name true h k = refl
holds-cond kind name false h k = refl

pub subscribers_behind : (old new : AllHeld) (c : Connection) (h : Held) → IsHeldBy old new c h → (kind : Kind) (name : Bytes)
    → subscribers_in new kind name ≡ placed_by (holds kind name h) c (subscribers_in old kind name)
subscribers_behind old new c h is kind name =
    same_ordered connection_cmp connection_total connection_exact
    (subscribers_in new kind name) (placed_by (holds kind name h) c (subscribers_in old kind name))
    (ordered-subscribers new kind name) (ordered-placed (holds kind name h) c (subscribers_in old kind name) (ordered-subscribers old kind name))
    (λ d. has-subscribers new kind name d ∙ ap (holds kind name) (is d) ∙ holds-cond kind name (eq_by_cmp connection_cmp c d) h (held_in old d)
    ∙ ap (cond (eq_by_cmp connection_cmp c d) (holds kind name h)) (sym (has-subscribers old kind name d))
    ∙ sym (has-placed (holds kind name h) c d (subscribers_in old kind name)))

-- a connection that is placed as it was
placed_again : (c : Connection) (cs : List Connection) → IsOrdered connection_cmp cs → placed_by (has connection_cmp c cs) c cs ≡ cs
placed_again c cs ordered =
    same_ordered connection_cmp connection_total connection_exact (placed_by (has connection_cmp c cs) c cs) cs
    (ordered-placed (has connection_cmp c cs) c cs ordered) ordered
    (λ d. has-placed (has connection_cmp c cs) c d cs
    ∙ elim (eq_by_cmp connection_cmp c d) as (λ t. eq_by_cmp connection_cmp c d ≡ t → cond t (has connection_cmp c cs) (has connection_cmp d cs)
    ≡ has connection_cmp d cs) [
      | true ↦ λ here. ap (λ x. has connection_cmp x cs) (tied-is connection_cmp connection_total connection_exact c d here)
      | false ↦ λ _. refl
    ] refl)

pub subscribers_same : (all : AllHeld) (c : Connection) (kind : Kind) (name : Bytes)
    → placed_by (holds kind name (held_in all c)) c (subscribers_in all kind name) ≡ subscribers_in all kind name
subscribers_same all c kind name =
    ap (λ b. placed_by b c (subscribers_in all kind name)) (sym (has-subscribers all kind name c))
    ∙ placed_again c (subscribers_in all kind name) (ordered-subscribers all kind name)

-- a connection that is put in and taken away
pub put_and_left : (c : Connection) (cs : List Connection) → without c (put connection_cmp c cs) ≡ without c cs
put_and_left c [] = ap (λ b. cond (not b) (c ∷ []) []) (ap is_eq (tied_itself connection_total c))
put_and_left c (d ∷ ds) =
    let p : Connection → Bool = λ e. not (eq_by_cmp connection_cmp c e) in
    let head : (es : List Connection) → filter p (c ∷ es) ≡ filter p es = λ es. ap (λ b. cond (not b) (c ∷ filter p es) (filter p es))
    (ap is_eq (tied_itself connection_total c)) in
    elim (connection_cmp c d) as (λ r. filter p (elim r [ Less ↦ c ∷ d ∷ ds | Equal ↦ d ∷ ds | Greater ↦ d ∷ put connection_cmp c ds ]) ≡ filter p (d ∷ ds)) [
      | Less ↦ head (d ∷ ds)
      | Equal ↦ refl
      | Greater ↦ ap (λ es. cond (p d) (d ∷ es) es) (put_and_left c ds)
    ]

-- What is held behind each change.
from_option : (b : Bool) (h : Held) (o : Option Held) → unwrap_or (cond b (Some h) o) holding_none ≡ cond b h (unwrap_or o holding_none)
from_option true h o = refl
from_option false h o = refl

from_none : (b : Bool) (o : Option Held) → unwrap_or (cond b None o) holding_none ≡ cond b holding_none (unwrap_or o holding_none)
from_none true o = refl
from_none false o = refl

pub held_inserted : (all : AllHeld) (c : Connection) (h : Held) → IsHeldBy all (finmap.insert all c h) c h
held_inserted all c h d =
    ap (λ o. unwrap_or o holding_none) (finmap.get-insert connection_total all c h d) ∙ from_option (eq_by_cmp connection_cmp d c) h (finmap.get all d)
    ∙ ap (λ b. cond b h (held_in all d)) ((eq_by_cmp_equiv connection_total).symm d c)

pub held_removed : (all : AllHeld) (c : Connection) → IsHeldBy all (finmap.remove all c) c holding_none
held_removed all c d =
    ap (λ o. unwrap_or o holding_none) (finmap.get-remove connection_total all c d) ∙ from_none (eq_by_cmp connection_cmp d c) (finmap.get all d)
    ∙ ap (λ b. cond b holding_none (held_in all d)) ((eq_by_cmp_equiv connection_total).symm d c)

pub no_length : {A : Type 0} (xs : List A) → length xs ≡ 0 → xs ≡ []
no_length [] h = refl
no_length (x ∷ xs) h = absurd (omega arith)

none_held : (h : Held) → (how_many_held h == 0) ≡ true → h ≡ holding_none
none_held h e =
    let sum : how_many_held h ≡ 0 = (unsigned_Decides (how_many_held h) 0).0 e in
    λ i. record { channels = no_length h.channels (omega (arith, sum)) i; patterns = no_length h.patterns (omega (arith, sum)) i }

pub held_with : (all : AllHeld) (c : Connection) (h : Held) → IsHeldBy all (with_held_by all c h) c h
held_with all c h =
    elim (how_many_held h == 0) as (λ b. (how_many_held h == 0) ≡ b → IsHeldBy all (cond b (finmap.remove all c) (finmap.insert all c h)) c h) [
      | true ↦ λ e d. held_removed all c d ∙ ap (λ k. cond (eq_by_cmp connection_cmp c d) k (held_in all d)) (sym (none_held h e))
      | false ↦ λ e. held_inserted all c h
    ] refl

pub held_same : (all : AllHeld) (c : Connection) → IsHeldBy all all c (held_in all c)
held_same all c d =
    elim (eq_by_cmp connection_cmp c d) as (λ t. eq_by_cmp connection_cmp c d ≡ t → held_in all d ≡ cond t (held_in all c) (held_in all d)) [
      | true ↦ λ here. ap (held_in all) (sym (tied-is connection_cmp connection_total connection_exact c d here))
      | false ↦ λ _. refl
    ] refl

pub held_own : (old new : AllHeld) (c : Connection) (h : Held) → IsHeldBy old new c h → held_in new c ≡ h
held_own old new c h is = is c ∙ ap (λ b. cond b h (held_in old c)) (ap is_eq (tied_itself connection_total c))

-- who holds something isn't forgotten
pub some_held : (h : Held) (kind : Kind) (name : Bytes) → holds kind name h ≡ true → (how_many_held h == 0) ≡ false
some_held h kind name there =
    elim (how_many_held h == 0) as (λ b. (how_many_held h == 0) ≡ b → b ≡ false) [
      | true ↦ λ e. absurd (true≢false (sym there ∙ ap (holds kind name) (none_held h e) ∙ none_holds kind name))
      | false ↦ λ _. refl
    ] refl

pub with_some : (all : AllHeld) (c : Connection) (h : Held) (kind : Kind) (name : Bytes) → holds kind name h ≡ true
    → with_held_by all c h ≡ finmap.insert all c h
with_some all c h kind name there = ap (λ b. cond b (finmap.remove all c) (finmap.insert all c h)) (some_held h kind name there)

-- whether a name of a kind is this
abbrev pub is_this : Kind → Bytes → Kind → Bytes → Bool
is_this kind name k q = same_kind kind k && eq_by_cmp byte_cmp q name

one_word : (name q : Bytes) → names (name ∷ []) q ≡ eq_by_cmp byte_cmp q name
one_word name q = or_false (bytes_eq name q) ∙ texts_ties name q ∙ (eq_by_cmp_equiv nat_list_cmp_total).symm name q

pub holds_more : (kind k : Kind) (name q : Bytes) (h : Held) → holds k q (subscribed kind h name) ≡ (is_this kind name k q || holds k q h)
holds_more kind k name q h =
    holds-subscribed kind k (name ∷ []) q h ∙ ap (λ b. (same_kind kind k && b) || holds k q h) (one_word name q)

pub holds_less : (kind k : Kind) (name q : Bytes) (h : Held) → holds k q (unsubscribed kind h name) ≡ (not (is_this kind name k q) && holds k q h)
holds_less kind k name q h =
    holds-unsubscribed kind k (name ∷ []) q h ∙ ap (λ b. not (same_kind kind k && b) && holds k q h) (one_word name q)
