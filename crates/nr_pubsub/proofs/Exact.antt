-- That the indices are exact stays so.
use Rattle.std.proofs.Common.{◌≡◌, Bool, true, false, cond, not, ◌||◌, ◌&&◌, Option, Some, None, List, [], map, refl, ap, sym, ◌∙◌, subst, true≢false}
use Rattle.std.specs.Prelude.{unwrap_or, filter, ◌==◌}
use Rattle.std.specs.Ordering.{eq_by_cmp, is_eq}
use Rattle.std.specs.List.{list_any}
use Rattle.std.specs.FinMap as finmap
use Rattle.std.proofs.lemmas.Map.Lookups.{exact_bytes}
use Rattle.std.specs.Cmp.{Equal-is, tied_itself}
use Rattle.std.specs.Cmp.Lexicographic.{nat_list_cmp_total}
use Rattle.nr_model.specs.Bytes.{Bytes}
use Rattle.nr_model.specs.Keyspace.{byte_cmp}
use Rattle.nr_model.specs.Items.{Connection, connection_cmp}
use Rattle.nr_model.specs.Names.{Held, how_many_held, holding_none, held, put, subscribed, unsubscribed}
use Rattle.nr_model.specs.Servers.{held_in, with_held_by, subscribers_in}
use Rattle.nr_model.specs.Sequential.Subscribers.{same_kind}
use Rattle.nr_model.specs.declared.command.Kind.{Kind}
use Rattle.nr_model.specs.declared.command.Kind.TheVariants.{Channels, Patterns}
use Rattle.nr_model.proofs.Subscribed.{connection_total, holds, names-has}
use Rattle.nr_pubsub.specs.declared.indices.Indices.{Indices}
use Rattle.nr_pubsub.specs.Holdings.{AllHeld}
use Rattle.nr_pubsub.specs.Standings.{standing_at, some_of, without}
use Rattle.nr_pubsub.specs.Indices.{standing, is_something, ArePlaced, AreLeft, AreExact}
use Rattle.nr_pubsub.proofs.Indexed.{some_or_none}
use Rattle.nr_pubsub.proofs.Subscribers.{placed_by, IsHeldBy, subscribers_behind, subscribers_same, put_and_left, held_inserted, held_removed, held_with, held_same, holds_more}
use Rattle.nr_pubsub.proofs.Subscribers.{holds_less, none_holds, is_this, with_some, some_held, no_length}
use Rattle.nr_pubsub.proofs.Seen.{twice}
use Rattle.nr_pubsub.proofs.Held.{inserted_again, removed_none}

abbrev AreSome : AllHeld → Type 0
AreSome all = (d : Connection) → is_something (finmap.get all d) ≡ true

some_inserted : (all : AllHeld) (c : Connection) (h : Held) → AreSome all → not (how_many_held h == 0) ≡ true → AreSome (finmap.insert all c h)
some_inserted all c h are some d =
    ap is_something (finmap.get-insert connection_total all c h d)
    ∙ elim (eq_by_cmp connection_cmp d c) as (λ b. is_something (cond b (Some h) (finmap.get all d)) ≡ true) [ true ↦ some | false ↦ are d ]

some_removed : (all : AllHeld) (c : Connection) → AreSome all → AreSome (finmap.remove all c)
some_removed all c are d =
    ap is_something (finmap.get-remove connection_total all c d)
    ∙ elim (eq_by_cmp connection_cmp d c) as (λ b. is_something (cond b None (finmap.get all d)) ≡ true) [ true ↦ refl | false ↦ are d ]

some_with : (all : AllHeld) (c : Connection) (h : Held) → AreSome all → AreSome (with_held_by all c h)
some_with all c h are =
    elim (how_many_held h == 0) as (λ b. (how_many_held h == 0) ≡ b → AreSome (cond b (finmap.remove all c) (finmap.insert all c h))) [
      | true ↦ λ _. some_removed all c are
      | false ↦ λ some. some_inserted all c h are (ap not some)
    ] refl

-- where the indices were changed at some names, and what is held at those alone
stays : (old new : AllHeld) (before after : Indices) (c : Connection) (h : Held) (changed : Kind → Bytes → Bool) → AreExact old before → AreSome new
    → IsHeldBy old new c h
    → ((k : Kind) (q : Bytes) → finmap.get (standing k after) q
    ≡ cond (changed k q) (some_of (placed_by (holds k q h) c (subscribers_in old k q))) (finmap.get (standing k before) q))
    → ((k : Kind) (q : Bytes) → changed k q ≡ false → holds k q h ≡ holds k q (held_in old c))
    → AreExact new after
stays old new before after c h changed was are is at others = record {
  something = are;
  found = λ k q.
      at k q
      ∙ elim (changed k q) as (λ t. changed k q ≡ t → cond t (some_of (placed_by (holds k q h) c (subscribers_in old k q))) (finmap.get (standing k before) q)
      ≡ some_of (subscribers_in new k q)) [
        | true ↦ λ _. ap some_of (sym (subscribers_behind old new c h is k q))
        | false ↦ λ no. was.found k q ∙ ap some_of (sym (subscribers_behind old new c h is k q
            ∙ ap (λ b. placed_by b c (subscribers_in old k q)) (others k q no) ∙ subscribers_same old c k q))
      ] refl;
}

kind_is : (kind k : Kind) → same_kind kind k ≡ true → kind ≡ k
kind_is Channels Channels h = refl
kind_is Channels Patterns h = absurd (true≢false (sym h))
kind_is Patterns Channels h = absurd (true≢false (sym h))
kind_is Patterns Patterns h = refl

first_true : (a b : Bool) → (a && b) ≡ true → a ≡ true
first_true true b h = refl
first_true false b h = h

second_true : (a b : Bool) → (a && b) ≡ true → b ≡ true
second_true true b h = h
second_true false b h = absurd (true≢false (sym h))

-- what is said of a name of a kind is said of what is this
at_this : {A : Type 0} (kind k : Kind) (name q : Bytes) (f : Kind → Bytes → A) → is_this kind name k q ≡ true → f kind name ≡ f k q
at_this kind k name q f h =
    let same = kind_is kind k (first_true (same_kind kind k) (eq_by_cmp byte_cmp q name) h) in
    let tied = exact_bytes q name ((Equal-is (byte_cmp q name)).0 (second_true (same_kind kind k) (eq_by_cmp byte_cmp q name) h)) in
    λ i. f (same i) (sym tied i)

this_itself : (kind : Kind) (name : Bytes) → is_this kind name kind name ≡ true
this_itself Channels name = ap is_eq (tied_itself nat_list_cmp_total name)
this_itself Patterns name = ap is_eq (tied_itself nat_list_cmp_total name)

on_true : {A : Type 0} (b : Bool) (x y z : A) → (b ≡ true → x ≡ y) → cond b x z ≡ cond b y z
on_true true x y z e = e refl
on_true false x y z e = refl

-- who stands at a name are its subscribers
stand : (all : AllHeld) (indices : Indices) (k : Kind) (q : Bytes) → AreExact all indices → standing_at (standing k indices) q ≡ subscribers_in all k q
stand all indices k q was = ap (λ o. unwrap_or o []) (was.found k q) ∙ some_or_none (subscribers_in all k q)

-- who subscribes holds something
more_held : (kind : Kind) (name : Bytes) (h : Held) → (how_many_held (subscribed kind h name) == 0) ≡ false
more_held kind name h =
    some_held (subscribed kind h name) kind name (holds_more kind kind name name h ∙ ap (λ b. b || holds kind name h) (this_itself kind name))

-- SUBSCRIBE
pub exact_subscribed : (old new : AllHeld) (before after : Indices) (c : Connection) (kind : Kind) (name : Bytes) → AreExact old before
    → ArePlaced kind before after name (put connection_cmp c (standing_at (standing kind before) name))
    → new ≡ finmap.insert old c (subscribed kind (held_in old c) name) → AreExact new after
exact_subscribed old new before after c kind name was placed is =
    let h = subscribed kind (held_in old c) name in
    subst (λ m. AreExact m after) (sym is)
    (stays old (finmap.insert old c h) before after c h (is_this kind name) was
    (some_inserted old c h was.something (ap not (more_held kind name (held_in old c)))) (held_inserted old c h)
    (λ k q. placed.found k q
    ∙ on_true (is_this kind name k q) (some_of (put connection_cmp c (standing_at (standing kind before) name)))
    (some_of (placed_by (holds k q h) c (subscribers_in old k q))) (finmap.get (standing k before) q)
    (λ this.
    ap (λ cs. some_of (put connection_cmp c cs)) (stand old before kind name was ∙ at_this kind k name q (subscribers_in old) this)
    ∙ ap (λ b. some_of (placed_by b c (subscribers_in old k q)))
    (sym (holds_more kind k name q (held_in old c) ∙ ap (λ b. b || holds k q (held_in old c)) this))))
    (λ k q no. holds_more kind k name q (held_in old c) ∙ ap (λ b. b || holds k q (held_in old c)) no))

-- UNSUBSCRIBE
pub exact_unsubscribed : (old new : AllHeld) (before after : Indices) (c : Connection) (kind : Kind) (name : Bytes) → AreExact old before
    → ArePlaced kind before after name (without c (standing_at (standing kind before) name))
    → new ≡ with_held_by old c (unsubscribed kind (held_in old c) name) → AreExact new after
exact_unsubscribed old new before after c kind name was placed is =
    let h = unsubscribed kind (held_in old c) name in
    subst (λ m. AreExact m after) (sym is)
    (stays old (with_held_by old c h) before after c h (is_this kind name) was (some_with old c h was.something) (held_with old c h)
    (λ k q. placed.found k q
    ∙ on_true (is_this kind name k q) (some_of (without c (standing_at (standing kind before) name)))
    (some_of (placed_by (holds k q h) c (subscribers_in old k q))) (finmap.get (standing k before) q)
    (λ this.
    ap (λ cs. some_of (without c cs)) (stand old before kind name was ∙ at_this kind k name q (subscribers_in old) this)
    ∙ ap (λ b. some_of (placed_by b c (subscribers_in old k q)))
    (sym (holds_less kind k name q (held_in old c) ∙ ap (λ b. not b && holds k q (held_in old c)) this))))
    (λ k q no. holds_less kind k name q (held_in old c) ∙ ap (λ b. not b && holds k q (held_in old c)) no))

-- SUBSCRIBE that memory was refused to: what was put in is taken away again
pub exact_refused : (all : AllHeld) (before between after : Indices) (c : Connection) (kind : Kind) (name : Bytes) → AreExact all before
    → holds kind name (held_in all c) ≡ false
    → ArePlaced kind before between name (put connection_cmp c (standing_at (standing kind before) name))
    → ArePlaced kind between after name (without c (standing_at (standing kind between) name)) → AreExact all after
exact_refused all before between after c kind name was absent put_in taken =
    let h = held_in all c in
    let cs = put connection_cmp c (standing_at (standing kind before) name) in
    let there : standing_at (standing kind between) name ≡ cs =
    ap (λ o. unwrap_or o []) (put_in.found kind name ∙ ap (λ b. cond b (some_of cs) (finmap.get (standing kind before) name)) (this_itself kind name))
    ∙ some_or_none cs in
    stays all all before after c h (is_this kind name) was was.something (held_same all c)
    (λ k q. taken.found k q
    ∙ ap (cond (is_this kind name k q) (some_of (without c (standing_at (standing kind between) name)))) (put_in.found k q)
    ∙ twice (is_this kind name k q) (some_of (without c (standing_at (standing kind between) name))) (some_of cs) (finmap.get (standing k before) q)
    ∙ on_true (is_this kind name k q) (some_of (without c (standing_at (standing kind between) name)))
    (some_of (placed_by (holds k q h) c (subscribers_in all k q))) (finmap.get (standing k before) q)
    (λ this.
    ap (λ ds. some_of (without c ds)) there ∙ ap some_of (put_and_left c (standing_at (standing kind before) name))
    ∙ ap (λ ds. some_of (without c ds)) (stand all before kind name was ∙ at_this kind k name q (subscribers_in all) this)
    ∙ ap (λ b. some_of (placed_by b c (subscribers_in all k q))) (sym (sym (at_this kind k name q (λ k q. holds k q h) this) ∙ absent))))
    (λ k q _. refl)

-- the end of a connection
pub exact_forgotten : (old new : AllHeld) (before after : Indices) (c : Connection) (h : Held) → AreExact old before → finmap.get old c ≡ Some h
    → AreLeft before after h c
    → new ≡ finmap.remove old c → AreExact new after
exact_forgotten old new before after c h was there left is =
    let own : held_in old c ≡ h = ap (λ o. unwrap_or o holding_none) there in
    subst (λ m. AreExact m after) (sym is)
    (stays old (finmap.remove old c) before after c holding_none (λ k q. list_any (eq_by_cmp byte_cmp q) (held k h)) was (some_removed old c was.something)
    (held_removed old c)
    (λ k q. left.found k q
    ∙ ap (λ cs. cond (list_any (eq_by_cmp byte_cmp q) (held k h)) (some_of cs) (finmap.get (standing k before) q))
    (ap (without c) (stand old before k q was) ∙ ap (λ b. placed_by b c (subscribers_in old k q)) (sym (none_holds k q))))
    (λ k q no. none_holds k q ∙ sym (ap (holds k q) own ∙ names-has (held k h) q ∙ no)))

pub exact_none : (old new : AllHeld) (indices : Indices) (c : Connection) → AreExact old indices → finmap.get old c ≡ None → new ≡ finmap.remove old c
    → AreExact new indices
exact_none old new indices c was none is = subst (λ m. AreExact m indices) (sym (is ∙ removed_none old c none)) was

no_subscribers : (k : Kind) (q : Bytes) → subscribers_in finmap.empty k q ≡ []
no_subscribers k q =
    ap (λ (es : List (Connection × Held)). filter (λ c. holds k q (held_in finmap.empty c)) (map (λ e. e.0) es))
    (no_length (finmap.entries finmap.empty) (sym (finmap.len-entries finmap.empty) ∙ finmap.len-empty connection_cmp Held))

pub exact_empty : (all : AllHeld) (indices : Indices) → all ≡ finmap.empty → ((k : Kind) → standing k indices ≡ finmap.empty) → AreExact all indices
exact_empty all indices is none = subst (λ m. AreExact m indices) (sym is) (record {
  something = λ c. ap is_something (finmap.get-empty connection_cmp c);
  found = λ k q. ap (λ m. finmap.get m q) (none k) ∙ finmap.get-empty byte_cmp q ∙ ap some_of (sym (no_subscribers k q));
})

-- to subscribe again changes nothing
there_by : (all : AllHeld) (c : Connection) (kind : Kind) (name : Bytes) (o : Option Held) → finmap.get all c ≡ o → holds kind name (held_in all c) ≡ true
    → finmap.get all c ≡ Some (held_in all c)
there_by all c kind name None is there =
    absurd (true≢false (sym there ∙ ap (λ o. holds kind name (unwrap_or o holding_none)) is ∙ none_holds kind name))
there_by all c kind name (Some h) is there = is ∙ ap Some (sym (ap (λ o. unwrap_or o holding_none) is))

pub subscribed_again : (all : AllHeld) (c : Connection) (kind : Kind) (name : Bytes) → holds kind name (held_in all c) ≡ true
    → subscribed kind (held_in all c) name ≡ held_in all c → all ≡ with_held_by all c (subscribed kind (held_in all c) name)
subscribed_again all c kind name there same =
    sym (ap (with_held_by all c) same ∙ with_some all c (held_in all c) kind name there
    ∙ inserted_again all c (held_in all c) (there_by all c kind name (finmap.get all c) refl there))

-- to subscribe to what isn't held holds something
pub subscribed_with : (all : AllHeld) (c : Connection) (kind : Kind) (name : Bytes) (h : Held)
    → with_held_by all c (subscribed kind h name) ≡ finmap.insert all c (subscribed kind h name)
subscribed_with all c kind name h =
    ap (λ b. cond b (finmap.remove all c) (finmap.insert all c (subscribed kind h name))) (more_held kind name h)

not_true : (b : Bool) → not b ≡ true → b ≡ false
not_true true h = absurd (true≢false (sym h))
not_true false h = refl

-- what a connection holds, said once more, changes nothing
pub held_again : (all : AllHeld) (c : Connection) → is_something (finmap.get all c) ≡ true → with_held_by all c (held_in all c) ≡ all
held_again all c =
    elim (finmap.get all c) as (λ o. finmap.get all c ≡ o → is_something o ≡ true → with_held_by all c (unwrap_or o holding_none) ≡ all) [
      | None ↦ λ none _. removed_none all c none
      | Some h ↦ λ there some.
          ap (λ b. cond b (finmap.remove all c) (finmap.insert all c h)) (not_true (how_many_held h == 0) some) ∙ inserted_again all c h there
    ] refl
