-- What connections hold, item by item, is what the past says of their subscriptions.
use Rattle.std.proofs.Common.{◌≡◌, ℕ, Bool, true, false, not, cond, List, [], ◌∷◌, length, refl, ap, sym, ◌∙◌, subst, arith}
use Rattle.std.specs.Prelude.{◌&&◌, ◌||◌, ◌==◌, fold, Some, None, unwrap_or, bytes_eq}
use Rattle.std.specs.Ordering.{eq_by_cmp, nat_cmp, ordering_then, is_eq}
use Rattle.std.specs.declared.cmp.Ordering.{Ordering}
use Rattle.std.specs.declared.cmp.Ordering.TheVariants.{Less, Equal, Greater}
use Rattle.std.specs.Cmp.{IsTotalOrder, nat_cmp_total, unsigned_ties, unsigned_Decides, eq_by_cmp_equiv}
use Rattle.std.specs.Cmp.Lexicographic.{nat_list_cmp_total, texts_ties}
use Rattle.std.specs.FinMap as finmap
use Rattle.std.proofs.lemmas.Cmp.{on_total, then_total}
use Rattle.std.proofs.lemmas.Map.Lookups.{exact_unsigned, exact_bytes, exact_pairs}
use Rattle.nr_model.specs.Bytes.{Bytes}
use Rattle.nr_model.specs.Keyspace.{byte_cmp}
use Rattle.nr_model.specs.Names.{Held, holding_none, held, with_held, with_name, without_name, subscribed, unsubscribed, how_many_held, after_subscribe, after_unsubscribe}
use Rattle.nr_model.specs.declared.command.Command.{Command}
use Rattle.nr_model.specs.declared.command.Command.TheVariants.{Perform, Session}
use Rattle.nr_model.specs.declared.command.Session.TheVariants as sessions
use Rattle.nr_model.specs.declared.command.Kind.{Kind}
use Rattle.nr_model.specs.declared.command.Kind.TheVariants.{Channels, Patterns}
use Rattle.nr_model.specs.Items.{Connection, connection_cmp, same_connection, arguments, Deed, Say, Act, Run, Abort, End}
use Rattle.nr_model.specs.Sequential.Subscribers.{same_kind, names, names_or_all, when, command_says, deed_says, said_or}
use Rattle.nr_model.specs.Servers.{held_in, with_held_by, held_behind_command, held_behind}
use Rattle.nr_model.proofs.Ordered.{has, IsOrdered, equal_from, ordered-put, has-put, ordered-filter, has-filter}

pub connection_total : IsTotalOrder connection_cmp
connection_total = then_total (on_total (λ (c : Connection). c.node) nat_cmp_total) (on_total (λ (c : Connection). c.serial) nat_cmp_total)

pub connection_exact : finmap.IsAntisymmetric connection_cmp
connection_exact a b h =
    ap (λ (p : ℕ × ℕ). let c : Connection = record { node = p.0; serial = p.1 } in c) (exact_pairs nat_cmp nat_cmp exact_unsigned exact_unsigned (a.node, a.serial) (b.node, b.serial) h)

then_equal : (r s : Ordering) → is_eq (ordering_then r s) ≡ (is_eq r && is_eq s)
then_equal Less s = refl
then_equal Equal s = refl
then_equal Greater s = refl

pub same-tied : (a b : Connection) → same_connection a b ≡ eq_by_cmp connection_cmp a b
same-tied a b = (λ i. unsigned_ties a.node b.node i && unsigned_ties a.serial b.serial i) ∙ sym (then_equal (nat_cmp a.node b.node) (nat_cmp a.serial b.serial))

pub tied_back : (a b : Connection) → eq_by_cmp connection_cmp a b ≡ same_connection b a
tied_back a b = (eq_by_cmp_equiv connection_total).symm a b ∙ sym (same-tied b a)

-- a name stands among words
pub names-has : (words : List Bytes) (name : Bytes) → names words name ≡ has byte_cmp name words
names-has [] name = refl
names-has (word ∷ words) name = λ i. (texts_ties word name ∙ (eq_by_cmp_equiv nat_list_cmp_total).symm word name) i || names-has words name i

-- a list of names in byte order, and both of what is held
abbrev pub AreOrdered : Held → Type 0
AreOrdered h = IsOrdered byte_cmp h.channels × IsOrdered byte_cmp h.patterns

pub ordered_of : (kind : Kind) (h : Held) → AreOrdered h → IsOrdered byte_cmp (held kind h)
ordered_of Channels h o = o.0
ordered_of Patterns h o = o.1

ordered_with : (kind : Kind) (ns : List Bytes) (h : Held) → IsOrdered byte_cmp ns → AreOrdered h → AreOrdered (with_held kind ns h)
ordered_with Channels ns h is o = (is, o.1)
ordered_with Patterns ns h is o = (o.0, is)

-- what is held of a kind behind a change of one kind
held_with : (k kind : Kind) (ns : List Bytes) (h : Held) → held kind (with_held k ns h) ≡ cond (same_kind k kind) ns (held kind h)
held_with Channels Channels ns h = refl
held_with Channels Patterns ns h = refl
held_with Patterns Channels ns h = refl
held_with Patterns Patterns ns h = refl

same_kind-is : (k kind : Kind) → same_kind k kind ≡ true → k ≡ kind
same_kind-is Channels Channels h = refl
same_kind-is Channels Patterns h = absurd (cc)
same_kind-is Patterns Channels h = absurd (cc)
same_kind-is Patterns Patterns h = refl

-- whether a name is held
abbrev pub holds : Kind → Bytes → Held → Bool
holds kind name h = names (held kind h) name

holds_with : (k kind : Kind) (name : Bytes) (ns : List Bytes) (h : Held) → holds kind name (with_held k ns h) ≡ cond (same_kind k kind) (names ns name) (holds kind name h)
holds_with Channels Channels name ns h = refl
holds_with Channels Patterns name ns h = refl
holds_with Patterns Channels name ns h = refl
holds_with Patterns Patterns name ns h = refl

names-with : (ns : List Bytes) (word name : Bytes) → names (with_name ns word) name ≡ (bytes_eq word name || names ns name)
names-with ns word name =
    names-has (with_name ns word) name ∙ has-put byte_cmp nat_list_cmp_total name word ns
    ∙ (λ i. sym (texts_ties word name ∙ (eq_by_cmp_equiv nat_list_cmp_total).symm word name) i || sym (names-has ns name) i)

-- of the same kind: with the word, or without it
one_more : (k kind : Kind) (word name : Bytes) (h : Held) → holds kind name (subscribed k h word) ≡ ((same_kind k kind && bytes_eq word name) || holds kind name h)
one_more Channels Channels word name h = names-with h.channels word name
one_more Channels Patterns word name h = refl
one_more Patterns Channels word name h = refl
one_more Patterns Patterns word name h = names-with h.patterns word name

either_first : (s a b c : Bool) → ((s && b) || ((s && a) || c)) ≡ ((s && (a || b)) || c)
either_first true true true c = refl
either_first true true false c = refl
either_first true false b c = refl
either_first false a b c = refl

nothing : (s c : Bool) → c ≡ ((s && false) || c)
nothing true c = refl
nothing false c = refl

pub holds-subscribed : (k kind : Kind) (words : List Bytes) (name : Bytes) (h : Held) → holds kind name (after_subscribe k h words) ≡ ((same_kind k kind && names words name) || holds kind name h)
holds-subscribed k kind [] name h = nothing (same_kind k kind) (holds kind name h)
holds-subscribed k kind (word ∷ words) name h =
    holds-subscribed k kind words name (subscribed k h word)
    ∙ ap (λ b. (same_kind k kind && names words name) || b) (one_more k kind word name h)
    ∙ either_first (same_kind k kind) (bytes_eq word name) (names words name) (holds kind name h)

same_text : (a b : Bytes) → bytes_eq a b ≡ bytes_eq b a
same_text a b = texts_ties a b ∙ (eq_by_cmp_equiv nat_list_cmp_total).symm a b ∙ sym (texts_ties b a)

names-without : (ns : List Bytes) (word name : Bytes) → names (without_name ns word) name ≡ (not (bytes_eq word name) && names ns name)
names-without ns word name =
    names-has (without_name ns word) name ∙ has-filter byte_cmp nat_list_cmp_total exact_bytes name (λ n. not (bytes_eq n word)) ns
    ∙ (λ i. not (same_text name word i) && sym (names-has ns name) i)

one_less : (k kind : Kind) (word name : Bytes) (h : Held) → holds kind name (unsubscribed k h word) ≡ (not (same_kind k kind && bytes_eq word name) && holds kind name h)
one_less Channels Channels word name h = names-without h.channels word name
one_less Channels Patterns word name h = refl
one_less Patterns Channels word name h = refl
one_less Patterns Patterns word name h = names-without h.patterns word name

neither : (s a b c : Bool) → (not (s && b) && (not (s && a) && c)) ≡ (not (s && (a || b)) && c)
neither true true true c = refl
neither true true false c = refl
neither true false true c = refl
neither true false false c = refl
neither false a b c = refl

kept : (s c : Bool) → c ≡ (not (s && false) && c)
kept true c = refl
kept false c = refl

fewer : (k kind : Kind) (words : List Bytes) (name : Bytes) (h : Held) → holds kind name (fold (unsubscribed k) h words) ≡ (not (same_kind k kind && names words name) && holds kind name h)
fewer k kind [] name h = kept (same_kind k kind) (holds kind name h)
fewer k kind (word ∷ words) name h =
    fewer k kind words name (unsubscribed k h word)
    ∙ ap (λ b. not (same_kind k kind && names words name) && b) (one_less k kind word name h)
    ∙ neither (same_kind k kind) (bytes_eq word name) (names words name) (holds kind name h)

none_left : (k kind : Kind) (name : Bytes) (h : Held) → holds kind name (with_held k [] h) ≡ (not (same_kind k kind && true) && holds kind name h)
none_left Channels Channels name h = refl
none_left Channels Patterns name h = refl
none_left Patterns Channels name h = refl
none_left Patterns Patterns name h = refl

pub holds-unsubscribed : (k kind : Kind) (words : List Bytes) (name : Bytes) (h : Held)
    → holds kind name (after_unsubscribe k h words) ≡ (not (same_kind k kind && names_or_all words name) && holds kind name h)
holds-unsubscribed k kind [] name h = none_left k kind name h
holds-unsubscribed k kind (word ∷ words) name h = fewer k kind (word ∷ words) name h

-- they stay in order
ordered_fold : (change : Held → Bytes → Held) → ((h : Held) (word : Bytes) → AreOrdered h → AreOrdered (change h word)) → (words : List Bytes) (h : Held) → AreOrdered h → AreOrdered (fold change h words)
ordered_fold change keeps [] h o = o
ordered_fold change keeps (word ∷ words) h o = ordered_fold change keeps words (change h word) (keeps h word o)

ordered_subscribed : (k : Kind) (h : Held) (word : Bytes) → AreOrdered h → AreOrdered (subscribed k h word)
ordered_subscribed k h word o = ordered_with k (with_name (held k h) word) h (ordered-put byte_cmp nat_list_cmp_total word (held k h) (ordered_of k h o)) o

ordered_unsubscribed : (k : Kind) (h : Held) (word : Bytes) → AreOrdered h → AreOrdered (unsubscribed k h word)
ordered_unsubscribed k h word o = ordered_with k (without_name (held k h) word) h (ordered-filter byte_cmp (λ n. not (bytes_eq n word)) (held k h) (ordered_of k h o)) o

ordered_after : (k : Kind) (words : List Bytes) (h : Held) → AreOrdered h → AreOrdered (after_unsubscribe k h words)
ordered_after k [] h o = ordered_with k [] h tt o
ordered_after k (word ∷ words) h o = ordered_fold (unsubscribed k) (ordered_unsubscribed k) (word ∷ words) h o

-- what a connection holds behind its own deed
abbrev pub own_command : Command → List Bytes → Held → Held
own_command (Session (sessions.Subscribe kind)) words h = after_subscribe kind h words
own_command (Session (sessions.Unsubscribe kind)) words h = after_unsubscribe kind h words
own_command (Session sessions.Multi) words h = h
own_command (Session sessions.Exec) words h = h
own_command (Session sessions.Discard) words h = h
own_command (Session sessions.Watch) words h = h
own_command (Session sessions.Unwatch) words h = h
own_command (Session sessions.Quit) words h = h
own_command (Session sessions.Publish) words h = h
own_command (Session sessions.Pubsub) words h = h
own_command (Perform operation) words h = h

abbrev pub own_deed : Deed → Held → Held
own_deed (Say reply) h = h
own_deed (Act call) h = own_command call.command (arguments call) h
own_deed (Run calls) h = h
own_deed Abort h = h
own_deed (End reply) h = holding_none

said_true : (b c : Bool) → (b || c) ≡ said_or (when b true) c
said_true true c = refl
said_true false c = refl

said_false : (b c : Bool) → (not b && c) ≡ said_or (when b false) c
said_false true c = refl
said_false false c = refl

holds-own_command : (kind : Kind) (name : Bytes) (command : Command) (words : List Bytes) (h : Held) → holds kind name (own_command command words h) ≡ said_or (command_says kind name command words) (holds kind name h)
holds-own_command kind name (Session (sessions.Subscribe k)) words h = holds-subscribed k kind words name h ∙ said_true (same_kind k kind && names words name) (holds kind name h)
holds-own_command kind name (Session (sessions.Unsubscribe k)) words h = holds-unsubscribed k kind words name h ∙ said_false (same_kind k kind && names_or_all words name) (holds kind name h)
holds-own_command kind name (Session sessions.Multi) words h = refl
holds-own_command kind name (Session sessions.Exec) words h = refl
holds-own_command kind name (Session sessions.Discard) words h = refl
holds-own_command kind name (Session sessions.Watch) words h = refl
holds-own_command kind name (Session sessions.Unwatch) words h = refl
holds-own_command kind name (Session sessions.Quit) words h = refl
holds-own_command kind name (Session sessions.Publish) words h = refl
holds-own_command kind name (Session sessions.Pubsub) words h = refl
holds-own_command kind name (Perform operation) words h = refl

holds_none : (kind : Kind) (name : Bytes) → holds kind name holding_none ≡ false
holds_none Channels name = refl
holds_none Patterns name = refl

holds-own : (kind : Kind) (name : Bytes) (deed : Deed) (h : Held) → holds kind name (own_deed deed h) ≡ said_or (deed_says kind name deed) (holds kind name h)
holds-own kind name (Say reply) h = refl
holds-own kind name (Act call) h = holds-own_command kind name call.command (arguments call) h
holds-own kind name (Run calls) h = refl
holds-own kind name Abort h = refl
holds-own kind name (End reply) h = holds_none kind name

ordered-own_command : (command : Command) (words : List Bytes) (h : Held) → AreOrdered h → AreOrdered (own_command command words h)
ordered-own_command (Session (sessions.Subscribe k)) words h o = ordered_fold (subscribed k) (ordered_subscribed k) words h o
ordered-own_command (Session (sessions.Unsubscribe k)) words h o = ordered_after k words h o
ordered-own_command (Session sessions.Multi) words h o = o
ordered-own_command (Session sessions.Exec) words h o = o
ordered-own_command (Session sessions.Discard) words h o = o
ordered-own_command (Session sessions.Watch) words h o = o
ordered-own_command (Session sessions.Unwatch) words h o = o
ordered-own_command (Session sessions.Quit) words h o = o
ordered-own_command (Session sessions.Publish) words h o = o
ordered-own_command (Session sessions.Pubsub) words h o = o
ordered-own_command (Perform operation) words h o = o

ordered-own : (deed : Deed) (h : Held) → AreOrdered h → AreOrdered (own_deed deed h)
ordered-own (Say reply) h o = o
ordered-own (Act call) h o = ordered-own_command call.command (arguments call) h o
ordered-own (Run calls) h o = o
ordered-own Abort h o = o
ordered-own (End reply) h o = (tt, tt)

-- as the map has it
abbrev Holding : Type 0
Holding = finmap.FinMap connection_cmp Held

no_names : (ns : List Bytes) → length ns ≡ 0 → ns ≡ []
no_names [] h = refl
no_names (n ∷ ns) h = absurd (omega arith)

none_held : (h : Held) → (how_many_held h == 0) ≡ true → h ≡ holding_none
none_held h e =
    let sum : how_many_held h ≡ 0 = (unsigned_Decides (how_many_held h) 0).0 e in
    λ i. record { channels = no_names h.channels (omega (arith, sum)) i; patterns = no_names h.patterns (omega (arith, sum)) i }

removed : (all : Holding) (c d : Connection) → held_in (finmap.remove all c) d ≡ cond (same_connection c d) holding_none (held_in all d)
removed all c d =
    ap (λ o. unwrap_or o holding_none) (finmap.get-remove connection_total all c d ∙ ap (λ b. cond b None (finmap.get all d)) (tied_back d c))
    ∙ elim (same_connection c d) as (λ b. unwrap_or (cond b None (finmap.get all d)) holding_none ≡ cond b holding_none (held_in all d)) [ true ↦ refl | false ↦ refl ]

inserted : (all : Holding) (c d : Connection) (h : Held) → held_in (finmap.insert all c h) d ≡ cond (same_connection c d) h (held_in all d)
inserted all c d h =
    ap (λ o. unwrap_or o holding_none) (finmap.get-insert connection_total all c h d ∙ ap (λ b. cond b (Some h) (finmap.get all d)) (tied_back d c))
    ∙ elim (same_connection c d) as (λ b. unwrap_or (cond b (Some h) (finmap.get all d)) holding_none ≡ cond b h (held_in all d)) [ true ↦ refl | false ↦ refl ]

held_changed : (all : Holding) (c d : Connection) (h : Held) → held_in (with_held_by all c h) d ≡ cond (same_connection c d) h (held_in all d)
held_changed all c d h =
    let at : (b : Bool) → (how_many_held h == 0) ≡ b → held_in (cond b (finmap.remove all c) (finmap.insert all c h)) d ≡ cond (same_connection c d) h (held_in all d) =
    λ b. elim b as (λ b. (how_many_held h == 0) ≡ b → held_in (cond b (finmap.remove all c) (finmap.insert all c h)) d ≡ cond (same_connection c d) h (held_in all d)) [
      | true ↦ λ e. removed all c d ∙ ap (λ k. cond (same_connection c d) k (held_in all d)) (sym (none_held h e))
      | false ↦ λ e. inserted all c d h
    ] in
    at (how_many_held h == 0) refl

pub same-is : (c d : Connection) → same_connection c d ≡ true → c ≡ d
same-is c d e = connection_exact c d (equal_from (connection_cmp c d) (sym (same-tied c d) ∙ e))

unchanged : (all : Holding) (c d : Connection) → held_in all d ≡ cond (same_connection c d) (held_in all c) (held_in all d)
unchanged all c d =
    let at : (b : Bool) → same_connection c d ≡ b → held_in all d ≡ cond b (held_in all c) (held_in all d) =
    λ b. elim b as (λ b. same_connection c d ≡ b → held_in all d ≡ cond b (held_in all c) (held_in all d)) [
      | true ↦ λ e. ap (held_in all) (sym (same-is c d e))
      | false ↦ λ e. refl
    ] in
    at (same_connection c d) refl

held-command : (all : Holding) (c d : Connection) (command : Command) (words : List Bytes)
    → held_in (held_behind_command all c command words) d ≡ cond (same_connection c d) (own_command command words (held_in all c)) (held_in all d)
held-command all c d (Session (sessions.Subscribe k)) words = held_changed all c d (after_subscribe k (held_in all c) words)
held-command all c d (Session (sessions.Unsubscribe k)) words = held_changed all c d (after_unsubscribe k (held_in all c) words)
held-command all c d (Session sessions.Multi) words = unchanged all c d
held-command all c d (Session sessions.Exec) words = unchanged all c d
held-command all c d (Session sessions.Discard) words = unchanged all c d
held-command all c d (Session sessions.Watch) words = unchanged all c d
held-command all c d (Session sessions.Unwatch) words = unchanged all c d
held-command all c d (Session sessions.Quit) words = unchanged all c d
held-command all c d (Session sessions.Publish) words = unchanged all c d
held-command all c d (Session sessions.Pubsub) words = unchanged all c d
held-command all c d (Perform operation) words = unchanged all c d

pub held-deed : (all : Holding) (c d : Connection) (deed : Deed) → held_in (held_behind all c deed) d ≡ cond (same_connection c d) (own_deed deed (held_in all c)) (held_in all d)
held-deed all c d (Say reply) = unchanged all c d
held-deed all c d (Act call) = held-command all c d call.command (arguments call)
held-deed all c d (Run calls) = unchanged all c d
held-deed all c d Abort = unchanged all c d
held-deed all c d (End reply) = removed all c d

-- so each connection holds what its deeds said, and in order
pub holds-deed : (all : Holding) (c d : Connection) (deed : Deed) (kind : Kind) (name : Bytes)
    → holds kind name (held_in (held_behind all c deed) d) ≡ said_or (cond (same_connection c d) (deed_says kind name deed) None) (holds kind name (held_in all d))
holds-deed all c d deed kind name =
    let at : (b : Bool) → same_connection c d ≡ b
    → holds kind name (cond b (own_deed deed (held_in all c)) (held_in all d)) ≡ said_or (cond b (deed_says kind name deed) None) (holds kind name (held_in all d)) =
    λ b. elim b as (λ b. same_connection c d ≡ b → holds kind name (cond b (own_deed deed (held_in all c)) (held_in all d)) ≡ said_or (cond b (deed_says kind name deed) None) (holds kind name (held_in all d))) [
      | true ↦ λ e. holds-own kind name deed (held_in all c) ∙ ap (λ x. said_or (deed_says kind name deed) (holds kind name (held_in all x))) (same-is c d e)
      | false ↦ λ e. refl
    ] in
    ap (holds kind name) (held-deed all c d deed) ∙ at (same_connection c d) refl

pub AllOrdered : Holding → Type 0
AllOrdered all = (d : Connection) → AreOrdered (held_in all d)

pub all_ordered : (all : Holding) → AllOrdered all → (d : Connection) → AreOrdered (held_in all d)
unfolding AllOrdered
all_ordered all o d = o d

pub ordered-deed : (all : Holding) (c : Connection) (deed : Deed) → AllOrdered all → AllOrdered (held_behind all c deed)
unfolding AllOrdered
ordered-deed all c deed o d =
    let at : (b : Bool) → AreOrdered (cond b (own_deed deed (held_in all c)) (held_in all d)) =
    λ b. elim b as (λ b. AreOrdered (cond b (own_deed deed (held_in all c)) (held_in all d))) [
      | true ↦ ordered-own deed (held_in all c) (o c)
      | false ↦ o d
    ] in
    subst AreOrdered (sym (held-deed all c d deed)) (at (same_connection c d))

pub none_ordered : AllOrdered finmap.empty
unfolding AllOrdered
none_ordered d = subst AreOrdered (sym (ap (λ o. unwrap_or o holding_none) (finmap.get-empty connection_cmp d))) (tt, tt)
