-- What a connection holds, behind one change and behind two.
use Rattle.std.proofs.Common.{◌≡◌, Bool, true, false, not, cond, List, [], ◌∷◌, length, drop, refl, ap, sym, ◌∙◌, arith}
use Rattle.std.specs.Prelude.{◌==◌, Option, Some, None, is_some, unwrap_or, bytes_eq, slice_get}
use Rattle.std.specs.Option.{option_map}
use Rattle.std.specs.List.{AllByRecursion}
use Rattle.std.specs.List.Sorted.{IsStrictlySortedBy}
use Rattle.std.specs.Ordering.{eq_by_cmp, is_eq}
use Rattle.std.specs.declared.cmp.Ordering.TheVariants.{Less}
use Rattle.std.specs.Cmp.{unsigned_Decides, eq_by_cmp_equiv}
use Rattle.std.specs.Cmp.Lexicographic.{nat_list_cmp_total, texts_ties}
use Rattle.std.specs.FinMap as finmap
use Rattle.nr_model.specs.Bytes.{Bytes}
use Rattle.nr_model.specs.Keyspace.{byte_cmp}
use Rattle.nr_model.specs.declared.command.Kind.{Kind}
use Rattle.nr_model.specs.declared.command.Kind.TheVariants.{Channels, Patterns}
use Rattle.nr_model.specs.Names.{Held, holding_none, held, with_held, without_name, how_many_held}
use Rattle.nr_model.specs.Items.{Connection, connection_cmp}
use Rattle.nr_model.specs.Servers.{held_in, with_held_by}
use Rattle.nr_model.proofs.Subscribed.{connection_total, connection_exact}

abbrev pub Holdings : Type 0
Holdings = finmap.FinMap connection_cmp Held

no_names : (ns : List Bytes) → length ns ≡ 0 → ns ≡ []
no_names [] h = refl
no_names (n ∷ ns) h = absurd (omega arith)

none_held : (h : Held) → (how_many_held h == 0) ≡ true → h ≡ holding_none
none_held h e =
    let sum : how_many_held h ≡ 0 = (unsigned_Decides (how_many_held h) 0).0 e in
    λ i. record { channels = no_names h.channels (omega (arith, sum)) i; patterns = no_names h.patterns (omega (arith, sum)) i }

-- what is remembered of a connection that holds this
abbrev remembered : Held → Option Held
remembered h = cond (how_many_held h == 0) None (Some h)

remembered-is : (h : Held) → unwrap_or (remembered h) holding_none ≡ h
remembered-is h =
    elim (how_many_held h == 0) as (λ b. (how_many_held h == 0) ≡ b → unwrap_or (cond b None (Some h)) holding_none ≡ h) [
      | true ↦ λ e. sym (none_held h e)
      | false ↦ λ e. refl
    ] refl

get-changed : (all : Holdings) (c : Connection) (h : Held) (q : Connection)
    → finmap.get (with_held_by all c h) q ≡ cond (eq_by_cmp connection_cmp q c) (remembered h) (finmap.get all q)
get-changed all c h q =
    elim (how_many_held h == 0) as (λ b. finmap.get (cond b (finmap.remove all c) (finmap.insert all c h)) q
    ≡ cond (eq_by_cmp connection_cmp q c) (cond b None (Some h)) (finmap.get all q)) [
      | true ↦ finmap.get-remove connection_total all c q
      | false ↦ finmap.get-insert connection_total all c h q
    ]

-- what it holds behind a change
pub held-changed : (all : Holdings) (c : Connection) (h : Held) → held_in (with_held_by all c h) c ≡ h
held-changed all c h =
    ap (λ o. unwrap_or o holding_none)
    (get-changed all c h c ∙ ap (λ b. cond b (remembered h) (finmap.get all c)) ((eq_by_cmp_equiv connection_total).refl c))
    ∙ remembered-is h

twice : {A : Type 0} (b : Bool) (x y z : A) → cond b x (cond b y z) ≡ cond b x z
twice true x y z = refl
twice false x y z = refl

-- the second of two changes counts
pub changed_again : (all : Holdings) (c : Connection) (a b : Held) → with_held_by (with_held_by all c a) c b ≡ with_held_by all c b
changed_again all c a b =
    finmap.same_map connection_total connection_exact (with_held_by (with_held_by all c a) c b) (with_held_by all c b) (λ q.
    get-changed (with_held_by all c a) c b q ∙ ap (cond (eq_by_cmp connection_cmp q c) (remembered b)) (get-changed all c a q)
    ∙ twice (eq_by_cmp connection_cmp q c) (remembered b) (remembered a) (finmap.get all q) ∙ sym (get-changed all c b q))

-- what is held of a kind
pub held_with : (kind : Kind) (ns : List Bytes) (h : Held) → held kind (with_held kind ns h) ≡ ns
held_with Channels ns h = refl
held_with Patterns ns h = refl

pub none_left : (kind : Kind) (h : Held) → held kind h ≡ [] → with_held kind [] h ≡ h
none_left Channels h none = λ i. record { channels = sym none i; patterns = h.patterns }
none_left Patterns h none = λ i. record { channels = h.channels; patterns = sym none i }

pub cleared_again : (kind : Kind) (ns : List Bytes) (h : Held) → with_held kind [] (with_held kind ns h) ≡ with_held kind [] h
cleared_again Channels ns h = refl
cleared_again Patterns ns h = refl

-- the first of ordered names, and what is left without it
others_stay : (name : Bytes) (rest : List Bytes) → AllByRecursion (λ y. byte_cmp name y ≡ Less) rest → without_name rest name ≡ rest
others_stay name [] above = refl
others_stay name (y ∷ ys) above =
    let other : bytes_eq y name ≡ false = texts_ties y name ∙ (eq_by_cmp_equiv nat_list_cmp_total).symm y name ∙ ap is_eq above.0 in
    ap (λ b. cond (not b) (y ∷ without_name ys name) (without_name ys name)) other ∙ ap (λ (ns : List Bytes). y ∷ ns) (others_stay name ys above.1)

pub first_removed : (name : Bytes) (rest : List Bytes) → IsStrictlySortedBy byte_cmp (name ∷ rest) → without_name (name ∷ rest) name ≡ rest
unfolding IsStrictlySortedBy
first_removed name rest rises =
    let same : bytes_eq name name ≡ true = texts_ties name name ∙ (eq_by_cmp_equiv nat_list_cmp_total).refl name in
    ap (λ b. cond (not b) (name ∷ without_name rest name) (without_name rest name)) same ∙ others_stay name rest rises.0

pub no_first : (ns : List Bytes) → slice_get ns 0 ≡ None → ns ≡ []
no_first [] e = refl
no_first (n ∷ ns) e = absurd (cc)

pub first_is : (ns : List Bytes) (name : Bytes) → Some name ≡ slice_get ns 0 → ns ≡ name ∷ drop 1 ns
first_is [] name e = absurd (cc)
first_is (n ∷ ns) name e = let same : n ≡ name = cc in ap (λ (m : Bytes). m ∷ ns) same

pub no_name : {A : Type 0} (now : A → Bytes) (ns : List Bytes) (first : Option A) → is_some first ≡ false → option_map now first ≡ slice_get ns 0 → ns ≡ []
no_name now ns None none is = no_first ns (sym is)
no_name now ns (Some x) none is = absurd (cc)
