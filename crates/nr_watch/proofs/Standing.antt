-- Who stands at a name after a change there.
use Rattle.std.proofs.Common.{◌≡◌, Bool, true, false, cond, not, Option, Some, None, List, [], ◌∷◌, ◌++◌, refl, ap, sym, ◌∙◌, Result, Ok, Err, OnOk, OnErr, length, arith}
use Rattle.std.specs.Prelude.{◌&&◌, ◌||◌, bytes_eq}
use Rattle.std.specs.List.{list_any}
use Rattle.std.specs.Ordering.{eq_by_cmp}
use Rattle.std.specs.Cmp.{eq_by_cmp_equiv}
use Rattle.std.specs.Cmp.Lexicographic.{nat_list_cmp_total, nat_list_eq_equiv, texts_ties}
use Rattle.std.specs.Map.{lookup, KeepsOthers}
use Rattle.std.specs.BTreeSet.{BTreeSet}
use Rattle.std.proofs.lemmas.Map.Lookups.{exact_bytes}
use Rattle.nr_model.specs.Bytes.{Bytes}
use Rattle.nr_model.specs.Keyspace.{byte_cmp}
use Rattle.nr_model.specs.Items.{Connection, connection_cmp}
use Rattle.nr_model.specs.Servers.{Watch}
use Rattle.nr_model.proofs.Subscribed.{connection_total}
use Rattle.std.proofs.lemmas.List.Folds.{list_any-append}
use Rattle.nr_model.proofs.Ordered.{or_false}
use Rattle.nr_entry.specs.declared.conn.ConnId.{ConnId}
use Rattle.nr_entry.specs.Jobs.{connection_of}
use Rattle.nr_watch.specs.Kept.{Index, is_conn, is_among, is_name, has_one, has_somebody, stands, names_one, IsAdded, IsTakenOut, IsAsBefore, IsHeld}
use Rattle.nr_watch.proofs.Found.{changed, is_the_name}

abbrev pub same_name : Bytes → Bytes → Bool
same_name a b = eq_by_cmp byte_cmp a b

-- a connection with the same name as one of the code
abbrev pub conn_of : Connection → ConnId
conn_of c = record { node = c.node; serial = c.serial }

pub is_conn_back : (c : Connection) (conn : ConnId) → eq_by_cmp connection_cmp (connection_of conn) c ≡ is_conn c conn
is_conn_back c conn = (eq_by_cmp_equiv connection_total).symm (connection_of conn) c

pub is_conn_itself : (conn : ConnId) → is_conn (connection_of conn) conn ≡ true
is_conn_itself conn = (eq_by_cmp_equiv connection_total).refl (connection_of conn)

pub put_at : (old new : Index) (name : Bytes) (w : Option (BTreeSet ConnId)) → lookup (is_name name) new ≡ w
    → KeepsOthers same_name (is_name name) old new
    → (other : Bytes) (c : Connection) → stands new other c ≡ cond (eq_by_cmp byte_cmp other name) (is_among c w) (stands old other c)
put_at old new name w at_name others other c =
    ap (is_among c) (changed byte_cmp nat_list_cmp_total exact_bytes (λ (k : Bytes). k) old new name w at_name others other)
    ∙ elim (eq_by_cmp byte_cmp other name) as
    (λ b. is_among c (cond b w (lookup (is_name other) old)) ≡ cond b (is_among c w) (stands old other c)) [ true ↦ refl | false ↦ refl ]

-- a set with one connection more, and with one less
pub more : (b old : Bool) → cond b true old ≡ (b || old)
more true old = refl
more false old = refl

pub less : (b old : Bool) → cond b false old ≡ (not b && old)
less true old = refl
less false old = refl

pub more_conns : (old new : BTreeSet ConnId) (conn : ConnId)
    → ((q : ConnId) → list_any (is_conn (connection_of q)) new.keys
    ≡ cond (eq_by_cmp connection_cmp (connection_of conn) (connection_of q)) true (list_any (is_conn (connection_of q)) old.keys))
    → (c : Connection) → list_any (is_conn c) new.keys ≡ (is_conn c conn || list_any (is_conn c) old.keys)
more_conns old new conn updates c =
    updates (conn_of c) ∙ ap (λ b. cond b true (list_any (is_conn c) old.keys)) (is_conn_back c conn) ∙ more (is_conn c conn) (list_any (is_conn c) old.keys)

pub fewer_conns : (old new : BTreeSet ConnId) (conn : ConnId)
    → ((q : ConnId) → list_any (is_conn (connection_of q)) new.keys
    ≡ cond (eq_by_cmp connection_cmp (connection_of conn) (connection_of q)) false (list_any (is_conn (connection_of q)) old.keys))
    → (c : Connection) → list_any (is_conn c) new.keys ≡ (not (is_conn c conn) && list_any (is_conn c) old.keys)
fewer_conns old new conn updates c =
    updates (conn_of c) ∙ ap (λ b. cond b false (list_any (is_conn c) old.keys)) (is_conn_back c conn) ∙ less (is_conn c conn) (list_any (is_conn c) old.keys)

-- what holds whatever came, holds where memory ran out
pub on_err : {A E P : Type 0} (result : Result A E) → P → OnErr result P
on_err (Ok x) holds = tt
on_err (Err e) holds = holds

-- what follows from success and from failure
pub either : {A E P Q G : Type 0} (result : Result A E) → OnOk result P → OnErr result Q → (P → G) → (Q → G) → G
either (Ok x) ok err then failed = then ok
either (Err e) ok err then failed = failed err

module _ (old new : Index) (name : Bytes) (conn : ConnId) (found w : Option (BTreeSet ConnId)) (was : found ≡ lookup (is_name name) old)
    (at_name : lookup (is_name name) new ≡ w) (others : KeepsOthers same_name (is_name name) old new) where
  found_at : (other : Bytes) (c : Connection) → eq_by_cmp byte_cmp other name ≡ true → is_among c found ≡ stands old other c
  found_at other c here = ap (is_among c) was ∙ ap (λ n. stands old n c) (sym (is_the_name other name here))

  pub added : ((c : Connection) → is_among c w ≡ (is_conn c conn || is_among c found)) → IsAdded (λ other. eq_by_cmp byte_cmp other name) conn old new
  added known = record {
    at = λ other c. put_at old new name w at_name others other c
        ∙ elim (eq_by_cmp byte_cmp other name) as
        (λ b. eq_by_cmp byte_cmp other name ≡ b → cond b (is_among c w) (stands old other c) ≡ ((b && is_conn c conn) || stands old other c)) [
          | true ↦ λ here. known c ∙ ap (λ b. is_conn c conn || b) (found_at other c here)
          | false ↦ λ _. refl
        ] refl;
  }

  pub taken_out : ((c : Connection) → is_among c w ≡ (not (is_conn c conn) && is_among c found))
      → IsTakenOut (λ other. eq_by_cmp byte_cmp other name) conn old new
  taken_out known = record {
    at = λ other c. put_at old new name w at_name others other c
        ∙ elim (eq_by_cmp byte_cmp other name) as
        (λ b. eq_by_cmp byte_cmp other name ≡ b → cond b (is_among c w) (stands old other c) ≡ (not (b && is_conn c conn) && stands old other c)) [
          | true ↦ λ here. known c ∙ ap (λ b. not (is_conn c conn) && b) (found_at other c here)
          | false ↦ λ _. refl
        ] refl;
  }

  pub as_before : ((c : Connection) → is_among c w ≡ is_among c found) → IsAsBefore old new
  as_before known = record {
    at = λ other c. put_at old new name w at_name others other c
        ∙ elim (eq_by_cmp byte_cmp other name) as
        (λ b. eq_by_cmp byte_cmp other name ≡ b → cond b (is_among c w) (stands old other c) ≡ stands old other c) [
          | true ↦ λ here. known c ∙ found_at other c here
          | false ↦ λ _. refl
        ] refl;
  }

no_more : (b : Bool) → (not b && false) ≡ false
no_more true = refl
no_more false = refl

-- nobody stands at the name
pub none_taken : (old : Index) (name : Bytes) (conn : ConnId) → None ≡ lookup (is_name name) old
    → IsTakenOut (λ other. eq_by_cmp byte_cmp other name) conn old old
none_taken old name conn none = record {
  at = λ other c. elim (eq_by_cmp byte_cmp other name) as
      (λ b. eq_by_cmp byte_cmp other name ≡ b → stands old other c ≡ (not (b && is_conn c conn) && stands old other c)) [
        | true ↦ λ here.
            let nobody : stands old other c ≡ false = ap (λ n. stands old n c) (is_the_name other name here) ∙ ap (is_among c) (sym none) in
            nobody ∙ sym (ap (λ b. not (is_conn c conn) && b) nobody ∙ no_more (is_conn c conn))
        | false ↦ λ _. refl
      ] refl;
}

-- the last one goes, and then the name
pub emptied : (old less new : Index) (name : Bytes) (conn : ConnId) → IsTakenOut (λ other. eq_by_cmp byte_cmp other name) conn old less
    → (left : BTreeSet ConnId) → left.keys ≡ [] → lookup (is_name name) less ≡ Some left
    → lookup (is_name name) new ≡ None → KeepsOthers same_name (is_name name) less new
    → IsTakenOut (λ other. eq_by_cmp byte_cmp other name) conn old new
emptied old less new name conn taken left none had gone others = record {
  at = λ other c. put_at less new name None gone others other c
      ∙ elim (eq_by_cmp byte_cmp other name) as
      (λ b. eq_by_cmp byte_cmp other name ≡ b → cond b false (stands less other c) ≡ stands less other c) [
        | true ↦ λ here. sym (ap (λ n. stands less n c) (is_the_name other name here) ∙ ap (is_among c) had ∙ ap (list_any (is_conn c)) none)
        | false ↦ λ _. refl
      ] refl
      ∙ taken.at other c;
}

-- somebody still stands at each name, after a change at one of them
has_one-any : (test : ConnId → Bool) (conns : List ConnId) → list_any test conns ≡ true → has_one conns ≡ true
has_one-any test [] any = absurd (cc any)
has_one-any test (conn ∷ conns) any = refl

pub has_one-more : (old new : BTreeSet ConnId) (conn : ConnId) → ((c : Connection) → list_any (is_conn c) new.keys ≡ (is_conn c conn || list_any (is_conn c) old.keys))
    → has_one new.keys ≡ true
has_one-more old new conn more =
    let c = connection_of conn in
    has_one-any (is_conn c) new.keys (more c ∙ ap (λ b. b || list_any (is_conn c) old.keys) (is_conn_itself conn))

pub has_one-left : (conns : List ConnId) → (length conns ≡ 0 → ⊥) → has_one conns ≡ true
has_one-left [] left = absurd (left refl)
has_one-left (conn ∷ conns) left = refl

found_in : (old new : Index) (name : Bytes) (w : Option (BTreeSet ConnId)) → lookup (is_name name) new ≡ w
    → KeepsOthers same_name (is_name name) old new
    → (n : Bytes) → lookup (is_name n) new ≡ cond (eq_by_cmp byte_cmp n name) w (lookup (is_name n) old)
found_in old new name w at_name others n =
    changed byte_cmp nat_list_cmp_total exact_bytes (λ (k : Bytes). k) old new name w at_name others n

pub still_held : (old new : Index) (name : Bytes) (w : Option (BTreeSet ConnId)) → IsHeld old → lookup (is_name name) new ≡ w
    → KeepsOthers same_name (is_name name) old new → has_somebody w ≡ true → IsHeld new
still_held old new name w held at_name others some n =
    ap has_somebody (found_in old new name w at_name others n)
    ∙ elim (eq_by_cmp byte_cmp n name) as (λ b. has_somebody (cond b w (lookup (is_name n) old)) ≡ true) [ true ↦ some | false ↦ held n ]

-- where the last one went, and then the name
pub emptied_held : (old less new : Index) (name : Bytes) (left : Option (BTreeSet ConnId)) → IsHeld old → lookup (is_name name) less ≡ left
    → KeepsOthers same_name (is_name name) old less → lookup (is_name name) new ≡ None → KeepsOthers same_name (is_name name) less new → IsHeld new
emptied_held old less new name left held had others gone others' n =
    ap has_somebody (found_in less new name None gone others' n
    ∙ ap (cond (eq_by_cmp byte_cmp n name) None) (found_in old less name left had others n))
    ∙ elim (eq_by_cmp byte_cmp n name) as (λ b. has_somebody (cond b None (cond b left (lookup (is_name n) old))) ≡ true) [ true ↦ refl | false ↦ held n ]

-- one name more
names-push : (name : Bytes) (done more : List Watch) (watch : Watch) → more ≡ done ++ watch ∷ []
    → names_one name more ≡ (names_one name done || eq_by_cmp byte_cmp name watch.key.name)
names-push name done more watch is =
    ap (names_one name) is ∙ list_any-append (λ w. bytes_eq w.key.name name) done (watch ∷ [])
    ∙ ap (λ b. names_one name done || b)
    (or_false (bytes_eq watch.key.name name) ∙ nat_list_eq_equiv.symm watch.key.name name ∙ texts_ties name watch.key.name)

both_added : (a b own old : Bool) → ((b && own) || ((a && own) || old)) ≡ (((a || b) && own) || old)
both_added true true true old = refl
both_added true true false old = refl
both_added true false own old = refl
both_added false b own old = refl

both_taken : (a b own old : Bool) → (not (b && own) && (not (a && own) && old)) ≡ (not ((a || b) && own) && old)
both_taken true true true old = refl
both_taken true true false old = refl
both_taken true false own old = refl
both_taken false b own old = refl

pub added_more : (conn : ConnId) (old now after : Index) (done more : List Watch) (watch : Watch) (name : Bytes) → more ≡ done ++ watch ∷ []
    → name ≡ watch.key.name → IsAdded (λ n. names_one n done) conn old now → IsAdded (λ n. eq_by_cmp byte_cmp n name) conn now after
    → IsAdded (λ n. names_one n more) conn old after
added_more conn old now after done more watch name is named so_far added = record {
  at = λ n c. added.at n c
      ∙ (λ i. (eq_by_cmp byte_cmp n (named i) && is_conn c conn) || so_far.at n c i)
      ∙ both_added (names_one n done) (eq_by_cmp byte_cmp n watch.key.name) (is_conn c conn) (stands old n c)
      ∙ ap (λ b. (b && is_conn c conn) || stands old n c) (sym (names-push n done more watch is));
}

pub taken_more : (conn : ConnId) (old now after : Index) (done more : List Watch) (watch : Watch) (name : Bytes) → more ≡ done ++ watch ∷ []
    → name ≡ watch.key.name → IsTakenOut (λ n. names_one n done) conn old now → IsTakenOut (λ n. eq_by_cmp byte_cmp n name) conn now after
    → IsTakenOut (λ n. names_one n more) conn old after
taken_more conn old now after done more watch name is named so_far taken = record {
  at = λ n c. taken.at n c
      ∙ (λ i. not (eq_by_cmp byte_cmp n (named i) && is_conn c conn) && so_far.at n c i)
      ∙ both_taken (names_one n done) (eq_by_cmp byte_cmp n watch.key.name) (is_conn c conn) (stands old n c)
      ∙ ap (λ b. not (b && is_conn c conn) && stands old n c) (sym (names-push n done more watch is));
}

pub no_items : {A : Type 0} (xs : List A) → length xs ≡ 0 → xs ≡ []
no_items [] none = refl
no_items (x ∷ xs) none = absurd (omega arith)
