-- A copy by one insertion after another.
use Rattle.std.proofs.Common.{◌≡◌, Bool, true, false, cond, Option, Some, None, [], ◌∷◌, refl, ap, sym, ◌∙◌, true≢false}
use Rattle.std.specs.Prelude.{◌&&◌, ◌||◌, is_some}
use Rattle.std.specs.declared.cmp.Ordering.{Ordering}
use Rattle.std.specs.Option.{option_or}
use Rattle.std.specs.List.{IsDistinct}
use Rattle.std.specs.Map.{keys_of}
use Rattle.std.specs.Ordering.{eq_by_cmp}
use Rattle.std.specs.Cmp.{IsEquivalence, eq_by_cmp_equiv}
use Rattle.std.proofs.lemmas.Cmp.{on_total}
use Rattle.std.proofs.lemmas.Map.{lookup-none}
use Rattle.std.proofs.lemmas.Map.Entries.{none_past_head}
use Rattle.std.proofs.lemmas.Map.Keys.{IsDistinct-tail}
use Rattle.nr_model.specs.Bytes.{Bytes}
use Rattle.nr_model.specs.Items.{Connection, connection_cmp}
use Rattle.nr_model.proofs.Subscribed.{connection_total}
use Rattle.nr_entry.specs.declared.conn.ConnId.{ConnId}
use Rattle.nr_entry.specs.Jobs.{connection_of}
use Rattle.nr_watch.specs.Kept.{Watcher, Kept, Index, is_conn, kept_at, watches_at, stands, names_one, IsPut, IsAdded, IsIndexed}
use Rattle.nr_watch.proofs.Found.{is_the_conn}
use Rattle.nr_watch.proofs.Standing.{is_conn_itself}

abbrev pub conn_cmp : ConnId → ConnId → Ordering
conn_cmp a b = connection_cmp (connection_of a) (connection_of b)

abbrev pub same_conn : ConnId → ConnId → Bool
same_conn a b = eq_by_cmp conn_cmp a b

-- what is copied and what is left are all, and nobody is among both
pub record IsCopied (all copy left : Kept) : Type 0 where
  pub distinct : IsDistinct same_conn (keys_of left)
  pub apart : (c : Connection) → is_some (kept_at c left) ≡ true → kept_at c copy ≡ None
  pub found : (c : Connection) → option_or (kept_at c left) (kept_at c copy) ≡ kept_at c all

same_conn_laws : IsEquivalence same_conn
same_conn_laws = eq_by_cmp_equiv (on_total connection_of connection_total)

or_none : {A : Type 0} (o : Option A) → option_or o None ≡ o
or_none None = refl
or_none (Some x) = refl

pub copied_none : (all : Kept) → IsDistinct same_conn (keys_of all) → IsCopied all [] all
copied_none all distinct = record {
  distinct = distinct;
  apart = λ c _. refl;
  found = λ c. or_none (kept_at c all);
}

only_once : (e : ConnId × Watcher) (left : Kept) → IsDistinct same_conn (keys_of (e ∷ left)) → (c : Connection) → is_conn c e.0 ≡ true
    → kept_at c left ≡ None
only_once e left distinct c here =
    ap (λ d. kept_at d left) (is_the_conn c e.0 here)
    ∙ lookup-none (same_conn e.0) left (none_past_head same_conn_laws e.0 e left distinct (same_conn_laws.refl e.0))

next_copied : (b : Bool) (w : Watcher) (left copy : Option Watcher) → (b ≡ true → left ≡ None)
    → option_or left (cond b (Some w) copy) ≡ option_or (cond b (Some w) left) copy
next_copied true w left copy once = ap (λ (o : Option Watcher). option_or o (Some w)) (once refl)
next_copied false w left copy once = refl

some_behind : (b : Bool) (w : Watcher) (left : Option Watcher) → is_some left ≡ true → is_some (cond b (Some w) left) ≡ true
some_behind true w left holds = refl
some_behind false w left holds = holds

-- the next one isn't copied yet
pub not_yet : (all copy : Kept) (conn : ConnId) (w : Watcher) (left : Kept) → IsCopied all copy ((conn, w) ∷ left)
    → kept_at (connection_of conn) copy ≡ None
not_yet all copy conn w left so_far =
    so_far.apart (connection_of conn) (ap (λ b. is_some (cond b (Some w) (kept_at (connection_of conn) left))) (is_conn_itself conn))

pub copied_more : (all copy new : Kept) (conn : ConnId) (w : Watcher) (left : Kept) → IsCopied all copy ((conn, w) ∷ left) → IsPut conn (Some w) copy new
    → IsCopied all new left
copied_more all copy new conn w left so_far put = record {
  distinct = IsDistinct-tail same_conn conn (keys_of left) so_far.distinct;
  apart = λ c is_left.
      put.at c
      ∙ elim (is_conn c conn) as (λ b. is_conn c conn ≡ b → cond b (Some w) (kept_at c copy) ≡ None) [
        | true ↦ λ here. absurd (true≢false (sym is_left ∙ ap (λ (o : Option Watcher). is_some o) (only_once (conn, w) left so_far.distinct c here)))
        | false ↦ λ _. so_far.apart c (some_behind (is_conn c conn) w (kept_at c left) is_left)
      ] refl;
  found = λ c.
      ap (option_or (kept_at c left)) (put.at c)
      ∙ next_copied (is_conn c conn) w (kept_at c left) (kept_at c copy) (only_once (conn, w) left so_far.distinct c)
      ∙ so_far.found c;
}

pub copied_all : (all copy : Kept) → IsCopied all copy [] → (c : Connection) → kept_at c copy ≡ kept_at c all
copied_all all copy whole c = whole.found c

pub none_indexed : (index : Index) → ((name : Bytes) (c : Connection) → stands index name c ≡ false) → IsIndexed [] index
none_indexed index none = record { at = λ c name. none name c }

with_own : (a b : Bool) → b ≡ false → ((a && true) || b) ≡ a
with_own true b none = refl
with_own false b none = none

without : (a b : Bool) → ((a && false) || b) ≡ b
without true b = refl
without false b = refl

pub copy_indexed : (copy new : Kept) (before after : Index) (conn : ConnId) (w : Watcher) → IsIndexed copy before
    → kept_at (connection_of conn) copy ≡ None → IsPut conn (Some w) copy new
    → IsAdded (λ name. names_one name w.watches) conn before after → IsIndexed new after
copy_indexed copy new before after conn w indexed fresh put added = record {
  at = λ c name. added.at name c
      ∙ elim (is_conn c conn) as (λ b. is_conn c conn ≡ b
      → ((names_one name w.watches && b) || stands before name c) ≡ names_one name (watches_at (cond b (Some w) (kept_at c copy)))) [
        | true ↦ λ here. with_own (names_one name w.watches) (stands before name c)
            (ap (stands before name) (is_the_conn c conn here) ∙ indexed.at (connection_of conn) name
            ∙ ap (λ o. names_one name (watches_at o)) fresh)
        | false ↦ λ _. without (names_one name w.watches) (stands before name c) ∙ indexed.at c name
      ] refl
      ∙ ap (λ o. names_one name (watches_at o)) (sym (put.at c));
}
