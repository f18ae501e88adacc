-- Marks at the connections that stand at a name.
use Rattle.std.proofs.Common.{◌≡◌, Bool, true, false, cond, Option, Some, None, List, [], ◌∷◌, refl, ap, sym, ◌∙◌, true≢false}
use Rattle.std.specs.Prelude.{◌&&◌, ◌||◌, bytes_eq, ◌==◌}
use Rattle.std.specs.Option.{option_map}
use Rattle.std.specs.List.{list_any}
use Rattle.nr_model.specs.Keyspace.{Key}
use Rattle.nr_model.specs.Items.{Connection}
use Rattle.nr_model.specs.Sequential.Watches.{same_key}
use Rattle.nr_model.specs.Servers.{Watch}
use Rattle.nr_model.proofs.Ordered.{or_false}
use Rattle.nr_entry.specs.declared.conn.ConnId.{ConnId}
use Rattle.nr_entry.specs.Jobs.{connection_of}
use Rattle.nr_watch.specs.Watching.{touched_at}
use Rattle.nr_watch.specs.Kept.{Watcher, marked_at, Kept, Index, is_conn, kept_at, watches_at, watching_of, stands, names_one, IsMarked, IsIndexed}
use Rattle.nr_watch.proofs.Found.{is_the_conn}
use Rattle.nr_watch.proofs.Touching.{touched_seen}

abbrev marks : Key → Option Watcher → Option Watcher
marks key o = option_map (marked_at key) o

-- one was found, and is marked
pub one_marked : (key : Key) (conn : ConnId) (old new : Kept) (found : Watcher) → Some found ≡ kept_at (connection_of conn) old
    → ((c : Connection) → kept_at c new ≡ cond (is_conn c conn) (Some (marked_at key found)) (kept_at c old))
    → IsMarked key (λ c. is_conn c conn) old new
one_marked key conn old new found was at = record {
  at = λ c. at c ∙ elim (is_conn c conn) as
      (λ b. is_conn c conn ≡ b → cond b (Some (marked_at key found)) (kept_at c old) ≡ cond b (marks key (kept_at c old)) (kept_at c old)) [
        | true ↦ λ here. ap (marks key) (was ∙ ap (λ d. kept_at d old) (sym (is_the_conn c conn here)))
        | false ↦ λ _. refl
      ] refl;
}

-- those that are left, marked too, make all
pub record IsMarking (key : Key) (all left : List ConnId) (old now : Kept) : Type 0 where
  pub at : (c : Connection) → cond (list_any (is_conn c) left) (marks key (kept_at c now)) (kept_at c now)
      ≡ cond (list_any (is_conn c) all) (marks key (kept_at c old)) (kept_at c old)

-- who doesn't stand at the key's name doesn't watch it
and_false : (a b : Bool) → b ≡ false → (a && b) ≡ false
and_false true b none = none
and_false false b none = refl

or_left : (a b : Bool) → (a || b) ≡ false → a ≡ false
or_left true b none = none
or_left false b none = refl

or_right : (a b : Bool) → (a || b) ≡ false → b ≡ false
or_right true b none = absurd (true≢false none)
or_right false b none = none

not_hit : (key : Key) (watches : List Watch) → names_one key.name watches ≡ false → list_any (λ w. same_key w.key key) watches ≡ false
not_hit key [] none = refl
not_hit key (w ∷ watches) none =
    let named = bytes_eq w.key.name key.name in
    ap (λ b. b || list_any (λ v. same_key v.key key) watches)
    (and_false (w.key.database == key.database) named (or_left named (names_one key.name watches) none))
    ∙ not_hit key watches (or_right named (names_one key.name watches) none)

unmarked : (key : Key) (o : Option Watcher) → names_one key.name (watches_at o) ≡ false → marks key o ≡ o
unmarked key None none = refl
unmarked key (Some w) none =
    λ i. Some (record { watches = w.watches; touched = (ap (λ b. w.touched || b) (not_hit key w.watches none) ∙ or_false w.touched) i })

unnamed : (kept : Kept) (index : Index) → IsIndexed kept index → (key : Key) (c : Connection) → stands index key.name c ≡ false
    → marks key (kept_at c kept) ≡ kept_at c kept
unnamed kept index indexed key c apart = unmarked key (kept_at c kept) (sym (indexed.at c key.name) ∙ apart)

-- a touch marks those that stand at the name
pub touch_seen : (old new : Kept) (index : Index) (key : Key) → IsIndexed old index → (among : Connection → Bool)
    → ((c : Connection) → among c ≡ stands index key.name c) → IsMarked key among old new → watching_of new ≡ touched_at (watching_of old) key
touch_seen old new index key indexed among is marked = touched_seen old new key (λ c.
    marked.at c ∙ elim (among c) as (λ b. among c ≡ b → cond b (marks key (kept_at c old)) (kept_at c old) ≡ marks key (kept_at c old)) [
      | true ↦ λ _. refl
      | false ↦ λ apart. sym (unnamed old index indexed key c (sym (is c) ∙ apart))
    ] refl)

-- nobody stands at the name
pub untouched : (kept : Kept) (index : Index) (key : Key) → IsIndexed kept index → ((c : Connection) → false ≡ stands index key.name c)
    → watching_of kept ≡ touched_at (watching_of kept) key
untouched kept index key indexed none = touched_seen kept kept key (λ c. sym (unnamed kept index indexed key c (sym (none c))))
