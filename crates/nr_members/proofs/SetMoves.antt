-- A member that goes from one set to another.
use Rattle.std.proofs.Common.{◌≡◌, ℕ, ◌+◌, ◌-◌, Bool, true, false, cond, List, [], ◌∷◌, refl, ap, sym, ◌∙◌, subst, arith}
use Rattle.std.specs.Prelude.{Option, Some, None, Result, Ok, Err, IfErr, ℤ, pos, fold, bytes_eq}
use Rattle.std.specs.declared.cmp.Ordering.{Ordering}
use Rattle.std.specs.declared.cmp.Ordering.TheVariants.{Less, Equal, Greater}
use Rattle.std.specs.Ordering.{is_eq, eq_by_cmp, nat_cmp, ordering_then}
use Rattle.std.specs.Cmp.{eq_by_cmp_equiv}
use Rattle.std.specs.Cmp.Lexicographic.{nat_list_cmp_total}
use Rattle.std.specs.Result.{IsErr}
use Rattle.std.specs.FinMap as map
use Rattle.std.specs.FinSet as set
use Rattle.std.proofs.lemmas.Map.Text.{is_eq-slice_cmp}
use Rattle.nr_model.specs.Bytes.{Bytes}
use Rattle.nr_model.specs.Sets as model
use Rattle.nr_model.specs.Keyspace.{Key, key_of, key_cmp, byte_cmp, Keyspace, Stored, Value, Members, live, only_live, is_live_at}
use Rattle.nr_model.specs.Replies.{Reply, Int, Error}
use Rattle.nr_model.specs.Commands.Texts.{refusal_text}
use Rattle.nr_model.specs.Commands.Shape.{Effect, Done, performed, unchanged, staying}
use Rattle.nr_model.specs.Commands.Reading.{Read}
use Rattle.nr_model.specs.Commands.Held.{members_of, held_as, members_at, deadline_of, is_emptied, kept_under}
use Rattle.nr_model.specs.Commands.Sets as sets
use Rattle.nr_model.proofs.Live.{key_total, get-live}
use Rattle.nr_keyspace.proofs.Orders.{key_exact}
use Rattle.nr_keyspace.proofs.Live.{live_remove}
use Rattle.nr_keyspace.specs.Touched.{Touches}
use Rattle.nr_resp.specs.declared.reply.Reply as code
use Rattle.nr_resp.specs.declared.failure.Failure.{Failure}
use Rattle.nr_resp.specs.declared.failure.Failure.TheVariants as failures
use Rattle.nr_resp.specs.Failures.{IfRefused}
use Rattle.nr_resp.specs.Done.{IsDone, Performs}
use Rattle.nr_members.specs.Changed.{IsChanged}

is_eq_then : (r x : Ordering) → is_eq x ≡ false → is_eq (ordering_then r x) ≡ false
is_eq_then Less x h = refl
is_eq_then Equal x h = h
is_eq_then Greater x h = refl

-- a key of another name
other_key : (database : ℕ) (a b : Bytes) → bytes_eq a b ≡ false → eq_by_cmp key_cmp (key_of database b) (key_of database a) ≡ false
other_key database a b apart = is_eq_then (nat_cmp database database) (byte_cmp b a) ((eq_by_cmp_equiv nat_list_cmp_total).symm b a ∙ is_eq-slice_cmp a b ∙ apart)

other_kept : (emptied : Bool) (m : Keyspace) (key q : Key) (stored : Stored) → eq_by_cmp key_cmp q key ≡ false
    → map.get (cond emptied (map.remove m key) (map.insert m key stored)) q ≡ map.get m q
other_kept true m key q stored apart = map.get-remove key_total m key q ∙ ap (λ b. cond b None (map.get m q)) apart
other_kept false m key q stored apart = map.get-insert key_total m key stored q ∙ ap (λ b. cond b (Some stored) (map.get m q)) apart

-- holds what it held
pub members_of_other : (old between : Keyspace) (database : ℕ) (source target : Bytes) (value : Value) → bytes_eq source target ≡ false
    → between ≡ kept_under old (key_of database source) value → members_at between database target ≡ members_at old database target
members_of_other old between database source target value apart is =
    let key = key_of database source in
    ap (λ (m : Keyspace). members_at m database target) is
    ∙ ap (held_as members_of) (other_kept (is_emptied value) old key (key_of database target) (record { value = value; deadline = deadline_of (map.get old key) }) (other_key database source target apart))

stays : (now : ℕ) (b : Bool) (stored : Stored) (held : Option Stored) → is_live_at now stored.deadline ≡ true → only_live now held ≡ held
    → only_live now (cond b (Some stored) held) ≡ cond b (Some stored) held
stays now true stored held lives same = ap (λ b. cond b (Some stored) None) lives
stays now false stored held lives same = same

held_live : (now : ℕ) (held : Option Stored) → only_live now held ≡ held → is_live_at now (deadline_of held) ≡ true
held_live now None same = refl
held_live now (Some stored) same =
    elim (is_live_at now stored.deadline) as (λ b. cond b (Some stored) None ≡ Some stored → b ≡ true) [
      | true ↦ λ _. refl
      | false ↦ λ never. absurd (let none : ◌≡◌ {A = Option Stored} None (Some stored) = never in cc none)
    ] same

live_here : (m : Keyspace) (now : ℕ) (q : Key) → live m now ≡ m → only_live now (map.get m q) ≡ map.get m q
live_here m now q is = sym (get-live m now q) ∙ ap (λ n. map.get n q) is

live_as : (emptied : Bool) (m : Keyspace) (now : ℕ) (key : Key) (stored : Stored) → live m now ≡ m → is_live_at now stored.deadline ≡ true
    → live (cond emptied (map.remove m key) (map.insert m key stored)) now ≡ cond emptied (map.remove m key) (map.insert m key stored)
live_as true m now key stored is lives = live_remove m now key is
live_as false m now key stored is lives = map.same_map key_total key_exact _ _ (λ q.
    get-live (map.insert m key stored) now q
    ∙ ap (only_live now) (map.get-insert key_total m key stored q)
    ∙ stays now (eq_by_cmp key_cmp q key) stored (map.get m q) lives (live_here m now q is)
    ∙ sym (map.get-insert key_total m key stored q))

-- all keys are live still
live_kept : (m between : Keyspace) (now : ℕ) (key : Key) (value : Value) → between ≡ kept_under m key value → live m now ≡ m → live between now ≡ between
live_kept m between now key value kept is =
    subst (λ (n : Keyspace). live n now ≡ n) (sym kept)
    (live_as (is_emptied value) m now key (record { value = value; deadline = deadline_of (map.get m key) }) is (held_live now (map.get m key) (live_here m now key is)))

touched_one : (b : Bool) (key : Key) (n more : ℕ) → more ≡ cond b n (n + 1) → sets.touched_by key (more - n) ≡ cond b [] (key ∷ [])
touched_one true key n more is = ap (sets.touched_by key) (let none : more - n ≡ 0 = omega (arith, is) in none)
touched_one false key n more is = ap (sets.touched_by key) (let one : more - n ≡ 1 = omega (arith, is) in one)

-- where a set is held the command isn't refused
not_refused : (failure : Failure) (old new : Keyspace) (effect : Effect) (n : ℤ) (Q : Reply → Type 0) → effect.reply ≡ Int n
    → IfRefused failure (λ error. (effect ≡ unchanged old error) × (new ≡ old)) → IfRefused failure Q
not_refused (failures.Refused why) old new effect n Q reply refused =
    absurd (let never : Int n ≡ Error (refusal_text why) = sym reply ∙ ap (λ (e : Effect). e.reply) refused.0 in cc never)
not_refused (failures.Memory _) old new effect n Q reply refused = tt

module _ (old : Keyspace) (database : ℕ) (source member : Bytes) (held : model.Members) (at : members_at old database source ≡ Ok (Some held)) where
  is_taken : (words : List Bytes) → words ≡ member ∷ [] → sets.remove old database (source ∷ words) ≡ sets.changed old (key_of database source) (set.remove held member) (set.len held - set.len (set.remove held member))
  is_taken words is =
      ap (λ (r : Read (Option model.Members)). performed old r (sets.removed old (key_of database source) words)) at
      ∙ ap (λ words. sets.removed old (key_of database source) words (Some held)) is

  pub taken_left : (words : List Bytes) (between : Keyspace) (n : ℕ) → words ≡ member ∷ [] → IsChanged (sets.remove old database (source ∷ words)) between (key_of database source) n
      → between ≡ kept_under old (key_of database source) (Members (set.remove held member))
  taken_left words between n is changed = changed.left ∙ ap (λ (e : Effect). e.keyspace) (is_taken words is)

  pub not_taken : (words : List Bytes) (failure : Failure) (new : Keyspace) (Q : Reply → Type 0) → words ≡ member ∷ []
      → IfRefused failure (λ error. (sets.remove old database (source ∷ words) ≡ unchanged old error) × (new ≡ old)) → IfRefused failure Q
  not_taken words failure new Q is refused = not_refused failure old new _ _ Q (ap (λ (e : Effect). e.reply) (is_taken words is)) refused

live_after : (old between : Keyspace) (key : Key) (words : List Bytes) (now : ℕ) (r : Read (Option model.Members)) → live old now ≡ old
    → between ≡ (performed old r (sets.removed old key words)).keyspace → live between now ≡ between
live_after old between key words now (Ok None) lives is = subst (λ (n : Keyspace). live n now ≡ n) (sym is) lives
live_after old between key words now (Ok (Some members)) lives is = live_kept old between now key (Members (sets.without_each members words)) is lives
live_after old between key words now (Err error) lives is = subst (λ (n : Keyspace). live n now ≡ n) (sym is) lives

pub live_taken : (old between : Keyspace) (database : ℕ) (source : Bytes) (words : List Bytes) (n now : ℕ) → live old now ≡ old
    → IsChanged (sets.remove old database (source ∷ words)) between (key_of database source) n → live between now ≡ between
live_taken old between database source words n now lives changed =
    live_after old between (key_of database source) words now (members_at old database source) lives changed.left

module _ (keyspace : Keyspace) (database : ℕ) (target member : Bytes) (others : Option model.Members) (at : members_at keyspace database target ≡ Ok others) where
  is_put : (words : List Bytes) → words ≡ member ∷ [] → sets.add keyspace database (target ∷ words)
      ≡ sets.changed keyspace (key_of database target) (set.insert (sets.or_none others) member) (set.len (set.insert (sets.or_none others) member) - set.len (sets.or_none others))
  is_put words is =
      ap (λ (r : Read (Option model.Members)). performed keyspace r (sets.added keyspace (key_of database target) words)) at
      ∙ ap (λ words. sets.added keyspace (key_of database target) words others) is

  pub not_put : (words : List Bytes) (failure : Failure) (new : Keyspace) (Q : Reply → Type 0) → words ≡ member ∷ []
      → IfRefused failure (λ error. (sets.add keyspace database (target ∷ words) ≡ unchanged keyspace error) × (new ≡ keyspace)) → IfRefused failure Q
  not_put words failure new Q is refused = not_refused failure keyspace new _ _ Q (ap (λ (e : Effect). e.reply) (is_put words is)) refused

-- what a body did that ends by a failure which is no refusal
failed : {T : Type 0} (after : T → Key → T) (new : Keyspace) (database : ℕ) (told told' : T) (done : Done) (P : Reply → Type 0)
    → ((failure : Failure) → IfRefused failure P → IfRefused failure (λ error. IsDone after error new database told told' done))
    → (r : Result code.Reply Failure) → IsErr r → IfErr r (λ failure. IfRefused failure P) → Performs after r new database told told' done
failed after new database told told' done P never (Ok reply) is fails = absurd (cc is)
failed after new database told told' done P never (Err failure) is fails = never failure fails

pub failed_taken : {T : Type 0} (after : T → Key → T) (old new : Keyspace) (database : ℕ) (source member : Bytes) (words : List Bytes) (held : model.Members) (told told' : T) (done : Done) (r : Result code.Reply Failure)
    → members_at old database source ≡ Ok (Some held) → words ≡ member ∷ [] → IsErr r
    → IfErr r (λ failure. IfRefused failure (λ error. (sets.remove old database (source ∷ words) ≡ unchanged old error) × (new ≡ old)))
    → Performs after r new database told told' done
failed_taken after old new database source member words held told told' done r at one is fails =
    failed after new database told told' done _ (λ failure refused. not_taken old database source member held at words failure new _ one refused) r is fails

pub failed_put : {T : Type 0} (after : T → Key → T) (old between new : Keyspace) (database : ℕ) (source target member : Bytes) (words : List Bytes) (held : model.Members) (others : Option model.Members) (n : ℕ)
    (told told' : T) (done : Done) (r : Result code.Reply Failure) → bytes_eq source target ≡ false
    → members_at old database source ≡ Ok (Some held) → members_at old database target ≡ Ok others → words ≡ member ∷ []
    → IsChanged (sets.remove old database (source ∷ words)) between (key_of database source) n → IsErr r
    → IfErr r (λ failure. IfRefused failure (λ error. (sets.add between database (target ∷ words) ≡ unchanged between error) × (new ≡ between)))
    → Performs after r new database told told' done
failed_put after old between new database source target member words held others n told told' done r apart at_source at_target one taken is fails =
    let left = taken_left old database source member held at_source words between n one taken in
    let at = members_of_other old between database source target (Members (set.remove held member)) apart left ∙ at_target in
    failed after new database told told' done _ (λ failure refused. not_put between database target member others at words failure new _ one refused) r is fails

-- taken out of the one, and put into the other
pub carried_is : {T : Type 0} (after : T → Key → T) (old between new : Keyspace) (database : ℕ) (source target member : Bytes) (words : List Bytes) (held : model.Members) (others : Option model.Members)
    (n count : ℕ) (told told1 told2 : T) (reply : Reply) → reply ≡ Int (pos 1) → words ≡ member ∷ [] → bytes_eq source target ≡ false
    → members_at old database source ≡ Ok (Some held) → members_at old database target ≡ Ok others
    → IsChanged (sets.remove old database (source ∷ words)) between (key_of database source) n
    → IsChanged (sets.add between database (target ∷ words)) new (key_of database target) count
    → told1 ≡ after told (key_of database source) → Touches after told1 told2 (sets.touched_by (key_of database target) count)
    → IsDone after reply new database told told2 (staying database (sets.carried old (key_of database source) (key_of database target) held (sets.or_none others) member))
carried_is after old between new database source target member words held others n count told told1 told2 reply one is apart at_source at_target taken put first second =
    let left = taken_left old database source member held at_source words between n is taken in
    let key = key_of database target in
    let more = set.insert (sets.or_none others) member in
    let at = members_of_other old between database source target (Members (set.remove held member)) apart left ∙ at_target in
    let whole = is_put between database target member others at words is in
    record {
      replied = one;
      left = put.left ∙ ap (λ (e : Effect). e.keyspace) whole ∙ ap (λ (m : Keyspace). kept_under m key (Members more)) left;
      selected = refl;
      touched = second
          ∙ ap (fold after told1) (put.touched ∙ ap (λ (e : Effect). e.touched) whole
          ∙ touched_one (set.contains (sets.or_none others) member) key (set.len (sets.or_none others)) (set.len more) (set.len-insert nat_list_cmp_total (sets.or_none others) member))
          ∙ ap (λ t. fold after t (cond (set.contains (sets.or_none others) member) [] (key ∷ []))) first;
    }
