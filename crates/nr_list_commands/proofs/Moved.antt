-- An item that goes from one list to another.
use Rattle.std.proofs.Common.{◌≡◌, ℕ, zero, suc, pos, negsuc, ◌+◌, ◌-◌, ◌<◌, min, false, List, [], ◌∷◌, ◌++◌, length, take, drop, get_or, refl, ap, sym, ◌∙◌, subst, arith, length-append}
use Rattle.std.specs.Prelude.{slice_get, option_and_then, if◌then◌else◌}
use Rattle.std.specs.Option.{unwrap_or}
use Rattle.std.proofs.lemmas.Bool.{lt-ltb}
use Rattle.std.proofs.lemmas.List.{take_rest, drop_min, take_all, take_more, take_at}
use Rattle.nr_model.specs.Strings.{range}
use Rattle.nr_model.specs.declared.command.End.TheVariants.{Left, Right}
use Rattle.nr_list_commands.proofs.NoItems.{no_item}
use Rattle.std.specs.Prelude.{bytes_eq, Option, Some, None, Result, Ok, Err, IfErr}
use Rattle.std.specs.Result.{IsErr}
use Rattle.nr_model.specs.Bytes.{Bytes}
use Rattle.nr_model.specs.Replies.{Reply, Bulk, NullBulk}
use Rattle.nr_model.specs.Keyspace.{Key, key_of, Keyspace, Items}
use Rattle.nr_model.specs.Lists.{pushed, popped, item_at, index_of}
use Rattle.nr_model.specs.Commands.Shape.{Effect, Done, performed, staying, unchanged}
use Rattle.nr_model.specs.Commands.Reading.{Read}
use Rattle.nr_model.specs.Commands.Held.{items_at, kept_under}
use Rattle.nr_model.specs.Commands.Lists.{MoveRequest, carried, carried_to, or_no_items}
use Rattle.nr_model.specs.declared.command.End.{End}
use Rattle.nr_resp.specs.declared.reply.Reply as code
use Rattle.nr_resp.specs.declared.failure.Failure.{Failure}
use Rattle.nr_resp.specs.declared.failure.Failure.TheVariants as failures
use Rattle.nr_resp.specs.Failures.{IfRefused}
use Rattle.nr_resp.specs.Done.{IsDone, Performs}
use Rattle.nr_resp.proofs.Refusals.{refused_weaker}
use Rattle.nr_list_commands.specs.Relisted.{IsRelisted, IsPushed}
use Rattle.nr_list_commands.proofs.Relisted.{other_items}

-- the item at an end was taken out
abbrev pub pops : End → List Bytes → List Bytes → Option Bytes → Type 0
pops end old new given = (new ≡ popped end old) × (given ≡ item_at (index_of end) old)

module _ (old after_pop : Keyspace) (database : ℕ) (request : MoveRequest) (item : Bytes) (apart : bytes_eq request.source request.target ≡ false)
    (taken : IsRelisted (pops request.from) old after_pop (key_of database request.source) (items_at old database request.source) (Some item)) where
  -- the other list is as it was
  pub other_is : items_at after_pop database request.target ≡ items_at old database request.target
  other_is = other_items old after_pop database request.source request.target taken.left apart taken.written

  abbrev found : Option Bytes → Effect
  found first = elim first [
    | None ↦ unchanged old NullBulk
    | Some item ↦ performed old (items_at old database request.target) (λ others. carried_to old database request taken.items item (or_no_items others))
  ]

  effect_is : (list : Option (List Bytes)) → items_at after_pop database request.target ≡ Ok list
      → performed old (items_at old database request.source) (carried old database request) ≡ carried_to old database request taken.items item (or_no_items list)
  effect_is list was =
      ap (λ (held : Read (Option (List Bytes))). performed old held (carried old database request)) taken.was
      ∙ ap found (sym taken.allowed.1)
      ∙ ap (λ (held : Read (Option (List Bytes))). performed old held (λ others. carried_to old database request taken.items item (or_no_items others))) (sym other_is ∙ was)

  pub is_carried : {T : Type 0} (after : T → Key → T) (new : Keyspace) (told told' told'' : T)
      → IsPushed after_pop new (key_of database request.target) (items_at after_pop database request.target) request.to item
      → told' ≡ after told (key_of database request.source) → told'' ≡ after told' (key_of database request.target)
      → IsDone after (Bulk item) new database told told'' (staying database (performed old (items_at old database request.source) (carried old database request)))
  is_carried after new told told' told'' put first second =
      subst (λ (e : Effect). IsDone after (Bulk item) new database told told'' (staying database e)) (sym (effect_is put.list put.was)) (record {
        replied = refl;
        left = put.written ∙ ap (λ m. kept_under m (key_of database request.target) (Items (pushed request.to item (or_no_items put.list))))
            (taken.written ∙ ap (λ left. kept_under old (key_of database request.source) (Items left)) taken.allowed.0);
        selected = refl;
        touched = second ∙ ap (λ t. after t (key_of database request.target)) first;
      })

nothing_refused : (failure : Failure) (P : Reply → Type 0) → IfRefused failure (λ _. ⊥) → IfRefused failure P
nothing_refused (failures.Refused why) P never = absurd never
nothing_refused (failures.Memory _) P never = tt

ended_by_memory : {T : Type 0} (after : T → Key → T) (r : Result code.Reply Failure) (new : Keyspace) (database : ℕ) (told : T) (done : Done)
    → IsErr r → IfErr r (λ failure. IfRefused failure (λ _. ⊥)) → Performs after r new database told told done
ended_by_memory after (Ok reply) new database told done is never = absurd (cc is)
ended_by_memory after (Err failure) new database told done is never = nothing_refused failure _ never

-- a list that was read isn't refused
pub not_refused : {T : Type 0} (after : T → Key → T) (r : Result code.Reply Failure) (new : Keyspace) (database : ℕ) (told : T) (done : Done)
    (read : Read (Option (List Bytes))) (others : Option (List Bytes)) → read ≡ Ok others
    → IsErr r → IfErr r (λ failure. IfRefused failure (λ error. read ≡ Err error)) → Performs after r new database told told done
not_refused after r new database told done read others was is refused =
    ended_by_memory after r new database told done is
    (refused_weaker r (λ error. read ≡ Err error) (λ _. ⊥)
    (λ error refused. let never : ◌≡◌ {A = Read (Option (List Bytes))} (Ok others) (Err error) = sym was ∙ refused in absurd (cc never)) refused)

-- the item at an end dropped, as a range
pub first_dropped : (items new : List Bytes) → new ≡ range (pos 1) (negsuc 0) items → new ≡ popped Left items
first_dropped items new are =
    let n = length items in
    let less : n - 0 - min 1 n ≡ n - min 1 n = omega arith in
    are ∙ ap (λ m. take m (drop (min 1 n) items)) less ∙ take_rest items (min 1 n) ∙ drop_min 1 items

pub last_dropped : (items new : List Bytes) → new ≡ range (pos 0) (negsuc 1) items → new ≡ popped Right items
last_dropped items new are =
    let n = length items in
    let none : min 0 n ≡ 0 = omega arith in
    let less : n - 1 - 0 ≡ n - 1 = omega arith in
    are ∙ ap (λ m. take (n - 1 - m) (drop m items)) none ∙ ap (λ m. take m items) less

-- the item at an end is there
some_at : {A : Type 0} (xs : List A) (place : ℕ) (d : A) → place < length xs → slice_get xs place ≡ Some (get_or xs place d)
some_at [] place d within = absurd (omega (arith, within))
some_at (x ∷ xs) zero d within = refl
some_at (x ∷ xs) (suc place) d within = some_at xs place d (omega (arith, within))

same_some : {A : Type 0} (a b : A) → Some a ≡ Some b → a ≡ b
same_some a b e = ap (λ o. unwrap_or o a) e

first_is : (item x : Bytes) (items : List Bytes) → Some x ≡ item_at (pos 0) (item ∷ items) → item ≡ x
first_is item x items is =
    let here : item_at (pos 0) (item ∷ items) ≡ Some item =
    ap (λ b. option_and_then (slice_get (item ∷ items)) (if b then Some 0 else None)) (lt-ltb 0 (suc (length items)) (omega arith)) in
    same_some item x (sym (is ∙ here))

last_is_there : (items : List Bytes) (x : Bytes) → 0 < length items → Some x ≡ item_at (negsuc 0) items → items ≡ take (length items - 1) items ++ x ∷ []
last_is_there items x some is =
    let n = length items in
    let place : n - 1 < n = omega (arith, some) in
    let next : n - 1 + 1 ≡ n = omega (arith, some) in
    let here : item_at (negsuc 0) items ≡ Some (get_or items (n - 1) x) =
    ap (λ b. option_and_then (slice_get items) (if b then Some (n - 1) else None)) (lt-ltb 0 n some) ∙ some_at items (n - 1) x place in
    let one : get_or items (n - 1) x ≡ x = same_some (get_or items (n - 1) x) x (sym (is ∙ here)) in
    sym (take_all n items (omega arith)) ∙ ap (λ m. take m items) (sym next) ∙ take_more items (n - 1) x place
    ∙ ap (λ y. take (n - 1) items ++ y ∷ []) one

-- an item that is put in at an end and then goes at an end, and one that goes and is then put in
pub rotated_item : (from to : End) (old new : List Bytes) (x : Bytes) → Some x ≡ item_at (index_of from) old → new ≡ popped from (pushed to x old)
    → new ≡ pushed to x (popped from old)
rotated_item from to [] new x is are = absurd (cc (is ∙ no_item (index_of from)))
rotated_item Left Left (item ∷ items) new x is are = are ∙ ap (λ y. y ∷ items) (first_is item x items is)
rotated_item Left Right (item ∷ items) new x is are = are
rotated_item Right Left (item ∷ items) new x is are =
    let fewer : length (x ∷ (item ∷ items)) - 1 ≡ suc (length (item ∷ items) - 1) = omega arith in
    are ∙ ap (λ n. take n (x ∷ (item ∷ items))) fewer
rotated_item Right Right (item ∷ items) new x is are =
    let old = item ∷ items in
    let fewer : length old ≡ length (old ++ x ∷ []) - 1 = omega (arith, length-append old (x ∷ [])) in
    are ∙ take_at old (x ∷ []) (length (old ++ x ∷ []) - 1) fewer ∙ last_is_there old x (omega arith) is
