-- What a change of the databases is on what is seen of them.
use Rattle.std.proofs.Common.{◌≡◌, ℕ, ℤ, pos, ◌<◌, ◌≤◌, max, ltb, ltb-true, ltb-false, Bool, true, false, cond, Option, Some, None, refl, ap, sym, ◌∙◌, true≢false, arith}
use Rattle.std.specs.Prelude.{int_lt}
use Rattle.std.specs.Ordering.{eq_by_cmp}
use Rattle.std.specs.FinMap as map
use Rattle.std.proofs.lemmas.Int.{ints}
use Rattle.nr_model.specs.Bytes.{Bytes}
use Rattle.nr_model.specs.Keyspace.{Key, Keyspace, key_cmp, Value, Stored, Text, is_live_at, live, only_live}
use Rattle.nr_model.proofs.Live.{key_total, get-live}
use Rattle.nr_keyspace.specs.Joined.{exchanged}
use Rattle.nr_keyspace.specs.Seen.{seen_after, is_seen_after}
use Rattle.nr_keyspace.specs.Stores.{is_undated, redated, written_if}
use Rattle.nr_keyspace.proofs.Orders.{key_exact}

before : (now later : ℕ) (deadline : ℤ) → now ≤ later → int_lt (pos later) deadline ≡ true → int_lt (pos now) deadline ≡ true
before now later deadline sooner live = grind (arith, ints)

-- what is live is live at each earlier moment
sooner_live : (now later : ℕ) (deadline : Option ℤ) → now ≤ later → is_live_at later deadline ≡ true → is_live_at now deadline ≡ true
sooner_live now later None sooner live = refl
sooner_live now later (Some deadline) sooner live = before now later deadline sooner live

seen_if : (now : ℕ) (live : Bool) (stored : Stored) → (live ≡ true → is_live_at now stored.deadline ≡ true)
    → only_live now (cond live (Some stored) None) ≡ cond live (Some stored) None
seen_if now true stored still = ap (λ b. cond b (Some stored) None) (still refl)
seen_if now false stored still = refl

gone_if : (now : ℕ) (live : Bool) (stored : Stored) → (is_live_at now stored.deadline ≡ true → live ≡ true)
    → only_live now (cond live (Some stored) None) ≡ only_live now (Some stored)
gone_if now true stored still = refl
gone_if now false stored still =
    elim (is_live_at now stored.deadline) as (λ b. is_live_at now stored.deadline ≡ b → None ≡ cond b (Some stored) None) [
      | true ↦ λ live. absurd (true≢false (sym (still live)))
      | false ↦ λ _. refl
    ] refl

-- a moment that ran back hides nothing more
only_live-before : (now latest : ℕ) → now ≤ latest → (stored : Option Stored) → only_live now (only_live latest stored) ≡ only_live latest stored
only_live-before now latest sooner None = refl
only_live-before now latest sooner (Some stored) = seen_if now (is_live_at latest stored.deadline) stored (sooner_live now latest stored.deadline sooner)

-- a later moment hides all that the earlier one hid
only_live-after : (now latest : ℕ) → latest ≤ now → (stored : Option Stored) → only_live now (only_live latest stored) ≡ only_live now stored
only_live-after now latest sooner None = refl
only_live-after now latest sooner (Some stored) = gone_if now (is_live_at latest stored.deadline) stored (sooner_live latest now stored.deadline sooner)

only_live-later : (now latest : ℕ) (stored : Option Stored) → only_live now (only_live latest stored) ≡ only_live (max latest now) stored
only_live-later now latest stored =
    elim (ltb now latest) as (λ b. ltb now latest ≡ b → only_live now (only_live latest stored) ≡ only_live (max latest now) stored) [
      | true ↦ λ is.
          let before : now < latest = ltb-true now latest is in
          let same : max latest now ≡ latest = omega (arith, before) in
          only_live-before now latest (omega (arith, before)) stored ∙ ap (λ moment. only_live moment stored) (sym same)
      | false ↦ λ is.
          let after : latest ≤ now = ltb-false now latest is in
          let same : max latest now ≡ now = omega (arith, after) in
          only_live-after now latest after stored ∙ ap (λ moment. only_live moment stored) (sym same)
    ] refl

-- what is live after one moment and after another is live after the later of both
pub live-later : (now latest : ℕ) (keyspace : Keyspace) → live (live keyspace latest) now ≡ live keyspace (max latest now)
live-later now latest keyspace = map.same_map key_total key_exact _ _ (λ key.
    get-live (live keyspace latest) now key ∙ ap (only_live now) (get-live keyspace latest key)
    ∙ only_live-later now latest (map.get keyspace key) ∙ sym (get-live keyspace (max latest now) key))

-- what is stored at a key is seen there, if its deadline is after the sweep
pub seen_insert : (latest : Option ℕ) (keyspace : Keyspace) (key : Key) (stored : Stored) → is_seen_after latest stored.deadline ≡ true
    → seen_after latest (map.insert keyspace key stored) ≡ map.insert (seen_after latest keyspace) key stored
seen_insert None keyspace key stored seen = refl
seen_insert (Some latest) keyspace key stored seen = map.same_map key_total key_exact _ _ (λ q.
    get-live (map.insert keyspace key stored) latest q
    ∙ ap (only_live latest) (map.get-insert key_total keyspace key stored q)
    ∙ elim (eq_by_cmp key_cmp q key) as
    (λ b. only_live latest (cond b (Some stored) (map.get keyspace q)) ≡ cond b (Some stored) (only_live latest (map.get keyspace q))) [
      | true ↦ ap (λ b. cond b (Some stored) None) seen
      | false ↦ refl
    ]
    ∙ ap (cond (eq_by_cmp key_cmp q key) (Some stored)) (sym (get-live keyspace latest q))
    ∙ sym (map.get-insert key_total (live keyspace latest) key stored q))

pub seen_remove : (latest : Option ℕ) (keyspace : Keyspace) (key : Key)
    → seen_after latest (map.remove keyspace key) ≡ map.remove (seen_after latest keyspace) key
seen_remove None keyspace key = refl
seen_remove (Some latest) keyspace key = map.same_map key_total key_exact _ _ (λ q.
    get-live (map.remove keyspace key) latest q
    ∙ ap (only_live latest) (map.get-remove key_total keyspace key q)
    ∙ elim (eq_by_cmp key_cmp q key) as
    (λ b. only_live latest (cond b None (map.get keyspace q)) ≡ cond b None (only_live latest (map.get keyspace q))) [ true ↦ refl | false ↦ refl ]
    ∙ ap (cond (eq_by_cmp key_cmp q key) None) (sym (get-live keyspace latest q))
    ∙ sym (map.get-remove key_total (live keyspace latest) key q))

pub seen_redated : (latest : Option ℕ) (keyspace : Keyspace) (key : Key) (stored : Option Stored) (deadline : Option ℤ)
    → is_seen_after latest deadline ≡ true
    → seen_after latest (redated keyspace key stored deadline) ≡ redated (seen_after latest keyspace) key stored deadline
seen_redated latest keyspace key None deadline seen = refl
seen_redated latest keyspace key (Some stored) deadline seen =
    seen_insert latest keyspace key (record { value = stored.value; deadline = deadline }) seen

pub seen_exchanged : (latest : Option ℕ) (old new : Keyspace) (a b : ℕ) → ((key : Key) → map.get new key ≡ map.get old (exchanged a b key))
    → (key : Key) → map.get (seen_after latest new) key ≡ map.get (seen_after latest old) (exchanged a b key)
seen_exchanged None old new a b at key = at key
seen_exchanged (Some latest) old new a b at key =
    get-live new latest key ∙ ap (only_live latest) (at key) ∙ sym (get-live old latest (exchanged a b key))

pub seen_empty : (latest : Option ℕ) → seen_after latest map.empty ≡ map.empty
seen_empty None = refl
seen_empty (Some latest) = map.same_map key_total key_exact _ _ (λ key.
    get-live map.empty latest key ∙ ap (only_live latest) (map.get-empty key_cmp key) ∙ sym (map.get-empty key_cmp key))

-- a key with no deadline is seen always
pub undated_seen : (latest : Option ℕ) → is_seen_after latest None ≡ true
undated_seen None = refl
undated_seen (Some latest) = refl

pub seen_cleared : (latest : Option ℕ) (old new : Keyspace) (key : Key) (gone : Bool) → map.get new key ≡ cond gone None (map.get old key)
    → map.get (seen_after latest new) key ≡ cond gone None (map.get (seen_after latest old) key)
seen_cleared None old new key gone at = at
seen_cleared (Some latest) old new key gone at =
    get-live new latest key ∙ ap (only_live latest) at
    ∙ elim gone as (λ b. only_live latest (cond b None (map.get old key)) ≡ cond b None (only_live latest (map.get old key))) [ true ↦ refl | false ↦ refl ]
    ∙ ap (cond gone None) (sym (get-live old latest key))

undated_live : (latest : ℕ) (value : Value) (deadline : Option ℤ)
    → let stored : Stored = record { value = value; deadline = deadline } in is_undated (only_live latest (Some stored)) ≡ is_undated (Some stored)
undated_live latest value None = refl
undated_live latest value (Some deadline) =
    let stored : Stored = record { value = value; deadline = Some deadline } in
    elim (int_lt (pos latest) deadline) as (λ b. is_undated (cond b (Some stored) None) ≡ false) [ true ↦ refl | false ↦ refl ]

undated_of : (latest : ℕ) (found : Option Stored) → is_undated (only_live latest found) ≡ is_undated found
undated_of latest None = refl
undated_of latest (Some stored) = undated_live latest stored.value stored.deadline

-- what is seen to have no deadline is all that has none
pub seen_undated : (latest : Option ℕ) (keyspace : Keyspace) (key : Key)
    → is_undated (map.get (seen_after latest keyspace) key) ≡ is_undated (map.get keyspace key)
seen_undated None keyspace key = refl
seen_undated (Some latest) keyspace key = ap is_undated (get-live keyspace latest key) ∙ undated_of latest (map.get keyspace key)

-- a text that is written, or not
pub seen_written : (latest : Option ℕ) (keyspace : Keyspace) (key : Key) (text : Bytes) (written : Bool)
    → seen_after latest (written_if written keyspace key text) ≡ written_if written (seen_after latest keyspace) key text
seen_written latest keyspace key text true = seen_insert latest keyspace key (record { value = Text text; deadline = None }) (undated_seen latest)
seen_written latest keyspace key text false = refl
