-- The sessions of a node where one is opened, fed or closed.
use Rattle.std.proofs.Common.{◌≡◌, ℕ, ◌+◌, ◌<◌, Bool, cond, inl, inr, Option, Some, List, [], ◌∷◌, ◌++◌, length, get_or, set, refl, ap, sym, ◌∙◌, subst, arith}
use Rattle.std.specs.Ordering.{eq_by_cmp, nat_cmp}
use Rattle.std.specs.Cmp.{unsigned_ties}
use Rattle.std.proofs.lemmas.Bool.Decides.{eqb_tells}
use Rattle.std.proofs.lemmas.List.{get_or-set_same}
use Rattle.nr_model.specs.Bytes.{Bytes}
use Rattle.nr_model.specs.Entries.{Jobs}
use Rattle.nr_session.specs.SessionState.{SessionState}
use Rattle.nr_replica.proofs.Serials.{listed_length, listed_at, listed_set, listed_more}
use Rattle.nr_world.specs.Fed.{IsFed}
use Rattle.nr_world.specs.BySerial.{Entries, session_in, session_or_closed, session_at, sessions_of}

pub sessions_long : (count : ℕ) (entries : Entries) → length (sessions_of count entries) ≡ count
sessions_long count entries = listed_length (session_at entries) count

pub session_is : (count : ℕ) (entries : Entries) (s : ℕ) (d : SessionState) → s < count
    → get_or (sessions_of count entries) s d ≡ session_at entries s
session_is count entries s d within = listed_at (session_at entries) count s d within

-- a change at one serial of the map
abbrev pub IsPut : ℕ → Option SessionState → Entries → Entries → Type 0
IsPut s found old new = (q : ℕ) → session_in q new ≡ cond (eq_by_cmp nat_cmp s q) found (session_in q old)

put_at : (s : ℕ) (found : Option SessionState) (old new : Entries) → IsPut s found old new → session_in s new ≡ found
put_at s found old new put =
    elim (eqb_tells s s) [
      | inl e ↦ put s ∙ ap (λ (b : Bool). cond b found (session_in s old)) (sym (unsigned_ties s s) ∙ e.0)
      | inr e ↦ absurd (e.1 refl)
    ]

put_other : (s q : ℕ) (found : Option SessionState) (old new : Entries) → IsPut s found old new → (s ≡ q → ⊥) → session_in q new ≡ session_in q old
put_other s q found old new put apart =
    elim (eqb_tells s q) [
      | inl e ↦ absurd (apart e.1)
      | inr e ↦ put q ∙ ap (λ (b : Bool). cond b found (session_in q old)) (sym (unsigned_ties s q) ∙ e.0)
    ]

pub sessions_put : (count s : ℕ) (found : Option SessionState) (old new : Entries) → s < count → IsPut s found old new
    → sessions_of count new ≡ set (sessions_of count old) s (session_or_closed found)
sessions_put count s found old new within put =
    listed_set (session_at old) (session_at new) count s
    (λ k apart. ap session_or_closed (put_other s k found old new put (λ e. apart (sym e))))
    ∙ ap (λ (o : Option SessionState). set (sessions_of count old) s (session_or_closed o)) (put_at s found old new put)

pub sessions_more : (count : ℕ) (session : SessionState) (old new : Entries) → IsPut count (Some session) old new
    → sessions_of (count + 1) new ≡ sessions_of count old ++ session ∷ []
sessions_more count session old new put =
    listed_more (session_at old) (session_at new) count
    (λ k below. ap session_or_closed (put_other count k (Some session) old new put (λ e. absurd (omega arith))))
    ∙ ap (λ (o : Option SessionState). sessions_of count old ++ session_or_closed o ∷ []) (put_at count (Some session) old new put)

-- what is there at a serial
pub count_is : (count : ℕ) (entries : Entries) (now : List SessionState) → sessions_of count entries ≡ now → count ≡ length now
count_is count entries now is = sym (sessions_long count entries) ∙ ap length is

pub found_at : (count s : ℕ) (entries : Entries) (now : List SessionState) (o : Option SessionState) (d : SessionState) → sessions_of count entries ≡ now
    → s < length now → o ≡ session_in s entries → session_or_closed o ≡ get_or now s d
found_at count s entries now o d is within found =
    let same = count_is count entries now is in
    ap session_or_closed found ∙ sym (session_is count entries s d (omega arith)) ∙ ap (λ (xs : List SessionState). get_or xs s d) is

-- one in another's place, or none
pub now_put : (count s : ℕ) (found : Option SessionState) (old new : Entries) (now : List SessionState) → sessions_of count old ≡ now → s < length now
    → IsPut s found old new → sessions_of count new ≡ set now s (session_or_closed found)
now_put count s found old new now is within put =
    let same = count_is count old now is in
    sessions_put count s found old new (omega arith) put ∙ ap (λ (xs : List SessionState). set xs s (session_or_closed found)) is

pub now_set : (count s : ℕ) (session : SessionState) (old new : Entries) (now : List SessionState) (d : SessionState) → sessions_of count old ≡ now
    → s < length now → IsPut s (Some session) old new → sessions_of count new ≡ set now s (get_or (sessions_of count new) s d)
now_set count s session old new now d is within put =
    let all = now_put count s (Some session) old new now is within put in
    let at : get_or (sessions_of count new) s d ≡ session = ap (λ (xs : List SessionState). get_or xs s d) all ∙ get_or-set_same now s session d within in
    all ∙ ap (set now s) (sym at)

pub now_at : (count s : ℕ) (session : SessionState) (old new : Entries) (now : List SessionState) (d : SessionState) → sessions_of count old ≡ now
    → s < length now → IsPut s (Some session) old new → session ≡ get_or (sessions_of count new) s d
now_at count s session old new now d is within put =
    sym (ap (λ (xs : List SessionState). get_or xs s d) (now_put count s (Some session) old new now is within put) ∙ get_or-set_same now s session d within)

pub now_changed : (change : SessionState → SessionState) (count s : ℕ) (session x : SessionState) (old new : Entries) (now : List SessionState) (d : SessionState)
    → sessions_of count old ≡ now → s < length now → IsPut s (Some x) old new → session ≡ get_or now s d → x ≡ change session
    → sessions_of count new ≡ set now s (change (get_or now s d))
now_changed change count s session x old new now d is within put at changed =
    now_put count s (Some x) old new now is within put ∙ ap (set now s) (changed ∙ ap change at)

pub now_more : (count more s : ℕ) (session : SessionState) (old new : Entries) (now : List SessionState) → sessions_of count old ≡ now → s ≡ length now
    → more ≡ count + 1 → IsPut s (Some session) old new → sessions_of more new ≡ now ++ session ∷ []
now_more count more s session old new now is next counts put =
    let same = count_is count old now is in
    let at : s ≡ count = next ∙ sym same in
    ap (λ (k : ℕ). sessions_of k new) counts
    ∙ sessions_more count session old new (subst (λ (k : ℕ). IsPut k (Some session) old new) at put)
    ∙ ap (λ (xs : List SessionState). xs ++ session ∷ []) is

pub fed_between : (milliseconds : ℕ) (bytes : Bytes) (old old' new new' : SessionState) (before after : Jobs) → old ≡ old' → new ≡ new'
    → IsFed milliseconds bytes old new before after → IsFed milliseconds bytes old' new' before after
fed_between milliseconds bytes old old' new new' before after from to fed =
    subst (λ (s : SessionState). IsFed milliseconds bytes s new' before after) from
    (subst (λ (s : SessionState). IsFed milliseconds bytes old s before after) to fed)
