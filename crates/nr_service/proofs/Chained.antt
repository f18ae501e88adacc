-- Turns behind one another.
use Rattle.std.proofs.Common.{◌≡◌, ℕ, ◌+◌, ◌-◌, ◌^◌, ◌<◌, ◌≤◌, Bool, true, false, ltb, ◌⊎◌, inl, inr, List, [], ◌∷◌, ◌++◌, length, refl, sym, ◌∙◌, subst, arith}
use Rattle.std.specs.Prelude.{All}
use Rattle.std.proofs.lemmas.Bool.{cases_Bool, ltb-true, ltb-false}
use Rattle.std.proofs.lemmas.List.Elements.{All-nil, All-cons, All-append}
use Rattle.std.proofs.lemmas.List.{length-append}
use Rattle.nr_service.specs.Endings.{AreTurns, ByCause, GoesOn, IsGoing, IsStopped, TakesTurns, most_turns_down}
use Rattle.nr_service.specs.declared.gate.Go.{Go}
use Rattle.nr_service.specs.declared.gate.Go.TheVariants as told
use Rattle.nr_service.specs.declared.ended.Ended.{Ended}
use Rattle.nr_service.specs.declared.ended.Ended.TheVariants as endings
use Rattle.nr_service.specs.declared.service.Service.{Service}

-- So many turns were taken since the first service, each where the gate said so, that these and those that are left are no fewer than may be taken once
-- nothing can be answered. The gate was asked so often: it said the other times that it is to be asked again.
pub record HasTaken {T : Type 0} (says : ℕ → Go → Type 0) (goes : T → Type 0) (turns : T → T → Type 0) (left turn asked : ℕ) (old new : T) : Type 0 where
  pub whole : List T
  pub holds : List ℕ
  pub taken : AreTurns turns old whole new
  pub enough : most_turns_down ≤ length whole + left
  pub count : length whole ≡ turn
  pub all : length holds + turn ≡ asked
  pub allowed : (k : ℕ) → k < length whole → says k told.On
  pub held : All (λ k. says k told.Hold) holds
  pub going : All goes whole

pub none_taken : {T : Type 0} (says : ℕ → Go → Type 0) (goes : T → Type 0) (turns : T → T → Type 0) (left : ℕ) (service : T) → left ≡ most_turns_down
    → HasTaken says goes turns left 0 0 service service
none_taken says goes turns left service is = record {
  whole = [];
  holds = [];
  taken = refl;
  enough = omega (arith, is);
  count = refl;
  all = refl;
  allowed = λ k low. absurd (omega arith);
  held = All-nil (λ (k : ℕ). says k told.Hold);
  going = All-nil goes;
}

-- it was asked once more, and is to be asked again
pub one_held : {T : Type 0} (says : ℕ → Go → Type 0) (goes : T → Type 0) (turns : T → T → Type 0) (left turn asked : ℕ) (go : Go) (old new : T)
    → HasTaken says goes turns left turn asked old new → go ≡ told.Hold → says turn go → HasTaken says goes turns left turn (asked + 1) old new
one_held says goes turns left turn asked go old new so_far is said = record {
  whole = so_far.whole;
  holds = turn ∷ so_far.holds;
  taken = so_far.taken;
  enough = so_far.enough;
  count = so_far.count;
  all = let all = so_far.all in omega arith;
  allowed = so_far.allowed;
  held = All-cons (λ (k : ℕ). says k told.Hold) turn so_far.holds (subst (says turn) is said) so_far.held;
  going = so_far.going;
}

-- one more turn
turns_then : {T : Type 0} (turns : T → T → Type 0) (old middle new : T) (whole : List T) → AreTurns turns old whole middle → turns middle new
    → AreTurns turns old (whole ++ new ∷ []) new
turns_then {T} turns old middle new [] are more = (subst (λ (t : T). turns t new) are more, refl)
turns_then turns old middle new (next ∷ whole) are more = (are.0, turns_then turns next middle new whole are.1 more)

below_more : (k n : ℕ) → k < n + 1 → (k < n) ⊎ (k ≡ n)
below_more k n low = elim (cases_Bool (ltb k n)) [ inl below ↦ inl (ltb-true k n below) | inr at ↦ inr (omega (arith, ltb-false k n at)) ]

is_going : {A S D M : Type 0} (falls : A → Bool → Type 0) (before after : ℕ) (service : Service A S D M) → GoesOn falls before after service
    → IsGoing falls service
is_going falls before after service (inl up) = inl up.0
is_going falls before after service (inr down) = inr (down.0, down.1)

pub one_taken : {A S D M : Type 0} (says : ℕ → Go → Type 0) (turns : Service A S D M → Service A S D M → Type 0) (falls : A → Bool → Type 0)
    (left after turn asked : ℕ) (go : Go) (old middle new : Service A S D M)
    → HasTaken says (IsGoing falls) turns left turn asked old middle → go ≡ told.On
    → says turn go → turns middle new → GoesOn falls left after new → HasTaken says (IsGoing falls) turns after (turn + 1) (asked + 1) old new
one_taken says turns falls left after turn asked go old middle new so_far is said more goes_on =
    let longer = length-append so_far.whole (new ∷ []) in
    let enough = so_far.enough in
    let count = so_far.count in
    record {
      whole = so_far.whole ++ new ∷ [];
      holds = so_far.holds;
      taken = turns_then turns old middle new so_far.whole so_far.taken more;
      enough = elim goes_on [ inl same ↦ let is = same.1 in omega arith | inr fewer ↦ let is = fewer.2 in omega arith ];
      count = omega arith;
      all = let all = so_far.all in omega arith;
      allowed = λ k low.
          elim (below_more k (length so_far.whole) (omega arith)) [
            | inl below ↦ so_far.allowed k below
            | inr at ↦ subst (λ (n : ℕ). says n told.On) (sym (at ∙ count)) (subst (says turn) is said)
          ];
      held = so_far.held;
      going = All-append (IsGoing falls) so_far.whole (new ∷ []) so_far.going
          (All-cons (IsGoing falls) new [] (is_going falls left after new goes_on) (All-nil (IsGoing falls)));
    }

-- the gate stopped it
pub takes_no_more : {T : Type 0} (says : ℕ → Go → Type 0) (goes : T → Type 0) (turns : Bool → T → T → Type 0) (breaks : T → T → Type 0)
    (is_done : ℕ → T → Type 0)
    (left turn asked : ℕ) (old new : T) (so_far : HasTaken says goes (turns true) left turn asked old new) → IsStopped says (length so_far.whole)
    → TakesTurns says goes turns breaks is_done endings.Stopped old new
takes_no_more says goes turns breaks is_done left turn asked old new so_far stopped = record {
  whole = so_far.whole;
  last = new;
  taken = so_far.taken;
  allowed = so_far.allowed;
  going = so_far.going;
  ends = (stopped, refl);
}

pub takes_none_told : {T : Type 0} (says : ℕ → Go → Type 0) (goes : T → Type 0) (turns : Bool → T → T → Type 0) (breaks : T → T → Type 0)
    (is_done : ℕ → T → Type 0)
    (left turn asked : ℕ) (go : Go) (old new : T) (so_far : HasTaken says goes (turns true) left turn asked old new) → go ≡ told.Stop → says turn go
    → TakesTurns says goes turns breaks is_done endings.Stopped old new
takes_none_told says goes turns breaks is_done left turn asked go old new so_far is said =
    takes_no_more says goes turns breaks is_done left turn asked old new so_far
    (inl (subst (λ (n : ℕ). says n told.Stop) (sym so_far.count) (subst (says turn) is said)))

-- or was asked as often as it may be
pub takes_none_left : {T : Type 0} (says : ℕ → Go → Type 0) (goes : T → Type 0) (turns : Bool → T → T → Type 0) (breaks : T → T → Type 0)
    (is_done : ℕ → T → Type 0)
    (left turn asked : ℕ) (old new : T) (so_far : HasTaken says goes (turns true) left turn asked old new) → asked ≡ 2 ^ 64 - 1
    → TakesTurns says goes turns breaks is_done endings.Stopped old new
takes_none_left says goes turns breaks is_done left turn asked old new so_far end =
    takes_no_more says goes turns breaks is_done left turn asked old new so_far
    (inr (so_far.holds, so_far.held, let all = so_far.all in let count = so_far.count in omega arith))

-- in one turn more, or behind it
cause_of_turn : (ended : Ended) (P O Q R : Type 0) → O → ByCause ended ⊥ Q R → ByCause ended P (O × Q) (O × R)
cause_of_turn endings.Stopped P O Q R on by = absurd by
cause_of_turn (endings.Memory memory) P O Q R on by = (on, by)
cause_of_turn endings.Down P O Q R on by = (on, by)
cause_of_turn endings.Device P O Q R on by = (on, by)

pub takes_one_more : {T : Type 0} (says : ℕ → Go → Type 0) (goes : T → Type 0) (turns : Bool → T → T → Type 0) (breaks : T → T → Type 0)
    (is_done : ℕ → T → Type 0)
    (ended : Ended) (left turn asked : ℕ) (go : Go) (old last new : T) (so_far : HasTaken says goes (turns true) left turn asked old last) → go ≡ told.On
    → says turn go → ByCause ended ⊥ (breaks last new ⊎ (turns true last new × is_done (length so_far.whole) new)) (turns false last new)
    → TakesTurns says goes turns breaks is_done ended old new
takes_one_more says goes turns breaks is_done ended left turn asked go old last new so_far is said ends = record {
  whole = so_far.whole;
  last = last;
  taken = so_far.taken;
  allowed = so_far.allowed;
  going = so_far.going;
  ends = cause_of_turn ended (IsStopped says (length so_far.whole) × (new ≡ last)) (says (length so_far.whole) told.On)
      (breaks last new ⊎ (turns true last new × is_done (length so_far.whole) new)) (turns false last new)
      (subst (λ (n : ℕ). says n told.On) (sym so_far.count) (subst (says turn) is said)) ends;
}
