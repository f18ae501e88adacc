-- Why a server's workers ended, by why each of them did.
use Rattle.std.specs.Prelude.{◌≡◌, ℕ, Bool, true, false, not, cond, ◌||◌, List, [], ◌∷◌, length, Result, Ok, Err}
use Rattle.std.specs.List.{list_any}
use Rattle.nr_service.specs.declared.ended.Ended.{Ended}
use Rattle.nr_service.specs.declared.ended.Ended.TheVariants as endings
use Rattle.nr_crew.specs.declared.lane.WorkerEnd.{WorkerEnd}
use Rattle.nr_crew.specs.declared.running.ServeError.{ServeError}
use Rattle.nr_crew.specs.declared.running.ServeError.TheVariants as errors

-- its device can't wait any more, or it found that every node is down
abbrev pub is_device : Ended → Bool
is_device endings.Stopped = false
is_device (endings.Memory memory) = false
is_device endings.Down = false
is_device endings.Device = true

abbrev pub is_down : Ended → Bool
is_down endings.Stopped = false
is_down (endings.Memory memory) = false
is_down endings.Down = true
is_down endings.Device = false

-- memory ran out for it, or else what comes of the others
abbrev pub unless_for : Ended → Result (Unit {0}) ServeError → Result (Unit {0}) ServeError
unless_for endings.Stopped others = others
unless_for (endings.Memory memory) others = Err (errors.Memory memory)
unless_for endings.Down others = others
unless_for endings.Device others = others

module _ {S D M : Type 0} where
  abbrev pub any_device : List (WorkerEnd S D M) → Bool
  any_device lefts = list_any (λ (left : WorkerEnd S D M). is_device left.ended) lefts

  abbrev pub any_down : List (WorkerEnd S D M) → Bool
  any_down lefts = list_any (λ (left : WorkerEnd S D M). is_down left.ended) lefts

  -- the first want of memory among them
  abbrev pub unless_wanted : List (WorkerEnd S D M) → Result (Unit {0}) ServeError
  unless_wanted [] = Ok tt
  unless_wanted (left ∷ more) = unless_for left.ended (unless_wanted more)

  -- All workers ended, by whether all threads were there and whether more connections may come. It is well only where each was stopped.
  abbrev pub ended_of : Bool → Bool → List (WorkerEnd S D M) → Result (Unit {0}) ServeError
  ended_of false comes lefts = Err errors.NoThread
  ended_of true comes lefts = cond (not comes || any_device lefts) (Err errors.Device) (cond (any_down lefts) (Err errors.Down) (unless_wanted lefts))

  -- So a server of so many workers ended, which left this: all of them, where no thread was wanting.
  pub record HasEnded (workers : ℕ) (ended : Result (Unit {0}) ServeError) (lefts : List (WorkerEnd S D M)) : Type 0 where
    pub threads : Bool
    pub comes : Bool
    pub is : ended ≡ ended_of threads comes lefts
    pub whole : threads ≡ true → length lefts ≡ workers
