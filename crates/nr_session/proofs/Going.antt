-- Requests one after the other: what was added, and what is left to add, is all.
use Rattle.std.proofs.Common.{◌≡◌, ℕ, ◌+◌, ◌≤◌, List, ◌++◌, length}
use Rattle.nr_model.specs.Requests.{Frame}
use Rattle.nr_model.specs.Items.{Connection, Item}
use Rattle.nr_model.specs.Modes.{Mode}
use Rattle.nr_session.specs.SessionState.{requested, request_jobs, AddsFront, ends}
use Rattle.nr_session.proofs.Fronts.{adds_front}

-- from the first request on: those that are left ask in the mode so far for the rest of the jobs
pub record Going (c : Connection) (moment : ℕ) (all : List Frame) (old : List Item) (start : ℕ) (first : Mode) (left : List Frame) (now : List Item) (next : ℕ) (mode : Mode) : Type 0 where
  pub jobs : now ++ request_jobs c next moment mode left ≡ old ++ request_jobs c start moment first all
  pub counted : length now + start ≡ length old + next
  pub on : start ≤ next
  pub few : next + length left ≤ start + length all
  pub numbered : next + length (requested mode left).deeds ≡ start + length (requested first all).deeds
  pub mode_is : (requested mode left).mode ≡ (requested first all).mode
  pub ended_is : (requested mode left).ended ≡ (requested first all).ended
  pub unended : ends now ≡ ends old

-- what was added before a refusal is a front
pub going_refused : (c : Connection) (moment : ℕ) (all : List Frame) (old : List Item) (start : ℕ) (first : Mode) (left : List Frame) (now : List Item) (next : ℕ) (mode : Mode)
    → Going c moment all old start first left now next mode → AddsFront old now start next (request_jobs c start moment first all)
going_refused c moment all old start first left now next mode g = adds_front old now _ _ start next g.jobs g.counted g.on
