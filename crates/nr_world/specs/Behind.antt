-- A collect whose bytes go behind those that were handed out before.
use Rattle.std.specs.Prelude.{◌≡◌, ℕ, List, ◌++◌, Option}
use Rattle.nr_model.specs.Connections as traffic
use Rattle.nr_model.specs.Nodes.Steps as steps
use Rattle.nr_model.specs.Nodes.Pasts.{Answering}
use Rattle.nr_world.specs.Taken.{Takes}
use Rattle.nr_world.specs.WorldState.{WorldState}

pub record HandsOutBehind (old new : WorldState) (n w : ℕ) (outcome : steps.Outcome) (before after : List traffic.Handed)
    (answer : Option Answering) : Type 0 where
  pub more : List traffic.Handed
  pub behind : after ≡ before ++ more
  pub taken : Takes old new (steps.Collect n w) outcome more answer
