-- One step of UNSUBSCRIBE without words.
use Rattle.std.specs.Prelude.{◌≡◌, ℕ, Bool, true, false, List, [], ◌∷◌}
use Rattle.std.specs.FinMap as finmap
use Rattle.nr_model.specs.Bytes.{Bytes}
use Rattle.nr_model.specs.declared.command.Kind.{Kind}
use Rattle.nr_model.specs.Names.{Held, held, unsubscribed}
use Rattle.nr_model.specs.Servers.{held_in, with_held_by}
use Rattle.nr_model.specs.Items.{Connection, connection_cmp}
use Rattle.nr_model.specs.Sequential.{for_node}
use Rattle.nr_model.specs.Sequential.Events.{Emission}
use Rattle.nr_model.specs.Sequential.Messages.{acknowledged_all, unsubscribe_verb}
use Rattle.nr_emission.specs.Emitted.{all_after, replies_to}

-- The first name that the connection holds is given up and acknowledged, and the others are left; or none was held, and nothing changes.
pub record IsGivenUp {S : Type 0} (after : S → Emission → S) (node : ℕ) (c : Connection) (kind : Kind) (old new : finmap.FinMap connection_cmp Held)
    (before later : S) (more : Bool) : Type 0 where
  pub none : more ≡ false → (held kind (held_in old c) ≡ []) × (new ≡ old) × (later ≡ before)
  pub one : more ≡ true → (name : Bytes) × (rest : List Bytes) × (held kind (held_in old c) ≡ name ∷ rest)
      × (held kind (unsubscribed kind (held_in old c) name) ≡ rest)
      × (new ≡ with_held_by old c (unsubscribed kind (held_in old c) name))
      × (later ≡ all_after after before (for_node node (replies_to c (acknowledged_all (unsubscribed kind) (unsubscribe_verb kind) (held_in old c)
      (name ∷ [])))))
