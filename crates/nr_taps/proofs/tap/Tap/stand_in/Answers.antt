use Rattle.std.proofs.Common.{None, subst, sym}
use Rattle.nr_model.specs.Bytes.{Bytes}
use Rattle.nr_entry.specs.Jobs.{connection_of}
use Rattle.nr_taps.specs.Taps.{IsTapped}
use Rattle.nr_taps.proofs.Tapped.{fresh_tapped}
use Rattle.nr_taps.proofs.tap.Tap.stand_in.Goals as goal

pub invariant_of-result : goal.invariant_of-result
invariant_of-result g c =
    subst (λ (p : Bytes). IsTapped (record { connection = connection_of c.self.inside.conn; pending = p; written = 0; standing = None })) (sym c.fresh.ensures)
    (fresh_tapped (connection_of c.self.inside.conn))
