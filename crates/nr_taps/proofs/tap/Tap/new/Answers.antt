use Rattle.std.proofs.Common.{subst, sym}
use Rattle.nr_model.specs.Bytes.{Bytes}
use Rattle.std.proofs.Common.{None}
use Rattle.nr_entry.specs.Jobs.{connection_of}
use Rattle.nr_taps.specs.Taps.{IsTapped}
use Rattle.nr_taps.proofs.Tapped.{fresh_tapped}
use Rattle.nr_taps.proofs.tap.Tap.new.Goals as goal

pub invariant_of-result : goal.invariant_of-result
invariant_of-result g c =
    subst (λ (p : Bytes). IsTapped (record { connection = connection_of c.args.conn; pending = p; written = 0; standing = None })) (sym c.new.ensures)
    (fresh_tapped (connection_of c.args.conn))
