use Rattle.std.proofs.Common.{subst, sym, ◌+◌, ◌≤◌, length}
use Rattle.nr_model.specs.Bytes.{Bytes}
use Rattle.nr_entry.specs.Jobs.{connection_of}
use Rattle.nr_taps.specs.Taps.{TapState, IsTapped, standing_of}
use Rattle.nr_taps.proofs.Tapped.{written_tapped}
use Rattle.nr_taps.proofs.tap.Tap.written.Goals as goal

pub invariant_of-self : goal.invariant_of-self
invariant_of-self g c =
    let few = subst (λ (t : TapState). c.args.count ≤ length t.pending) (sym c.self.view_is) c.requires in
    subst (λ (p : Bytes). IsTapped (record {
      connection = connection_of c.self.inside.conn;
      pending = p;
      written = c.self.inside.written + c.args.count;
      standing = standing_of c.self.inside.token;
    }))
    (sym c.let_go.ensures) (written_tapped c.args.count _ few c.self.invariant)
