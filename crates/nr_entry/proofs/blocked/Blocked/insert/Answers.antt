use Rattle.std.proofs.Common.{◌≡◌, Bool, true, false, refl, ap, ◌∙◌}
use Rattle.std.specs.Prelude.{◌||◌}
use Rattle.std.specs.BTreeSet.{contains}
use Rattle.nr_model.specs.Items.{same_connection}
use Rattle.nr_entry.specs.Jobs.{connection_of, conn_cmp}
use Rattle.nr_entry.specs.Runs.{is_last}
use Rattle.nr_entry.proofs.blocked.Blocked.insert.Goals as goal

turned : (last other one : Bool) → (one || (other || last)) ≡ ((last || other) || one)
turned true true true = refl
turned true true false = refl
turned true false true = refl
turned true false false = refl
turned false true true = refl
turned false true false = refl
turned false false true = refl
turned false false false = refl

pub returns : goal.returns
returns c = λ q.
    let one = same_connection (connection_of c.args.conn) (connection_of q) in
    ap (λ (b : Bool). one || b) (c.in_ok-add.ensures q)
    ∙ turned (is_last c.args.self.now.last q) (contains conn_cmp c.args.self.now.others q) one
