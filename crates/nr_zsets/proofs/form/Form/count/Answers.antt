use Rattle.std.proofs.Common.{ap, length, arith}
use Rattle.std.specs.Prelude.{filter}
use Rattle.nr_zsets.specs.Forms.{items_of}
use Rattle.nr_zsets.proofs.Walks.{fewer_pass}
use Rattle.nr_zsets.proofs.form.Form.count.Goals as goal

pub returns-in-Packed-clause-within : goal.returns-in-Packed-clause-within
returns-in-Packed-clause-within g c =
    let is = ap (λ form. length (filter (g.T.Test.passing c.args.test.now) (items_of form))) c.in-Packed.is in
    omega (arith, c.count.ensures, is, fewer_pass (g.T.Test.passing c.args.test.now) (items_of c.args.self.now))
