use Rattle.std.proofs.Common.{◌≡◌, max, rules, ap, ◌∙◌, sym}
use Rattle.nr_model.specs.Keyspace as model
use Rattle.nr_keyspace.specs.Seen.{seen_after}
use Rattle.nr_keyspace.proofs.Seen.{live-later}
use Rattle.nr_keyspace.proofs.databases.sweeps.later.Goals as goal

pub returns-in-Some : goal.returns-in-Some
returns-in-Some c = λ keyspace.
    let later : c.max.result ≡ max c.in-Some.latest c.args.now = c.max.ensures ∙ search rules in
    ap (λ latest. model.live (seen_after latest keyspace) c.args.now) c.in-Some.is ∙ live-later c.args.now c.in-Some.latest keyspace
    ∙ ap (model.live keyspace) (sym later)
