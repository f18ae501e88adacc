use Rattle.std.proofs.Common.{ap, sym, ◌∙◌}
use Rattle.nr_model.specs.Commands.Hashes as hashes
use Rattle.nr_members.specs.HashesSet.{odd_words, set_reply}
use Rattle.nr_members.proofs.HashesChanged.{set_refused}
use Rattle.nr_members.proofs.hashes.setting.set_fields.Goals as goal

pub returns-in_err-added : goal.returns-in_err-added
returns-in_err-added g c =
    set_refused g.T.Touched.after c.from_residual-in_err-added.result c.args.keyspace.now c.edit_at.new.keyspace c.args.database c.args.touched.now
    (odd_words c.args.setting) (set_reply c.args.setting) c.args.words.now c.in_ok-name.name.now c.in_ok-name.words.now c.in_err-added.field-0.0
    (ap (λ odd. hashes.set_request odd c.args.words.now) (sym c.odd_words.ensures) ∙ c.in_ok-name.ensures.request)
    c.from_residual-in_err-added.ensures c.in_err-added.ensures.refused
