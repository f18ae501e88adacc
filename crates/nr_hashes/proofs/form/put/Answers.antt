use Rattle.std.proofs.Common.{◌∙◌, ap, sym, is_none}
use Rattle.std.specs.FinMap as map
use Rattle.nr_hashes.proofs.Large.{get_large, put_large}
use Rattle.nr_hashes.proofs.Seen.{is_new}
use Rattle.nr_hashes.proofs.form.put.Goals as goal

pub returns-clause-new : goal.returns-clause-new
returns-clause-new c =
    c.in_ok-is_new.ensures.new ∙ sym (is_new (map.get c.args.pairs.now c.args.field.now)) ∙ ap is_none (get_large c.args.pairs.now c.args.field.now)

pub returns-clause-put : goal.returns-clause-put
returns-clause-put c = ap (λ hash. map.entries hash) c.in_ok-is_new.ensures.ok ∙ put_large c.args.pairs.now c.args.field.now c.args.value.now
