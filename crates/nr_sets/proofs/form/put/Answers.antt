use Rattle.std.proofs.Common.{◌∙◌, [], ap, sym, is_none}
use Rattle.std.specs.FinMap as map
use Rattle.nr_sets.proofs.Large.{get_large, put_large}
use Rattle.nr_sets.proofs.Seen.{is_new}
use Rattle.nr_sets.proofs.form.put.Goals as goal

pub returns-clause-new : goal.returns-clause-new
returns-clause-new c =
    c.in_ok-is_new.ensures.new ∙ sym (is_new (map.get c.args.members.now c.args.member.now)) ∙ ap is_none (get_large c.args.members.now c.args.member.now)

pub returns-clause-put : goal.returns-clause-put
returns-clause-put c = ap (λ table. map.entries table) c.in_ok-is_new.ensures.ok ∙ put_large c.args.members.now c.args.member.now []
