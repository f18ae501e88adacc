use Rattle.std.proofs.Common.{rules, ◌≡◌, ℤ, to_z, of_z, w64, ap, sym, ◌∙◌}
use Rattle.nr_model.specs.Commands.Reading.{read_then, integer}
use Rattle.nr_model.specs.Commands.Strings.{sum_of}
use Rattle.nr_key_commands.proofs.strings.numbers.IncrementStringEdit.edit.Goals as goal

pub returns-in-Err-clause-ok : goal.returns-in-Err-clause-ok
returns-in-Err-clause-ok c =
    let same : to_z w64 (of_z w64 c.args.self.by) ≡ c.args.self.by = search rules in
    (tt, ap (λ (by : ℤ). read_then (integer c.args.text.now) (λ n. sum_of n by)) (sym same) ∙ c.in-Err.ensures.refused)
