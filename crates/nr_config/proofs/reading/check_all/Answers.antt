use Rattle.std.proofs.Common.{◌∙◌, ap, sym}
use Rattle.std.proofs.lemmas.Result.{err_from_is_err_and}
use Rattle.std.specs.Map.Iter.{deref_pair}
use Rattle.std.proofs.lemmas.Map.Iter.{rest_more, rest_all}
use Rattle.toml.specs.View.{members_view, table_view}
use Rattle.nr_config.specs.Keys.{is_allowed}
use Rattle.nr_config.proofs.Firsts.{first_fault, no_fault}
use Rattle.nr_config.proofs.Told.{told_at}
use Rattle.nr_config.proofs.reading.check_all.Goals as goal

pub returns-in_err-check-clause-refused : goal.returns-in_err-check-clause-refused
returns-in_err-check-clause-refused c =
    let exit = err_from_is_err_and c.from_residual.result c.from_residual.ensures.1 in
    let parts = rest_more deref_pair c.loop-key.key-iterator c.next.new.self c.next.result (c.in-Some.key, c.in-Some.value) c.in-Some.is c.next.ensures.steps in
    rw (exit.1, exit.2)
    (told_at c.args.table.now.entries c.loop-key.key-iterator c.next.new.self c.in-Some.key.now c.in-Some.value.now c.as_str.result.now _
    c.into_iter-key-iterator.ensures.into_iter_gives.5 c.loop-key.invariant parts c.as_str.ensures.value c.in_err-check.ensures.refused)

pub returns-clause-allowed : goal.returns-clause-allowed
returns-clause-allowed c =
    no_fault is_allowed (table_view c.args.table.now)
    (sym c.loop-key.invariant ∙ ap (λ rest. first_fault is_allowed (members_view rest)) (rest_all deref_pair c.loop-key.key-iterator c.next.new.self c.next.result c.in-None.is c.next.ensures.steps))
