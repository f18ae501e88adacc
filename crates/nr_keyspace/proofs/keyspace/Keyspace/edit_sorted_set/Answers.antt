use Rattle.std.proofs.Common.{Some, Ok, ap, ◌∙◌}
use Rattle.nr_model.specs.Keyspace as model
use Rattle.nr_model.specs.Commands.Held.{scores_of}
use Rattle.nr_keyspace.specs.Edited.{scores_in}
use Rattle.nr_keyspace.specs.Joined.{key_of}
use Rattle.nr_keyspace.proofs.Leaving.{refused_edit, left_edit}
use Rattle.nr_keyspace.proofs.keyspace.Keyspace.edit_sorted_set.Goals as goal

pub returns-in-Err : goal.returns-in-Err
returns-in-Err g c =
    refused_edit scores_of scores_in (λ x. model.Scores x) (g.E.SortedSetEdit.edits c.args.edit) c.args.self.now c.edit.new.self (key_of c.args.database c.args.name.now) c.args.now
    c.in_ok-edited.field-0 c.in-Err.why (c.in-Some.is ∙ ap (λ x. Some x) (c.in_ok-told.was ∙ ap (λ x. Ok x) c.in-Err.is)) c.in_ok-edited.ensures.ok

pub returns : goal.returns
returns g c =
    left_edit scores_of scores_in (λ x. model.Scores x) (g.E.SortedSetEdit.edits c.args.edit) c.args.self.now c.edit.new.self c.take_emptied.new.keyspace
    (key_of c.args.database c.args.name.now) c.args.now c.in_ok-edited.field-0 c.in-Ok.told.0 c.in-Ok.told.1
    (c.in-Some.is ∙ ap (λ x. Some x) (c.in_ok-told.was ∙ ap (λ x. Ok x) c.in-Ok.is)) c.in_ok-edited.ensures.ok c.take_emptied.ensures
