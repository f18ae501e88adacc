use Rattle.std.proofs.Common.{◌∙◌, ap, List, [], set}
use Rattle.std.specs.Prelude.{if◌then◌else◌}
use Rattle.std.specs.List.{insert}
use Rattle.std.proofs.lemmas.List.{get_or_read}
use Rattle.nr_model.specs.Bytes.{Bytes}
use Rattle.nr_lists.proofs.Around.{done_put}
use Rattle.nr_lists.proofs.blocks.insert_inside.Goals as goal

pub returns-clause-put : goal.returns-clause-put
returns-clause-put c =
    let xs = c.args.blocks.now.items in
    let k = c.args.block in
    done_put xs _ k c.args.place c.args.item.now c.in_ok-done.done c.requires.block
    (ap (λ (b : List Bytes). set xs k b) (c.in_ok-done.ensures.ok
    ∙ ap (λ (b : List Bytes). if c.in_ok-done.done then insert b c.args.place c.args.item.now else b) (get_or_read xs k c.index_mut.result.now c.requires.block c.index_mut.ensures.value [])))
