use Rattle.std.proofs.Common.{◌≡◌, ◌∙◌, ◌+◌, ap, List, rules}
use Rattle.std.specs.List.{insert}
use Rattle.nr_model.specs.Bytes.{Bytes}
use Rattle.nr_lists.specs.Packed.{joined}
use Rattle.nr_lists.proofs.Around.{held_on_err, parted_same, replaced_alone}
use Rattle.nr_lists.proofs.blocks.replace_alone.Goals as goal

pub returns-in_err-insert-clause-err : goal.returns-in_err-insert-clause-err
returns-in_err-insert-clause-err c =
    let same : c.insert.new.self.items ≡ c.part.new.blocks.items = search (rules, c.in_err-insert.ensures.unchanged) in
    held_on_err c.from_residual-in_err-insert.result (ap (λ (deque : List (List Bytes)). joined deque) same
    ∙ parted_same c.args.blocks.now.items c.part.new.blocks.items c.args.block (c.args.place + 1) c.requires.block c.in_ok-part.ensures.first c.in_ok-part.ensures.others)

pub returns-clause-ok : goal.returns-clause-ok
returns-clause-ok c =
    replaced_alone c.args.blocks.now.items c.part.new.blocks.items c.insert.new.self.items c.drop_last_of.new.blocks.items c.args.block c.args.place c.args.item
    c.requires.block c.requires.place c.in_ok-part.ensures.block c.in_ok-part.ensures.first c.in_ok-part.ensures.others
    (c.in_ok-insert.ensures.items ∙ ap (insert c.part.new.blocks.items (c.args.block + 1)) c.in_ok-alone.ensures) c.drop_last_of.ensures
