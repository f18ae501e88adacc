use Rattle.std.proofs.Common.{◌≡◌, ◌∙◌, ap, List, ◌+◌, rules}
use Rattle.std.specs.List.{insert}
use Rattle.nr_model.specs.Bytes.{Bytes}
use Rattle.nr_lists.specs.Packed.{joined}
use Rattle.nr_lists.proofs.Around.{held_on_err, put_in_front, put_behind_parted, parted_same}
use Rattle.nr_lists.proofs.blocks.insert_alone.Goals as goal

pub returns-then-place-eq0-clause-ok : goal.returns-then-place-eq0-clause-ok
returns-then-place-eq0-clause-ok c =
    put_in_front c.args.blocks.now.items c.insert.new.self.items c.args.block c.args.place c.args.item c.requires.block c.if-place-eq0.true
    (c.in_ok-insert.ensures.items ∙ ap (insert c.args.blocks.now.items c.args.block) c.in_ok-alone.ensures)

pub returns-in_err-insert-2-clause-err : goal.returns-in_err-insert-2-clause-err
returns-in_err-insert-2-clause-err c =
    let same : c.insert-2.new.self.items ≡ c.part.new.blocks.items = search (rules, c.in_err-insert-2.ensures.unchanged) in
    held_on_err c.from_residual-in_err-insert-2.result (ap (λ (deque : List (List Bytes)). joined deque) same
    ∙ parted_same c.args.blocks.now.items c.part.new.blocks.items c.args.block c.args.place c.requires.block c.in_ok-part.ensures.first c.in_ok-part.ensures.others)

pub returns-clause-ok : goal.returns-clause-ok
returns-clause-ok c =
    put_behind_parted c.args.blocks.now.items c.part.new.blocks.items c.insert-2.new.self.items c.args.block c.args.place c.args.item c.in_ok-part.ensures.first
    c.in_ok-part.ensures.others
    (c.in_ok-insert-2.ensures.items ∙ ap (insert c.part.new.blocks.items (c.args.block + 1)) c.in_ok-alone.ensures)
