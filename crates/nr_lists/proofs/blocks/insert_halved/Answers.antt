use Rattle.std.proofs.Common.{◌≡◌, ◌∙◌, ◌/◌, ◌<◌, ap, [], length, List, arith}
use Rattle.std.proofs.lemmas.List.{get_or_read}
use Rattle.nr_model.specs.Bytes.{Bytes}
use Rattle.nr_lists.specs.Blocks.{block_at}
use Rattle.nr_lists.proofs.Around.{held_on_err, split_same, halved_first, halved_second}
use Rattle.nr_lists.proofs.blocks.insert_halved.Goals as goal

pub returns-in_err-insert_there-clause-err : goal.returns-in_err-insert_there-clause-err
returns-in_err-insert_there-clause-err c =
    held_on_err c.from_residual-in_err-insert_there.result (c.in_err-insert_there.ensures.err
    ∙ split_same c.args.blocks.now.items c.split.new.blocks.items c.args.block (c.len-half.result / 2) c.requires.block c.in_ok-split.ensures.ok)

pub returns-then-place-half-clause-ok : goal.returns-then-place-half-clause-ok
returns-then-place-half-clause-ok c =
    let long : c.len-half.result ≡ length (block_at c.args.blocks.now.items c.args.block) = c.len-half.ensures.len
    ∙ ap (λ (b : List Bytes). length b) (get_or_read c.args.blocks.now.items c.args.block c.index.result.now c.requires.block c.index.ensures []) in
    halved_first c.args.blocks.now.items c.split.new.blocks.items c.insert_there.new.blocks.items c.args.block (c.len-half.result / 2) c.args.place c.args.item
    c.requires.block (omega (arith, long)) c.in_ok-split.ensures.ok c.if-place-half.true c.in_ok-insert_there.ensures.ok

pub returns-in_err-insert_there-2-clause-err : goal.returns-in_err-insert_there-2-clause-err
returns-in_err-insert_there-2-clause-err c =
    held_on_err c.from_residual-in_err-insert_there-2.result (c.in_err-insert_there-2.ensures.err
    ∙ split_same c.args.blocks.now.items c.split.new.blocks.items c.args.block (c.len-half.result / 2) c.requires.block c.in_ok-split.ensures.ok)

pub returns-clause-ok : goal.returns-clause-ok
returns-clause-ok c =
    let order : c.len-half.result / 2 < c.args.place = c.if-place-half.false in
    halved_second c.args.blocks.now.items c.split.new.blocks.items c.insert_there-2.new.blocks.items c.args.block (c.len-half.result / 2) c.args.place c.args.item
    c.requires.block c.in_ok-split.ensures.ok (omega (arith, order)) c.in_ok-insert_there-2.ensures.ok
