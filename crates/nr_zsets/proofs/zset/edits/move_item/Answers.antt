use Rattle.std.proofs.Common.{◌≡◌, ◌∙◌, rules, arith, ap, length}
use Rattle.std.specs.List.{insert}
use Rattle.std.proofs.lemmas.List.Edits.{length-insert}
use Rattle.nr_zsets.specs.Forms.{items_of}
use Rattle.nr_zsets.specs.Lists.{moved}
use Rattle.nr_zsets.proofs.Moves.{moved_here, stands_within, moved_behind, moved_in_front}
use Rattle.nr_zsets.proofs.zset.edits.move_item.Goals as goal

pub returns-then-to-from-clause-moved : goal.returns-then-to-from-clause-moved
returns-then-to-from-clause-moved c =
    let set : items_of c.set_item.new.form ≡ moved (items_of c.args.form.now) c.args.from c.args.from (c.args.member.now, c.args.score) =
    search (rules, c.in_ok-set_item.ensures.moved) in
    set ∙ moved_here (items_of c.args.form.now) c.args.from c.args.to (c.args.member.now, c.args.score) c.if-from-to.true c.if-to-from.true

pub returns-then-from-to-2-clause-moved : goal.returns-then-from-to-2-clause-moved
returns-then-from-to-2-clause-moved c =
    moved_behind (items_of c.args.form.now) (items_of c.insert.new.self) (items_of c.remove.new.self) c.args.from c.args.to (c.args.member.now, c.args.score) c.if-from-to-2.true
    c.requires.within (search (rules, c.in_ok-insert.ensures.put)) c.remove.ensures.items

pub overflow_add-from-2 : goal.overflow_add-from-2
overflow_add-from-2 c = let low = stands_within (items_of c.args.form.now) c.args.from c.args.member.now c.requires.stands in omega (arith, low, c.requires.fits)

pub remove-requires-2 : goal.remove-requires-2
remove-requires-2 c =
    let low = stands_within (items_of c.args.form.now) c.args.from c.args.member.now c.requires.stands in
    let put : (items_of c.insert.new.self) ≡ insert (items_of c.args.form.now) c.args.to (c.args.member.now, c.args.score) = search (rules, c.in_ok-insert.ensures.put) in
    omega (arith, low, ap length put, length-insert (items_of c.args.form.now) c.args.to (c.args.member.now, c.args.score) c.requires.within)

pub returns-clause-moved : goal.returns-clause-moved
returns-clause-moved c =
    moved_in_front (items_of c.args.form.now) (items_of c.insert.new.self) (items_of c.remove-2.new.self) c.args.from c.args.to (c.args.member.now, c.args.score) c.if-from-to-2.false
    (stands_within (items_of c.args.form.now) c.args.from c.args.member.now c.requires.stands) (search (rules, c.in_ok-insert.ensures.put)) c.remove-2.ensures.items
