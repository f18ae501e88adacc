use Rattle.std.proofs.Common.{◌≡◌, ◌∙◌, ap, arith, rules, length}
use Rattle.std.specs.List.{insert}
use Rattle.std.proofs.lemmas.List.Edits.{length-insert}
use Rattle.nr_ordered.specs.Lists.{Item}
use Rattle.nr_zsets.specs.Forms.{items_of}
use Rattle.nr_zsets.proofs.Moves.{set_there, stands_within, moved_in_front}
use Rattle.nr_zsets.proofs.zset.edits.set_item.Goals as goal

pub returns-then-set-clause-moved : goal.returns-then-set-clause-moved
returns-then-set-clause-moved c =
    set_there (items_of c.args.form.now) (items_of c.set.new.self) c.args.place c.args.place c.args.member.now c.args.score (omega arith) (omega arith) c.requires.stands
    (search (rules, c.set.ensures.set c.if-set.true))

pub set-requires : goal.set-requires
set-requires c = stands_within (items_of c.args.form.now) c.args.place c.args.member.now c.requires.stands

pub insert-requires-clause-within : goal.insert-requires-clause-within
insert-requires-clause-within c =
    let low = stands_within (items_of c.args.form.now) c.args.place c.args.member.now c.requires.stands in
    omega (arith, low, ap length (c.set.ensures.same c.if-set.false))

pub overflow_add-place : goal.overflow_add-place
overflow_add-place c = let low = stands_within (items_of c.args.form.now) c.args.place c.args.member.now c.requires.stands in omega (arith, low, c.requires.fits)

pub remove-requires : goal.remove-requires
remove-requires c =
    let xs = items_of c.set.new.self in
    let low = stands_within (items_of c.args.form.now) c.args.place c.args.member.now c.requires.stands in
    let size = ap length (c.set.ensures.same c.if-set.false) in
    let put : items_of c.insert.new.self ≡ insert xs c.args.place (c.args.member.now, c.args.score) = search (rules, c.in_ok-insert.ensures.put) in
    omega (arith, low, size, ap length put, length-insert xs c.args.place (c.args.member.now, c.args.score) (omega (arith, low, size)))

pub returns-clause-moved : goal.returns-clause-moved
returns-clause-moved c =
    let xs = items_of c.args.form.now in
    let item : Item = (c.args.member.now, c.args.score) in
    let put : items_of c.insert.new.self ≡ insert (items_of c.set.new.self) c.args.place item = search (rules, c.in_ok-insert.ensures.put) in
    moved_in_front xs (items_of c.insert.new.self) (items_of c.remove.new.self) c.args.place c.args.place item (omega arith)
    (stands_within xs c.args.place c.args.member.now c.requires.stands) (put ∙ ap (λ ys. insert ys c.args.place item) (c.set.ensures.same c.if-set.false)) c.remove.ensures.items
