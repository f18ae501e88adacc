use Rattle.std.proofs.Common.{◌<◌, ◌≤◌, ◌+◌, length, refl, arith}
use Rattle.nr_model.specs.Lists.{seen_from}
use Rattle.nr_lists.proofs.TakenOut.{none_turned, one_turned, all_turned, one_is_left, fits_count, length_seen}
use Rattle.nr_lists.proofs.matches.take_out.Goals as goal

pub loop-init : goal.loop-init
loop-init c = none_turned c.args.end c.args.most c.args.bytes.now (seen_from c.args.end c.args.blocks.now.items)

pub overflow_sub-most : goal.overflow_sub-most
overflow_sub-most c = c.loop.invariant.few

pub turn-taken-requires : goal.turn-taken-requires
turn-taken-requires c =
    let all = seen_from c.args.end c.args.blocks.now.items in
    let within : c.loop.counter < length all = omega (arith, c.loop-test.true, c.len-end.ensures, c.args.blocks.now.ok.0, length_seen c.args.end c.args.blocks.now.items) in
    one_is_left c.args.end c.args.most c.loop.taken c.loop.counter c.args.bytes.now all (seen_from c.args.end c.loop.blocks.items) c.loop.blocks.items c.loop.invariant
    within refl

pub overflow_add-taken : goal.overflow_add-taken
overflow_add-taken c =
    let all = seen_from c.args.end c.args.blocks.now.items in
    let within : c.loop.counter < length all = omega (arith, c.loop-test.true, c.len-end.ensures, c.args.blocks.now.ok.0, length_seen c.args.end c.args.blocks.now.items) in
    let next = one_turned c.args.end c.args.most c.loop.taken c.loop.counter c.turn-taken.result c.args.bytes.now all (seen_from c.args.end c.loop.blocks.items)
    (seen_from c.args.end c.turn-taken.new.blocks.items) within c.turn-taken.ensures.blocks c.turn-taken.ensures.count c.loop.invariant in
    let few = fits_count c.args.end c.args.most (c.loop.taken + c.turn-taken.result) (c.loop.counter + 1) c.args.bytes.now all
    (seen_from c.args.end c.turn-taken.new.blocks.items) c.args.blocks.now.items c.requires refl next in
    omega (arith, few)

pub loop-preserved : goal.loop-preserved
loop-preserved c =
    let all = seen_from c.args.end c.args.blocks.now.items in
    let within : c.loop.counter < length all = omega (arith, c.loop-test.true, c.len-end.ensures, c.args.blocks.now.ok.0, length_seen c.args.end c.args.blocks.now.items) in
    one_turned c.args.end c.args.most c.loop.taken c.loop.counter c.turn-taken.result c.args.bytes.now all (seen_from c.args.end c.loop.blocks.items)
    (seen_from c.args.end c.turn-taken.new.blocks.items) within c.turn-taken.ensures.blocks c.turn-taken.ensures.count c.loop.invariant

pub returns-clause-items : goal.returns-clause-items
returns-clause-items c =
    let all = seen_from c.args.end c.args.blocks.now.items in
    let ended : length all ≤ c.loop.counter = omega (arith, c.loop-test.false, c.len-end.ensures, c.args.blocks.now.ok.0, length_seen c.args.end c.args.blocks.now.items) in
    (all_turned c.args.end c.args.most c.loop.taken c.loop.counter c.args.bytes.now all (seen_from c.args.end c.loop.blocks.items) c.args.blocks.now.items
    c.loop.blocks.items ended refl refl c.loop.invariant).0

pub returns-clause-count : goal.returns-clause-count
returns-clause-count c =
    let all = seen_from c.args.end c.args.blocks.now.items in
    let ended : length all ≤ c.loop.counter = omega (arith, c.loop-test.false, c.len-end.ensures, c.args.blocks.now.ok.0, length_seen c.args.end c.args.blocks.now.items) in
    (all_turned c.args.end c.args.most c.loop.taken c.loop.counter c.args.bytes.now all (seen_from c.args.end c.loop.blocks.items) c.args.blocks.now.items
    c.loop.blocks.items ended refl refl c.loop.invariant).1
