use Rattle.std.proofs.Common.{sym, drop}
use Rattle.nr_packs.specs.Packed.{entries_in}
use Rattle.nr_packs.proofs.Reading.{behind_packed}
use Rattle.nr_packs.proofs.Sites.{passed, passed_all, passed_none}
use Rattle.nr_packs.proofs.packed.places.behind.Goals as goal

pub returns-in_default : goal.returns-in_default
returns-in_default c =
    let i = c.loop-left.invariant in
    passed_none c.loop-left.left c.loop-left.rest.now (drop c.args.place (entries_in c.args.bytes.now)) i.stored (sym c.in_default.ensures) i.left

pub loop-left-preserved : goal.loop-left-preserved
loop-left-preserved c =
    let i = c.loop-left.invariant in
    record {
      stored = behind_packed c.loop-left.rest.now (c.in-Some.field-0-0.now, c.in-Some.field-0-1.now, c.in-Some.others.now) i.stored (sym c.in-Some.ensures);
      left = passed c.loop-left.left c.loop-left.rest.now (c.in-Some.field-0-0.now, c.in-Some.field-0-1.now, c.in-Some.others.now)
          (drop c.args.place (entries_in c.args.bytes.now)) (sym c.in-Some.ensures) c.loop-left-test.true i.left;
    }

pub returns : goal.returns
returns c =
    let i = c.loop-left.invariant in
    passed_all c.loop-left.left c.loop-left.rest.now (drop c.args.place (entries_in c.args.bytes.now)) i.stored c.loop-left-test.false i.left
