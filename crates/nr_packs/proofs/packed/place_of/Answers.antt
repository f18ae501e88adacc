use Rattle.std.proofs.Common.{sym, rules}
use Rattle.nr_packs.specs.Packed.{entries_in}
use Rattle.nr_packs.specs.Placed.{from}
use Rattle.nr_packs.proofs.Placed.{in_front}
use Rattle.nr_packs.proofs.Around.{past_none, value_none, past_it, value_it, past_other, value_other}
use Rattle.nr_packs.proofs.packed.place_of.Goals as goal

pub returns-in_default : goal.returns-in_default
returns-in_default c =
    let es = entries_in c.args.bytes.now in
    let rest = c.from_field-rest.result.now in
    let left = c.from_field-rest.ensures.left in
    record {
      before = in_front c.args.bytes.now rest c.args.field.now es c.requires left;
      value = value_none c.args.field.now rest (from c.args.field.now es) left (sym c.in_default.ensures);
      after = past_none c.args.field.now rest (from c.args.field.now es) left (sym c.in_default.ensures);
    }

pub returns-then-is_eq : goal.returns-then-is_eq
returns-then-is_eq c =
    let es = entries_in c.args.bytes.now in
    let rest = c.from_field-rest.result.now in
    let left = c.from_field-rest.ensures.left in
    record {
      before = in_front c.args.bytes.now rest c.args.field.now es c.requires left;
      value = value_it c.args.field.now rest (from c.args.field.now es) (c.in-Some.other.now, c.in-Some.value.now, c.in-Some.behind.now) left (sym c.in-Some.ensures) (search rules);
      after = past_it c.args.field.now rest (from c.args.field.now es) (c.in-Some.other.now, c.in-Some.value.now, c.in-Some.behind.now) left (sym c.in-Some.ensures) (search rules);
    }

pub returns : goal.returns
returns c =
    let es = entries_in c.args.bytes.now in
    let rest = c.from_field-rest.result.now in
    let left = c.from_field-rest.ensures.left in
    record {
      before = in_front c.args.bytes.now rest c.args.field.now es c.requires left;
      value = value_other c.args.field.now rest (from c.args.field.now es) (c.in-Some.other.now, c.in-Some.value.now, c.in-Some.behind.now) left (sym c.in-Some.ensures) (search rules);
      after = past_other c.args.field.now rest (from c.args.field.now es) (c.in-Some.other.now, c.in-Some.value.now, c.in-Some.behind.now) left (sym c.in-Some.ensures) (search rules);
    }
