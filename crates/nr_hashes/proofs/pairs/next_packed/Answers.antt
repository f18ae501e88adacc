use Rattle.std.proofs.Common.{sym}
use Rattle.nr_packs.proofs.Reading.{none_in, first_in}
use Rattle.nr_hashes.proofs.pairs.next_packed.Goals as goal

pub returns-in_default : goal.returns-in_default
returns-in_default c = let none = none_in c.args.bytes.now.now (sym c.in_default.ensures) in (none, none)

pub returns : goal.returns
returns c = first_in c.args.bytes.now.now (c.in-Some.field.now, c.in-Some.value.now, c.in-Some.others.now) (sym c.in-Some.ensures)
