use Rattle.std.proofs.Common.{ap, sym}
use Rattle.std.specs.Map.{keys_of}
use Rattle.nr_packs.specs.Packed.{Entries}
use Rattle.nr_packs.proofs.Reading.{none_in, first_in}
use Rattle.nr_sets.proofs.members.next_packed.Goals as goal

pub returns-in_default : goal.returns-in_default
returns-in_default c = let none = ap (λ (es : Entries). keys_of es) (none_in c.args.bytes.now.now (sym c.in_default.ensures)) in (none, none)

pub returns : goal.returns
returns c = ap (λ (es : Entries). keys_of es) (first_in c.args.bytes.now.now (c.in-Some.member.now, c.in-Some.field-0-1.now, c.in-Some.others.now) (sym c.in-Some.ensures))
