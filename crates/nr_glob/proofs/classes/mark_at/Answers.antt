use Rattle.std.proofs.Common.{inl, inr}
use Rattle.nr_glob.proofs.Marks.{mark_escaped, mark_plain}
use Rattle.nr_glob.proofs.classes.mark_at.Goals as goal

pub returns-in-empty-clause-mark : goal.returns-in-empty-clause-mark
returns-in-empty-clause-mark c = mark_plain c.args.byte c.args.behind.now c.requires (inl c.in-empty.len_below)

pub returns-then-byte-eq92-clause-mark : goal.returns-then-byte-eq92-clause-mark
returns-then-byte-eq92-clause-mark c = mark_escaped c.args.byte c.args.behind.now c.if-byte-eq92.true c.in-len1-up.len_at_least

pub returns-else-byte-eq92-clause-mark : goal.returns-else-byte-eq92-clause-mark
returns-else-byte-eq92-clause-mark c = mark_plain c.args.byte c.args.behind.now c.requires (inr c.if-byte-eq92.false)
