use Rattle.nr_glob.proofs.Marks.{end_of_bytes, end_closing, mark_first}
use Rattle.nr_glob.proofs.classes.first_mark.Goals as goal

pub returns-in-empty-clause-mark : goal.returns-in-empty-clause-mark
returns-in-empty-clause-mark c = end_of_bytes c.args.class.now c.in-empty.len_below

pub returns-then-byte-eq93-clause-mark : goal.returns-then-byte-eq93-clause-mark
returns-then-byte-eq93-clause-mark c = end_closing c.args.class.now c.in-len1-up.len_at_least c.if-byte-eq93.true

pub returns-else-byte-eq93-clause-mark : goal.returns-else-byte-eq93-clause-mark
returns-else-byte-eq93-clause-mark c = mark_first c.args.class.now _ _ c.in-len1-up.len_at_least c.mark_at.ensures.mark
