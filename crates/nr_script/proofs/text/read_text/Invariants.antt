use Rattle.std.proofs.Common.{◌≡◌, length}
use Rattle.nr_script.specs.Texts.{text_of, put_before}
use Rattle.nr_script.proofs.text.read_text.Given as goal

abbrev pub invariant-loop-first : goal.invariant-loop-first
invariant-loop-first l = text_of l.fn.text ≡ put_before l.bytes.items (text_of l.rest)

abbrev pub decreases-loop-first : goal.decreases-loop-first
decreases-loop-first l = length l.rest
