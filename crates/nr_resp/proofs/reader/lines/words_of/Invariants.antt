use Rattle.std.proofs.Common.{◌≡◌, ◌++◌, false, drop}
use Rattle.std.specs.List.{list_any}
use Rattle.nr_model.specs.Requests.{is_blank, words_of}
use Rattle.nr_resp.proofs.reader.lines.words_of.Given as goal

abbrev pub invariant-loop-c : goal.invariant-loop-c
invariant-loop-c l = record {
  unparted : list_any is_blank l.word.items ≡ false;
  so_far : l.words.items ++ words_of (l.word.items ++ drop l.c-index l.line) ≡ words_of l.line;
}
