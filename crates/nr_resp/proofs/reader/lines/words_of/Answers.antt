use Rattle.std.proofs.Common.{◌≡◌, ◌+◌, true, false, get_or, drop, refl, sym, ◌∙◌}
use Rattle.nr_model.specs.Requests.{is_blank, words_of}
use Rattle.nr_model.proofs.Words.{blank_behind, blank_alone, word_at_end, no_word_at_end, byte_apart, byte_joined, still_unparted, at_end, vec_some, vec_none}
use Rattle.nr_resp.proofs.reader.lines.words_of.Goals as goal
use Rattle.nr_resp.proofs.reader.lines.words_of.Goals.{then-not-is_blank+in_ok-push, else-not-is_blank+then-not-is_empty+in_ok-from_slice+in_ok-push-2, else-not-is_blank+else-not-is_empty, then-not-is_empty-2+in_ok-from_slice-2+in_ok-push-3, else-not-is_empty-2}

pub loop-c-preserved : goal.loop-c-preserved
loop-c-preserved c =
    let line = c.args.line.now in
    let i = c.loop-c.c-index in
    let b = get_or line i 0 in
    let word = c.loop-c.word.items in
    let words = c.loop-c.words.items in
    let before = c.loop-c.invariant in
    elim c.if-not-is_blank.branch [
      | then-not-is_blank+in_ok-push w ↦
          let other : is_blank b ≡ false = sym c.is_blank.ensures ∙ w.if-not-is_blank.true in
          rw (w.words-is, w.word-is, w.in_ok-push.ensures.items)
          (record { unparted = still_unparted word b before.unparted other; so_far = byte_joined words word line i (words_of line) c.loop-c-test.true before.so_far })
      | else-not-is_blank+then-not-is_empty+in_ok-from_slice+in_ok-push-2 w ↦
          let blank : is_blank b ≡ true = sym c.is_blank.ensures ∙ w.if-not-is_blank.false in
          let some = vec_some c.loop-c.word w.is_empty.result w.is_empty.ensures w.if-not-is_empty.true in
          rw (w.words-is, w.word-is, w.in_ok-push-2.ensures.items, w.clear.ensures.items, w.in_ok-from_slice.ensures.copied, w.deref.ensures.value)
          (record { unparted = refl; so_far = blank_behind words word b (drop (i + 1) line) (words_of line) before.unparted blank some (byte_apart words word line i (words_of line) c.loop-c-test.true before.so_far) })
      | else-not-is_blank+else-not-is_empty w ↦
          let blank : is_blank b ≡ true = sym c.is_blank.ensures ∙ w.if-not-is_blank.false in
          let none = vec_none c.loop-c.word w.is_empty.result w.is_empty.ensures w.if-not-is_empty.false in
          rw (w.words-is, w.word-is)
          (record { unparted = before.unparted; so_far = blank_alone words word b (drop (i + 1) line) (words_of line) blank none (byte_apart words word line i (words_of line) c.loop-c-test.true before.so_far) })
    ]

pub returns : goal.returns
returns c =
    let line = c.args.line.now in
    let word = c.loop-c.word.items in
    let words = c.loop-c.words.items in
    let before = c.loop-c.invariant in
    let so_far = at_end words word line c.loop-c.c-index (words_of line) c.loop-c-test.false before.so_far in
    elim c.if-not-is_empty-2.branch [
      | then-not-is_empty-2+in_ok-from_slice-2+in_ok-push-3 w ↦
          let some = vec_some c.loop-c.word c.is_empty-2.result c.is_empty-2.ensures w.if-not-is_empty-2.true in
          rw (w.words-is, w.in_ok-push-3.ensures.items, w.in_ok-from_slice-2.ensures.copied, w.deref-then-not-is_empty-2.ensures.value) (word_at_end words word (words_of line) before.unparted some so_far)
      | else-not-is_empty-2 w ↦
          let none = vec_none c.loop-c.word c.is_empty-2.result c.is_empty-2.ensures w.if-not-is_empty-2.false in
          rw w.words-is (no_word_at_end words word (words_of line) none so_far)
    ]
