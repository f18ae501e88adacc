use Rattle.std.proofs.Common.{◌≡◌, ◌≤◌, ◌++◌, ◌∷◌, [], length, refl, ap, arith}
use Rattle.nr_resp.specs.Frames.{frames_seen}
use Rattle.nr_resp.specs.PartialRequest.{array_front}
use Rattle.nr_resp.specs.declared.reader.partial.Stage.TheVariants.{Ending, Line}
use Rattle.nr_resp.proofs.Stages.{frame_seen, word_moves, frame_moves, on_err}
use Rattle.nr_resp.proofs.reader.partial.PartialRequest.add_word.Goals as goal

pub returns-in_err-push-2-clause-begun : goal.returns-in_err-push-2-clause-begun
returns-in_err-push-2-clause-begun c =
    let front = array_front c.args.count c.args.self.now.words.items in
    on_err c.from_residual-in_err-push-2.result _ (front, ap (λ part. part ++ front) c.requires.part)

pub returns-in_ok-push-2-clause-moved : goal.returns-in_ok-push-2-clause-moved
returns-in_ok-push-2-clause-moved c = λ left.
    let self = c.args.self.now in
    let word = c.args.word in
    let frames = frames_seen c.args.frames.now.items in
    let more : c.push.new.self.items ≡ self.words.items ++ word ∷ [] = c.in_ok-push.ensures.items in
    let pushed = frame_seen c.args.frames.now.items _ _ c.push.new.self.items c.in_ok-push-2.ensures.items (ap (λ words. words.items) c.replace-words.ensures.value) in
    let all : c.args.count ≤ length c.push.new.self.items = omega (arith, c.push.new.self.ok.0) in
    rw pushed
    (frame_moves (Ending c.args.count) Line c.args.count self.words.items c.push.new.self.items c.replace-words.new.dest.items word (10 ∷ left) self.part.items left frames
    refl (c.requires.lacks, c.requires.short) (omega arith) refl refl more all refl c.requires.part)

pub returns-else-len-count-clause-moved : goal.returns-else-len-count-clause-moved
returns-else-len-count-clause-moved c = λ left.
    let self = c.args.self.now in
    let word = c.args.word in
    let more : c.push.new.self.items ≡ self.words.items ++ word ∷ [] = c.in_ok-push.ensures.items in
    word_moves (Ending c.args.count) c.args.count self.words.items c.push.new.self.items word (10 ∷ left) self.part.items left (frames_seen c.args.frames.now.items)
    refl (omega arith) refl refl more c.requires.part
