use Rattle.std.proofs.Common.{◌≡◌, ◌++◌, length, refl, sym, ◌∙◌}
use Rattle.std.proofs.lemmas.Bool.{eqb-true}
use Rattle.nr_resp.specs.Frames.{frames_seen}
use Rattle.nr_resp.specs.PartialRequest.{bytes_of}
use Rattle.nr_resp.proofs.Stages.{held_unfinished, at_end, at_memory}
use Rattle.nr_resp.proofs.reader.partial.PartialRequest.feed.Goals as goal

pub returns-in_err-left-clause-memory : goal.returns-in_err-left-clause-memory
returns-in_err-left-clause-memory c = λ _ is.
    let loop = c.loop-left in
    at_memory (bytes_of c.args.self.now ++ c.args.piece.now) (bytes_of loop.self ++ loop.left.now) (bytes_of c.step.new.self) (frames_seen c.args.frames.now.items) (frames_seen loop.frames.items) (frames_seen c.step.new.frames.items) loop.invariant.reads (c.in_err-left.ensures.kept refl) c.in_err-left.ensures.begun

pub returns-clause-ok : goal.returns-clause-ok
returns-clause-ok c =
    let loop = c.loop-left in
    let none : length loop.left.now ≡ 0 = eqb-true _ 0 (sym c.is_empty.ensures ∙ c.loop-left-test.false) in
    (at_end (bytes_of c.args.self.now ++ c.args.piece.now) loop.left.now (bytes_of loop.self) (frames_seen c.args.frames.now.items) (frames_seen loop.frames.items) loop.invariant.reads
    (held_unfinished loop.self.stage loop.self.words.items loop.self.part.items loop.invariant.held) none).0

pub returns-clause-frames : goal.returns-clause-frames
returns-clause-frames c =
    let loop = c.loop-left in
    let none : length loop.left.now ≡ 0 = eqb-true _ 0 (sym c.is_empty.ensures ∙ c.loop-left-test.false) in
    (at_end (bytes_of c.args.self.now ++ c.args.piece.now) loop.left.now (bytes_of loop.self) (frames_seen c.args.frames.now.items) (frames_seen loop.frames.items) loop.invariant.reads
    (held_unfinished loop.self.stage loop.self.words.items loop.self.part.items loop.invariant.held) none).1

pub returns-clause-whole : goal.returns-clause-whole
returns-clause-whole c =
    let loop = c.loop-left in
    let none : length loop.left.now ≡ 0 = eqb-true _ 0 (sym c.is_empty.ensures ∙ c.loop-left-test.false) in
    (at_end (bytes_of c.args.self.now ++ c.args.piece.now) loop.left.now (bytes_of loop.self) (frames_seen c.args.frames.now.items) (frames_seen loop.frames.items) loop.invariant.reads
    (held_unfinished loop.self.stage loop.self.words.items loop.self.part.items loop.invariant.held) none).2
