use Rattle.std.proofs.Common.{◌≡◌, ◌++◌, ◌∷◌, [], sym, subst, ◌∙◌}
use Rattle.std.proofs.lemmas.Result.{err_from_is_err_and}
use Rattle.std.proofs.lemmas.List.{map_push}
use Rattle.nr_model.proofs.Words.{vec_some, vec_none}
use Rattle.nr_resp.specs.Frames.{frames_seen}
use Rattle.nr_resp.specs.Lines.{most_line, IsLineFront}
use Rattle.nr_resp.proofs.Stages.{count_misses, inline_misses, count_moves, empty_moves, inline_moves, blank_moves}
use Rattle.nr_resp.proofs.reader.partial.PartialRequest.begin.Goals as goal

pub returns-in_err-count-clause-stopped : goal.returns-in_err-count-clause-stopped
returns-in_err-count-clause-stopped c =
    let line = c.args.line.now in
    let p = err_from_is_err_and c.from_residual.result c.from_residual.ensures.1 in
    rw (p.1, p.2)
    (count_misses line c.in_err-count.field-0.0 (sym c.if-starred.true ∙ c.requires.starred) (subst (λ b. IsLineFront (most_line b) line) c.if-starred.true c.requires.line) c.in_err-count.ensures.fault)

pub returns-in_err-words-clause-stopped : goal.returns-in_err-words-clause-stopped
returns-in_err-words-clause-stopped c =
    let line = c.args.line.now in
    let p = err_from_is_err_and c.from_residual-in_err-words.result c.from_residual-in_err-words.ensures.1 in
    rw (p.1, p.2)
    (inline_misses line c.in_err-words.field-0.0 (sym c.if-starred.false ∙ c.requires.starred) (subst (λ b. IsLineFront (most_line b) line) c.if-starred.false c.requires.line) c.in_err-words.ensures.fault)

pub returns-then-count-gt0-clause-moved : goal.returns-then-count-gt0-clause-moved
returns-then-count-gt0-clause-moved c = λ left.
    count_moves c.args.line.now left c.in_ok-count.count c.args.self.now.words.items c.args.self.now.part.items (frames_seen c.args.frames.now.items)
    c.requires.words c.requires.part (sym c.if-starred.true ∙ c.requires.starred) c.in_ok-count.ensures.ok c.if-count-gt0.true

pub returns-else-count-gt0-clause-moved : goal.returns-else-count-gt0-clause-moved
returns-else-count-gt0-clause-moved c = λ left.
    empty_moves c.args.self.now.stage c.args.line.now left c.in_ok-count.count c.args.self.now.words.items c.args.self.now.part.items (frames_seen c.args.frames.now.items)
    c.requires.stage c.requires.part (sym c.if-starred.true ∙ c.requires.starred) c.in_ok-count.ensures.ok c.if-count-gt0.false

pub returns-in_ok-push-clause-moved : goal.returns-in_ok-push-clause-moved
returns-in_ok-push-clause-moved c = λ left.
    let line = c.args.line.now in
    let self = c.args.self.now in
    let words = c.in_ok-words.words in
    let frames = c.args.frames.now.items in
    let read = c.in_ok-words.ensures.ok in
    let some = vec_some words c.is_empty.result c.is_empty.ensures c.if-not-is_empty.true in
    let pushed : frames_seen (frames ++ record { words = words } ∷ []) ≡ frames_seen frames ++ words.items ∷ [] = map_push _ frames (record { words = words }) in
    rw (c.in_ok-push.ensures.items, pushed)
    (inline_moves self.stage line left words.items self.words.items self.part.items (frames_seen frames) c.requires.stage c.requires.part (sym c.if-starred.false ∙ c.requires.starred)
    (subst (λ b. IsLineFront (most_line b) line) c.if-starred.false c.requires.line) read.0 read.1 some)

pub returns-else-not-is_empty-clause-moved : goal.returns-else-not-is_empty-clause-moved
returns-else-not-is_empty-clause-moved c = λ left.
    let line = c.args.line.now in
    let self = c.args.self.now in
    let words = c.in_ok-words.words in
    let read = c.in_ok-words.ensures.ok in
    let none = vec_none words c.is_empty.result c.is_empty.ensures c.if-not-is_empty.false in
    blank_moves self.stage line left words.items self.words.items self.part.items (frames_seen c.args.frames.now.items) c.requires.stage c.requires.part (sym c.if-starred.false ∙ c.requires.starred)
    (subst (λ b. IsLineFront (most_line b) line) c.if-starred.false c.requires.line) read.0 read.1 none
