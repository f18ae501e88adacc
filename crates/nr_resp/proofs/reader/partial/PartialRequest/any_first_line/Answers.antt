use Rattle.std.proofs.Common.{◌≡◌, ◌-◌, ◌++◌, refl, length, take, ap, ◌∙◌, arith}
use Rattle.std.proofs.lemmas.Result.{err_from_is_err_and}
use Rattle.nr_resp.specs.declared.reader.FeedError.TheVariants as errors
use Rattle.nr_resp.specs.Lines.{begins, most_line}
use Rattle.nr_resp.specs.PartialRequest.{bytes_of}
use Rattle.nr_resp.proofs.Stages.{first_breaks, first_stops, on_err, same_part, line_lost}
use Rattle.nr_resp.proofs.reader.partial.PartialRequest.any_first_line.Goals as goal

pub returns-in_err-end-clause-stopped : goal.returns-in_err-end-clause-stopped
returns-in_err-end-clause-stopped c =
    let self = c.args.self.now in
    let piece = c.args.piece.now in
    let starred = c.begins_with-starred.result in
    let p = err_from_is_err_and c.from_residual.result c.from_residual.ensures.1 in
    let mark : starred ≡ begins 42 (self.part.items ++ piece) = c.begins_with-starred.ensures ∙ ap (λ part. begins 42 (part ++ piece)) c.deref.ensures.value in
    let room : c.line_limit-most.result.0 - c.len.result ≡ most_line starred - length self.part.items = omega (arith, c.line_limit-most.ensures.most, c.len.ensures, self.part.ok.0) in
    rw (p.1, p.2)
    (first_breaks self.stage self.words.items self.part.items piece starred (c.line_limit-most.result.0 - c.len.result) c.in_err-end.field-0.0 c.requires.stage c.requires.held c.requires.some
    mark room (c.in_err-end.ensures.0 ∙ ap errors.Fault c.line_limit-most.ensures.fault) c.in_err-end.ensures.1)

pub returns-in_err-begin-clause-stopped : goal.returns-in_err-begin-clause-stopped
returns-in_err-begin-clause-stopped c =
    let self = c.args.self.now in
    let piece = c.args.piece.now in
    let p = err_from_is_err_and c.from_residual-in_err-begin.result c.from_residual-in_err-begin.ensures.1 in
    let lf = rw c.in-Some.is at c.in_ok-end.ensures in
    let line : c.in_ok-line.line.now ≡ self.part.items ++ take c.in-Some.end piece = c.in_ok-line.ensures ∙ ap (λ held. held.items ++ take c.in-Some.end piece) c.replace-held.ensures.value in
    rw (p.1, p.2)
    (first_stops self.stage self.words.items self.part.items piece c.in_ok-line.line.now c.in-Some.end c.in_err-begin.field-0.0 c.requires.stage lf.0 line c.in_err-begin.ensures.stopped)

pub returns-in_err-end-clause-begun : goal.returns-in_err-end-clause-begun
returns-in_err-end-clause-begun c = on_err c.from_residual.result _ (c.args.piece.now, refl)

pub returns-in_err-extend_from_slice-clause-begun : goal.returns-in_err-extend_from_slice-clause-begun
returns-in_err-extend_from_slice-clause-begun c =
    let self = c.args.self.now in
    on_err c.from_residual-in_err-extend_from_slice.result _ (same_part self.stage self.words.items self.part.items _ c.args.piece.now c.in_err-extend_from_slice.ensures.items)

pub returns-in_err-line-clause-begun : goal.returns-in_err-line-clause-begun
returns-in_err-line-clause-begun c =
    let self = c.args.self.now in
    on_err c.from_residual-in_err-line.result _ (line_lost self.stage self.words.items _ (bytes_of self ++ c.args.piece.now) c.requires.stage (ap (λ part. part.items) c.replace-held.ensures.after ∙ c.new.ensures.items))

pub returns-in_err-begin-clause-begun : goal.returns-in_err-begin-clause-begun
returns-in_err-begin-clause-begun c =
    let all = bytes_of c.args.self.now ++ c.args.piece.now in
    on_err c.from_residual-in_err-begin.result _ (all, ap (λ held. held ++ all) c.in_err-begin.ensures.begun)
