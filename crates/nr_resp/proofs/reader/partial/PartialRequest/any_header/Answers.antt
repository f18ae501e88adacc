use Rattle.std.proofs.Common.{◌≡◌, ◌+◌, ◌-◌, ◌++◌, refl, true, take, sym, ap, ◌∙◌, arith}
use Rattle.std.proofs.lemmas.List.{take_rest}
use Rattle.std.proofs.lemmas.Result.{err_from_is_err_and}
use Rattle.nr_resp.specs.Lines.{begins}
use Rattle.nr_resp.proofs.Stages.{no_dollar, header_breaks, header_misses, header_moves, on_err, same_part, header_lost}
use Rattle.nr_resp.proofs.reader.partial.PartialRequest.any_header.Goals as goal

pub returns-then-not-begins_with-clause-stopped : goal.returns-then-not-begins_with-clause-stopped
returns-then-not-begins_with-clause-stopped c =
    let self = c.args.self.now in
    let piece = c.args.piece.now in
    no_dollar self.stage c.args.count self.words.items self.part.items piece c.requires.stage c.requires.held c.requires.some
    (sym c.if-not-begins_with.true ∙ c.begins_with.ensures ∙ ap (λ part. begins 36 (part ++ piece)) c.deref.ensures.value)

pub returns-in_err-end-clause-stopped : goal.returns-in_err-end-clause-stopped
returns-in_err-end-clause-stopped c =
    let self = c.args.self.now in
    let piece = c.args.piece.now in
    let p = err_from_is_err_and c.from_residual.result c.from_residual.ensures.1 in
    let mark : true ≡ begins 36 (self.part.items ++ piece) = sym c.if-not-begins_with.false ∙ c.begins_with.ensures ∙ ap (λ part. begins 36 (part ++ piece)) c.deref.ensures.value in
    rw (p.1, p.2)
    (header_breaks self.stage c.args.count self.words.items self.part.items piece (64 - c.len.result) c.in_err-end.field-0.0 c.requires.stage c.requires.held mark
    (omega (arith, c.len.ensures, self.part.ok.0)) c.in_err-end.ensures.0 c.in_err-end.ensures.1)

pub returns-in_err-len-clause-stopped : goal.returns-in_err-len-clause-stopped
returns-in_err-len-clause-stopped c =
    let self = c.args.self.now in
    let piece = c.args.piece.now in
    let p = err_from_is_err_and c.from_residual-in_err-len.result c.from_residual-in_err-len.ensures.1 in
    let mark : true ≡ begins 36 (self.part.items ++ piece) = sym c.if-not-begins_with.false ∙ c.begins_with.ensures ∙ ap (λ part. begins 36 (part ++ piece)) c.deref.ensures.value in
    let lf = rw c.in-Some.is at c.in_ok-end.ensures in
    let line : c.in_ok-joined.field-0.now ≡ self.part.items ++ take c.in-Some.end piece = c.in_ok-joined.ensures ∙ ap (λ held. held.items ++ take c.in-Some.end piece) c.replace-held.ensures.value in
    rw (p.1, p.2)
    (header_misses self.stage c.args.count c.in-Some.end (64 - c.len.result) self.words.items self.part.items piece c.in_ok-joined.field-0.now c.in_err-len.field-0.0 c.requires.stage c.requires.held mark
    (omega (arith, c.len.ensures, self.part.ok.0)) lf line c.in_err-len.ensures.fault)

pub returns-clause-moved : goal.returns-clause-moved
returns-clause-moved c =
    let self = c.args.self.now in
    let piece = c.args.piece.now in
    let mark : true ≡ begins 36 (self.part.items ++ piece) = sym c.if-not-begins_with.false ∙ c.begins_with.ensures ∙ ap (λ part. begins 36 (part ++ piece)) c.deref.ensures.value in
    let lf = rw c.in-Some.is at c.in_ok-end.ensures in
    let line : c.in_ok-joined.field-0.now ≡ self.part.items ++ take c.in-Some.end piece = c.in_ok-joined.ensures ∙ ap (λ held. held.items ++ take c.in-Some.end piece) c.replace-held.ensures.value in
    header_moves self.stage c.args.count c.in-Some.end c.in_ok-len.len self.words.items self.part.items piece c.in_ok-joined.field-0.now c.replace-held.new.dest.items _ c.requires.stage mark
    lf.0 line c.in_ok-len.ensures.ok (ap (λ part. part.items) c.replace-held.ensures.after ∙ c.new.ensures.items) (take_rest piece (c.in-Some.end + 1))

pub returns-then-not-begins_with-clause-begun : goal.returns-then-not-begins_with-clause-begun
returns-then-not-begins_with-clause-begun c = (c.args.piece.now, refl)

pub returns-in_err-end-clause-begun : goal.returns-in_err-end-clause-begun
returns-in_err-end-clause-begun c = on_err c.from_residual.result _ (c.args.piece.now, refl)

pub returns-in_err-extend_from_slice-clause-begun : goal.returns-in_err-extend_from_slice-clause-begun
returns-in_err-extend_from_slice-clause-begun c =
    let self = c.args.self.now in
    on_err c.from_residual-in_err-extend_from_slice.result _ (same_part self.stage self.words.items self.part.items _ c.args.piece.now c.in_err-extend_from_slice.ensures.items)

pub returns-in_err-joined-clause-begun : goal.returns-in_err-joined-clause-begun
returns-in_err-joined-clause-begun c =
    let self = c.args.self.now in
    on_err c.from_residual-in_err-joined.result _
    (header_lost self.stage c.args.count self.words.items self.part.items _ c.args.piece.now c.requires.stage (ap (λ part. part.items) c.replace-held.ensures.after ∙ c.new.ensures.items))

pub returns-in_err-len-clause-begun : goal.returns-in_err-len-clause-begun
returns-in_err-len-clause-begun c =
    let self = c.args.self.now in
    on_err c.from_residual-in_err-len.result _
    (header_lost self.stage c.args.count self.words.items self.part.items _ c.args.piece.now c.requires.stage (ap (λ part. part.items) c.replace-held.ensures.after ∙ c.new.ensures.items))
