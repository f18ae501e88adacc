use Rattle.std.proofs.Common.{refl, arith}
use Rattle.nr_resp.proofs.Stages.{no_cr, on_err, same_part}
use Rattle.nr_resp.proofs.reader.partial.PartialRequest.body_front.Goals as goal

pub returns-then-piece-ne13-clause-stopped : goal.returns-then-piece-ne13-clause-stopped
returns-then-piece-ne13-clause-stopped c =
    let self = c.args.self.now in
    no_cr self.stage c.args.count c.args.len self.words.items self.part.items c.args.piece.now c.requires.stage c.requires.held (omega (arith, self.part.ok.0)) c.requires.some c.if-piece-ne13.true

pub returns-in_err-extend_from_slice-clause-begun : goal.returns-in_err-extend_from_slice-clause-begun
returns-in_err-extend_from_slice-clause-begun c =
    let self = c.args.self.now in
    on_err c.from_residual.result _ (same_part self.stage self.words.items self.part.items _ c.args.piece.now c.in_err-extend_from_slice.ensures.items)

pub returns-then-piece-ne13-clause-begun : goal.returns-then-piece-ne13-clause-begun
returns-then-piece-ne13-clause-begun c = (c.args.piece.now, refl)
