use Rattle.std.proofs.Common.{refl}
use Rattle.nr_resp.specs.PartialRequest.{bytes_of}
use Rattle.nr_resp.proofs.Stages.{no_lf, ending_begun, on_err}
use Rattle.nr_resp.proofs.reader.partial.PartialRequest.ending.Goals as goal

pub returns-then-piece-ne10-clause-stopped : goal.returns-then-piece-ne10-clause-stopped
returns-then-piece-ne10-clause-stopped c =
    let self = c.args.self.now in
    no_lf self.stage c.args.count self.words.items self.part.items c.args.piece.now c.requires.stage c.requires.held c.requires.some c.if-piece-ne10.true

pub returns-then-piece-ne10-clause-begun : goal.returns-then-piece-ne10-clause-begun
returns-then-piece-ne10-clause-begun c = (c.args.piece.now, refl)

pub returns-in_err-add_word-clause-begun : goal.returns-in_err-add_word-clause-begun
returns-in_err-add_word-clause-begun c =
    let self = c.args.self.now in
    on_err c.from_residual.result _
    (ending_begun self.stage c.args.count self.words.items self.part.items c.args.piece.now (bytes_of c.add_word.new.self) c.requires.stage c.in_err-add_word.ensures.begun)
