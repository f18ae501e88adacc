use Rattle.std.proofs.Common.{refl}
use Rattle.nr_resp.specs.PartialRequest.{bytes_of}
use Rattle.nr_resp.proofs.Stages.{body_begun, on_err}
use Rattle.nr_resp.proofs.reader.partial.PartialRequest.body.Goals as goal

pub returns-in_err-word-clause-begun : goal.returns-in_err-word-clause-begun
returns-in_err-word-clause-begun c = on_err c.from_residual.result _ (c.args.piece.now, refl)

pub returns-in_err-add_word-clause-begun : goal.returns-in_err-add_word-clause-begun
returns-in_err-add_word-clause-begun c =
    let self = c.args.self.now in
    on_err c.from_residual-in_err-add_word.result _
    (body_begun self.stage c.args.count c.args.len self.words.items self.part.items c.args.piece.now (bytes_of c.add_word.new.self) c.requires.stage c.in_err-add_word.ensures.begun)
