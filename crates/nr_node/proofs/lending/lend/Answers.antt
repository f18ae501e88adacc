use Rattle.std.proofs.Common.{sym, ◌∙◌}
use Rattle.nr_node.proofs.Loans.{sound_on}
use Rattle.nr_node.proofs.lending.lend.Goals as goal

pub returns-clause-stood : goal.returns-clause-stood
returns-clause-stood g c =
    let s = c.args.end.now.standing in
    let t = c.tail-tail.new.self.standing in
    (c.token-token.ensures.kept ∙ sym c.token-token.ensures.same, sound_on s t c.token-token.result.standing c.tail-tail.ensures.standing c.token-token.ensures.kept c.requires.sound)
