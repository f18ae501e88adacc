-- Where no more bytes were received, none were heard of.
use Rattle.std.proofs.Common.{ap, sym, ◌∙◌}
use Rattle.nr_sockets.proofs.Heard.{gave_none}
use Rattle.nr_sockets.proofs.lingering.Lingering.goes_on.Goals as goal

pub returns-clause-silent : goal.returns-clause-silent
returns-clause-silent c = λ same.
    c.hears.ensures.silent
    (gave_none _ _ _ _ c.receive-received.ensures.some c.receive-received.ensures.bound c.receive-received.ensures.received
    (sym (ap (λ socket. socket.received.bytes) c.hears.ensures.socket) ∙ same))

pub returns-clause-sent : goal.returns-clause-sent
returns-clause-sent c = ap (λ socket. socket.sent.bytes) c.hears.ensures.socket ∙ c.receive-received.ensures.sent
