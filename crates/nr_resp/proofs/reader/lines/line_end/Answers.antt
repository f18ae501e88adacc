use Rattle.std.proofs.Common.{◌<◌, ◌≤◌, refl, subst}
use Rattle.nr_resp.proofs.Lines.{ends_by_search, long_by_search}
use Rattle.nr_resp.proofs.reader.lines.line_end.Goals as goal

pub returns-then-unwrap_or-room : goal.returns-then-unwrap_or-room
returns-then-unwrap_or-room c =
    (refl, long_by_search c.args.room c.args.piece.now c.memchr-end.result c.memchr-end.ensures (subst (λ n. c.args.room < n) c.unwrap_or.ensures c.if-unwrap_or-room.true))

pub returns : goal.returns
returns c =
    ends_by_search c.args.room c.args.fault c.args.piece.now c.memchr-end.result c.memchr-end.ensures (subst (λ n. n ≤ c.args.room) c.unwrap_or.ensures c.if-unwrap_or-room.false)
