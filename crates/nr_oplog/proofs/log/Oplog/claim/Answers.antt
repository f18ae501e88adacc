use Rattle.std.proofs.Common.{rules, refl, ◌∙◌}
use Rattle.nr_entry.specs.Shares.{shares_of}
use Rattle.nr_log_end.specs.Standings.{reserved_as}
use Rattle.nr_oplog.proofs.Claims.{claims}
use Rattle.nr_oplog.proofs.log.Oplog.claim.Goals as goal

pub compare_exchange_with-requires : goal.compare_exchange_with-requires
compare_exchange_with-requires g c = let q = c.requires.entry in
    (search rules, search rules, claims _ _ _ _ _ _ _ q.0 c.requires.seat.1 c.requires.seat.2 c.requires.room.0 c.requires.room.1 q.1 q.2 q.3)

pub returns-clause-won : goal.returns-clause-won
returns-clause-won g c = λ hit entry is. c.compare_exchange_with.ensures.2.1 hit c.args.said.now entry refl is
    ∙ (λ i. record c.args.seat.now.me.0 { standing = reserved_as (hit i) (shares_of entry (c.requires.seat.1.0 i)) c.args.seat.now.me.0.standing })
