use Rattle.std.proofs.Common.{rules, ◌≡◌, ◌<◌, ◌*◌, length, subst}
use Rattle.std.specs.Prelude.{◌⊎◌}
use Rattle.nr_packs.proofs.Parted.{spread_raised}
use Rattle.nr_packs.proofs.grow.grow.Goals as goal

pub split-requires-clause-spread : goal.split-requires-clause-spread
split-requires-clause-spread c =
    let level = c.args.level.now in
    let count : c.len-2.result ≡ length c.args.packs.now.items = search rules in
    (spread_raised c.args.keys.now level c.raised.result c.args.packs.now.items c.requires
    (subst (λ n. ((c.raised.result ≡ level) × (n < 2 * level)) ⊎ ((c.raised.result ≡ n) × (n ≡ 2 * level))) count c.raised.ensures)).0
