use Rattle.std.proofs.Common.{rules, ◌≡◌, length}
use Rattle.nr_packs.proofs.Parted.{parted_so}
use Rattle.nr_packs.proofs.grow.split.Goals as goal

pub returns-clause-spread : goal.returns-clause-spread
returns-clause-spread c =
    let count : c.len-count.result ≡ length c.args.packs.now.items = search rules in
    (parted_so c.args.keys.now c.args.level c.len-count.result c.args.packs.now.items c.push.new.self.items c.in_ok-stays.stays c.in_ok-goes.goes c.index.result.now c.index-2.result.now
    c.requires.spread c.requires.below count c.index.ensures c.index-2.ensures c.in_ok-stays.ensures c.in_ok-goes.ensures c.in_ok-push.ensures.items).0

pub returns-clause-same : goal.returns-clause-same
returns-clause-same c =
    let count : c.len-count.result ≡ length c.args.packs.now.items = search rules in
    (parted_so c.args.keys.now c.args.level c.len-count.result c.args.packs.now.items c.push.new.self.items c.in_ok-stays.stays c.in_ok-goes.goes c.index.result.now c.index-2.result.now
    c.requires.spread c.requires.below count c.index.ensures c.index-2.ensures c.in_ok-stays.ensures c.in_ok-goes.ensures c.in_ok-push.ensures.items).1
