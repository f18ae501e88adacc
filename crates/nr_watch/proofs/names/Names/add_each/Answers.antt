use Rattle.std.proofs.Common.{◌≡◌, ◌+◌, [], ◌∷◌, ◌++◌, take, ap, ◌∙◌, sym}
use Rattle.std.proofs.lemmas.List.{take_more}
use Rattle.nr_model.specs.Servers.{Watch}
use Rattle.nr_watch.proofs.Standing.{added_more}
use Rattle.nr_watch.proofs.names.Names.add_each.Goals as goal

pub loop-watch-preserved : goal.loop-watch-preserved
loop-watch-preserved c =
    let i = c.loop-watch.watch-index in
    let done = take i c.args.watches.now in
    let more : take (i + 1) c.args.watches.now ≡ done ++ c.watch-item.result ∷ [] =
    take_more c.args.watches.now i c.watch-item.result c.loop-watch-test.true ∙ ap (λ (w : Watch). done ++ w ∷ []) (sym c.watch-item.is) in
    added_more c.args.conn c.args.self.now.conns.entries c.loop-watch.self.conns.entries c.add.new.self.conns.entries done
    (take (i + 1) c.args.watches.now) c.watch-item.result c.name.result.now more c.name.ensures c.loop-watch.invariant c.in_ok-add.ensures.ok
