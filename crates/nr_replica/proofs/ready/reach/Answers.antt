use Rattle.std.proofs.Common.{rules, ◌≡◌, ◌∙◌, ap, ◌++◌, ◌∷◌, [], List, ℕ}
use Rattle.std.specs.BTreeSet.{BTreeSet}
use Rattle.nr_replica.specs.Ready.{has_serial}
use Rattle.nr_replica.proofs.Marked.{has_push}
use Rattle.nr_replica.proofs.ready.reach.Goals as goal

pub loop-alloc-preserved : goal.loop-alloc-preserved
loop-alloc-preserved c = λ w s.
    let more : c.push.new.self.items ≡ c.loop-alloc.sets.items ++ c.new.result ∷ [] = search rules in
    ap (λ (sets : List (BTreeSet ℕ)). has_serial sets w s) more ∙ has_push c.loop-alloc.sets.items c.new.result c.new.ensures.empty w s ∙ c.loop-alloc.invariant w s
