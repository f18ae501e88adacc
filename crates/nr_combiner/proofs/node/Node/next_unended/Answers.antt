use Rattle.std.proofs.Common.{rules, ◌≡◌, subst}
use Rattle.nr_combiner.specs.Served.{CombinerState, StandsLevel}
use Rattle.nr_combiner.specs.Steps.{IsUnendedAt}
use Rattle.nr_combiner.proofs.Handed.{kept_own}
use Rattle.nr_combiner.proofs.node.Node.next_unended.Goals as goal

pub returns-clause-unended : goal.returns-clause-unended
returns-clause-unended g c =
    let k = c.keep-token in
    let before : c.deref-2.result.now ≡ c.deref_mut.result.now = search rules in
    let same : c.deref-3.result.now ≡ c.deref_mut.result.now = search rules in
    record {
      at = c.deref_mut.result.now;
      unended = subst (λ (x : CombinerState). IsUnendedAt c.args.worker c.args.last c.in_ok-unended.unended x) same c.in_ok-unended.ensures.found;
      met = search rules;
      node_is = search rules;
      token = k.ensures.token.0;
      note_is = k.ensures.note.0;
      is_level = subst StandsLevel before c.level.ensures.level;
    }

pub returns-clause-own : goal.returns-clause-own
returns-clause-own g c =
    let k = c.keep-token in
    let old = c.deref_mut.result.now in
    kept_own old.node k.new.self.node old.seat k.new.self.seat c.args.worker k.result.0.standing k.result.1 k.ensures.opened k.ensures.token.0 k.ensures.token.2
    k.ensures.note.0 k.ensures.still.0 k.ensures.still.1 k.ensures.served
