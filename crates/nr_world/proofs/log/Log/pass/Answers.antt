use Rattle.std.proofs.Common.{arith, ◌≡◌, ℕ, suc, ◌+◌, ◌-◌, drop, ap, sym, ◌∙◌}
use Rattle.std.specs.Prelude.{map}
use Rattle.std.specs.Arc.{arc_value}
use Rattle.std.proofs.lemmas.List.{drop-map}
use Rattle.nr_world.specs.Served.{entry_seen}
use Rattle.nr_world.proofs.Sides.{drop_one}
use Rattle.nr_world.proofs.log.Log.pass.Goals as goal

pub loop-preserved : goal.loop-preserved
loop-preserved c =
    let further : suc (c.loop.counter - c.args.self.now.base) ≡ c.loop.counter + 1 - c.args.self.now.base = omega (arith, c.loop.auto.counter) in
    record {
      base = c.loop.invariant.base;
      entries = c.pop_front.ensures.rest ∙ ap (drop 1) c.loop.invariant.entries ∙ drop_one (c.loop.counter - c.args.self.now.base) c.args.self.now.entries.items
          ∙ ap (λ (n : ℕ). drop n c.args.self.now.entries.items) further;
    }

pub returns-clause-entries : goal.returns-clause-entries
returns-clause-entries c =
    let all : c.loop.counter ≡ c.args.number = omega (arith, c.loop-test.false, c.loop.auto.counter-end c.requires) in
    ap (map (λ share. entry_seen (arc_value share))) (c.loop.invariant.entries ∙ ap (λ (n : ℕ). drop (n - c.args.self.now.base) c.args.self.now.entries.items) all)
    ∙ sym (drop-map (λ share. entry_seen (arc_value share)) (c.args.number - c.args.self.now.base) c.args.self.now.entries.items)
