use Rattle.std.proofs.Common.{arith, ◌<◌, ◌≤◌, sym, ◌∙◌}
use Rattle.nr_model.specs.Nodes as nodes
use Rattle.nr_world.proofs.Replayed.{tail_by, fill_stop, fill_step, fill_end}
use Rattle.nr_world.proofs.world.World.are_filled.Goals as goal

pub returns-then-not-is_filled : goal.returns-then-not-is_filled
returns-then-not-is_filled c = λ events world past s.
    let end = tail_by _ c.args.self.now world c.self.view_is s in
    let below : c.loop-entry.entry < nodes.tail_of world = omega (arith, c.tail-entry-end.ensures, c.loop-entry-test.true, end) in
    fill_stop world c.args.node c.loop-entry.entry (nodes.tail_of world) below (sym (c.is_filled.ensures events world past s) ∙ c.if-not-is_filled.true)
    ∙ c.loop-entry.invariant events world past s

pub loop-entry-preserved : goal.loop-entry-preserved
loop-entry-preserved c = λ events world past s.
    let end = tail_by _ c.args.self.now world c.self.view_is s in
    let below : c.loop-entry.entry < nodes.tail_of world = omega (arith, c.tail-entry-end.ensures, c.loop-entry-test.true, end) in
    fill_step world c.args.node c.loop-entry.entry (nodes.tail_of world) below (sym (c.is_filled.ensures events world past s) ∙ c.if-not-is_filled.false)
    ∙ c.loop-entry.invariant events world past s

pub returns : goal.returns
returns c = λ events world past s.
    let end = tail_by _ c.args.self.now world c.self.view_is s in
    let all : nodes.tail_of world ≤ c.loop-entry.entry = omega (arith, c.tail-entry-end.ensures, c.loop-entry-test.false, end) in
    fill_end world c.args.node c.loop-entry.entry (nodes.tail_of world) all ∙ c.loop-entry.invariant events world past s
