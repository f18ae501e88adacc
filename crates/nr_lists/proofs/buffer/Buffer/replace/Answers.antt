use Rattle.std.proofs.Common.{rules, ◌≡◌, ◌-◌, length}
use Rattle.nr_lists.proofs.Buffers.{written_over}
use Rattle.nr_lists.proofs.buffer.Buffer.replace.Goals as goal

pub returns-then-item-end-clause-ok : goal.returns-then-item-end-clause-ok
returns-then-item-end-clause-ok c =
    let count : length c.args.item.now ≡ c.args.end - c.args.start = search rules in
    written_over c.self.inside.start c.args.start c.args.end (length c.args.item.now) c.self.inside.bytes.items c.args.self.now c.write.new.bytes.items c.args.item.now
    c.self.view_is c.self.invariant c.requires.range c.requires.within count c.write.ensures
