use Rattle.std.proofs.Common.{rules}
use Rattle.nr_lists.proofs.Buffers.{end_out, middle_out}
use Rattle.nr_lists.proofs.buffer.Buffer.remove.Goals as goal

pub returns-then-end-len : goal.returns-then-end-len
returns-then-end-len c =
    end_out c.self.inside.start c.args.start c.args.end c.self.inside.bytes.items c.args.self.now c.truncate.new.self.items c.self.view_is (search rules) c.truncate.ensures.items

pub returns-else-end-len : goal.returns-else-end-len
returns-else-end-len c =
    middle_out c.self.inside.start c.args.start c.args.end c.self.inside.bytes.items c.args.self.now c.remove_range.new.items.items c.self.view_is (search rules) (search rules)
    (search rules)
