use Rattle.nr_emission.proofs.Written.{pattern_message_written}
use Rattle.nr_emission.proofs.publishing.write_to_pattern.Goals as goal

pub returns : goal.returns
returns c =
    pattern_message_written c.args.channel.now c.args.text.now c.args.pattern.now c.args.bytes.now.items c.extend_from_slice.new.self.items
    c.write_bulk.new.bytes.items
    c.write_bulk-2.new.bytes.items c.write_bulk-3.new.bytes.items
    c.in_ok-extend_from_slice.ensures.items c.in_ok-write_bulk.ensures c.in_ok-write_bulk-2.ensures c.in_ok-write_bulk-3.ensures
