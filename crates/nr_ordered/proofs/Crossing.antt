-- A tree may go to another thread, and be shared by threads: by its parts, since the toolchain keeps no such lemma of what holds itself.
use denote.Param.Send.{IsSend, IsSync, sendable}
use Rattle.std.proofs.Crossing.{crosses}
use Rattle.nr_ordered.proofs.block.Block.TheSendSync as block
use Rattle.nr_ordered.proofs.tree.Tree.TheLaws.TheKnot as tree
use Rattle.nr_ordered.specs.contracts.tree.Tree as Tree

ruleset parts = (sendable, crosses, block.the_send, block.the_sync)

pub tree_send : IsSend Tree.the_row
tree_send = search (parts, tree.send-Tree) depth 60 fits 100000

pub tree_sync : IsSync Tree.the_row
tree_sync = search (parts, tree.sync-Tree) depth 60 fits 100000
