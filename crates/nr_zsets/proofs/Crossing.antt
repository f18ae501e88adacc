-- A sorted set may go to another thread, and be shared by threads: by its parts, of which the toolchain keeps no such lemma of the tree.
use denote.Param.Send.{IsSend, IsSync, view_send, view_sync, sendable}
use denote.Param.SendFields.{declared_send, declared_sync, variants_send, variants_sync}
use Rattle.std.proofs.Crossing.{send, sync, crosses}
use Rattle.std.proofs.collections.HashMap.TheSendSync as map
use Rattle.nr_blob.proofs.blob.Blob.TheSendSync as blob
use Rattle.nr_ordered.proofs.Crossing.{tree_send, tree_sync}
use Rattle.nr_packs.proofs.packed.Packed.TheSendSync as packed
use Rattle.nr_zsets.specs.contracts.form.Form as Form
use Rattle.nr_zsets.specs.contracts.zset.Zset as Zset

ruleset parts = (sendable, crosses, blob.the_send, blob.the_sync)

form_send : IsSend Form.the_row
form_send = variants_send Form.enum ((packed.the_send, tt), ((tree_send, tt), tt))

form_sync : IsSync Form.the_row
form_sync = variants_sync Form.enum ((packed.the_sync, tt), ((tree_sync, tt), tt))

pub zset_send : IsSend Zset.the_row
zset_send = view_send Zset.TheInside.the_row _ _ _ _ (declared_send Zset.TheInside.the_type (send, (search (parts, map.the_send) depth 60 fits 100000, (form_send, tt))))

pub zset_sync : IsSync Zset.the_row
zset_sync = view_sync Zset.TheInside.the_row _ _ _ _ (declared_sync Zset.TheInside.the_type (sync, (search (parts, map.the_sync) depth 60 fits 100000, (form_sync, tt))))
