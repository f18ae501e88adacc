-- What a reply shows on its way to a connection's buffer.
use Rattle.nr_model.specs.Replies as model
use Rattle.nr_resp.specs.Seen.{reply_of}
use Rattle.nr_resp.specs.declared.shown.Shown.{Shown}
use Rattle.nr_resp.specs.declared.shown.Shown.TheVariants.{Bulk, Lent, Items, Owned}
use Rattle.nr_resp.specs.declared.shown.Item.{Item}
use Rattle.nr_resp.specs.declared.shown.Item.TheVariants as item
use Rattle.std.specs.Prelude.{map}
use Rattle.std.specs.Fmt.{signed_decimal}

-- what one of an array's items shows
abbrev pub item_reply : Item → model.Reply
item_reply (item.Bulk bytes) = model.Bulk bytes.now
item_reply (item.Number n) = model.Bulk (signed_decimal n)
item_reply item.Null = model.NullBulk

-- the reply that is written
abbrev pub shown_reply : Shown → model.Reply
shown_reply (Bulk bytes) = model.Bulk bytes.now
shown_reply (Lent reply) = reply_of reply.now
shown_reply (Items items) = model.array (map item_reply items.items)
shown_reply (Owned reply) = reply_of reply
