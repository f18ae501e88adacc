-- An array's replies, read as a list.
use Rattle.std.proofs.Common.{◌≡◌, List, map, Vec, Global, refl, sym, ap, ◌∙◌}
use mathlib.Core.Former.{Count}
use Rattle.nr_model.specs.Replies.{Replies, Cons, replies, array}
use Rattle.nr_model.specs.Replies as model
use Rattle.nr_resp.specs.Seen.{reply_of, replies_of}
use Rattle.nr_resp.specs.declared.reply.Reply.{Reply, Array, Array', Row_of-Reply, end_of-Reply, more_of-Reply, items-the_row-Reply, items_hidden-the_row-Reply-0}

replies_of-row : (n : _) (row : Row_of-Reply n) → replies_of row ≡ replies (map reply_of (items-the_row-Reply n row))
replies_of-row _ end_of-Reply = refl
replies_of-row _ (more_of-Reply first others) = ap (λ (r : Replies). Cons (reply_of first) r) (replies_of-row _ others)

abbrev row_of : Reply → (n : Count) × Row_of-Reply n
row_of (Array' _ row) = (_, row)
row_of _ = (_, end_of-Reply)

-- an array stands for the array of what its replies stand for
pub reply_of-Array : (inner : Vec Reply Global) → reply_of (Array inner) ≡ array (map reply_of inner.items)
reply_of-Array inner =
    let row = row_of (Array inner) in
    ap model.Array (replies_of-row row.0 row.1) ∙ ap (λ (xs : List Reply). array (map reply_of xs)) (items_hidden-the_row-Reply-0 inner)

-- arrays of replies that stand for the same
pub same_arrays : (inner copied : Vec Reply Global) → map reply_of copied.items ≡ map reply_of inner.items → reply_of (Array copied) ≡ reply_of (Array inner)
same_arrays inner copied same = reply_of-Array copied ∙ ap array same ∙ sym (reply_of-Array inner)
