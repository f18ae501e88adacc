-- The bytes of single replies, by computation.
use Rattle.std.specs.Prelude.{◌≡◌, [], ◌∷◌, pos, negsuc, codes}
use Rattle.nr_model.specs.Replies.{Simple, Error, Int, Bulk, NullBulk, NullArray, array, reply_text}

-- what each of these replies is written as
pub record ReplyRows : Type 0 where
  pub simple : reply_text (Simple (codes "OK")) ≡ codes "+OK\r\n"
  pub simple_empty : reply_text (Simple []) ≡ codes "+\r\n"
  pub error : reply_text (Error (codes "ERR syntax error")) ≡ codes "-ERR syntax error\r\n"
  pub zero : reply_text (Int (pos 0)) ≡ codes ":0\r\n"
  pub minus_five : reply_text (Int (negsuc 4)) ≡ codes ":-5\r\n"
  pub greatest : reply_text (Int (pos 9223372036854775807)) ≡ codes ":9223372036854775807\r\n"
  pub least : reply_text (Int (negsuc 9223372036854775807)) ≡ codes ":-9223372036854775808\r\n"
  pub bulk : reply_text (Bulk (codes "v")) ≡ codes "$1\r\nv\r\n"
  pub bulk_of_two_digits : reply_text (Bulk (codes "a\r\nbcdefghi")) ≡ codes "$11\r\na\r\nbcdefghi\r\n"
  pub empty_bulk : reply_text (Bulk []) ≡ codes "$0\r\n\r\n"
  pub null_bulk : reply_text NullBulk ≡ codes "$-1\r\n"
  pub null_array : reply_text NullArray ≡ codes "*-1\r\n"
  pub empty_array : reply_text (array []) ≡ codes "*0\r\n"
  pub subscribed : reply_text (array (Bulk (codes "subscribe") ∷ Bulk (codes "news") ∷ Int (pos 1) ∷ []))
      ≡ codes "*3\r\n$9\r\nsubscribe\r\n$4\r\nnews\r\n:1\r\n"
  pub nested : reply_text (array (array (Int (pos 1) ∷ NullBulk ∷ []) ∷ array [] ∷ NullArray ∷ Simple (codes "OK") ∷ []))
      ≡ codes "*4\r\n*2\r\n:1\r\n$-1\r\n*0\r\n*-1\r\n+OK\r\n"
