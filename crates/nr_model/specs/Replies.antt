-- Replies, and their bytes (RESP2 specification).
use Rattle.std.specs.Prelude.{ℕ, suc, List, [], ◌∷◌, ◌++◌, length, ℤ, codes, decimal}
use Rattle.std.specs.Fmt.{signed_decimal}
use Rattle.nr_model.specs.Bytes.{Bytes, crlf}

mutual
  -- a reply: a line of text, an error, a number, a bulk, an array of replies, and the two kinds of null
  pub data Reply : Type 0 where
    Simple : Bytes → Reply
    Error : Bytes → Reply
    Int : ℤ → Reply
    Bulk : Bytes → Reply
    NullBulk : Reply
    Array : Replies → Reply
    NullArray : Reply

  pub data Replies : Type 0 where
    Empty : Replies
    Cons : Reply → Replies → Replies

abbrev pub replies : List Reply → Replies
replies [] = Empty
replies (x ∷ xs) = Cons x (replies xs)

abbrev pub array : List Reply → Reply
array xs = Array (replies xs)

abbrev pub how_many_replies : Replies → ℕ
how_many_replies Empty = 0
how_many_replies (Cons x xs) = suc (how_many_replies xs)

-- a number as a reply's text, and a line
abbrev pub line : Bytes → Bytes
line text = text ++ crlf

abbrev mutual
  -- the bytes of a reply
  pub reply_text : Reply → Bytes
  reply_text (Simple text) = 43 ∷ line text
  reply_text (Error text) = 45 ∷ line text
  reply_text (Int n) = 58 ∷ line (signed_decimal n)
  reply_text (Bulk text) = 36 ∷ line (decimal (length text)) ++ line text
  reply_text NullBulk = codes "$-1" ++ crlf
  reply_text (Array xs) = 42 ∷ line (decimal (how_many_replies xs)) ++ replies_text xs
  reply_text NullArray = codes "*-1" ++ crlf

  pub replies_text : Replies → Bytes
  replies_text Empty = []
  replies_text (Cons x xs) = reply_text x ++ replies_text xs
