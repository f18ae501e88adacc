-- The replies of the code as those of the definitions.
use Rattle.nr_model.specs.Replies.{Reply, Replies, Simple, Error, Int, Bulk, NullBulk, Array, NullArray, Empty, Cons}
use Rattle.nr_resp.specs.declared.reply.Reply as code
use Rattle.nr_resp.specs.declared.reply.Reply.{Row_of-Reply, end_of-Reply, more_of-Reply}

abbrev mutual
  -- the reply that the code's reply stands for
  pub reply_of : code.Reply → Reply
  reply_of (code.Simple text) = Simple text.now
  reply_of (code.Error text) = Error text
  reply_of (code.FixedError text) = Error text.now
  reply_of (code.Int n) = Int n
  reply_of (code.Bulk text) = Bulk text
  reply_of code.NullBulk = NullBulk
  reply_of (code.Array' shape replies) = Array (replies_of replies)
  reply_of code.NullArray = NullArray

  -- the replies of an array, in order
  pub replies_of : {n : _} → Row_of-Reply n → Replies
  replies_of end_of-Reply = Empty
  replies_of (more_of-Reply first others) = Cons (reply_of first) (replies_of others)
