-- Rows of the sequential Redis: subscribers and their messages, moments, watches, reads between writes.
use Rattle.std.specs.Prelude.{◌≡◌, ℕ, List, [], ◌∷◌, ◌++◌, map, Some, codes}
use Rattle.nr_model.specs.Bytes.{Bytes}
use Rattle.nr_model.specs.Commands.Texts.{ok}
use Rattle.nr_model.specs.Items.{Connection, Deed, Say, Act, Run, End, Item, Sequence}
use Rattle.nr_model.specs.Sequential.{past_of, emitted_for}
use Rattle.nr_model.specs.Rows.Commands as commands
use Rattle.nr_model.specs.Rows.Modes.{call, watch_k, get_k, subscribe_news, queued}

abbrev pub alice : Connection
alice = record { node = 0; serial = 0 }

abbrev pub bob : Connection
bob = record { node = 1; serial = 0 }

abbrev pub item : Connection → ℕ → ℕ → Deed → Item
item c number time deed = record { connection = c; number = number; moment = time; deed = deed }

abbrev pub set_to : Bytes → Bytes → Deed
set_to name text = Act (call commands.set (codes "SET" ∷ name ∷ text ∷ []))

abbrev pub publish : Bytes → Deed
publish text = Act (call commands.publish (codes "PUBLISH" ∷ codes "news" ∷ text ∷ []))

abbrev pub subscribe : List Bytes → Deed
subscribe names = Act (call commands.subscribe (codes "SUBSCRIBE" ∷ names))

abbrev pub psubscribe : List Bytes → Deed
psubscribe names = Act (call commands.psubscribe (codes "PSUBSCRIBE" ∷ names))

abbrev pub unsubscribe : List Bytes → Deed
unsubscribe names = Act (call commands.unsubscribe (codes "UNSUBSCRIBE" ∷ names))

-- a subscriber gets what is published after it subscribed and before it unsubscribed
abbrev pub in_turn : Sequence
in_turn =
    item bob 0 100 (publish (codes "x"))
    ∷ item alice 0 100 (Act subscribe_news)
    ∷ item bob 1 100 (publish (codes "y"))
    ∷ item alice 1 100 (unsubscribe (codes "news" ∷ []))
    ∷ item bob 2 100 (publish (codes "z"))
    ∷ []

-- the channel's message first, and then the pattern's
abbrev pub both_kinds : Sequence
both_kinds =
    item alice 0 100 (Act subscribe_news)
    ∷ item alice 1 100 (psubscribe (codes "n*" ∷ []))
    ∷ item bob 0 100 (publish (codes "hi"))
    ∷ []

-- names are counted once, and left in byte order
abbrev pub counted : Sequence
counted =
    item alice 0 100 (subscribe (codes "b" ∷ codes "a" ∷ codes "a" ∷ []))
    ∷ item alice 1 100 (unsubscribe [])
    ∷ item alice 2 100 (unsubscribe [])
    ∷ []

abbrev pub two_patterns : Sequence
two_patterns =
    item alice 0 100 (psubscribe (codes "n*" ∷ codes "*" ∷ []))
    ∷ item bob 0 100 (publish (codes "x"))
    ∷ []

-- an end ends the subscriptions
abbrev pub ended : Sequence
ended = item alice 0 100 (Act subscribe_news) ∷ item alice 1 100 (End (Some ok)) ∷ item bob 0 100 (publish (codes "x")) ∷ []

-- a clock that runs back, and a read behind it
abbrev pub back : Sequence
back =
    item alice 0 110 (set_to (codes "a") (codes "1"))
    ∷ item alice 1 90 (set_to (codes "b") (codes "2"))
    ∷ item bob 0 200 (Act get_k)
    ∷ item bob 1 120 (Act get_k)
    ∷ []

-- a watched key was set by another connection, and by the own one
abbrev pub watched : Connection → Sequence
watched c =
    item alice 0 100 (Act watch_k)
    ∷ item c 1 100 (set_to (codes "k") (codes "1"))
    ∷ item alice 2 100 (Say ok)
    ∷ item alice 3 100 queued
    ∷ item alice 4 100 (Run (get_k ∷ []))
    ∷ []

-- the watch was forgotten before, so the transaction runs
abbrev pub forgotten : Sequence
forgotten =
    item alice 0 100 (Act watch_k)
    ∷ item alice 1 100 (Act (call commands.unwatch (codes "UNWATCH" ∷ [])))
    ∷ item bob 0 100 (set_to (codes "k") (codes "1"))
    ∷ item alice 2 100 (Run (call commands.ping (codes "PING" ∷ []) ∷ []))
    ∷ []

-- a read between two writes
abbrev pub between : Sequence
between =
    item alice 0 100 (set_to (codes "k") (codes "1"))
    ∷ item alice 1 100 (Act get_k)
    ∷ item alice 2 100 (set_to (codes "k") (codes "2"))
    ∷ item alice 3 100 (Act get_k)
    ∷ []

abbrev pub news_begun : Bytes
news_begun = codes "*3\r\n$9\r\nsubscribe\r\n$4\r\nnews\r\n:1\r\n"

pub record MessageRows : Type 0 where
  pub published_in_turn : emitted_for bob in_turn ≡ codes ":0\r\n:1\r\n:0\r\n"
  pub received_in_turn : emitted_for alice in_turn
      ≡ news_begun ++ codes "*3\r\n$7\r\nmessage\r\n$4\r\nnews\r\n$1\r\ny\r\n*3\r\n$11\r\nunsubscribe\r\n$4\r\nnews\r\n:0\r\n"
  pub published_to_both : emitted_for bob both_kinds ≡ codes ":2\r\n"
  pub received_by_both : emitted_for alice both_kinds
      ≡ news_begun ++ codes "*3\r\n$10\r\npsubscribe\r\n$2\r\nn*\r\n:2\r\n*3\r\n$7\r\nmessage\r\n$4\r\nnews\r\n$2\r\nhi\r\n*4\r\n$8\r\npmessage\r\n$2\r\nn*\r\n$4\r\nnews\r\n$2\r\nhi\r\n"
  pub counts : emitted_for alice counted
      ≡ codes "*3\r\n$9\r\nsubscribe\r\n$1\r\nb\r\n:1\r\n*3\r\n$9\r\nsubscribe\r\n$1\r\na\r\n:2\r\n*3\r\n$9\r\nsubscribe\r\n$1\r\na\r\n:2\r\n*3\r\n$11\r\nunsubscribe\r\n$1\r\na\r\n:1\r\n*3\r\n$11\r\nunsubscribe\r\n$1\r\nb\r\n:0\r\n*3\r\n$11\r\nunsubscribe\r\n$-1\r\n:0\r\n"
  pub published_to_patterns : emitted_for bob two_patterns ≡ codes ":2\r\n"
  pub patterns_in_order : emitted_for alice two_patterns
      ≡ codes "*3\r\n$10\r\npsubscribe\r\n$2\r\nn*\r\n:1\r\n*3\r\n$10\r\npsubscribe\r\n$1\r\n*\r\n:2\r\n*4\r\n$8\r\npmessage\r\n$1\r\n*\r\n$4\r\nnews\r\n$1\r\nx\r\n*4\r\n$8\r\npmessage\r\n$2\r\nn*\r\n$4\r\nnews\r\n$1\r\nx\r\n"
  pub published_after_end : emitted_for bob ended ≡ codes ":0\r\n"

pub record SequentialRows : Type 0 where
  -- the newest first: a read's own moment moves nobody's now
  pub moments : map (λ event. event.now) (past_of back) ≡ 120 ∷ 200 ∷ 110 ∷ 110 ∷ []
  pub spoiled_by_another : emitted_for alice (watched bob) ≡ codes "+OK\r\n+OK\r\n+QUEUED\r\n*-1\r\n"
  pub spoiled_by_itself : emitted_for alice (watched alice) ≡ codes "+OK\r\n+OK\r\n+OK\r\n+QUEUED\r\n*-1\r\n"
  pub forgotten : emitted_for alice forgotten ≡ codes "+OK\r\n+OK\r\n*1\r\n+PONG\r\n"
  pub reads_between_writes : emitted_for alice between ≡ codes "+OK\r\n$1\r\n1\r\n+OK\r\n$1\r\n2\r\n"
