-- Messages, and the answers to the commands on subscriptions, by who is subscribed to what (Redis, pub/sub).
use Rattle.std.specs.Prelude.{cond, List, [], ◌∷◌, ◌++◌, length, map, filter, flat_map, bytes_eq, pos, codes}
use Rattle.std.specs.Str.{str_to_ascii_lowercase}
use Rattle.nr_model.specs.Bytes.{Bytes}
use Rattle.nr_model.specs.Replies.{Reply, Int, Bulk, NullBulk, Error, array}
use Rattle.nr_model.specs.Patterns.{matches}
use Rattle.nr_model.specs.declared.command.Kind.{Kind}
use Rattle.nr_model.specs.declared.command.Kind.TheVariants.{Channels, Patterns}
use Rattle.nr_model.specs.Commands.Texts.{syntax_error}
use Rattle.nr_model.specs.Names.{Held, held, how_many_held, subscribed, unsubscribed}
use Rattle.nr_model.specs.Items.{Connection}
use Rattle.nr_model.specs.Sequential.Events.{Emission}

-- who is subscribed to a name, the connections in order, and the names of a kind with a subscriber, in byte order
pub record Subscriptions : Type 0 where
  pub subscribers : Kind → Bytes → List Connection
  pub names : Kind → List Bytes

abbrev pub to : Reply → Connection → Emission
to reply c = record { connection = c; reply = reply }

abbrev pub message : Bytes → Bytes → Reply
message channel text = array (Bulk (codes "message") ∷ Bulk channel ∷ Bulk text ∷ [])

abbrev pub pattern_message : Bytes → Bytes → Bytes → Reply
pattern_message channel text p = array (Bulk (codes "pmessage") ∷ Bulk p ∷ Bulk channel ∷ Bulk text ∷ [])

-- The messages of a PUBLISH: to the channel's subscribers, and then to those of each pattern that matches it, the patterns in byte order.
abbrev pub deliveries : Subscriptions → Bytes → Bytes → List Emission
deliveries all channel text =
    map (to (message channel text)) (all.subscribers Channels channel)
    ++ flat_map (λ p. map (to (pattern_message channel text p)) (all.subscribers Patterns p))
    (filter (λ p. matches p channel) (all.names Patterns))

-- the answer to one word of a subscribing command: its kind, the name, and how many channels and patterns are held now
abbrev pub acknowledgement : Bytes → Reply → Held → Reply
acknowledgement verb name h = array (Bulk verb ∷ name ∷ Int (pos (how_many_held h)) ∷ [])

abbrev pub subscribe_verb : Kind → Bytes
subscribe_verb Channels = codes "subscribe"
subscribe_verb Patterns = codes "psubscribe"

abbrev pub unsubscribe_verb : Kind → Bytes
unsubscribe_verb Channels = codes "unsubscribe"
unsubscribe_verb Patterns = codes "punsubscribe"

abbrev pub acknowledged_all : (Held → Bytes → Held) → Bytes → Held → List Bytes → List Reply
acknowledged_all change verb h [] = []
acknowledged_all change verb h (name ∷ rest) =
    let after = change h name in acknowledgement verb (Bulk name) after ∷ acknowledged_all change verb after rest

abbrev pub subscribe_replies : Kind → Held → List Bytes → List Reply
subscribe_replies kind h words = acknowledged_all (subscribed kind) (subscribe_verb kind) h words

-- without words each name held, and where none is held one answer with the null bulk for the name
abbrev pub unsubscribe_all : Kind → Held → List Bytes → List Reply
unsubscribe_all kind h [] = acknowledgement (unsubscribe_verb kind) NullBulk h ∷ []
unsubscribe_all kind h (name ∷ rest) = acknowledged_all (unsubscribed kind) (unsubscribe_verb kind) h (name ∷ rest)

abbrev pub unsubscribe_replies : Kind → Held → List Bytes → List Reply
unsubscribe_replies kind h [] = unsubscribe_all kind h (held kind h)
unsubscribe_replies kind h (name ∷ rest) = acknowledged_all (unsubscribed kind) (unsubscribe_verb kind) h (name ∷ rest)

abbrev pub bulks : List Bytes → List Reply
bulks texts = map Bulk texts

abbrev pub count_reply : Subscriptions → Bytes → List Reply
count_reply all channel = Bulk channel ∷ Int (pos (length (all.subscribers Channels channel))) ∷ []

-- PUBSUB CHANNELS [pattern], NUMSUB [channel ..], NUMPAT
abbrev pub pubsub_channels : Subscriptions → List Bytes → Reply
pubsub_channels all [] = array (bulks (all.names Channels))
pubsub_channels all (p ∷ []) = array (bulks (filter (λ name. matches p name) (all.names Channels)))
pubsub_channels all (p ∷ more ∷ words) = Error syntax_error

abbrev pub pubsub_patterns : Subscriptions → List Bytes → Reply
pubsub_patterns all [] = Int (pos (length (all.names Patterns)))
pubsub_patterns all (word ∷ words) = Error syntax_error

abbrev pub pubsub_reply : Subscriptions → List Bytes → Reply
pubsub_reply all [] = Error syntax_error
pubsub_reply all (subcommand ∷ words) =
    let name = str_to_ascii_lowercase subcommand in
    cond (bytes_eq name (codes "channels")) (pubsub_channels all words)
    (cond (bytes_eq name (codes "numsub")) (array (flat_map (count_reply all) words))
    (cond (bytes_eq name (codes "numpat")) (pubsub_patterns all words) (Error syntax_error)))
