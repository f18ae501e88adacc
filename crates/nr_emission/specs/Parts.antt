-- Acknowledgements and messages in the parts in which they are made (Redis reference, pub/sub).
use Rattle.std.specs.Prelude.{ℕ, cond, List, [], ◌∷◌, map, filter, flat_map, pos}
use Rattle.nr_model.specs.Bytes.{Bytes}
use Rattle.nr_model.specs.Replies.{Reply, Int, Bulk, array}
use Rattle.nr_model.specs.Patterns.{matches}
use Rattle.nr_model.specs.declared.command.Kind.TheVariants.{Channels, Patterns}
use Rattle.nr_model.specs.Items.{Connection}
use Rattle.nr_model.specs.Sequential.Events.{Emission}
use Rattle.nr_model.specs.Sequential.Messages as messages
use Rattle.nr_model.specs.Sequential.Messages.{Subscriptions}
use Rattle.nr_emission.specs.declared.publishing.Message.{Message}
use Rattle.nr_emission.specs.declared.publishing.Message.TheVariants.{ToChannel, ToPattern}

-- the answer to one word of a subscribing command, by how many channels and patterns are held now
abbrev pub counted : Bytes → Reply → ℕ → Reply
counted verb name count = array (Bulk verb ∷ name ∷ Int (pos count) ∷ [])

-- a message's reply, and the same to each of these connections
abbrev pub message_reply : Message → Reply
message_reply (ToChannel channel text) = messages.message channel.now text.now
message_reply (ToPattern pattern channel text) = messages.pattern_message channel.now text.now pattern.now

abbrev pub to_each : Reply → List Connection → List Emission
to_each reply cs = map (messages.to reply) cs

-- The messages of a PUBLISH in their two parts: to the channel's subscribers, and to those of the patterns
abbrev pub channel_messages : Subscriptions → Bytes → Bytes → List Emission
channel_messages all channel text = to_each (messages.message channel text) (all.subscribers Channels channel)

abbrev pub pattern_messages : Subscriptions → Bytes → Bytes → List Emission
pattern_messages all channel text =
    flat_map (λ p. to_each (messages.pattern_message channel text p) (all.subscribers Patterns p)) (filter (λ p. matches p channel) (all.names Patterns))

-- those of a pattern with its subscribers, if it matches
abbrev pub matching_messages : Bytes → Bytes → Bytes × List Connection → List Emission
matching_messages channel text e = cond (matches e.0 channel) (to_each (messages.pattern_message channel text e.0) e.1) []
