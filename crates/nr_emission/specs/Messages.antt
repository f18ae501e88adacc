-- What PUBLISH sends and answers, by who is subscribed to what (Redis reference, pub/sub).
use Rattle.std.specs.Prelude.{List, [], ◌∷◌, length, Option, Some, None, pos}
use Rattle.std.specs.FinMap as finmap
use Rattle.nr_model.specs.Bytes.{Bytes}
use Rattle.nr_model.specs.Replies.{Reply, Int}
use Rattle.nr_model.specs.Names.{Held}
use Rattle.nr_model.specs.Servers.{subscribers_in, names_in}
use Rattle.nr_model.specs.Items.{connection_cmp}
use Rattle.nr_model.specs.Sequential.Events.{Emission}
use Rattle.nr_model.specs.Sequential.Messages.{Subscriptions, deliveries}

-- who is subscribed to what, by what each connection holds
abbrev pub subscriptions_of : finmap.FinMap connection_cmp Held → Subscriptions
subscriptions_of all = record { subscribers = λ kind name. subscribers_in all kind name; names = λ kind. names_in all kind }

-- PUBLISH channel message, by the words behind its name: what is sent, and how many messages those are
abbrev pub publish_messages : Subscriptions → List Bytes → List Emission
publish_messages subscriptions (channel ∷ text ∷ words) = deliveries subscriptions channel text
publish_messages subscriptions (channel ∷ []) = []
publish_messages subscriptions [] = []

abbrev pub publish_reply : Subscriptions → List Bytes → Option Reply
publish_reply subscriptions (channel ∷ text ∷ words) = Some (Int (pos (length (deliveries subscriptions channel text))))
publish_reply subscriptions (channel ∷ []) = None
publish_reply subscriptions [] = None
