-- Who is subscribed to what: the last of a connection's deeds that says anything of it (Redis, pub/sub).
use Rattle.std.specs.Prelude.{Bool, true, false, ◌&&◌, cond, List, [], ◌∷◌, map, filter, flat_map, Option, Some, None, bytes_eq}
use Rattle.std.specs.List.{list_any}
use Rattle.nr_model.specs.Bytes.{Bytes}
use Rattle.nr_model.specs.Keyspace.{byte_cmp}
use Rattle.nr_model.specs.declared.command.Command.{Command}
use Rattle.nr_model.specs.declared.command.Command.TheVariants.{Session}
use Rattle.nr_model.specs.declared.command.Kind.{Kind}
use Rattle.nr_model.specs.declared.command.Kind.TheVariants.{Channels, Patterns}
use Rattle.nr_model.specs.declared.command.Session.TheVariants.{Subscribe, Unsubscribe}
use Rattle.nr_model.specs.Names.{in_order, Held}
use Rattle.nr_model.specs.Items.{Connection, connection_cmp, same_connection, arguments, Deed, Say, Act, Run, Abort, End, Item}
use Rattle.nr_model.specs.Sequential.Events.{Past}

abbrev pub same_kind : Kind → Kind → Bool
same_kind Channels Channels = true
same_kind Channels Patterns = false
same_kind Patterns Channels = false
same_kind Patterns Patterns = true

abbrev pub names : List Bytes → Bytes → Bool
names words name = list_any (λ word. bytes_eq word name) words

-- no words stand for all names of the kind
abbrev pub names_or_all : List Bytes → Bytes → Bool
names_or_all [] name = true
names_or_all (word ∷ words) name = names (word ∷ words) name

abbrev pub when : Bool → Bool → Option Bool
when applies value = cond applies (Some value) None

-- what a command says of a subscription to a name: begun, ended, or nothing
abbrev pub command_says : Kind → Bytes → Command → List Bytes → Option Bool
command_says kind name (Session (Subscribe k)) words = when (same_kind k kind && names words name) true
command_says kind name (Session (Unsubscribe k)) words = when (same_kind k kind && names_or_all words name) false
command_says kind name _ words = None

-- what a deed of the connection says of it: an end ends all
abbrev pub deed_says : Kind → Bytes → Deed → Option Bool
deed_says kind name (Act call) = command_says kind name call.command (arguments call)
deed_says kind name (End reply) = Some false
deed_says kind name (Say reply) = None
deed_says kind name (Run calls) = None
deed_says kind name Abort = None

abbrev pub item_says : Connection → Kind → Bytes → Item → Option Bool
item_says c kind name item = cond (same_connection item.connection c) (deed_says kind name item.deed) None

abbrev pub said_or : Option Bool → Bool → Bool
said_or None before = before
said_or (Some value) before = value

-- A connection is subscribed to a name where the last of its deeds that says anything of it is a SUBSCRIBE or PSUBSCRIBE.
abbrev pub is_subscriber : Connection → Kind → Bytes → Past → Bool
is_subscriber c kind name [] = false
is_subscriber c kind name (event ∷ older) = said_or (item_says c kind name event.item) (is_subscriber c kind name older)

-- names that a command subscribes to
abbrev pub command_names : Kind → Command → List Bytes → List Bytes
command_names kind (Session (Subscribe k)) words = cond (same_kind k kind) words []
command_names kind _ words = []

abbrev pub deed_names : Kind → Deed → List Bytes
deed_names kind (Act call) = command_names kind call.command (arguments call)
deed_names kind (Say reply) = []
deed_names kind (Run calls) = []
deed_names kind Abort = []
deed_names kind (End reply) = []

-- the names that were ever subscribed to, and the connections that there were, each once and in order
abbrev pub known_names : Kind → Past → List Bytes
known_names kind past = in_order byte_cmp (flat_map (λ event. deed_names kind event.item.deed) past)

abbrev pub known_connections : Past → List Connection
known_connections past = in_order connection_cmp (map (λ event. event.item.connection) past)

-- what a connection is subscribed to
abbrev pub held_of : Connection → Past → Held
held_of c past =
    record {
      channels = filter (λ name. is_subscriber c Channels name past) (known_names Channels past);
      patterns = filter (λ name. is_subscriber c Patterns name past) (known_names Patterns past);
    }

-- the connections that are subscribed to a name, in order
abbrev pub subscribers : Kind → Bytes → Past → List Connection
subscribers kind name past = filter (λ c. is_subscriber c kind name past) (known_connections past)

abbrev pub is_held : Kind → Past → Bytes → Bool
is_held kind past name = list_any (λ c. is_subscriber c kind name past) (known_connections past)

-- the names with a subscriber, in byte order
abbrev pub names_held : Kind → Past → List Bytes
names_held kind past = filter (is_held kind past) (known_names kind past)
