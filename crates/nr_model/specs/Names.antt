-- Names in byte order, each once: the channels or the patterns that are held.
use Rattle.std.specs.Prelude.{ℕ, ◌+◌, not, List, [], ◌∷◌, length, fold, filter, bytes_eq}
use Rattle.std.specs.declared.cmp.Ordering.{Ordering}
use Rattle.std.specs.declared.cmp.Ordering.TheVariants.{Less, Equal, Greater}
use Rattle.nr_model.specs.Bytes.{Bytes}
use Rattle.nr_model.specs.Keyspace.{byte_cmp}
use Rattle.nr_model.specs.declared.command.Kind.{Kind}
use Rattle.nr_model.specs.declared.command.Kind.TheVariants.{Channels, Patterns}

-- an item at its place in an ordered list, unless one that ties with it is there
abbrev pub put : {A : Type 0} → (A → A → Ordering) → A → List A → List A
put cmp x [] = x ∷ []
put cmp x (y ∷ ys) = elim (cmp x y) [ Less ↦ x ∷ y ∷ ys | Equal ↦ y ∷ ys | Greater ↦ y ∷ put cmp x ys ]

-- the items of a list, in order and each once
abbrev pub in_order : {A : Type 0} → (A → A → Ordering) → List A → List A
in_order cmp xs = fold (λ ys x. put cmp x ys) [] xs

abbrev pub with_name : List Bytes → Bytes → List Bytes
with_name names name = put byte_cmp name names

abbrev pub without_name : List Bytes → Bytes → List Bytes
without_name names name = filter (λ n. not (bytes_eq n name)) names

-- what a connection holds of both kinds
pub record Held : Type 0 where
  pub channels : List Bytes
  pub patterns : List Bytes

abbrev pub holding_none : Held
holding_none = record { channels = []; patterns = [] }

abbrev pub held : Kind → Held → List Bytes
held Channels h = h.channels
held Patterns h = h.patterns

abbrev pub with_held : Kind → List Bytes → Held → Held
with_held Channels names h = record { channels = names; patterns = h.patterns }
with_held Patterns names h = record { channels = h.channels; patterns = names }

abbrev pub subscribed : Kind → Held → Bytes → Held
subscribed kind h name = with_held kind (with_name (held kind h) name) h

abbrev pub unsubscribed : Kind → Held → Bytes → Held
unsubscribed kind h name = with_held kind (without_name (held kind h) name) h

-- how many channels and patterns together
abbrev pub how_many_held : Held → ℕ
how_many_held h = length h.channels + length h.patterns

-- after SUBSCRIBE or PSUBSCRIBE of these names
abbrev pub after_subscribe : Kind → Held → List Bytes → Held
after_subscribe kind h names = fold (subscribed kind) h names

-- after UNSUBSCRIBE or PUNSUBSCRIBE of these names, or of all of the kind where there are none
abbrev pub after_unsubscribe : Kind → Held → List Bytes → Held
after_unsubscribe kind h [] = with_held kind [] h
after_unsubscribe kind h (name ∷ names) = fold (unsubscribed kind) h (name ∷ names)
