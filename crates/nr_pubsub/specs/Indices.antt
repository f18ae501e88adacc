-- The indices of both kinds, and what they have to do with what connections hold.
use Rattle.std.specs.Prelude.{◌≡◌, ◌==◌, Bool, true, cond, not, ◌&&◌, List, map, Option, Some, None}
use Rattle.std.specs.List.{list_any}
use Rattle.std.specs.Ordering.{eq_by_cmp}
use Rattle.std.specs.FinMap as finmap
use Rattle.nr_model.specs.Bytes.{Bytes}
use Rattle.nr_model.specs.Keyspace.{byte_cmp}
use Rattle.nr_model.specs.Items.{Connection}
use Rattle.nr_model.specs.Names.{Held, held, how_many_held}
use Rattle.nr_model.specs.Servers.{subscribers_in, names_in}
use Rattle.nr_model.specs.Sequential.Subscribers.{same_kind}
use Rattle.nr_model.specs.declared.command.Kind.{Kind}
use Rattle.nr_model.specs.declared.command.Kind.TheVariants.{Channels, Patterns}
use Rattle.nr_pubsub.specs.declared.indices.Indices.{Indices}
use Rattle.nr_pubsub.specs.Holdings.{AllHeld}
use Rattle.nr_pubsub.specs.Standings.{Standing, standing_at, some_of, without}

-- who stands where of a kind
abbrev pub standing : Kind → Indices → Standing
standing Channels indices = indices.channels
standing Patterns indices = indices.patterns

-- at one name of a kind there are these, and anywhere else those that were
pub record ArePlaced (kind : Kind) (old new : Indices) (name : Bytes) (after : List Connection) : Type 0 where
  pub found : (k : Kind) (q : Bytes)
      → finmap.get (standing k new) q ≡ cond (same_kind kind k && eq_by_cmp byte_cmp q name) (some_of after) (finmap.get (standing k old) q)

-- a connection was taken away from all that it holds
pub record AreLeft (old new : Indices) (h : Held) (c : Connection) : Type 0 where
  pub found : (k : Kind) (q : Bytes)
      → finmap.get (standing k new) q
      ≡ cond (list_any (eq_by_cmp byte_cmp q) (held k h)) (some_of (without c (standing_at (standing k old) q))) (finmap.get (standing k old) q)

-- what a connection holds is remembered only where it is something
abbrev pub is_something : Option Held → Bool
is_something None = true
is_something (Some h) = not (how_many_held h == 0)

-- The subscribers of a name stand there, and nobody else, nor is any other name there. Nobody who holds nothing is remembered.
pub record AreExact (all : AllHeld) (indices : Indices) : Type 0 where
  pub something : (c : Connection) → is_something (finmap.get all c) ≡ true
  pub found : (k : Kind) (q : Bytes) → finmap.get (standing k indices) q ≡ some_of (subscribers_in all k q)

-- each name of a kind that some connection holds, with those that do
abbrev pub listed_in : AllHeld → Kind → List (Bytes × List Connection)
listed_in all kind = map {B = Bytes × List Connection} (λ name. (name, subscribers_in all kind name)) (names_in all kind)
