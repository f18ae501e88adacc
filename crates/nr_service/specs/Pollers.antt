-- The streams that a device was given back.
use Rattle.std.specs.Prelude.{◌≡◌, Bool, true, false, ◌⊎◌, List, [], ◌∷◌, ◌++◌, Option, IfSome, map}
use Rattle.std.specs.Option.{option_map}

-- a stream of which all was sent, or one that was let go of at once
pub data Parting (S : Type 0) : Type 0 where
  Finished : S → Parting S
  Abandoned : S → Parting S

-- the stream that was given back
abbrev pub stream_of : {S : Type 0} → Parting S → S
stream_of (Finished stream) = stream
stream_of (Abandoned stream) = stream

-- where they are known, these were given back behind the others
abbrev pub PartsWith : {S : Type 0} → List (Parting S) → Option (List (Parting S)) → Option (List (Parting S)) → Type 0
PartsWith {S} more old new = new ≡ option_map (λ (before : List (Parting S)). before ++ more) old

-- what is given back of a stream that was to be admitted: nothing where it was taken on, and else the stream itself
abbrev pub turned_away : {S : Type 0} → Bool → S → List (Parting S)
turned_away true stream = []
turned_away false stream = Abandoned stream ∷ []

-- these streams were given back in some way behind the others
pub record GivesBack {S : Type 0} (streams : List S) (old new : Option (List (Parting S))) : Type 0 where
  pub more : List (Parting S)
  pub are : map stream_of more ≡ streams
  pub parts : PartsWith more old new

-- the first stand among the second, in the same order, and others may stand between
abbrev pub AreAmong : {S : Type 0} → List S → List S → Type 0
AreAmong streams [] = streams ≡ []
AreAmong {S} streams (one ∷ all) = ((rest : List S) × (streams ≡ one ∷ rest) × AreAmong rest all) ⊎ AreAmong streams all

-- where it is known what was given back, these were, in this order
abbrev pub AreGivenBack : {S : Type 0} → List S → Option (List (Parting S)) → Type 0
AreGivenBack streams known = IfSome known (λ given. AreAmong streams (map stream_of given))
