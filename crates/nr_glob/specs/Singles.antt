-- The parts that take one byte each.
use Rattle.std.specs.Prelude.{◌≡◌, ℕ, Bool, true, false, not, ◌==◌, List, ◌∷◌}
use Rattle.nr_model.specs.Bytes.{Bytes}
use Rattle.nr_model.specs.Patterns.{Part, Star, AnyByte, Byte, Class, NotClass, Place, Outside, parts_from, in_class, parts_match, some_rest}
use Rattle.nr_glob.specs.Classes.{class_marks}
use Rattle.nr_glob.specs.declared.singles.Single.{Single}
use Rattle.nr_glob.specs.declared.singles.Single.TheVariants as singles

-- the part that one of the program stands for
abbrev pub single_seen : Single → Part
single_seen singles.AnyByte = AnyByte
single_seen (singles.Byte byte) = Byte byte
single_seen (singles.Class class) = Class (class_marks class.now)
single_seen (singles.NotClass class) = NotClass (class_marks class.now)

-- the part takes this one byte
abbrev pub takes : Part → ℕ → Bool
takes Star c = true
takes AnyByte c = true
takes (Byte b) c = c == b
takes (Class marks) c = in_class marks c
takes (NotClass marks) c = not (in_class marks c)

-- a part stands at the front of a pattern's bytes, which are read in this place, and then the rest outside of classes
abbrev pub IsPartFront : Place → Bytes → Part → Bytes → Type 0
IsPartFront place bytes part rest = parts_from place bytes ≡ part ∷ parts_from Outside rest

-- no parts that begin with this one match the text
abbrev pub IsNoStep : Part → Bytes → Type 0
IsNoStep part text = (others : List Part) → parts_match (part ∷ others) text ≡ false

-- The part takes the first byte of the text, and the others are to match the rest. Where they match behind some front
-- with the part, they do without it behind some front of that rest.
pub record IsStep (part : Part) (text rest : Bytes) : Type 0 where
  pub here : (others : List Part) → parts_match (part ∷ others) text ≡ parts_match others rest
  pub later : (others : List Part) → some_rest (parts_match (part ∷ others)) text ≡ true → some_rest (parts_match others) rest ≡ true
