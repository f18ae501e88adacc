-- What a walk along the parts of a pattern says.
use Rattle.std.specs.Prelude.{◌≡◌, ◌<◌, ◌≤◌, Bool, true, false, length}
use Rattle.nr_model.specs.Bytes.{Bytes}
use Rattle.nr_model.specs.Patterns.{Outside, parts_from, parts_match, some_rest}
use Rattle.nr_glob.specs.declared.Walk.{Walk}
use Rattle.nr_glob.specs.declared.Walk.TheVariants.{Fails, Matches, ToStar}

-- whether the pattern matches the text, and whether it does behind some front
abbrev pub is_match : Bytes → Bytes → Bool
is_match pattern_text text = parts_match (parts_from Outside pattern_text) text

abbrev pub is_match_later : Bytes → Bytes → Bool
is_match_later pattern_text text = some_rest (is_match pattern_text) text

-- To a star: what is behind it has to match the text that is left, or what is behind some front of it. That holds too
-- where the whole pattern is tried behind some front.
pub record IsToStar (pattern_text text behind left : Bytes) : Type 0 where
  pub here : is_match pattern_text text ≡ is_match_later behind left
  pub later : is_match_later pattern_text text ≡ is_match_later behind left

abbrev pub IsWalk : Bytes → Bytes → Walk → Type 0
IsWalk pattern_text text Fails = is_match pattern_text text ≡ false
IsWalk pattern_text text Matches = is_match pattern_text text ≡ true
IsWalk pattern_text text (ToStar behind left) = IsToStar pattern_text text behind.now left.now

-- behind a star less of the pattern is left, and no more of the text
abbrev pub IsShorter : Bytes → Bytes → Walk → Type 0
IsShorter pattern_text text Fails = Unit {0}
IsShorter pattern_text text Matches = Unit {0}
IsShorter pattern_text text (ToStar behind left) = (length behind.now < length pattern_text) × (length left.now ≤ length text)
