-- What `clap` makes of words, a word at a time, and behind a subcommand's name by the subcommand alone.
use Rattle.std.proofs.Common.{◌≡◌, ◌∙◌, Bool, false, List, [], ◌∷◌, ◌++◌, Some, ap, ap₂, append-nil, append_assoc, sym, refl}
use Rattle.std.specs.List.{fold}
use Rattle.clap.specs.Faults.{check_fault, defaults_fault, settle_fault, turn_fault, walk_fault}
use Rattle.clap.specs.Kinds.{Kinds, or_else}
use Rattle.clap.specs.Simple.{Shape}
use Rattle.clap.specs.Walk.{Names, Row, Text, Walk, finished, settled, walked}

pub or_else-nil : (kinds : Kinds) → or_else kinds [] ≡ kinds
or_else-nil [] = refl
or_else-nil (kind ∷ kinds) = refl

-- the walk has come to a subcommand of this name, with these words behind it
abbrev pub at_subcommand : Walk → Text → List Text → Walk
at_subcommand w name words = record w { stopped = Some (name, words) }

module _ (s : Shape) (names : Names) where
  -- where the walk is behind these words
  abbrev pub end_of : Walk → List Text → Walk
  end_of w words = fold (walked s.rules names) w words

  -- what is at fault once the walk has ended there
  abbrev pub fault_at : Bool → Kinds → Walk → Kinds
  fault_at has_subcommand below end =
      or_else below (or_else (settle_fault s.rules s.args_override_self end.held)
      (or_else (defaults_fault (settled s.rules end.held).rows s.rules) (check_fault s (finished s.rules end.held) has_subcommand)))

  -- what is at fault from here on, where no subcommand follows
  abbrev pub fault_from : Walk → List Text → Kinds
  fault_from w words = or_else (walk_fault s names w words) (fault_at false [] (end_of w words))

  pub fault_further : (w next : Walk) (word : Text) (rest : List Text) → turn_fault s names w word ≡ [] → walked s.rules names w word ≡ next
      → fault_from next rest ≡ [] → fault_from w (word ∷ rest) ≡ []
  unfolding walk_fault
  fault_further w next word rest fine step more =
      ap₂ (λ (turn : Kinds) (v : Walk). or_else (or_else turn (walk_fault s names v rest)) (fault_at false [] (end_of v rest))) fine step ∙ more

  -- what is found from here on
  abbrev pub rows_from : Walk → List Text → List Row
  rows_from w words = finished s.rules (end_of w words).held

  pub rows_further : (w next : Walk) (word : Text) (rest : List Text) (rows : List Row) → walked s.rules names w word ≡ next
      → rows_from next rest ≡ rows → rows_from w (word ∷ rest) ≡ rows
  rows_further w next word rest rows step more = ap (λ (v : Walk). rows_from v rest) step ∙ more

  pub faultless_behind : (w : Walk) (name : Text) (words rest : List Text) → walk_fault s names (at_subcommand w name words) rest ≡ []
  unfolding walk_fault walked
  faultless_behind w name words [] = refl
  faultless_behind w name words (word ∷ rest) = faultless_behind w name (words ++ word ∷ []) rest

  pub all_behind : (w : Walk) (name : Text) (words rest : List Text) → end_of (at_subcommand w name words) rest ≡ at_subcommand w name (words ++ rest)
  unfolding walked
  all_behind w name words [] = ap (at_subcommand w name) (sym (append-nil words))
  all_behind w name words (word ∷ rest) = all_behind w name (words ++ word ∷ []) rest ∙ ap (at_subcommand w name) (append_assoc words (word ∷ []) rest)
