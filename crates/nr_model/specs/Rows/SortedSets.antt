-- Sorted sets, at some members and scores.
use Rattle.std.specs.Prelude.{◌≡◌, true, List, [], ◌∷◌, map, Option, Some, None, Ok, ℤ, pos, negsuc, codes}
use Rattle.std.specs.FinMap as finmap
use Rattle.nr_model.specs.Bytes.{Bytes}
use Rattle.nr_model.specs.SortedSets.{Scores, Scored, ranked, rank_of, score_value, score_bound, byte_bound, Lowest, Highest, Including, Excluding, ByScore, ByBytes, Places, Within, Limit, told_range, Source, weighted, joined, are_scores}
use Rattle.nr_model.specs.Commands.Keys.{Conditions, unconditional}
use Rattle.nr_model.specs.Commands.SortedSets.{add_all, raised}
use Rattle.nr_model.specs.declared.command.Direction.TheVariants.{Ascending, Descending}
use Rattle.nr_model.specs.declared.command.Joining.TheVariants.{Union, Intersection}
use Rattle.nr_model.specs.declared.command.Aggregate.TheVariants.{Sum, Min, Max}

-- members of one byte
abbrev pub a : Bytes
a = 97 ∷ []

abbrev pub b : Bytes
b = 98 ∷ []

abbrev pub c : Bytes
c = 99 ∷ []

abbrev pub scores : Scores
scores = finmap.from_entries ((a, pos 5) ∷ (b, pos 2) ∷ (c, pos 3) ∷ [])

abbrev pub ties : Scores
ties = finmap.from_entries ((b, pos 1) ∷ (a, pos 1) ∷ (c, negsuc 0) ∷ [])

abbrev pub names : List Scored → List Bytes
names = map (λ scored. scored.0)

abbrev pub with_gt : Conditions
with_gt = record unconditional { gt = true }

abbrev pub with_nx : Conditions
with_nx = record unconditional { nx = true }

-- what each of a, b and c has
abbrev pub each : Scores → List (Option ℤ)
each scores = map (finmap.get scores) (a ∷ b ∷ c ∷ [])

abbrev pub one_to_skip : Limit
one_to_skip = record { offset = pos 1; count = pos 1 }

abbrev pub great : ℤ
great = pos 9007199254740992

abbrev pub thrice : List Source
thrice = weighted (finmap.from_entries ((a, great) ∷ []) ∷ finmap.from_entries ((a, great) ∷ []) ∷ finmap.from_entries ((a, great) ∷ []) ∷ []) (pos 1 ∷ pos 1 ∷ negsuc 0 ∷ [])

abbrev pub two : List Source
two = weighted (scores ∷ finmap.from_entries ((b, pos 7) ∷ []) ∷ []) (pos 10 ∷ [])

pub record SortedSetRows : Type 0 where
  pub by_score : names (ranked scores) ≡ b ∷ c ∷ a ∷ []
  pub equal_by_bytes : names (ranked ties) ≡ c ∷ a ∷ b ∷ []
  pub rank : rank_of Ascending scores a ≡ Some 2
  pub reversed_rank : rank_of Descending scores a ≡ Some 0
  pub no_rank : rank_of Ascending scores [] ≡ None
  pub last_two : names (told_range (Places (negsuc 1) (negsuc 0)) Ascending None scores) ≡ c ∷ a ∷ []
  pub greatest : names (told_range (Places (pos 0) (pos 0)) Descending None scores) ≡ a ∷ []
  pub open_end : names (told_range (Within (ByScore (Excluding (pos 2)) Highest)) Ascending None scores) ≡ c ∷ a ∷ []
  pub closed_end : names (told_range (Within (ByScore (Including (pos 2)) (Excluding (pos 5)))) Ascending None scores) ≡ b ∷ c ∷ []
  pub reversed_then_limited : names (told_range (Within (ByScore (Including (pos 1)) (Including (pos 3)))) Descending (Some one_to_skip) scores) ≡ b ∷ []
  pub by_bytes : names (told_range (Within (ByBytes (Excluding a) Highest)) Ascending None scores) ≡ b ∷ c ∷ []
  pub nothing_between : names (told_range (Within (ByScore Highest Lowest)) Ascending None scores) ≡ []
  pub point_and_zeros : score_value (codes "-3.00") ≡ Some (negsuc 2)
  pub point_alone : score_value (codes "3.") ≡ None
  pub fraction : score_value (codes "3.5") ≡ None
  pub greatest_score : score_value (codes "9007199254740992") ≡ Some great
  pub too_great : score_value (codes "9007199254740993") ≡ None
  pub endless : score_bound (codes "(-inf") ≡ Some Lowest
  pub open_score : score_bound (codes "(7") ≡ Some (Excluding (pos 7))
  pub open_bytes : byte_bound (codes "(-") ≡ Some (Excluding (codes "-"))
  pub no_bound : byte_bound (codes "a") ≡ None
  pub greater_alone : each (add_all with_gt scores ((a, pos 4) ∷ (b, pos 9) ∷ [])).scores ≡ Some (pos 5) ∷ Some (pos 9) ∷ Some (pos 3) ∷ []
  pub changed_once : (add_all with_gt scores ((a, pos 4) ∷ (b, pos 9) ∷ [])).changed ≡ 1
  pub new_alone : raised with_nx (Some (pos 5)) (pos 1) ≡ Ok None
  pub summed : each (joined Union Sum two) ≡ Some (pos 50) ∷ Some (pos 27) ∷ Some (pos 30) ∷ []
  pub least : each (joined Union Min two) ≡ Some (pos 50) ∷ Some (pos 7) ∷ Some (pos 30) ∷ []
  pub common : each (joined Intersection Max two) ≡ None ∷ Some (pos 20) ∷ None ∷ []
  pub judged_in_the_end : are_scores (joined Union Sum thrice) ≡ true
