-- What several keys hold, as sums of their scores, and what of it becomes a sorted set.
use Rattle.std.specs.Prelude.{Bool, true, if◌then◌else◌, List, map, ℤ}
use Rattle.std.specs.List.{list_all}
use Rattle.std.specs.FinMap as finmap
use Rattle.std.specs.BTreeMap.{BTreeMap}
use Rattle.nr_model.specs.Bytes.{Bytes}
use Rattle.nr_model.specs.SortedSets.{Scored, Scores, is_score}
use Rattle.nr_model.specs.declared.command.Joining.{Joining}
use Rattle.nr_model.specs.declared.command.Joining.TheVariants.{Union, Intersection}
use Rattle.nr_zsets.specs.Lists.{shown}
use denote.Ref.{Bor}

abbrev pub sums_of : BTreeMap (Bor Bytes) ℤ → Scores
sums_of sums = finmap.from_entries (map shown sums.entries)

-- whether a member of one of these stays in a joining
abbrev pub kept_by : Joining → List Scores → Bytes → Bool
kept_by Union sources member = true
kept_by Intersection sources member = list_all (λ scores. finmap.contains_key scores member) sources

-- those that stay
abbrev pub kept_in : Joining → List Scores → Scores → Scores
kept_in joining sources sums = finmap.retain_keys sums (kept_by joining sources)

-- one put in, if it stays, and whether its sum is a score then
abbrev pub built_one : (Bytes → Bool) → Scores → Scored → Scores
built_one keeps scores scored = if keeps scored.0 then finmap.insert scores scored.0 scored.1 else scores

abbrev pub is_right : (Bytes → Bool) → Scored → Bool
is_right keeps scored = if keeps scored.0 then is_score scored.1 else true
