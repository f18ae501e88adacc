-- Several keys as one sorted set: what is read, and what the keys hold.
use Rattle.std.specs.Prelude.{ℕ, if◌then◌else◌, Ok}
use Rattle.std.specs.FinMap as finmap
use Rattle.nr_model.specs.Keyspace.{Keyspace}
use Rattle.nr_model.specs.SortedSets.{Scores, of_members, weighted, joined, are_scores}
use Rattle.nr_model.specs.Commands.Reading.{Read, fault, read_then}
use Rattle.nr_model.specs.declared.refused.Refused.TheVariants.{ScoreRange}
use Rattle.nr_model.specs.declared.command.Joining.{Joining}
use Rattle.nr_model.specs.Commands.SortedSets as sorted_sets
use Rattle.nr_ranked.specs.declared.storing.reading.StoreOptions.{StoreOptions}
use Rattle.nr_ranked.specs.declared.storing.reading.StoreRequest.{StoreRequest}
use Rattle.nr_ranked.specs.declared.storing.sources.Held.{Held}
use Rattle.nr_ranked.specs.declared.storing.sources.Held.TheVariants.{Missing, Set, SortedSet}

abbrev pub options_of : StoreOptions → sorted_sets.StoreOptions
options_of options = record { weights = options.weights.items; aggregate = options.aggregate }

abbrev pub request_of : StoreRequest → sorted_sets.StoreRequest
request_of request = record { target = request.target.now; names = request.names.now; options = options_of request.options }

-- what a key holds, as a sorted set
abbrev pub scores_in : Held → Scores
scores_in Missing = finmap.empty
scores_in (Set set) = of_members set.now
scores_in (SortedSet zset) = zset.now

-- a sorted set of these scores, if each of them is one
abbrev pub judged : Scores → Read Scores
judged scores = if are_scores scores then Ok scores else fault ScoreRange

-- what the keys of a request become, joined
abbrev pub joined_at : Joining → Keyspace → ℕ → sorted_sets.StoreRequest → Read Scores
joined_at joining keyspace database request =
    read_then (sorted_sets.sources_at keyspace database request.names)
    (λ sources. judged (joined joining request.options.aggregate (weighted sources request.options.weights)))
