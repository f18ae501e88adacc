-- What a combiner counts of its workers' connections.
use Rattle.std.specs.Prelude.{ℕ, ◌+◌, ◌-◌, ◌%◌, ◌^◌, suc, List, Option, Some, None, slice_index_or, slice_set, replicate, refl}
use Rattle.std.specs.Coded.{Coded, code_by, coded×, coded_ℕ, coded_list}

-- How many connections aren't closed; for each worker its generation: how often something was handed out for its connections, or one of them was closed; and how many
-- connections there were as the node came back last, none where it never did: those have the serials below.
pub record Counts : Type 0 where
  pub unclosed : ℕ
  pub generations : List ℕ
  pub since : ℕ

abbrev pub coded_counts : Coded Counts
coded_counts =
    code_by (ℕ × (List ℕ × ℕ)) (coded× coded_ℕ (coded× (coded_list coded_ℕ) coded_ℕ)) (λ c. (c.unclosed, (c.generations, c.since)))
    (λ p. record { unclosed = p.0; generations = p.1.0; since = p.1.1 }) (λ _. refl)

-- nothing was done yet, at so many workers
abbrev pub fresh_counts : ℕ → Counts
fresh_counts workers = record { unclosed = 0; generations = replicate workers 0; since = 0 }

-- the generation behind this one: behind the last that a u64 tells apart comes the first
abbrev pub next_generation : ℕ → ℕ
next_generation generation = (generation + 1) % 2 ^ 64

abbrev pub generation_of : ℕ → Counts → ℕ
generation_of worker counts = slice_index_or counts.generations worker 0

-- one connection more isn't closed
abbrev pub with_opened : Counts → Counts
with_opened counts = record counts { unclosed = suc counts.unclosed }

-- something was handed out for a worker's connections
abbrev pub with_next : ℕ → Counts → Counts
with_next worker counts = record counts { generations = slice_set counts.generations worker (next_generation (generation_of worker counts)) }

-- one of them was closed
abbrev pub with_closed : ℕ → Counts → Counts
with_closed worker counts = record (with_next worker counts) { unclosed = counts.unclosed - 1 }

-- the node came back, with so many connections
abbrev pub with_since : ℕ → Counts → Counts
with_since since counts = record counts { since = since }

-- so it is where there was one to close
abbrev pub closed_of : Option ℕ → Counts → Counts
closed_of None counts = counts
closed_of (Some worker) counts = with_closed worker counts
