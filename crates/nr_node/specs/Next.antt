-- The entry that a node takes to the log next.
use Rattle.std.specs.Prelude.{◌≡◌, ℕ, ◌<◌, List, [], ◌∷◌, length, Option, Some, None}
use Rattle.nr_model.specs.Entries.{Jobs}
use Rattle.nr_entry.specs.Jobs.{items_of}
use Rattle.nr_entry.specs.declared.entry.Entry.{Entry}
use Rattle.nr_entry.specs.declared.job.Job.{Job}
use Rattle.nr_entry.specs.Shares.{shares_of, entry_of}
use Rattle.nr_entry.specs.declared.shares.Unshared.{Unshared}
use Rattle.nr_log_end.specs.declared.standing.Standing.{Standing}
use Rattle.nr_log_end.specs.Standings.{AreNextReads}
use Rattle.nr_node.specs.declared.next.Next.{Next}
use Rattle.nr_node.specs.declared.next.Next.TheVariants as forms

-- the jobs of the entry of these shares
abbrev pub jobs_shared : List (Option Entry) → List Job
jobs_shared [] = []
jobs_shared (None ∷ shares) = []
jobs_shared (Some entry ∷ shares) = entry.jobs.items

-- its jobs
abbrev pub jobs_next : Option Next → List Job
jobs_next None = []
jobs_next (Some (forms.Unshared entry)) = (entry_of entry).jobs.items
jobs_next (Some (forms.Shared shares)) = jobs_shared shares

-- it is an entry of the node, or shares of one for so many nodes
abbrev pub IsNextOf : ℕ → ℕ → Option Next → Type 0
IsNextOf node nodes None = Unit {0}
IsNextOf node nodes (Some (forms.Unshared entry)) = (entry_of entry).node ≡ node
IsNextOf node nodes (Some (forms.Shared shares)) = (entry : Entry) × (shares ≡ shares_of entry nodes) × (entry.node ≡ node)

-- where there are shares of it, there is a first one
abbrev pub HasFirst : Option Next → Type 0
HasFirst None = Unit {0}
HasFirst (Some (forms.Unshared entry)) = Unit {0}
HasFirst (Some (forms.Shared shares)) = 0 < length shares

-- it is this entry, whose shares aren't made
abbrev pub HasLeft : Entry → Option Next → Type 0
HasLeft entry next = (left : Unshared) × (next ≡ Some (forms.Unshared left)) × (entry_of left ≡ entry)

-- reads that are these jobs may be noted next
abbrev pub MayBeNoted : Jobs → Standing → Type 0
MayBeNoted jobs s = (ran : List Job) → items_of ran ≡ jobs → AreNextReads ran s
