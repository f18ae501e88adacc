-- What contracts see of a replica.
use Rattle.std.specs.Prelude.{◌≡◌, ℕ, suc, ◌-◌, Bool, true, false, cond, ◌==◌, List, [], ◌∷◌, length, Option, Some, None, refl}
use Rattle.std.specs.Coded.{Coded, code_by, coded×, coded_ℕ, coded_bool, coded_list, coded_option}
use Rattle.nr_model.specs.Servers.{Server, after_all, emitted_all, fresh}
use Rattle.nr_model.specs.Entries.{Jobs, entry_items, read_jobs, left_by_reads}
use Rattle.nr_entry.specs.declared.entry.Entry.{Entry}
use Rattle.nr_entry.specs.declared.job.Job.{Job}
use Rattle.nr_entry.specs.contracts.job.Job as of_job
use Rattle.nr_entry.specs.Jobs.{items_of}
use Rattle.nr_replica.specs.declared.fall.Fall.{Fall}
use Rattle.nr_replica.specs.contracts.fall.Fall as of_fall
use Rattle.nr_machine.specs.Codes.{coded_server}
use Rattle.nr_machine.specs.Machines.{MachineState}
use Rattle.nr_replica.specs.Members.{Member, coded_member, AreDelivered, jobs_of_worker}

-- The node; its connections by serial; for each worker, where a batch of it was lifted, how many of its jobs are neither applied nor run; the jobs that were
-- lifted and neither taken for an entry nor run; how many entries were applied; the server, which is given up when the node falls; whether it is down, whether the
-- next entry is refused; why it is down, where it is; and whether a loan of its server may be out: one was given since it was seen last that none is
pub record ReplicaState : Type 0 where
  pub node : ℕ
  pub members : List Member
  pub owed : List (Option ℕ)
  pub waiting : List Job
  pub applied : ℕ
  pub server : Server
  pub down : Bool
  pub refused : Bool
  pub fell : Option Fall
  pub lent : Bool

abbrev pub coded_replica : Coded ReplicaState
coded_replica =
    code_by (ℕ × (List Member × (List (Option ℕ) × (List Job × (ℕ × (Server × (Bool × (Bool × (Option Fall × Bool)))))))))
    (coded× coded_ℕ (coded× (coded_list coded_member) (coded× (coded_list (coded_option coded_ℕ)) (coded× (coded_list of_job.the_row.coded) (coded× coded_ℕ (coded× coded_server (coded× coded_bool (coded× coded_bool (coded× (coded_option of_fall.the_row.coded) coded_bool)))))))))
    (λ r. (r.node, (r.members, (r.owed, (r.waiting, (r.applied, (r.server, (r.down, (r.refused, (r.fell, r.lent))))))))))
    (λ p. record { node = p.0; members = p.1.0; owed = p.1.1.0; waiting = p.1.1.1.0; applied = p.1.1.1.1.0; server = p.1.1.1.1.1.0; down = p.1.1.1.1.1.1.0; refused = p.1.1.1.1.1.1.1.0; fell = p.1.1.1.1.1.1.1.1.0; lent = p.1.1.1.1.1.1.1.1.1 }) (λ _. refl)

-- jobs were executed: they are owed no more
abbrev pub owing_less : ℕ → Option ℕ → Option ℕ
owing_less n None = None
owing_less n (Some owed) = Some (owed - n)

abbrev pub owed_from : ℕ → List Member → Jobs → List (Option ℕ) → List (Option ℕ)
owed_from w members jobs [] = []
owed_from w members jobs (owed ∷ more) = owing_less (length (jobs_of_worker w members jobs)) owed ∷ owed_from (suc w) members jobs more

-- what a machine has of the server, where there is one
abbrev pub server_in : Option MachineState → Server
server_in None = fresh
server_in (Some machine) = machine.state

-- The node stops for this reason: its server is given up, and it is down.
abbrev pub stopped : Fall → ReplicaState → ReplicaState
stopped fall r = record r { server = fresh; down = true; refused = false; fell = Some fall }

-- The node falls: it stops, and what it has lifted is dropped.
abbrev pub fallen : Fall → ReplicaState → ReplicaState
fallen fall r = record r { waiting = []; server = fresh; down = true; refused = false; fell = Some fall }

-- an entry was applied: the server moved, the connections got what it emitted for them, and its own jobs are owed no more
abbrev pub applied_with : List Member → Entry → ReplicaState → ReplicaState
applied_with members entry r =
    let jobs = items_of entry.jobs.items in
    record r {
      members = members;
      owed = cond (entry.node == r.node) (owed_from 0 r.members jobs r.owed) r.owed;
      applied = suc r.applied;
      server = after_all r.server (entry_items jobs);
    }

pub record IsApplied (entry : Entry) (old new : ReplicaState) : Type 0 where
  pub delivered : AreDelivered (emitted_all old.server (entry_items (items_of entry.jobs.items))) old.members new.members
  pub state : new ≡ applied_with new.members entry old

-- the same, where the jobs of the entry are owed no more only if it is counted
abbrev pub applied_as : Bool → List Member → Entry → ReplicaState → ReplicaState
applied_as counted members entry r = record (applied_with members entry r) { owed = cond counted (applied_with members entry r).owed r.owed }

pub record IsAppliedAs (counted : Bool) (entry : Entry) (old new : ReplicaState) : Type 0 where
  pub delivered : AreDelivered (emitted_all old.server (entry_items (items_of entry.jobs.items))) old.members new.members
  pub state : new ≡ applied_as counted new.members entry old

-- the reads that lead were run: the server stays
abbrev pub read_with : List Member → List Job → ReplicaState → ReplicaState
read_with members left r =
    record r { members = members; owed = owed_from 0 r.members (read_jobs (items_of r.waiting)) r.owed; waiting = left }

pub record HasRead (old new : ReplicaState) : Type 0 where
  pub delivered : AreDelivered (emitted_all old.server (read_jobs (items_of old.waiting))) old.members new.members
  pub left : items_of new.waiting ≡ left_by_reads (items_of old.waiting)
  pub state : new ≡ read_with new.members new.waiting old
