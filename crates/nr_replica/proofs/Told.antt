-- What a replica's calls say of its state, from what its parts say.
use Rattle.std.proofs.Common.{◌≡◌, ℕ, ◌+◌, ◌<◌, Bool, true, false, cond, List, [], ◌∷◌, length, take, get_or, refl, ap, sym, ◌∙◌, subst, arith, add-one}
use Rattle.std.specs.Prelude.{◌==◌, not, is_none, Result, Ok, Err, IfOk, IfSome, OnOk, OnErr, Option, Some, None}
use Rattle.nr_model.specs.Items.{Connection}
use Rattle.nr_model.specs.Servers.{Server, after_all, emitted_all}
use Rattle.nr_model.specs.Entries.{entry_items}
use Rattle.nr_model.specs.Sequential.{for_node}
use Rattle.nr_emission.specs.Emitted.{Written, written_after, all_after}
use Rattle.nr_blob.specs.declared.memory.Memory.{Memory}
use Rattle.nr_entry.specs.declared.entry.Entry.{Entry}
use Rattle.nr_entry.specs.declared.job.Job.{Job}
use Rattle.nr_entry.specs.Jobs.{connection_of, items_of}
use Rattle.nr_entry.specs.Waiting.{has_some}
use Rattle.nr_machine.specs.Machines.{MachineState}
use Rattle.nr_replica.specs.declared.fall.Fall.{Fall}
use Rattle.nr_replica.specs.declared.outbox.Piece.{Piece}
use Rattle.nr_replica.specs.Members.{Member, AreNumbered, AreGiven}
use Rattle.nr_replica.specs.Replicas.{ReplicaState, IsApplied, IsAppliedAs, owed_from, server_in}
use Rattle.nr_replica.proofs.Giving.{given_delivered}
use Rattle.nr_replica.proofs.Kept.{numbered_at, get_or_same}

-- an entry was applied
pub applied_is : (counted : Bool) (node applied : ℕ) (members given : List Member) (owed left : List (Option ℕ)) (waiting : List Job) (was now : Option MachineState) (refused : Bool) (fell : Option Fall) (lent : Bool) (entry : Entry) (staging : List Written)
    → is_none was ≡ false → AreNumbered node 0 members
    → staging ≡ all_after written_after [] (for_node node (emitted_all (server_in was) (entry_items (items_of entry.jobs.items)))) → AreGiven staging members given
    → left ≡ cond counted (cond (entry.node == node) (owed_from 0 members (items_of entry.jobs.items) owed) owed) owed
    → now ≡ Some (record { state = after_all (server_in was) (entry_items (items_of entry.jobs.items)); failed = false })
    → IsAppliedAs counted entry
    (record { node = node; members = members; owed = owed; waiting = waiting; applied = applied; server = server_in was; down = is_none was; refused = refused; fell = fell; lent = lent })
    (record { node = node; members = given; owed = left; waiting = waiting; applied = applied + 1; server = server_in now; down = is_none now; refused = refused; fell = fell; lent = lent })
applied_is counted node applied members given owed left waiting was now refused fell lent entry staging up numbered staged handed less moved =
    let items = entry_items (items_of entry.jobs.items) in
    let server : server_in now ≡ after_all (server_in was) items = ap server_in moved in
    let stays : is_none now ≡ is_none was = ap is_none moved ∙ sym up in
    record {
      delivered = given_delivered node staging (emitted_all (server_in was) items) members given numbered staged handed;
      state =
          λ i. record {
            node = node;
            members = given;
            owed = less i;
            waiting = waiting;
            applied = add-one applied i;
            server = server i;
            down = stays i;
            refused = refused;
            fell = fell;
            lent = lent;
          };
    }

pub applied_from : (counted : Bool) (entry : Entry) (old now new : ReplicaState) → old ≡ now → IsAppliedAs counted entry old new → IsAppliedAs counted entry now new
applied_from counted entry old now new is applied = subst (λ (r : ReplicaState). IsAppliedAs counted entry r new) is applied

-- a machine that moved hasn't failed
pub unfailed : (state : Server) (machine : Option MachineState) → machine ≡ Some (record { state = state; failed = false }) → IfSome machine (λ machine. machine.failed ≡ false)
unfailed state machine is = subst (λ (m : Option MachineState). IfSome m (λ machine. machine.failed ≡ false)) (sym is) refl

-- an entry that is counted
pub counted_is : (entry : Entry) (old new : ReplicaState) → IsAppliedAs true entry old new → IsApplied entry old new
counted_is entry old new applied = record { delivered = applied.delivered; state = applied.state }

-- a piece was taken
abbrev IsPiece : ℕ → Connection → Member → Piece → Type 0
IsPiece most c at piece = (connection_of piece.conn ≡ c) × (piece.from ≡ at.outbox.handed) × (piece.bytes.items ≡ take most at.outbox.waiting)

piece_at : (c : Connection) (most : ℕ) (at is : Member) (result : Result (Option Piece) Memory) → at ≡ is → at.outbox.connection ≡ c
    → IfOk result (λ piece. IfSome piece (IsPiece most at.outbox.connection at)) → IfOk result (λ piece. IfSome piece (IsPiece most c is))
piece_at c most at is (Err e) same own taken = tt
piece_at c most at is (Ok None) same own taken = tt
piece_at c most at is (Ok (Some piece)) same own taken =
    (taken.0 ∙ own, taken.1 ∙ ap (λ (m : Member). m.outbox.handed) same, taken.2 ∙ ap (λ (m : Member). take most m.outbox.waiting) same)

pub piece_taken : (node serial most : ℕ) (members : List Member) (at d : Member) (result : Result (Option Piece) Memory) → AreNumbered node 0 members
    → serial < length members → at ≡ get_or members serial at
    → IfOk result (λ piece. IfSome piece (IsPiece most at.outbox.connection at))
    → IfOk result (λ piece. IfSome piece (IsPiece most (record { node = node; serial = serial }) (get_or members serial d)))
piece_taken node serial most members at d result numbered within is taken =
    let number : 0 + serial ≡ serial = omega arith in
    piece_at (record { node = node; serial = serial }) most at (get_or members serial d) result (is ∙ get_or_same members serial at d within)
    (ap (λ (m : Member). m.outbox.connection) is ∙ numbered_at node 0 serial members at numbered within
    ∙ ap (λ (s : ℕ). record { node = node; serial = s }) number)
    taken

-- what becomes of its members alone
pub moved_to : (old now : ReplicaState) (f : ReplicaState → List Member) (news : List Member) → old ≡ now → news ≡ f old
    → record old { members = news } ≡ record now { members = f now }
moved_to old now f news same is = ap (λ (ms : List Member). record old { members = ms }) is ∙ ap (λ (r : ReplicaState). record r { members = f r }) same

pub moved_on_ok : {T E : Type 0} (result : Result T E) (old now : ReplicaState) (f : ReplicaState → List Member) (news : List Member) → old ≡ now
    → OnOk result (news ≡ f old) → OnOk result (record old { members = news } ≡ record now { members = f now })
moved_on_ok (Ok x) old now f news same is = moved_to old now f news same is
moved_on_ok (Err e) old now f news same is = tt

pub kept_on_err : {T E : Type 0} (result : Result T E) (old now : ReplicaState) (news : List Member) → old ≡ now → OnErr result (news ≡ old.members)
    → OnErr result (record old { members = news } ≡ now)
kept_on_err (Ok x) old now news same is = tt
kept_on_err (Err e) old now news same is = ap (λ (ms : List Member). record old { members = ms }) is ∙ same

-- no job waits
pub none_waits : (jobs : List Job) → not (has_some (items_of jobs)) ≡ true → jobs ≡ []
none_waits [] none = refl
none_waits (job ∷ jobs) none = absurd (cc)
