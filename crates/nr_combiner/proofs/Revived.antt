-- A node that is down comes back, or passes entries on its way to that: what a combiner keeps.
use Rattle.std.proofs.Common.{◌≡◌, ℕ, zero, suc, ◌<◌, inl, inr, ◌⊎◌, Bool, true, false, cond, not, List, [], ◌∷◌, ◌++◌, map, length, Option, Some, None, refl, ap, sym, ◌∙◌, subst, arith, get_or, append-nil}
use Rattle.std.specs.Prelude.{nat_lt}
use Rattle.std.proofs.lemmas.List.{length-map}
use Rattle.nr_model.specs.Items.{Sequence}
use Rattle.nr_entry.specs.declared.entry.Entry.{Entry}
use Rattle.nr_log_end.specs.declared.standing.Standing.{Standing}
use Rattle.nr_log_end.specs.declared.standing.LogEvent.TheVariants.{Applied}
use Rattle.nr_log_end.specs.Standings.{passed_of, record_of}
use Rattle.nr_job_numbers.specs.Book.{Book}
use Rattle.nr_replica.specs.Members.{Member, fresh_member, cut_member}
use Rattle.nr_replica.specs.Replicas.{ReplicaState}
use Rattle.nr_slots.specs.declared.view.CombinerPast.{CombinerPast}
use Rattle.nr_slots.specs.Seats.{CombinerView, desk_of}
use Rattle.nr_node.specs.Advanced.{HasPassed, jobs_of_own}
use Rattle.nr_node.specs.Level.{NodeState, jobs_reserved}
use Rattle.nr_node.specs.Revived.{OfferState, HasRevived, IsNotYet, is_busy, place_of, revive_refusal}
use Rattle.nr_node.specs.declared.reviving.ReviveError.{ReviveError}
use Rattle.nr_node.specs.declared.reviving.ReviveError.TheVariants.{NotDown, Behind, Busy, NotYet}
use Rattle.nr_node.proofs.Lists.{record-append}
use Rattle.nr_combiner.specs.Served.{owed_at, IsDesk, AreExecuted, IsOwnOfBatch, IsServed}
use Rattle.nr_combiner.proofs.Deeds.{jobs_weaker, of_lifted, passed_all, speaks_of}
use Rattle.nr_combiner.proofs.Grows.{AreServedOn, Grows, IsStill, executed_still, served_still, still_itself}
use Rattle.nr_combiner.proofs.Moves.{GoesOn, same_on}
use Rattle.nr_combiner.proofs.Turns.{served_as}

-- cut queues leave connections with their workers
cut_at : (members : List Member) (d : Member) (serial : ℕ) → serial < length members
    → (get_or (map cut_member members) serial d).worker ≡ (get_or members serial d).worker
cut_at [] d serial near = absurd (omega arith)
cut_at (m ∷ members) d zero near = refl
cut_at (m ∷ members) d (suc serial) near = cut_at members d serial (omega (arith, near))

cut_served : (members : List Member) → AreServedOn members (map cut_member members)
cut_served members c near = (subst (λ k. c.serial < k) (sym (length-map members cut_member)) near, cut_at members (fresh_member c 0 0) c.serial near)

passed_record : (es : List Entry) (s t : Standing) → HasPassed es s t → record_of t.history ≡ record_of s.history ++ record_of (map Applied es)
passed_record es s t h = ap (λ (x : Standing). record_of x.history) h.standing ∙ record-append s.history (map Applied es)

-- a desk whose batches are all answered
idle_desk : (n m : NodeState) (worker number : ℕ) (desk : CombinerPast) (o p : Option ℕ) → o ≡ None → p ≡ None → IsDesk n worker number desk o → IsDesk m worker number desk p
idle_desk n m worker number desk o p none still d = subst (IsDesk m worker number desk) (sym still) (subst (IsDesk n worker number desk) none d)

pub revived_served : (offer : OfferState) (n m : NodeState) (seat : CombinerView) (numbers : List ℕ) → HasRevived offer n m → IsServed n seat numbers → GoesOn n m seat numbers
revived_served offer n m seat numbers h s =
    let node : m.book.node ≡ n.book.node = ap (λ (b : Book). b.node) h.book in
    let owed : m.replica.owed ≡ n.replica.owed = ap (λ (r : ReplicaState). r.owed) h.replica in
    let long : length m.replica.owed ≡ length n.replica.owed = ap length owed in
    let members : AreServedOn n.replica.members m.replica.members =
    subst (AreServedOn n.replica.members) (sym (ap (λ (r : ReplicaState). r.members) h.replica)) (cut_served n.replica.members) in
    let own = h.own ∙ sym (append-nil (jobs_of_own n.book.node h.entries))
    ∙ ap (λ (rs : List (ℕ × Entry)). jobs_of_own n.book.node h.entries ++ jobs_reserved rs) (sym h.none) in
    let jobs = passed_all (IsOwnOfBatch n seat.desks) h.entries n m (speaks_of n seat.desks) h.passed own (inl h.next) (inl h.waiting) s.handed_in in (
      record {
        workers = s.workers ∙ sym long;
        numbered = s.numbered ∙ sym long;
        desks = λ worker near. idle_desk n m worker (get_or numbers worker 0) (desk_of seat worker) (owed_at worker n) (owed_at worker m)
            (ap (λ (os : List (Option ℕ)). get_or os worker None) (sym owed) ∙ h.owed worker) (h.owed worker) (s.desks worker (subst (λ k. worker < k) long near));
        executed = λ worker near. subst (λ (r : Sequence). AreExecuted r (desk_of seat worker).lifted (desk_of seat worker).answered)
            (sym (passed_record h.entries n.seat.standing m.seat.standing h.passed))
            (executed_still (record_of n.seat.standing.history) (record_of (map Applied h.entries)) (desk_of seat worker).lifted (desk_of seat worker).answered
            (s.executed worker (subst (λ k. worker < k) long near)));
        handed_in = jobs_weaker (IsOwnOfBatch n seat.desks) (IsOwnOfBatch m seat.desks)
            (of_lifted n m seat.desks seat.desks (λ worker job of.
            let on = members job.connection of.served.0 in record { node = of.node ∙ sym node; served = (on.0, on.1 ∙ of.served.1) })
            (sym node) (λ worker batch lifted. lifted)) m jobs;
      },
      sym node,
    )

-- one that isn't refused is down
down_by : (down behind busy : Bool) → cond (not down) (Some NotDown) (cond behind (Some Behind) (cond busy (Some Busy) None)) ≡ None → down ≡ true
down_by true behind busy e = refl
down_by false behind busy e = absurd (cc e)

not_yet_served : (offer : OfferState) (n m : NodeState) (seat : CombinerView) (numbers : List ℕ) → revive_refusal n offer ≡ None → IsNotYet offer n m
    → IsServed n seat numbers → GoesOn n m seat numbers
not_yet_served offer n m seat numbers none h s =
    let was : n.replica.down ≡ true = down_by n.replica.down (nat_lt (place_of offer) (passed_of n.seat.standing)) (is_busy n.replica.owed) none in
    let node : m.book.node ≡ n.book.node = ap (λ (b : Book). b.node) h.book in
    let replica : m.replica ≡ n.replica = ap (λ (x : NodeState). x.replica) h.same in
    let grows : Grows n m = record {
      node = node;
      workers = ap (λ (r : ReplicaState). length r.owed) replica;
      members = served_as n.replica.members m.replica.members (ap (λ (r : ReplicaState). r.members) replica);
      keeps = λ up. absurd (cc (ap (λ (r : ReplicaState). r.down) replica, was, up));
      log = (record_of (map Applied h.entries), sym (passed_record h.entries n.seat.standing m.seat.standing h.passed));
    } in
    let jobs = passed_all (IsOwnOfBatch n seat.desks) h.entries n m (speaks_of n seat.desks) h.passed h.own (inr (ap (λ (x : NodeState). x.next) h.same))
    (inr (ap (λ (r : ReplicaState). r.waiting) replica)) s.handed_in in (
      served_still n m seat numbers grows
          (λ worker. subst (λ (r : ReplicaState). IsStill (owed_at worker n) (get_or r.owed worker None)) (sym replica) (still_itself (owed_at worker n))) jobs s,
      sym node,
    )

-- so it is where it didn't come back
pub refused_served : (offer : OfferState) (why : ReviveError) (n m : NodeState) (seat : CombinerView) (numbers : List ℕ)
    → ((revive_refusal n offer ≡ Some why) × (m ≡ n)) ⊎ ((revive_refusal n offer ≡ None) × (why ≡ NotYet) × IsNotYet offer n m)
    → IsServed n seat numbers → GoesOn n m seat numbers
refused_served offer why n m seat numbers (inl h) s = same_on n m seat numbers h.1 s
refused_served offer why n m seat numbers (inr h) s = not_yet_served offer n m seat numbers h.0 h.2 s
