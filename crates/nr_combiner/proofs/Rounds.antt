-- Desks are neither added nor taken away as batches are lifted and answered.
use Rattle.std.proofs.Common.{◌≡◌, ℕ, zero, suc, ◌+◌, Bool, inl, inr, [], ◌∷◌, ◌++◌, length, length-set, refl, ap, ◌∙◌, subst, arith}
use Rattle.std.specs.Prelude.{Result}
use Rattle.nr_job_numbers.specs.Book.{Book}
use Rattle.nr_blob.specs.declared.memory.Memory.{Memory}
use Rattle.nr_entry.specs.declared.batch.Batch.{Batch}
use Rattle.nr_entry.specs.declared.batch.Answer.{Answer}
use Rattle.nr_slots.specs.Seats.{CombinerView, FoundNone, desk_of, with_lifted, with_answered}
use Rattle.nr_node.specs.Level.{NodeState}
use Rattle.nr_node.specs.declared.answers.Round.{Round}
use Rattle.nr_combiner.specs.Served.{CombinerState}
use Rattle.nr_combiner.specs.Steps.{HasLifted, HasLiftedAll, HasLiftedBy, HasLiftedOwn, HasAnswered, HasAnsweredAll, HasCombined}
use Rattle.nr_combiner.specs.declared.answering.Lifts.{Lifts}
use Rattle.nr_combiner.specs.declared.answering.Lifts.TheVariants as lifts
use Rattle.nr_combiner.proofs.Turns.{tried_book}

lifted_one : (worker : ℕ) (batch : Batch) (v : CombinerView) → length (with_lifted worker batch v).desks ≡ length v.desks
lifted_one worker batch v =
    length-set v.desks worker record { lifted = (desk_of v worker).lifted ++ batch ∷ []; answered = (desk_of v worker).answered; grip = (desk_of v worker).grip }

answered_one : (worker : ℕ) (answer : Answer) (v : CombinerView) → length (with_answered worker answer v).desks ≡ length v.desks
answered_one worker answer v =
    length-set v.desks worker record { lifted = (desk_of v worker).lifted; answered = (desk_of v worker).answered ++ answer ∷ []; grip = (desk_of v worker).grip }

none_long : (worker : ℕ) (v w : CombinerView) → FoundNone worker v w → length w.desks ≡ length v.desks
none_long worker v w (inl h) = ap (λ (x : CombinerView). length x.desks) h.1
none_long worker v w (inr same) = ap (λ (x : CombinerView). length x.desks) same

pub lifted_long : (worker : ℕ) (c d : CombinerState) → HasLifted worker c d → length d.seat.desks ≡ length c.seat.desks
lifted_long worker c d (inl h) = none_long worker c.seat d.seat h.0
lifted_long worker c d (inr (inl (batch, t))) = ap (λ (x : CombinerView). length x.desks) t.seat ∙ lifted_one worker batch c.seat
lifted_long worker c d (inr (inr (batch, answer, why, h))) =
    ap (λ (x : CombinerView). length x.desks) h.seat ∙ answered_one worker answer (with_lifted worker batch c.seat) ∙ lifted_one worker batch c.seat

pub lifted_all_long : (workers : ℕ) (c d : CombinerState) → HasLiftedAll workers c d → length d.seat.desks ≡ length c.seat.desks
lifted_all_long zero c d same = ap (λ (x : CombinerState). length x.seat.desks) same
lifted_all_long (suc workers) c d (mid, all, last) = lifted_long workers mid d last ∙ lifted_all_long workers c mid all

-- so it is where one slot was lifted from, or all
own_long : (worker : ℕ) (c d : CombinerState) → HasLiftedOwn worker c d → length d.seat.desks ≡ length c.seat.desks
own_long worker c d (inl h) = lifted_long worker c d h.1
own_long worker c d (inr h) = ap (λ (x : CombinerState). length x.seat.desks) h.1

pub lifted_by_long : (which : Lifts) (worker : ℕ) (c d : CombinerState) → HasLiftedBy which worker c d → length d.seat.desks ≡ length c.seat.desks
lifted_by_long lifts.All worker c d h = lifted_all_long (length c.seat.desks) c d h
lifted_by_long lifts.Own worker c d h = own_long worker c d h

pub answered_long : (worker : ℕ) (c d : CombinerState) → HasAnswered worker c d → length d.seat.desks ≡ length c.seat.desks
answered_long worker c d (inl h) = ap (λ (x : CombinerState). length x.seat.desks) h.1
answered_long worker c d (inr (answer, a)) = ap (λ (x : CombinerView). length x.desks) a.seat ∙ answered_one worker answer c.seat

pub answered_all_long : (workers : ℕ) (c d : CombinerState) → HasAnsweredAll workers c d → length d.seat.desks ≡ length c.seat.desks
answered_all_long zero c d same = ap (λ (x : CombinerState). length x.seat.desks) same
answered_all_long (suc workers) c d (mid, all, last) = answered_long workers mid d last ∙ answered_all_long workers c mid all

one_more : (n : ℕ) → suc n ≡ n + 1
one_more n = omega arith

pub lifted_further : (worker : ℕ) (c mid d : CombinerState) → HasLiftedAll worker c mid → HasLifted worker mid d → HasLiftedAll (worker + 1) c d
lifted_further worker c mid d all last = subst (λ (k : ℕ). HasLiftedAll k c d) (one_more worker) (mid, all, last)

pub answered_further : (worker : ℕ) (c mid d : CombinerState) → HasAnsweredAll worker c mid → HasAnswered worker mid d → HasAnsweredAll (worker + 1) c d
answered_further worker c mid d all last = subst (λ (k : ℕ). HasAnsweredAll k c d) (one_more worker) (mid, all, last)

-- nor does the replica go down, or come up
pub answered_all_down : (workers : ℕ) (c d : CombinerState) → HasAnsweredAll workers c d → d.node.replica.down ≡ c.node.replica.down
answered_all_down zero c d same = ap (λ (x : CombinerState). x.node.replica.down) same
answered_all_down (suc workers) c d (mid, all, inl h) = ap (λ (x : CombinerState). x.node.replica.down) h.1 ∙ answered_all_down workers c mid all
answered_all_down (suc workers) c d (mid, all, inr (answer, a)) = ap (λ (x : NodeState). x.replica.down) a.node ∙ answered_all_down workers c mid all

-- nor does the node become another one
lifted_node : (worker : ℕ) (c d : CombinerState) → HasLifted worker c d → d.node.book.node ≡ c.node.book.node
lifted_node worker c d (inl h) = ap (λ (n : NodeState). n.book.node) h.1
lifted_node worker c d (inr (inl (batch, t))) = ap (λ (n : NodeState). n.book.node) t.node
lifted_node worker c d (inr (inr (batch, answer, why, h))) = ap (λ (n : NodeState). n.book.node) h.node

lifted_all_node : (workers : ℕ) (c d : CombinerState) → HasLiftedAll workers c d → d.node.book.node ≡ c.node.book.node
lifted_all_node zero c d same = ap (λ (x : CombinerState). x.node.book.node) same
lifted_all_node (suc workers) c d (mid, all, last) = lifted_node workers mid d last ∙ lifted_all_node workers c mid all

own_node : (worker : ℕ) (c d : CombinerState) → HasLiftedOwn worker c d → d.node.book.node ≡ c.node.book.node
own_node worker c d (inl h) = lifted_node worker c d h.1
own_node worker c d (inr h) = ap (λ (x : CombinerState). x.node.book.node) h.1

pub lifted_by_node : (which : Lifts) (worker : ℕ) (c d : CombinerState) → HasLiftedBy which worker c d → d.node.book.node ≡ c.node.book.node
lifted_by_node lifts.All worker c d h = lifted_all_node (length c.seat.desks) c d h
lifted_by_node lifts.Own worker c d h = own_node worker c d h

answered_all_node : (workers : ℕ) (c d : CombinerState) → HasAnsweredAll workers c d → d.node.book.node ≡ c.node.book.node
answered_all_node zero c d same = ap (λ (x : CombinerState). x.node.book.node) same
answered_all_node (suc workers) c d (mid, all, inl h) = ap (λ (x : CombinerState). x.node.book.node) h.1 ∙ answered_all_node workers c mid all
answered_all_node (suc workers) c d (mid, all, inr (answer, a)) = ap (λ (n : NodeState). n.book.node) a.node ∙ answered_all_node workers c mid all

pub combined_node : (places worker : ℕ) (which : Lifts) (round : Result Round Memory) (behind : Bool) (c d : CombinerState) → HasCombined places which worker round behind c d
    → d.node.book.node ≡ c.node.book.node
combined_node places worker which round behind c d h =
    answered_all_node (length c.seat.desks) _ d h.has_answered ∙ h.has_looked.by.closed.node
    ∙ ap (λ (b : Book). b.node) (tried_book places h.try_is h.lifted.node h.tried h.has_tried.comes) ∙ lifted_by_node which worker c h.lifted h.has_lifted

-- where none was lifted, since there is no such worker
none_lifted : (c : CombinerState) → HasLiftedBy lifts.Own (length c.seat.desks) c c
none_lifted c = inr (omega arith, refl)

-- behind the lifting the node stays the same one
pub further_node : (places : ℕ) (round : Result Round Memory) (behind : Bool) (c d : CombinerState)
    → ((which : Lifts) (worker : ℕ) (b : CombinerState) → HasLiftedBy which worker b c → HasCombined places which worker round behind b d) → d.node.book.node ≡ c.node.book.node
further_node places round behind c d all = combined_node places (length c.seat.desks) lifts.Own round behind c d (all lifts.Own (length c.seat.desks) c (none_lifted c))
