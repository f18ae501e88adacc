-- The jobs that the bytes of a connection ask for come feed by feed, and a close cuts them.
use Rattle.std.proofs.Common.{◌≡◌, ◌+◌, Bool, true, false, cond, List, [], ◌∷◌, ◌++◌, length, drop, refl, ap, sym, ◌∙◌, subst, arith, append_assoc, ℕ, suc, not, inl, inr}
use Rattle.std.specs.Prelude.{Option, Some, None, ◌||◌, ◌&&◌, ◌==◌, filter, option_to_list}
use Rattle.std.specs.List.{list_any}
use Rattle.std.proofs.lemmas.List.{append-nil, take_at}
use Rattle.std.proofs.lemmas.Bool.{cases_Bool, ne_eqb}
use Rattle.nr_model.specs.declared.fault.Fault.{Fault}
use Rattle.nr_model.specs.Bytes.{Bytes}
use Rattle.nr_model.specs.Requests.{Frame, Framing, framing_of}
use Rattle.nr_model.specs.Requests.Laws.{with_frames}
use Rattle.nr_model.specs.Commands.{served}
use Rattle.nr_model.specs.Items.{Connection, same_connection, Item}
use Rattle.nr_model.specs.Modes.{plain, framed_conversation, conversation, deeds_by, Mode, Conversation}
use Rattle.nr_model.specs.Entries.{Jobs}
use Rattle.nr_model.specs.Connections.{Feeding, Closing, fed_to}
use Rattle.nr_model.specs.Asked.{jobs_from, jobs_of_feeds, closing_job, own_jobs, close_number, cut_by}
use Rattle.nr_model.proofs.Cuts.{cut_law}
use Rattle.nr_model.proofs.Conversing.{together, joined_on, no_fault}
use Rattle.nr_model.proofs.JobLists.{same_is, filter-keeps, filter-drops, CountsFrom, CountsFrom-append, CountsFrom-front, CountsFrom-next}

-- the bytes before the next feeds
after_is : (own : Bool) (before bytes more : Bytes) → cond own (before ++ bytes) before ++ more ≡ before ++ cond own (bytes ++ more) more
after_is true before bytes more = append_assoc before bytes more
after_is false before bytes more = refl

-- the jobs of more feeds
pub jobs_of_feeds-append : (c : Connection) (before : Bytes) (fed more : List Feeding)
    → jobs_of_feeds c before (fed ++ more) ≡ jobs_of_feeds c before fed ++ jobs_of_feeds c (before ++ fed_to c fed) more
jobs_of_feeds-append c before [] more = ap (λ (b : Bytes). jobs_of_feeds c b more) (sym (append-nil before))
jobs_of_feeds-append c before (f ∷ fed) more =
    let own = same_connection f.connection c in
    let after = cond own (before ++ f.bytes) before in
    let known = length (deeds_by served before) in
    let here = cond own (jobs_from c known f.moment (drop known (deeds_by served after))) [] in
    ap (λ (js : Jobs). here ++ js) (jobs_of_feeds-append c after fed more
    ∙ ap (λ (b : Bytes). jobs_of_feeds c after fed ++ jobs_of_feeds c b more) (after_is own before f.bytes (fed_to c fed)))
    ∙ sym (append_assoc here (jobs_of_feeds c after fed) (jobs_of_feeds c (before ++ fed_to c (f ∷ fed)) more))

-- one feed of the connection, and one of another
pub own_feed : (c : Connection) (before : Bytes) (f : Feeding) → same_connection f.connection c ≡ true
    → jobs_of_feeds c before (f ∷ []) ≡ jobs_from c (length (deeds_by served before)) f.moment
    (drop (length (deeds_by served before)) (deeds_by served (before ++ f.bytes)))
own_feed c before f e =
    let known = length (deeds_by served before) in
    ap (λ (own : Bool). cond own (jobs_from c known f.moment (drop known (deeds_by served (cond own (before ++ f.bytes) before)))) [] ++ []) e
    ∙ append-nil (jobs_from c known f.moment (drop known (deeds_by served (before ++ f.bytes))))

-- a feed of another connection has no jobs
pub other_feed : (c : Connection) (before : Bytes) (f : Feeding) → same_connection f.connection c ≡ false → jobs_of_feeds c before (f ∷ []) ≡ []
other_feed c before f e =
    let known = length (deeds_by served before) in
    ap (λ (own : Bool). cond own (jobs_from c known f.moment (drop known (deeds_by served (cond own (before ++ f.bytes) before)))) [] ++ []) e

-- the closing of a connection
abbrev closes : Connection → Closing → Bool
closes c closing = same_connection closing.connection c

-- the second of two, where no test holds
by_neither : {A : Type 0} (b rest : Bool) (x y z : A) → (b || rest) ≡ false → (rest ≡ false → y ≡ z) → cond b x y ≡ z
by_neither true rest x y z e f = absurd (cc e)
by_neither false rest x y z e f = f e

-- there is none
pub closing_none : (c : Connection) (closed : List Closing) → list_any (closes c) closed ≡ false → closing_job c closed ≡ None
closing_none c [] e = refl
closing_none c (k ∷ closed) e = by_neither (closes c k) (list_any (closes c) closed) k.job (closing_job c closed) None e (λ d. closing_none c closed d)

-- it is the one that comes now
pub closing_first : (c : Connection) (closed : List Closing) (k : Closing) → list_any (closes c) closed ≡ false → same_connection k.connection c ≡ true
    → closing_job c (closed ++ k ∷ []) ≡ k.job
closing_first c [] k e own = ap (λ (b : Bool). cond b k.job None) own
closing_first c (j ∷ closed) k e own =
    by_neither (closes c j) (list_any (closes c) closed) j.job (closing_job c (closed ++ k ∷ [])) k.job e (λ d. closing_first c closed k d own)

-- one of another connection makes no difference
pub closing_other : (c : Connection) (closed : List Closing) (k : Closing) → same_connection k.connection c ≡ false
    → closing_job c (closed ++ k ∷ []) ≡ closing_job c closed
closing_other c [] k e = ap (λ (b : Bool). cond b k.job None) e
closing_other c (j ∷ closed) k e = ap (λ (o : Option Item). cond (closes c j) j.job o) (closing_other c closed k e)

-- what a framing asks for in a mode
abbrev pub asks_for : Mode → Framing → Conversation
asks_for mode framing = framed_conversation served mode framing

-- frames behind others ask for theirs in the mode that the others left
pub asked_behind : (frames : List Frame) (fault : Option Fault) (next : Framing) → (conversation served plain frames fault).ended ≡ false
    → asks_for plain (with_frames frames next)
    ≡ together (conversation served plain frames fault) (asks_for (conversation served plain frames fault).mode next)
asked_behind frames fault next on =
    let same : conversation served plain frames fault ≡ conversation served plain frames None = ap (conversation served plain frames) (no_fault served plain frames fault on) in
    joined_on served plain frames next.frames next.fault (sym (ap (λ (c : Conversation). c.ended) same) ∙ on)
    ∙ ap (λ (c : Conversation). together c (asks_for c.mode next)) (sym same)

-- the frames of the bytes with more behind them
pub goes_on : (bytes more : Bytes) → (asks_for plain (framing_of bytes)).ended ≡ false
    → framing_of (bytes ++ more) ≡ with_frames (framing_of bytes).frames (framing_of ((framing_of bytes).rest ++ more))
goes_on bytes more on =
    let framing = framing_of bytes in
    let next = with_frames framing.frames (framing_of (framing.rest ++ more)) in
    cut_law bytes more ∙ ap (λ (fault : Option Fault). elim fault [ Some f ↦ framing | None ↦ next ]) (no_fault served plain framing.frames framing.fault on)

-- a close of another connection leaves its jobs
not_both : (c d e : Connection) → same_connection c d ≡ false → same_connection e c ≡ true → same_connection e d ≡ false
not_both c d e other same = subst (λ (f : Connection). same_connection f d ≡ false) (sym (same_is e c same)) other

pub others_stay : (c d : Connection) (jobs : Jobs) → same_connection c d ≡ false
    → own_jobs d (filter (λ (job : Item). not (same_connection job.connection c)) jobs) ≡ own_jobs d jobs
others_stay c d [] other = refl
others_stay c d (job ∷ jobs) other =
    let of_d = λ (j : Item). same_connection j.connection d in
    let not_c = λ (j : Item). not (same_connection j.connection c) in
    let more = others_stay c d jobs other in
    elim (cases_Bool (same_connection job.connection c)) [
      | inl e ↦ ap (own_jobs d) (filter-drops not_c job jobs (ap not e)) ∙ more ∙ sym (filter-drops of_d job jobs (not_both c d job.connection other e))
      | inr e ↦ ap (own_jobs d) (filter-keeps not_c job jobs (ap not e))
          ∙ ap (λ (js : Jobs). cond (of_d job) (job ∷ js) js) more
    ]

-- a close drops all the jobs of its connection
pub own_dropped : (c : Connection) (jobs : Jobs) → own_jobs c (filter (λ (job : Item). not (same_connection job.connection c)) jobs) ≡ []
own_dropped c [] = refl
own_dropped c (job ∷ jobs) =
    let of_c = λ (j : Item). same_connection j.connection c in
    let not_c = λ (j : Item). not (same_connection j.connection c) in
    let more = own_dropped c jobs in
    elim (cases_Bool (same_connection job.connection c)) [
      | inl e ↦ ap (own_jobs c) (filter-drops not_c job jobs (ap not e)) ∙ more
      | inr e ↦ ap (own_jobs c) (filter-keeps not_c job jobs (ap not e)) ∙ filter-drops of_c job (filter not_c jobs) e ∙ more
    ]

-- the job of a close is its connection's
pub close_other : (none : Bool) (job : Item) (d : Connection) → same_connection job.connection d ≡ false
    → own_jobs d (option_to_list (cond none None (Some job))) ≡ []
close_other true job d other = refl
close_other false job d other = filter-drops (λ (j : Item). same_connection j.connection d) job [] other

-- and stays among them
pub close_own : (none : Bool) (job : Item) (c : Connection) → same_connection job.connection c ≡ true
    → own_jobs c (option_to_list (cond none None (Some job))) ≡ option_to_list (cond none None (Some job))
close_own true job c same = refl
close_own false job c same = filter-keeps (λ (j : Item). same_connection j.connection c) job [] same

-- a close of the connection cuts its jobs, and puts its own
cut_at : (front behind : Jobs) (job : Item) → job.number ≡ length front → front ++ job ∷ [] ≡ cut_by (Some job) (front ++ behind)
cut_at front behind job e = sym (ap (λ (js : Jobs). js ++ job ∷ []) (take_at front behind job.number (sym e)))

-- by what waits: nothing, or a first job that is dropped
pub cuts : (ended : Bool) (front behind : Jobs) (job : Item) (n : ℕ) → CountsFrom 0 (front ++ behind) → length (front ++ behind) ≡ n
    → job.number ≡ close_number n behind
    → front ++ option_to_list (cond (ended && length behind == 0) None (Some job))
    ≡ cut_by (cond (ended && length behind == 0) None (Some job)) (front ++ behind)
cuts true front [] job n counts long e = refl
cuts false front [] job n counts long e = cut_at front [] job (e ∙ sym long ∙ ap length (append-nil front))
cuts true front (x ∷ behind) job n counts long e =
    let at : 0 + length front ≡ length front = omega arith in
    let some : (length (x ∷ behind) == 0) ≡ false = ne_eqb (suc (length behind)) 0 (λ z. absurd (omega (arith, z))) in
    subst (λ (b : Bool). front ++ option_to_list (cond b None (Some job)) ≡ cut_by (cond b None (Some job)) (front ++ x ∷ behind)) (sym some)
    (cut_at front (x ∷ behind) job (e ∙ CountsFrom-next 0 front x behind counts ∙ at))
cuts false front (x ∷ behind) job n counts long e =
    let at : 0 + length front ≡ length front = omega arith in
    cut_at front (x ∷ behind) job (e ∙ CountsFrom-next 0 front x behind counts ∙ at)

-- the numbers go on counting up
pub cut_counts : (none : Bool) (front behind : Jobs) (job : Item) → CountsFrom 0 (front ++ behind) → job.number ≡ length front
    → CountsFrom 0 (front ++ option_to_list (cond none None (Some job)))
cut_counts true front behind job counts e = subst (CountsFrom 0) (sym (append-nil front)) (CountsFrom-front 0 front behind counts)
cut_counts false front behind job counts e =
    let at : length front ≡ 0 + length front = omega arith in
    CountsFrom-append 0 front (job ∷ []) (CountsFrom-front 0 front behind counts) (e ∙ at, tt)

-- the number of a close is that of the jobs that were executed
pub number_is : (front behind : Jobs) (n : ℕ) → CountsFrom 0 (front ++ behind) → length (front ++ behind) ≡ n → close_number n behind ≡ length front
number_is front [] n counts long = sym long ∙ ap length (append-nil front)
number_is front (x ∷ behind) n counts long =
    let at : 0 + length front ≡ length front = omega arith in
    CountsFrom-next 0 front x behind counts ∙ at
