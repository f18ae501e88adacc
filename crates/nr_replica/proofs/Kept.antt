-- What a replica keeps: its members are numbered, and the jobs that wait are of its node.
use Rattle.std.proofs.Common.{◌≡◌, ℕ, zero, suc, ◌+◌, ◌<◌, Bool, true, false, cond, inl, inr, List, [], ◌∷◌, ◌++◌, length, take, drop, get_or, set, refl, ap, sym, ◌∙◌, subst, arith}
use Rattle.std.specs.Prelude.{◌==◌, not, IsTrue, Result, Ok, Err, OnOk, OnErr}
use Rattle.std.specs.List.{list_all}
use Rattle.std.proofs.lemmas.Bool.{cases_Bool, and_parts, and_from, not-true}
use Rattle.std.proofs.lemmas.List.{drop_all, take_all, append-nil}
use Rattle.nr_model.specs.Items.{Item, is_update}
use Rattle.nr_model.specs.Entries.{Jobs, leading, not_leading, left_after, left_by_entry, left_by_reads, leads_as_update, leads_as_read, most_entry_jobs, read_jobs, has_update_of}
use Rattle.nr_entry.specs.Entry.{are_of}
use Rattle.nr_replica.specs.Members.{Member, closed_member, handed_member, AreNumbered, AreReads}

pub numbered_push : (node n : ℕ) (members : List Member) (member : Member) → AreNumbered node n members
    → member.outbox.connection ≡ record { node = node; serial = n + length members } → AreNumbered node n (members ++ member ∷ [])
numbered_push node n [] member numbered is = (is ∙ ap (λ (s : ℕ). record { node = node; serial = s }) (omega arith), tt)
numbered_push node n (first ∷ members) member numbered is =
    let same : n + suc (length members) ≡ suc n + length members = omega arith in
    (numbered.0, numbered_push node (suc n) members member numbered.1 (is ∙ ap (λ (s : ℕ). record { node = node; serial = s }) same))

pub next_numbered : (node : ℕ) (members all : List Member) (member : Member) → AreNumbered node 0 members → all ≡ members ++ member ∷ []
    → member.outbox.connection ≡ record { node = node; serial = length members } → AreNumbered node 0 all
next_numbered node members all member numbered behind is =
    subst (AreNumbered node 0) (sym behind)
    (numbered_push node 0 members member numbered (is ∙ ap (λ (s : ℕ). record { node = node; serial = s }) (omega arith)))

pub numbered_set : (node n i : ℕ) (members : List Member) (d member : Member) → AreNumbered node n members → i < length members
    → member.outbox.connection ≡ (get_or members i d).outbox.connection → AreNumbered node n (set members i member)
numbered_set node n i [] d member numbered within is = absurd (omega arith)
numbered_set node n zero (first ∷ members) d member numbered within is = (is ∙ numbered.0, numbered.1)
numbered_set node n (suc i) (first ∷ members) d member numbered within is =
    (numbered.0, numbered_set node (suc n) i members d member numbered.1 (omega arith) is)

pub numbered_at : (node n i : ℕ) (members : List Member) (d : Member) → AreNumbered node n members → i < length members
    → (get_or members i d).outbox.connection ≡ record { node = node; serial = n + i }
numbered_at node n i [] d numbered within = absurd (omega arith)
numbered_at node n zero (first ∷ members) d numbered within = numbered.0 ∙ ap (λ (s : ℕ). record { node = node; serial = s }) (omega arith)
numbered_at node n (suc i) (first ∷ members) d numbered within =
    let same : suc n + i ≡ n + suc i = omega arith in
    numbered_at node (suc n) i members d numbered.1 (omega arith) ∙ ap (λ (s : ℕ). record { node = node; serial = s }) same

-- they stay numbered where one is closed, where a piece of one is taken, and where none could be
pub closed_numbered : (node i : ℕ) (olds news : List Member) (d : Member) → AreNumbered node 0 olds → i < length olds
    → news ≡ set olds i (closed_member (get_or olds i d)) → AreNumbered node 0 news
closed_numbered node i olds news d numbered within is =
    subst (AreNumbered node 0) (sym is) (numbered_set node 0 i olds d (closed_member (get_or olds i d)) numbered within refl)

pub handed_numbered : {T E : Type 0} (result : Result T E) (node i most : ℕ) (olds news : List Member) (d : Member) → AreNumbered node 0 olds → i < length olds
    → OnOk result (news ≡ set olds i (handed_member most (get_or olds i d))) → OnErr result (news ≡ olds) → AreNumbered node 0 news
handed_numbered (Ok x) node i most olds news d numbered within left kept =
    subst (AreNumbered node 0) (sym left) (numbered_set node 0 i olds d (handed_member most (get_or olds i d)) numbered within refl)
handed_numbered (Err e) node i most olds news d numbered within left kept = subst (AreNumbered node 0) (sym kept) numbered

-- all elements written back
pub all_back : {A : Type 0} (len : ℕ) (new old : List A) → length new ≡ length old → len ≡ length old → take len (new ++ drop (length new) old) ≡ new
all_back len new old same is =
    ap (λ (xs : List _). take len (new ++ xs)) (drop_all (length new) old (omega arith)) ∙ ap (take len) (append-nil new)
    ∙ take_all len new (omega arith)

pub get_or_same : {A : Type 0} (xs : List A) (i : ℕ) (a b : A) → i < length xs → get_or xs i a ≡ get_or xs i b
get_or_same [] i a b within = absurd (omega arith)
get_or_same (x ∷ xs) zero a b within = refl
get_or_same (x ∷ xs) (suc i) a b within = get_or_same xs i a b (omega arith)

-- jobs that are left were there
all_left : (p : Item → Bool) (leads : Jobs → Item → Bool) (room : ℕ) (before jobs : Jobs) → list_all p jobs ≡ true
    → list_all p (left_after leads room before jobs) ≡ true
all_left p leads room before [] all = refl
all_left p leads zero before (job ∷ jobs) all = all
all_left p leads (suc room) before (job ∷ jobs) all =
    let parts = and_parts (p job) (list_all p jobs) all in
    elim (leads before job) as (λ b. list_all p (elim b [
      | true ↦ left_after leads room (before ++ job ∷ []) jobs
      | false ↦ job ∷ left_after leads (suc room) (before ++ job ∷ []) jobs
    ]) ≡ true) [
      | true ↦ all_left p leads room (before ++ job ∷ []) jobs parts.1
      | false ↦ and_from (p job) (list_all p (left_after leads (suc room) (before ++ job ∷ []) jobs)) parts.0
          (all_left p leads (suc room) (before ++ job ∷ []) jobs parts.1)
    ]

all_not_leading : (p : Item → Bool) (leads : Jobs → Item → Bool) (before jobs : Jobs) → list_all p jobs ≡ true
    → list_all p (not_leading leads before jobs) ≡ true
all_not_leading p leads before [] all = refl
all_not_leading p leads before (job ∷ jobs) all =
    let parts = and_parts (p job) (list_all p jobs) all in
    let more = not_leading leads (before ++ job ∷ []) jobs in
    let rest : list_all p more ≡ true = all_not_leading p leads (before ++ job ∷ []) jobs parts.1 in
    elim (leads before job) as (λ b. list_all p (cond b more (job ∷ more)) ≡ true) [
      | true ↦ rest
      | false ↦ and_from (p job) (list_all p more) parts.0 rest
    ]

abbrev eqb_node : ℕ → Item → Bool
eqb_node node job = job.connection.node == node

abbrev pub AreOf : ℕ → Jobs → Type 0
AreOf node jobs = IsTrue (are_of node jobs)

pub own_left : (node : ℕ) (old new : Jobs) → new ≡ left_by_entry old → AreOf node old → AreOf node new
own_left node old new is own =
    subst (λ (jobs : Jobs). are_of node jobs ≡ true) (sym is) (all_left (λ job. eqb_node node job) leads_as_update most_entry_jobs [] old own)

-- reads are what leads as reads
reads_lead : (before jobs : Jobs) → AreReads (leading leads_as_read before jobs)
reads_lead before [] = tt
reads_lead before (job ∷ jobs) =
    let more = leading leads_as_read (before ++ job ∷ []) jobs in
    let rest : AreReads more = reads_lead (before ++ job ∷ []) jobs in
    elim (cases_Bool (leads_as_read before job)) [
      | inl h ↦ subst (λ b. AreReads (cond b (job ∷ more) more)) (sym h)
          (not-true (is_update job.deed) (and_parts (not (is_update job.deed)) (not (has_update_of job.connection before)) h).0, rest)
      | inr h ↦ subst (λ b. AreReads (cond b (job ∷ more) more)) (sym h) rest
    ]

pub are_reads : (old reads : Jobs) → reads ≡ read_jobs old → AreReads reads
are_reads old reads is = subst AreReads (sym is) (reads_lead [] old)

pub own_left_by_reads : (node : ℕ) (old new : Jobs) → new ≡ left_by_reads old → AreOf node old → AreOf node new
own_left_by_reads node old new is own =
    subst (λ (jobs : Jobs). are_of node jobs ≡ true) (sym is) (all_not_leading (λ job. eqb_node node job) leads_as_read [] old own)
