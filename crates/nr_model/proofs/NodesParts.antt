-- A node's part of what was taken: how it grows, and that no reads stand behind the entries that it has applied.
use Rattle.std.proofs.Common.{◌≡◌, ℕ, zero, suc, ◌+◌, ◌<◌, ◌≤◌, Bool, true, false, cond, List, [], ◌∷◌, ◌++◌, length, refl, ap, sym, ◌∙◌, arith, subst, append_assoc}
use Rattle.std.specs.Prelude.{◌==◌, slice_index_or}
use Rattle.std.proofs.lemmas.List.{append-nil}
use Rattle.nr_model.specs.Items.{Sequence}
use Rattle.nr_model.specs.Entries.{Jobs, entry_items}
use Rattle.nr_model.specs.Nodes.{Taken, Entry, Reads, Logged, log_of, part_from}

-- a node ran no reads
abbrev pub HasNoReads : ℕ → List Taken → Type 0
HasNoReads r [] = Unit {0}
HasNoReads r (Entry node jobs ∷ more) = HasNoReads r more
HasNoReads r (Reads node count jobs ∷ more) = ((node == r) ≡ false) × HasNoReads r more

-- it ran none behind more than so many entries
abbrev pub ReadsWithin : ℕ → ℕ → List Taken → Type 0
ReadsWithin r applied [] = Unit {0}
ReadsWithin r zero (Entry node jobs ∷ more) = HasNoReads r more
ReadsWithin r (suc applied) (Entry node jobs ∷ more) = ReadsWithin r applied more
ReadsWithin r applied (Reads node count jobs ∷ more) = ReadsWithin r applied more

-- a choice between two lists, with more behind
behind_cond : (b : Bool) (jobs rest more : Sequence) → cond b (jobs ++ (rest ++ more)) (rest ++ more) ≡ cond b (jobs ++ rest) rest ++ more
behind_cond true jobs rest more = sym (append_assoc jobs rest more)
behind_cond false jobs rest more = refl

-- one more step along a list
along : (b : Bool) (jobs rest rest' : Sequence) → rest ≡ rest' → cond b (jobs ++ rest) rest ≡ cond b (jobs ++ rest') rest'
along b jobs rest rest' e = ap (λ (xs : Sequence). cond b (jobs ++ xs) xs) e

-- an entry that isn't applied yet
pub part_of_entry : (r applied n : ℕ) (jobs : Jobs) (taken : List Taken) → applied ≤ length (log_of taken)
    → part_from r applied (taken ++ Entry n jobs ∷ []) ≡ part_from r applied taken
part_of_entry r zero n jobs [] h = refl
part_of_entry r (suc applied) n jobs [] h = absurd (omega arith)
part_of_entry r zero n jobs (Entry m others ∷ taken) h = part_of_entry r zero n jobs taken (omega arith)
part_of_entry r (suc applied) n jobs (Entry m others ∷ taken) h =
    let below : applied ≤ length (log_of taken) = omega arith in
    ap (λ (xs : Sequence). entry_items others ++ xs) (part_of_entry r applied n jobs taken below)
part_of_entry r zero n jobs (Reads m count others ∷ taken) h = along (m == r) others _ _ (part_of_entry r zero n jobs taken h)
part_of_entry r (suc applied) n jobs (Reads m count others ∷ taken) h = along (m == r) others _ _ (part_of_entry r (suc applied) n jobs taken h)

-- a node's own reads
pub part_of_own : (r applied n count : ℕ) (jobs : Jobs) (taken : List Taken) → (n == r) ≡ true
    → part_from r applied (taken ++ Reads n count jobs ∷ []) ≡ part_from r applied taken ++ jobs
part_of_own r zero n count jobs [] own = ap (λ (b : Bool). cond b (jobs ++ []) []) own ∙ append-nil jobs
part_of_own r (suc applied) n count jobs [] own = ap (λ (b : Bool). cond b (jobs ++ []) []) own ∙ append-nil jobs
part_of_own r zero n count jobs (Entry m others ∷ taken) own = part_of_own r zero n count jobs taken own
part_of_own r (suc applied) n count jobs (Entry m others ∷ taken) own =
    ap (λ (xs : Sequence). entry_items others ++ xs) (part_of_own r applied n count jobs taken own)
    ∙ sym (append_assoc (entry_items others) (part_from r applied taken) jobs)
part_of_own r zero n count jobs (Reads m at others ∷ taken) own =
    along (m == r) others _ _ (part_of_own r zero n count jobs taken own) ∙ behind_cond (m == r) others (part_from r zero taken) jobs
part_of_own r (suc applied) n count jobs (Reads m at others ∷ taken) own =
    along (m == r) others _ _ (part_of_own r (suc applied) n count jobs taken own) ∙ behind_cond (m == r) others (part_from r (suc applied) taken) jobs

-- another node's reads
pub part_of_other : (r applied n count : ℕ) (jobs : Jobs) (taken : List Taken) → (n == r) ≡ false
    → part_from r applied (taken ++ Reads n count jobs ∷ []) ≡ part_from r applied taken
part_of_other r zero n count jobs [] other = ap (λ (b : Bool). cond b (jobs ++ []) []) other
part_of_other r (suc applied) n count jobs [] other = ap (λ (b : Bool). cond b (jobs ++ []) []) other
part_of_other r zero n count jobs (Entry m others ∷ taken) other = part_of_other r zero n count jobs taken other
part_of_other r (suc applied) n count jobs (Entry m others ∷ taken) other =
    ap (λ (xs : Sequence). entry_items others ++ xs) (part_of_other r applied n count jobs taken other)
part_of_other r zero n count jobs (Reads m at others ∷ taken) other = along (m == r) others _ _ (part_of_other r zero n count jobs taken other)
part_of_other r (suc applied) n count jobs (Reads m at others ∷ taken) other =
    along (m == r) others _ _ (part_of_other r (suc applied) n count jobs taken other)

-- of nothing that is applied, and no reads, there is nothing
pub part_none : (r : ℕ) (taken : List Taken) → HasNoReads r taken → part_from r zero taken ≡ []
part_none r [] none = refl
part_none r (Entry n jobs ∷ taken) none = part_none r taken none
part_none r (Reads n count jobs ∷ taken) none =
    let rest = part_from r zero taken in ap (λ (b : Bool). cond b (jobs ++ rest) rest) none.0 ∙ part_none r taken none.1

-- the next entry is applied
pub part_applied : (r applied : ℕ) (taken : List Taken) (other : Logged) → applied < length (log_of taken) → ReadsWithin r applied taken
    → part_from r (suc applied) taken ≡ part_from r applied taken ++ entry_items (slice_index_or (log_of taken) applied other).jobs
part_applied r zero [] other h within = absurd (omega arith)
part_applied r (suc applied) [] other h within = absurd (omega arith)
part_applied r zero (Entry n jobs ∷ taken) other h within =
    let none = part_none r taken within in
    ap (λ (xs : Sequence). entry_items jobs ++ xs) none ∙ append-nil (entry_items jobs) ∙ sym (ap (λ (xs : Sequence). xs ++ entry_items jobs) none)
part_applied r (suc applied) (Entry n jobs ∷ taken) other h within =
    let below : applied < length (log_of taken) = omega arith in
    let next = entry_items (slice_index_or (log_of taken) applied other).jobs in
    ap (λ (xs : Sequence). entry_items jobs ++ xs) (part_applied r applied taken other below within)
    ∙ sym (append_assoc (entry_items jobs) (part_from r applied taken) next)
part_applied r zero (Reads n count jobs ∷ taken) other h within =
    let next = entry_items (slice_index_or (log_of taken) zero other).jobs in
    along (n == r) jobs _ _ (part_applied r zero taken other h within) ∙ behind_cond (n == r) jobs (part_from r zero taken) next
part_applied r (suc applied) (Reads n count jobs ∷ taken) other h within =
    let next = entry_items (slice_index_or (log_of taken) (suc applied) other).jobs in
    along (n == r) jobs _ _ (part_applied r (suc applied) taken other h within) ∙ behind_cond (n == r) jobs (part_from r (suc applied) taken) next

-- no reads, and an entry or another node's reads behind
none_of_entry : (r n : ℕ) (jobs : Jobs) (taken : List Taken) → HasNoReads r taken → HasNoReads r (taken ++ Entry n jobs ∷ [])
none_of_entry r n jobs [] none = tt
none_of_entry r n jobs (Entry m others ∷ taken) none = none_of_entry r n jobs taken none
none_of_entry r n jobs (Reads m count others ∷ taken) none = (none.0, none_of_entry r n jobs taken none.1)

none_of_other : (r n count : ℕ) (jobs : Jobs) (taken : List Taken) → (n == r) ≡ false → HasNoReads r taken → HasNoReads r (taken ++ Reads n count jobs ∷ [])
none_of_other r n count jobs [] other none = (other, tt)
none_of_other r n count jobs (Entry m others ∷ taken) other none = none_of_other r n count jobs taken other none
none_of_other r n count jobs (Reads m at others ∷ taken) other none = (none.0, none_of_other r n count jobs taken other none.1)

-- no reads stand behind more than so many entries, once an entry is reserved
pub within_entry : (r applied n : ℕ) (jobs : Jobs) (taken : List Taken) → ReadsWithin r applied taken → ReadsWithin r applied (taken ++ Entry n jobs ∷ [])
within_entry r zero n jobs [] within = tt
within_entry r (suc applied) n jobs [] within = tt
within_entry r zero n jobs (Entry m others ∷ taken) within = none_of_entry r n jobs taken within
within_entry r (suc applied) n jobs (Entry m others ∷ taken) within = within_entry r applied n jobs taken within
within_entry r zero n jobs (Reads m count others ∷ taken) within = within_entry r zero n jobs taken within
within_entry r (suc applied) n jobs (Reads m count others ∷ taken) within = within_entry r (suc applied) n jobs taken within

-- another node ran reads
pub within_other : (r applied n count : ℕ) (jobs : Jobs) (taken : List Taken) → (n == r) ≡ false → ReadsWithin r applied taken
    → ReadsWithin r applied (taken ++ Reads n count jobs ∷ [])
within_other r zero n count jobs [] other within = tt
within_other r (suc applied) n count jobs [] other within = tt
within_other r zero n count jobs (Entry m others ∷ taken) other within = none_of_other r n count jobs taken other within
within_other r (suc applied) n count jobs (Entry m others ∷ taken) other within = within_other r applied n count jobs taken other within
within_other r zero n count jobs (Reads m at others ∷ taken) other within = within_other r zero n count jobs taken other within
within_other r (suc applied) n count jobs (Reads m at others ∷ taken) other within = within_other r (suc applied) n count jobs taken other within

-- the node ran reads behind all entries
pub within_own : (r applied n count : ℕ) (jobs : Jobs) (taken : List Taken) → length (log_of taken) ≤ applied → ReadsWithin r applied taken
    → ReadsWithin r applied (taken ++ Reads n count jobs ∷ [])
within_own r zero n count jobs [] all within = tt
within_own r (suc applied) n count jobs [] all within = tt
within_own r zero n count jobs (Entry m others ∷ taken) all within = absurd (omega arith)
within_own r (suc applied) n count jobs (Entry m others ∷ taken) all within =
    let fewer : length (log_of taken) ≤ applied = omega arith in within_own r applied n count jobs taken fewer within
within_own r zero n count jobs (Reads m at others ∷ taken) all within = within_own r zero n count jobs taken all within
within_own r (suc applied) n count jobs (Reads m at others ∷ taken) all within = within_own r (suc applied) n count jobs taken all within

none_within : (r applied : ℕ) (taken : List Taken) → HasNoReads r taken → ReadsWithin r applied taken
none_within r zero [] none = tt
none_within r (suc applied) [] none = tt
none_within r zero (Entry n jobs ∷ taken) none = none
none_within r (suc applied) (Entry n jobs ∷ taken) none = none_within r applied taken none
none_within r zero (Reads n count jobs ∷ taken) none = none_within r zero taken none.1
none_within r (suc applied) (Reads n count jobs ∷ taken) none = none_within r (suc applied) taken none.1

-- an entry more is applied
pub within_applied : (r applied : ℕ) (taken : List Taken) → ReadsWithin r applied taken → ReadsWithin r (suc applied) taken
within_applied r zero [] within = tt
within_applied r (suc applied) [] within = tt
within_applied r zero (Entry n jobs ∷ taken) within = none_within r zero taken within
within_applied r (suc applied) (Entry n jobs ∷ taken) within = within_applied r applied taken within
within_applied r zero (Reads n count jobs ∷ taken) within = within_applied r zero taken within
within_applied r (suc applied) (Reads n count jobs ∷ taken) within = within_applied r (suc applied) taken within

-- and so many
pub within_later : (r applied count : ℕ) (taken : List Taken) → ReadsWithin r applied taken → ReadsWithin r (count + applied) taken
within_later r applied zero taken within =
    let same : applied ≡ 0 + applied = omega arith in
    subst (λ (k : ℕ). ReadsWithin r k taken) same within
within_later r applied (suc count) taken within =
    let same : suc (count + applied) ≡ suc count + applied = omega arith in
    subst (λ (k : ℕ). ReadsWithin r k taken) same (within_applied r (count + applied) taken (within_later r applied count taken within))
