-- Reads alone all lead, and no update leads before them.
use Rattle.std.proofs.Common.{◌≡◌, ℕ, zero, suc, Bool, true, false, not, cond, [], ◌∷◌, ◌++◌, refl, ap, ◌∙◌}
use Rattle.std.specs.Prelude.{◌&&◌, ◌||◌}
use Rattle.nr_model.specs.Items.{Connection, same_connection, is_update}
use Rattle.nr_model.specs.Entries.{Jobs, has_read_of, has_update_of, leading, left_after, left_by_entry, leads_as_read, leads_as_update, most_entry_jobs, read_jobs}
use Rattle.nr_replica.specs.Members.{AreReads}

-- those of two lists
pub reads_joined : (front behind : Jobs) → AreReads front → AreReads behind → AreReads (front ++ behind)
reads_joined [] behind f b = b
reads_joined (job ∷ front) behind f b = (f.0, reads_joined front behind f.1 b)

and_false : (same : Bool) → ((same && false) || false) ≡ false
and_false true = refl
and_false false = refl

no_update_by : (same update more : Bool) → update ≡ false → more ≡ false → ((same && update) || more) ≡ false
no_update_by same update more u m = ap (λ (b : Bool). (same && b) || more) u ∙ ap (λ (b : Bool). (same && false) || b) m ∙ and_false same

no_update : (c : Connection) (jobs : Jobs) → AreReads jobs → has_update_of c jobs ≡ false
no_update c [] reads = refl
no_update c (job ∷ jobs) reads = no_update_by (same_connection job.connection c) (is_update job.deed) (has_update_of c jobs) reads.0 (no_update c jobs reads.1)

all_lead : (before jobs : Jobs) → AreReads before → AreReads jobs → leading leads_as_read before jobs ≡ jobs
all_lead before [] front reads = refl
all_lead before (job ∷ jobs) front reads =
    let more = leading leads_as_read (before ++ job ∷ []) jobs in
    let on = all_lead (before ++ job ∷ []) jobs (reads_joined before (job ∷ []) front (reads.0, tt)) reads.1 in
    ap (λ (b : Bool). cond (not b && not (has_update_of job.connection before)) (job ∷ more) more) reads.0
    ∙ ap (λ (b : Bool). cond (not b) (job ∷ more) more) (no_update job.connection before front)
    ∙ ap (λ (js : Jobs). job ∷ js) on

pub reads_lead : (jobs : Jobs) → AreReads jobs → read_jobs jobs ≡ jobs
reads_lead jobs reads = all_lead [] jobs tt reads

none_leads : (room : ℕ) (before jobs : Jobs) → AreReads jobs → left_after leads_as_update room before jobs ≡ jobs
none_leads room before [] reads = refl
none_leads zero before (job ∷ jobs) reads = refl
none_leads (suc room) before (job ∷ jobs) reads =
    ap (λ (b : Bool). elim (b && not (has_read_of job.connection before)) [
      | true ↦ left_after leads_as_update room (before ++ job ∷ []) jobs
      | false ↦ job ∷ left_after leads_as_update (suc room) (before ++ job ∷ []) jobs
    ]) reads.0
    ∙ ap (λ (js : Jobs). job ∷ js) (none_leads (suc room) (before ++ job ∷ []) jobs reads.1)

pub reads_stay : (jobs : Jobs) → AreReads jobs → left_by_entry jobs ≡ jobs
reads_stay jobs reads = none_leads most_entry_jobs [] jobs reads
