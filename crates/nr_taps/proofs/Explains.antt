-- The one sequence explains each of the standings that it is woven of.
use Rattle.std.proofs.Common.{◌≡◌, ℕ, zero, suc, ◌+◌, ◌<◌, ◌≤◌, Bool, false, cond, not, inl, inr, List, [], ◌∷◌, ◌++◌, length, map, refl, ap, sym, ◌∙◌, subst, arith}
use Rattle.std.specs.Prelude.{◌==◌, filter, option_to_list}
use Rattle.std.specs.List.{AllByRecursion}
use Rattle.std.proofs.lemmas.Bool.{cases_Bool, cases_lt, eqb-false}
use Rattle.std.proofs.lemmas.List.{map-append}
use Rattle.std.proofs.lemmas.List.Elements.{filter-append}
use Rattle.nr_model.specs.Bytes.{IsBeginningOf}
use Rattle.nr_model.specs.Items.{Connection, Item, Sequence, same_connection, is_update}
use Rattle.nr_model.specs.Sequential.{emitted_for}
use Rattle.nr_model.specs.Entries.{Jobs, entry_items}
use Rattle.nr_model.specs.Nodes as nodes
use Rattle.nr_model.specs.Nodes.{Taken, Reads, log_of, part_from}
use Rattle.nr_model.specs.Asked.{own_jobs}
use Rattle.nr_model.proofs.Logged.{AreReads}
use Rattle.nr_model.proofs.NodesExecutedGrows.{begins_flat_map}
use Rattle.nr_model.proofs.NodesOwnLists.{none_own}
use Rattle.nr_model.proofs.NodesParts.{ReadsWithin}
use Rattle.nr_model.proofs.NodesPartsEmitted as emitted
use Rattle.nr_model.proofs.NodesPartsEmitted.{AreOfNode, begins_on, more_emits, of_another, part_emits, part_updates}
use Rattle.nr_entry.specs.declared.entry.Entry.{Entry}
use Rattle.nr_log_end.specs.Numbers.{IsRising, AreRising}
use Rattle.nr_log_end.specs.declared.standing.Standing.{Standing}
use Rattle.nr_log_end.specs.declared.standing.LogEvent.{LogEvent}
use Rattle.nr_log_end.specs.Standings.{applied_of, items_of_turn, record_of, known_of}
use Rattle.nr_oplog.proofs.Fronts.{applied_append}
use Rattle.nr_job_numbers.specs.Stored.{numbers_in}
use Rattle.nr_node.specs.Level.{connection_at}
use Rattle.nr_node.specs.Sound.{IsSound}
use Rattle.nr_taps.specs.Sequence.{sequence_of, updates_of, AreRun, IsExplainedBy, HaveOneSequence, reads_by, IsLogOf, AreReadsOf}
use Rattle.nr_taps.proofs.Longest.{longest_known, longest_past, known_begin, pasts_begin, past_has, longest_log, longest_reads, no_reads}
use Rattle.nr_taps.proofs.Parts.{numbers_beyond, woven_numbers}
use Rattle.nr_taps.proofs.Rises.{log_rises, pasts_rise}
use Rattle.nr_taps.proofs.Weave.{IsReadOf, IsReader, woven, woven_length, woven_logged, woven_of_none, woven_part, woven_reads, woven_run}

-- reads of a node's connections, in the words of the lemmas on parts
reads_of : (node : ℕ) (jobs : Jobs) → AllByRecursion (IsReadOf node) jobs → AreReads jobs × AreOfNode node jobs
reads_of node [] all = (tt, tt)
reads_of node (job ∷ jobs) all =
    let more = reads_of node jobs all.1 in
    ((ap not all.0.1, more.0), (all.0.0, more.1))

as_run : (taken : List Taken) → AreRun taken → emitted.AreRun taken
as_run [] run = tt
as_run (nodes.Entry node jobs ∷ taken) run = (tt, as_run taken run.1)
as_run (Reads node count jobs ∷ taken) run = (reads_of node jobs run.0, as_run taken run.1)

-- no read stands behind more entries than there are
reads_within : (r applied : ℕ) (taken : List Taken) → length (log_of taken) ≤ applied → ReadsWithin r applied taken
reads_within r zero [] h = tt
reads_within r (suc applied) [] h = tt
reads_within r zero (nodes.Entry node jobs ∷ taken) h = absurd (omega (arith, h))
reads_within r (suc applied) (nodes.Entry node jobs ∷ taken) h =
    let less : length (log_of taken) ≤ applied = omega (arith, h) in
    reads_within r applied taken less
reads_within r zero (Reads node count jobs ∷ taken) h = reads_within r zero taken h
reads_within r (suc applied) (Reads node count jobs ∷ taken) h = reads_within r (suc applied) taken h

-- the jobs of a node's connection in the whole sequence are those in the node's part
own-append : (c : Connection) (xs ys : Jobs) → own_jobs c (xs ++ ys) ≡ own_jobs c xs ++ own_jobs c ys
own-append c xs ys = filter-append (λ (job : Item). same_connection job.connection c) xs ys

elsewhere : (c : Connection) (node : ℕ) (jobs : Jobs) → AllByRecursion (IsReadOf node) jobs → (node ≡ c.node → ⊥)
    → AllByRecursion (λ (job : Item). same_connection job.connection c ≡ false) jobs
elsewhere c node [] all apart = tt
elsewhere c node (job ∷ jobs) all apart = (of_another job.connection c (λ e. apart (sym all.0.0 ∙ e)), elsewhere c node jobs all.1 apart)

own_reads : (c : Connection) (node : ℕ) (jobs x y : Jobs) → AllByRecursion (IsReadOf node) jobs → own_jobs c x ≡ own_jobs c y
    → own_jobs c (cond (node == c.node) (jobs ++ x) x) ≡ own_jobs c (jobs ++ y)
own_reads c node jobs x y all e =
    let at = λ (b : Bool). own_jobs c (cond b (jobs ++ x) x) in
    let whole = own-append c jobs y in
    elim (cases_Bool (node == c.node)) [
      | inl own ↦ ap at own ∙ own-append c jobs x ∙ ap (λ (more : Jobs). own_jobs c jobs ++ more) e ∙ sym whole
      | inr other ↦
          let none = none_own c jobs (elsewhere c node jobs all (eqb-false node c.node other)) in
          ap at other ∙ e ∙ sym (whole ∙ ap (λ (more : Jobs). more ++ own_jobs c y) none)
    ]

pub own_in_part : (c : Connection) (applied : ℕ) (taken : List Taken) → AreRun taken → length (log_of taken) ≤ applied
    → own_jobs c (part_from c.node applied taken) ≡ own_jobs c (sequence_of taken)
own_in_part c zero [] run h = refl
own_in_part c (suc applied) [] run h = refl
own_in_part c zero (nodes.Entry node jobs ∷ taken) run h = absurd (omega (arith, h))
own_in_part c (suc applied) (nodes.Entry node jobs ∷ taken) run h =
    let less : length (log_of taken) ≤ applied = omega (arith, h) in
    own-append c (entry_items jobs) (part_from c.node applied taken)
    ∙ ap (λ (more : Jobs). own_jobs c (entry_items jobs) ++ more) (own_in_part c applied taken run.1 less)
    ∙ sym (own-append c (entry_items jobs) (sequence_of taken))
own_in_part c zero (Reads node count jobs ∷ taken) run h =
    own_reads c node jobs (part_from c.node zero taken) (sequence_of taken) run.0 (own_in_part c zero taken run.1 h)
own_in_part c (suc applied) (Reads node count jobs ∷ taken) run h =
    own_reads c node jobs (part_from c.node (suc applied) taken) (sequence_of taken) run.0 (own_in_part c (suc applied) taken run.1 h)

-- of more jobs the first are the same
pub begins_filter : {A : Type 0} (test : A → Bool) (x y : List A) → IsBeginningOf x y → IsBeginningOf (filter test x) (filter test y)
begins_filter test x y b = (filter test b.0, sym (filter-append test x b.0) ∙ ap (filter test) b.1)

begins_map : {A B : Type 0} (f : A → B) (x y : List A) → IsBeginningOf x y → IsBeginningOf (map f x) (map f y)
begins_map f x y b = (map f b.0, sym (map-append f x b.0) ∙ ap (map f) b.1)

pub begins_emitted : (c : Connection) (x y : Sequence) → IsBeginningOf x y → IsBeginningOf (emitted_for c x) (emitted_for c y)
begins_emitted c x y b = subst (λ (items : Sequence). IsBeginningOf (emitted_for c x) (emitted_for c items)) b.1 (more_emits c x b.0)

-- a standing whose record begins its part
pub explained : (taken : List Taken) (s : Standing) → AreRun taken → IsSound s → AreRising s.node (sequence_of taken)
    → IsBeginningOf (record_of s.history) (part_from s.node (length (log_of taken)) taken)
    → IsExplainedBy taken s
explained taken s run sound rising b =
    let applied = length (log_of taken) in
    let done = record_of s.history in
    let part = part_from s.node applied taken in
    let run' = as_run taken run in
    let none : applied ≤ applied = omega arith in
    let within = reads_within s.node applied taken none in record {
      part = b;
      updates = begins_on (updates_of done) (updates_of part) (updates_of (sequence_of taken))
          (begins_filter (λ (item : Item). is_update item.deed) done part b) (part_updates s.node applied taken within run');
      numbered = sound.numbered;
      jobs = λ serial.
          let c = connection_at s.node serial in
          subst (λ (jobs : Jobs). IsBeginningOf (numbers_in c done) (map (λ (job : Item). job.number) jobs)) (own_in_part c applied taken run none)
          (begins_map (λ (job : Item). job.number) (own_jobs c done) (own_jobs c part) (begins_filter (λ (job : Item). same_connection job.connection c) done part b));
      rising = rising;
      emitted = λ serial.
          let c = connection_at s.node serial in
          begins_on (emitted_for c done) (emitted_for c part) (emitted_for c (sequence_of taken))
          (begins_emitted c done part b) (part_emits c applied taken within run');
    }

-- a number above those of all their nodes
abbrev above : List Standing → ℕ
above [] = 0
above (s ∷ more) = suc (s.node + above more)

-- what the entries of a front are
applied_begin : (x y : List LogEvent) → IsBeginningOf x y → IsBeginningOf (applied_of x) (applied_of y)
applied_begin x y b = (applied_of b.0, sym (applied_append x b.0) ∙ ap applied_of b.1)

-- each of these is explained
each_explained : (taken : List Taken) (upto : ℕ) (past : ℕ → List LogEvent) (standings : List Standing) → AreRun taken
    → ((node : ℕ) → node < upto → IsBeginningOf (record_of (past node)) (part_from node (length (log_of taken)) taken))
    → ((node : ℕ) → AreRising node (sequence_of taken))
    → above standings ≤ upto → AllByRecursion IsSound standings → AllByRecursion (λ (s : Standing). IsBeginningOf s.history (past s.node)) standings
    → AllByRecursion (IsExplainedBy taken) standings
each_explained taken upto past [] run parts rising h sound begin = tt
each_explained taken upto past (s ∷ more) run parts rising h sound begin =
    let here : s.node < upto = omega (arith, h) in
    let less : above more ≤ upto = omega (arith, h) in
    let front = begins_flat_map items_of_turn s.history (past s.node) begin.0 in (
      explained taken s run sound.0 (rising s.node)
          (begins_on (record_of s.history) (record_of (past s.node)) (part_from s.node (length (log_of taken)) taken) front (parts s.node here)),
      each_explained taken upto past more run parts rising less sound.1 begin.1,
    )

known_applied : (standings : List Standing) (all : List Entry) → AllByRecursion (λ (s : Standing). IsBeginningOf (known_of s) all) standings
    → AllByRecursion (λ (s : Standing). IsBeginningOf (applied_of s.history) all) standings
known_applied [] all known = tt
known_applied (s ∷ more) all known =
    (begins_on (applied_of s.history) (known_of s) all (option_to_list s.held, refl) known.0, known_applied more all known.1)

reads_sound : (standings : List Standing) → AllByRecursion IsSound standings → AllByRecursion (λ (s : Standing). IsReader s.node 0 s.history) standings
reads_sound [] sound = tt
reads_sound (s ∷ more) sound = (sound.0.reads, reads_sound more sound.1)

-- one sequence explains sound standings of one log
pub one_sequence : HaveOneSequence
one_sequence standings sound are =
    let log = longest_known standings in
    let past = longest_past standings in
    let upto = above standings in
    let taken = woven 0 upto past log in
    let long = woven_length 0 upto past log in
    let same : upto ≤ upto = omega arith in
    let reads = past_has (λ (node : ℕ) (turns : List LogEvent). IsReader node 0 turns) standings (λ node. tt) (reads_sound standings sound) in
    let applied = past_has (λ (node : ℕ) (turns : List LogEvent). IsBeginningOf (applied_of turns) log) standings (λ node. (log, refl))
    (known_applied standings log (known_begin standings are)) in
    let run = woven_run 0 upto past log reads in
    let parts = λ (node : ℕ) (below : node < upto).
    subst (λ (n : ℕ). IsBeginningOf (record_of (past node)) (part_from node n taken)) (sym long) (woven_part node 0 upto past log below (applied node)) in
    let rising : (node : ℕ) → AreRising node (sequence_of taken) =
    λ node serial.
    let c = connection_at node serial in
    let none : length (log_of taken) ≤ length (log_of taken) = omega arith in
    let part : numbers_in c (part_from node (length log) taken) ≡ numbers_in c (sequence_of taken) =
    ap (λ (n : ℕ). numbers_in c (part_from node n taken)) (sym long)
    ∙ ap (map (λ (job : Item). job.number)) (own_in_part c (length (log_of taken)) taken run none) in
    elim (cases_lt node upto) as (λ _. IsRising (numbers_in c (sequence_of taken))) [
      | inl below ↦ subst IsRising (sym (woven_numbers c 0 upto past log below (applied node)) ∙ part) (pasts_rise standings sound are node serial)
      | inr above ↦ subst IsRising (sym (numbers_beyond c 0 upto past log above) ∙ part) (log_rises standings sound node serial)
    ] in
    let logged = subst (IsLogOf standings) (sym (woven_logged 0 upto past log)) (longest_log standings) in
    let ran = λ (node : ℕ). elim (cases_lt node upto) as (λ _. AreReadsOf standings node (reads_by node taken)) [
      | inl below ↦ subst (AreReadsOf standings node) (sym (woven_reads node 0 upto past log below (applied node))) (longest_reads standings node)
      | inr above ↦ subst (AreReadsOf standings node) (sym (woven_of_none node 0 upto past log above)) (no_reads standings node)
    ] in
    (taken, run, each_explained taken upto past standings run parts rising same sound (pasts_begin standings are), logged, ran, rising)
