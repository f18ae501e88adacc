-- The numbers of a node's connections rise along what it did and the log behind that, when one step is made.
use Rattle.std.proofs.Common.{◌≡◌, ℕ, inl, inr, List, [], ◌∷◌, ◌++◌, length, drop, refl, sym, ap, ◌∙◌, subst, append_assoc, append-nil}
use Rattle.std.proofs.Math.Seq.{drop-append_seam}
use Rattle.nr_model.specs.Bytes.{IsBeginningOf}
use Rattle.nr_model.specs.Items.{Connection}
use Rattle.nr_model.specs.Entries.{Jobs}
use Rattle.nr_entry.specs.Jobs.{items_of}
use Rattle.nr_entry.specs.declared.entry.Entry.{Entry}
use Rattle.nr_log_end.specs.Numbers.{IsRising, numbers_of, connection_at, AreRising}
use Rattle.nr_log_end.specs.declared.standing.Standing.{Standing}
use Rattle.nr_log_end.specs.declared.standing.LogEvent.{LogEvent}
use Rattle.nr_log_end.specs.declared.standing.LogEvent.TheVariants.{Applied}
use Rattle.nr_log_end.specs.Standings.{applied_of, record_of, known_of, own_entries, unpassed, jobs_reserved, logged, jobs_in, done_with, EachRises, RisesBefore}
use Rattle.nr_log_end.proofs.Numbered.{log_rises, record-append, numbers-append, numbers_behind, numbers_in_both, numbers_other, numbers_own, numbers_passed, part_rises, unpassed_behind}
use Rattle.nr_oplog.specs.Rule.{RisesAlong}
use Rattle.nr_oplog.specs.Plays.{MayFollow}
use Rattle.nr_oplog.proofs.Fronts.{passed_still}

-- what a node has logged has the numbers of its record and of the log behind that
logged_numbers : (s : Standing) (log behind : List Entry) (c : Connection) → applied_of s.history ++ behind ≡ log
    → s.reservations ≡ own_entries s.node log → c.node ≡ s.node
    → numbers_of c (logged s) ≡ numbers_of c (record_of s.history ++ jobs_in behind)
logged_numbers s log behind c whole own here =
    numbers_behind c (record_of s.history) (jobs_reserved (unpassed s)) (jobs_in behind)
    (ap (λ (rs : List (ℕ × Entry)). numbers_of c (jobs_reserved rs)) (unpassed_behind s.node (applied_of s.history) behind log s.reservations whole own)
    ∙ numbers_own c s.node (length (applied_of s.history)) behind here)

-- one entry more
numbers_more : (c : Connection) (done : Jobs) (behind : List Entry) (entry : Entry)
    → numbers_of c (done ++ jobs_in (behind ++ entry ∷ [])) ≡ numbers_of c (done ++ jobs_in behind) ++ numbers_of c (items_of entry.jobs.items)
numbers_more c done behind entry =
    let items = items_of entry.jobs.items in
    numbers-append c done (jobs_in (behind ++ entry ∷ []))
    ∙ ap (λ (ns : List ℕ). numbers_of c done ++ ns)
    (numbers_in_both c behind (entry ∷ []) ∙ ap (λ (js : Jobs). numbers_of c (jobs_in behind) ++ numbers_of c js) (append-nil items))
    ∙ sym (append_assoc (numbers_of c done) (numbers_of c (jobs_in behind)) (numbers_of c items))
    ∙ ap (λ (ns : List ℕ). ns ++ numbers_of c items) (sym (numbers-append c done (jobs_in behind)))

longer_log : (applied behind log : List Entry) (entry : Entry) → applied ++ behind ≡ log → applied ++ (behind ++ entry ∷ []) ≡ log ++ entry ∷ []
longer_log applied behind log entry e = sym (append_assoc applied behind (entry ∷ [])) ∙ ap (λ (es : List Entry). es ++ entry ∷ []) e

-- the node itself reserved it
pub rises_claimed : (s : Standing) (log : List Entry) (entry : Entry) → s.reservations ≡ own_entries s.node log
    → AreRising s.node (logged s ++ items_of entry.jobs.items) → RisesAlong log s.node s.history → RisesAlong (log ++ entry ∷ []) s.node s.history
rises_claimed s log entry own numbered r = (
  r.0 ++ entry ∷ [],
  longer_log (applied_of s.history) r.0 log entry r.1,
  λ serial.
      let c = connection_at s.node serial in
      let items = items_of entry.jobs.items in
      let same : numbers_of c (logged s ++ items) ≡ numbers_of c (record_of s.history ++ jobs_in (r.0 ++ entry ∷ [])) =
      numbers-append c (logged s) items ∙ ap (λ (ns : List ℕ). ns ++ numbers_of c items) (logged_numbers s log r.0 c r.1 own refl)
      ∙ sym (numbers_more c (record_of s.history) r.0 entry) in
      subst IsRising same (numbered serial),
)

-- another node did, so it has no job of this one's connections
pub rises_beside : (node : ℕ) (log : List Entry) (entry : Entry) (turns : List LogEvent) → (entry.node ≡ node → ⊥)
    → RisesAlong log node turns → RisesAlong (log ++ entry ∷ []) node turns
rises_beside node log entry turns other r = (
  r.0 ++ entry ∷ [],
  longer_log (applied_of turns) r.0 log entry r.1,
  λ serial.
      let c = connection_at node serial in
      let items = items_of entry.jobs.items in
      let before = numbers_of c (record_of turns ++ jobs_in r.0) in
      let same : numbers_of c (record_of turns ++ jobs_in (r.0 ++ entry ∷ [])) ≡ before =
      numbers_more c (record_of turns) r.0 entry
      ∙ ap (λ (ns : List ℕ). before ++ ns) (numbers_other c entry.node items entry.own (λ e. other (sym e)))
      ∙ append-nil before in
      subst IsRising (sym same) (r.2 serial),
)

-- the next entry is passed
pub rises_passed : (log : List Entry) (node : ℕ) (turns : List LogEvent) (entry : Entry) → IsBeginningOf (applied_of turns ++ entry ∷ []) log
    → RisesAlong log node turns → RisesAlong log node (turns ++ Applied entry ∷ [])
rises_passed log node turns entry b r =
    let applied = applied_of turns in
    let next : r.0 ≡ entry ∷ b.0 =
    sym (drop-append_seam applied r.0) ∙ ap (drop (length applied)) (r.1 ∙ sym b.1 ∙ append_assoc applied (entry ∷ []) b.0)
    ∙ drop-append_seam applied (entry ∷ b.0) in (
      b.0,
      ap (λ (es : List Entry). es ++ b.0) (Rattle.nr_log_end.proofs.Numbered.applied-append turns (Applied entry ∷ [])) ∙ b.1,
      λ serial.
          let c = connection_at node serial in
          subst IsRising (ap (λ (es : List Entry). numbers_of c (record_of turns ++ jobs_in es)) next ∙ sym (numbers_passed c turns entry b.0)) (r.2 serial),
    )

-- what the node may do next is done, and passes no entry
pub rises_done : (s : Standing) (turns : List LogEvent) (log : List Entry) → applied_of turns ≡ [] → MayFollow turns s → s.reservations ≡ own_entries s.node log
    → RisesAlong log s.node s.history → RisesAlong log s.node (s.history ++ turns)
rises_done s turns log none may own r =
    let whole : applied_of (s.history ++ turns) ++ r.0 ≡ log = ap (λ (es : List Entry). es ++ r.0) (passed_still s.history turns none) ∙ r.1 in
    elim may [
      | inl nothing ↦
          let same : record_of (s.history ++ turns) ≡ record_of s.history =
          record-append s.history turns ∙ ap (λ (js : Jobs). record_of s.history ++ js) nothing ∙ append-nil (record_of s.history) in
          (r.0, whole, λ serial. subst (λ (js : Jobs). IsRising (numbers_of (connection_at s.node serial) (js ++ jobs_in r.0))) (sym same) (r.2 serial))
      | inr rising ↦ (
        r.0,
        whole,
        λ serial.
            subst IsRising (logged_numbers (done_with turns s.seen s) log r.0 (connection_at s.node serial) whole own refl) (rising serial),
      )
    ]

-- of each connection
pub each_rises : (log : List Entry) (past : ℕ → List LogEvent) → ((node : ℕ) → RisesAlong log node (past node)) → EachRises log
each_rises log past r = λ node serial. log_rises (connection_at node serial) (past node) log (r node).0 (r node).1 ((r node).2 serial)

-- what two standings at the log know
pub rises_before : (s t : Standing) (log : List Entry) (past : ℕ → List LogEvent) → IsBeginningOf (known_of s) log × IsBeginningOf s.history (past s.node)
    → IsBeginningOf (known_of t) log × IsBeginningOf t.history (past t.node) → RisesAlong log s.node (past s.node) → RisesBefore s (known_of t)
rises_before s t log past p q r = λ serial. part_rises (connection_at s.node serial) s.history (past s.node) (known_of t) log r.0 p.1 q.0 r.1 (r.2 serial)
