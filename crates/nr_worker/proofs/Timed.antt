-- What a worker's mark knew stands in front of what is fed later.
use Rattle.std.proofs.Common.{◌≡◌, ℕ, ◌<◌, inl, inr, [], ◌∷◌, ◌++◌, length, Contains, Option, Some, None, refl, ap, sym, ◌∙◌, subst}
use Rattle.std.specs.Prelude.{IfSome}
use Rattle.std.specs.List.{AllByRecursion}
use Rattle.std.proofs.lemmas.Bool.{cases_lt}
use Rattle.nr_model.specs.Bytes.{IsBeginningOf}
use Rattle.nr_model.specs.Items.{Connection, Item, Sequence}
use Rattle.nr_model.proofs.NodesPartsEmitted.{begins_on}
use Rattle.nr_log_end.specs.declared.standing.Standing.{Standing}
use Rattle.nr_log_end.specs.Standings.{opened_of, record_of}
use Rattle.nr_job_numbers.specs.Stored.{numbers_in}
use Rattle.nr_node.specs.Level.{connection_at}
use Rattle.nr_node.specs.Sound.{IsSound, ServesOpened}
use Rattle.nr_worker.specs.Worker.{WorkerState, HasItsOwn, IsAskedBy, IsLed, IsOpenedFor, IsPosted, IsServedAt, Served, history_of}
use Rattle.nr_worker.specs.Law.{GoesTo, IsFedTo, IsInTime}
use Rattle.nr_worker.proofs.Workers.{begins_record, opened_begins, opened_front}
use Rattle.nr_worker.proofs.Lists.{all_at, has_number, posted_at}

pub goes_on : (d e f : WorkerState) → GoesTo d e → GoesTo e f → GoesTo d f
goes_on d e f one two = record {
  node = two.node ∙ one.node;
  worker = two.worker ∙ one.worker;
  mark = begins_on (history_of d.mark) (history_of e.mark) (history_of f.mark) one.mark two.mark;
}

-- a job that was posted was asked for
fed_to : (d : WorkerState) (job : Item) → IsLed d → IsPosted d.posted job → IsFedTo d.served job
fed_to d job led p =
    let by = posted_at (IsAskedBy d.served) d.posted p.batch p.has.item led.known p.there p.has.there in
    record {
      one = by.one;
      there = by.there;
      connection = by.connection ∙ p.has.connection;
      asked = record {
        item = p.has.item;
        there = by.asked;
        connection = p.has.connection;
        number = p.has.number;
        deed = p.has.deed;
        moment = p.has.moment;
        read = p.has.read;
      };
    }

-- a connection of a job in a record was opened there
opened_there : (s : Standing) (job : Item) → IsSound s → job.connection.node ≡ s.node → Contains (record_of s.history) job
    → job.connection.serial < length (opened_of s.history)
opened_there s job sound node there = elim (cases_lt job.connection.serial (length (opened_of s.history))) [
  | inl near ↦ near
  | inr past ↦
      let c = job.connection in
      let same : connection_at s.node c.serial ≡ c = λ i. record { node = sym node i; serial = c.serial } in
      let none : numbers_in c (record_of s.history) ≡ [] = subst (λ (b : Connection). numbers_in b (record_of s.history) ≡ []) same (sound.opened c.serial past) in
      absurd (has_number job (record_of s.history) there none)
]

-- who a connection is opened for later it was opened for before, where it was opened then
served_before : (s : Standing) (mark : Option Standing) (worker : ℕ) (c : Connection) → IsBeginningOf s.history (history_of mark) → c.node ≡ s.node
    → c.serial < length (opened_of s.history) → IsOpenedFor worker c mark → ServesOpened s worker c
served_before s None worker c begins node near never = absurd never
served_before s (Some t) worker c begins node near serves =
    let on = opened_front (opened_of s.history) (opened_of t.history) c.serial (opened_begins s.history t.history begins) near in
    record { node = node; opened = near; worker_is = sym on.1 ∙ serves.worker_is }

module _ (d e : WorkerState) (led : IsLed d) (later : IsLed e) (goes : GoesTo d e) where
  was_fed : (mark : Option Standing) → d.mark ≡ mark → IfSome mark (λ (s : Standing). IsSound s × (s.node ≡ d.node)) → IfSome mark (HasItsOwn d) → (job : Item)
      → Contains (record_of (history_of mark)) job → (y : Served) → Contains e.served y → y.connection ≡ job.connection → IsFedTo d.served job
  was_fed None is sound own job there y served named = absurd (Rattle.nr_model.proofs.NodesExecutedLists.some_in [] job refl there)
  was_fed (Some s) is sound own job there y served named =
      let k = all_at (IsServedAt e) e.served y later.each served in
      let c = job.connection in
      let node : c.node ≡ s.node = ap (λ (b : Connection). b.node) (sym named) ∙ k.node ∙ goes.node ∙ sym sound.1 in
      let front : IsBeginningOf s.history (history_of e.mark) = subst (λ (m : Option Standing). IsBeginningOf (history_of m) (history_of e.mark)) is goes.mark in
      let opened : IsOpenedFor d.worker c e.mark =
      subst (λ (w : ℕ). IsOpenedFor w c e.mark) goes.worker (subst (λ (b : Connection). IsOpenedFor e.worker b e.mark) named k.opened) in
      let serves = served_before s e.mark d.worker c front node (opened_there s job sound.0 node there) opened in
      fed_to d job led (all_at (λ (j : Item). j.connection ≡ c → IsPosted d.posted j) (record_of s.history) job (own c serves) there refl)

  each_fed : (front jobs : Sequence) → record_of (history_of d.mark) ≡ front ++ jobs
      → AllByRecursion (λ (job : Item). (y : Served) → Contains e.served y → y.connection ≡ job.connection → IsFedTo d.served job) jobs
  each_fed front [] is = tt
  each_fed front (job ∷ jobs) is = (
    was_fed d.mark refl led.sound led.own job
        (subst (λ (js : Sequence). Contains js job) (sym is) (Rattle.nr_model.proofs.NodesExecutedLists.in_middle job front jobs)),
    each_fed (front ++ job ∷ []) jobs (is ∙ sym (Rattle.std.proofs.Common.append_assoc front (job ∷ []) jobs)),
  )

  pub in_time : IsInTime d e
  in_time = record { front = begins_record (history_of d.mark) (history_of e.mark) goes.mark; fed = each_fed [] (record_of (history_of d.mark)) refl }
