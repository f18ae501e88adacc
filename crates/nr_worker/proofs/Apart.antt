-- No connection is served at two workers whose marks are of one log.
use Rattle.std.proofs.Common.{◌≡◌, ℕ, inl, inr, List, [], ◌∷◌, ◌++◌, length, Contains, Option, Some, None, refl, ap, sym, ◌∙◌, subst, arith}
use Rattle.std.specs.Prelude.{◌⊎◌, IfSome, option_to_list}
use Rattle.std.specs.List.{AllByRecursion}
use Rattle.std.proofs.lemmas.Bool.{cases_lt}
use Rattle.nr_model.specs.Items.{Connection}
use Rattle.nr_model.proofs.NodesExecutedLists.{in_cases, some_in}
use Rattle.nr_log_end.specs.declared.standing.Standing.{Standing}
use Rattle.nr_log_end.specs.Standings.{opened_of}
use Rattle.nr_oplog.specs.Plays.{AreComparable, AreOfOneLog}
use Rattle.nr_node.specs.Sound.{IsSound, ServesOpened}
use Rattle.nr_taps.specs.Sequence.{AreAllOfOneLog}
use Rattle.nr_worker.specs.Worker.{WorkerState, IsLed, IsOpenedFor, IsServedAt}
use Rattle.nr_worker.specs.Law.{ServeApart, marks_of}
use Rattle.nr_worker.proofs.Workers.{opened_begins, opened_front}
use Rattle.nr_worker.proofs.Lists.{all_at}

-- ---- two marks of a list
pub split : (P : Standing → Type 0) (o : Option Standing) (more : List Standing) → AllByRecursion P (option_to_list o ++ more) → IfSome o P × AllByRecursion P more
split P None more all = (tt, all)
split P (Some s) more all = (all.0, all.1)

rest_of : (o : Option Standing) (more : List Standing) → AreAllOfOneLog (option_to_list o ++ more)
    → IfSome o (λ (s : Standing). AllByRecursion (AreOfOneLog s) more) × AreAllOfOneLog more
rest_of None more all = (tt, all)
rest_of (Some s) more all = (all.0, all.1)

at_mark : (P : Standing → Type 0) (o : Option Standing) (t : Standing) → o ≡ Some t → IfSome o P → P t
at_mark P o t is h = subst (λ (m : Option Standing). IfSome m P) is h

mark_at : (P : Standing → Type 0) (desks : List WorkerState) (e : WorkerState) (t : Standing) → AllByRecursion P (marks_of desks) → Contains desks e → e.mark ≡ Some t
    → P t
mark_at P [] e t all there is = absurd (some_in [] e refl there)
mark_at P (y ∷ ys) e t all there is =
    let both = split P y.mark (marks_of ys) all in
    elim (in_cases e y ys there) [
      | inl same ↦ at_mark P y.mark t (ap (λ (d : WorkerState). d.mark) same ∙ is) both.0
      | inr behind ↦ mark_at P ys e t both.1 behind is
    ]

what_is : Standing → Option Standing → Standing
what_is s None = s
what_is s (Some t) = t

-- they are one, or of one log
met_of : (desks : List WorkerState) → AreAllOfOneLog (marks_of desks) → (d e : WorkerState) → Contains desks d → Contains desks e → (s t : Standing) → d.mark ≡ Some s
    → e.mark ≡ Some t → (s ≡ t) ⊎ (AreOfOneLog s t ⊎ AreOfOneLog t s)
unfolding what_is
met_of [] all d e at_d at_e s t is_s is_t = absurd (some_in [] d refl at_d)
met_of (y ∷ ys) all d e at_d at_e s t is_s is_t =
    let parts = rest_of y.mark (marks_of ys) all in
    let known : (z : WorkerState) (x : Standing) → y ≡ z → z.mark ≡ Some x → AllByRecursion (AreOfOneLog x) (marks_of ys) = λ z x same is.
    at_mark (λ (a : Standing). AllByRecursion (AreOfOneLog a) (marks_of ys)) y.mark x (ap (λ (v : WorkerState). v.mark) same ∙ is) parts.0 in
    elim (in_cases d y ys at_d) [
      | inl same_d ↦ elim (in_cases e y ys at_e) [
        | inl same_e ↦ inl (ap (what_is s) (sym is_s ∙ ap (λ (v : WorkerState). v.mark) (sym same_d ∙ same_e) ∙ is_t))
        | inr behind ↦ inr (inl (mark_at (AreOfOneLog s) ys e t (known d s same_d is_s) behind is_t))
      ]
      | inr before ↦ elim (in_cases e y ys at_e) [
        | inl same_e ↦ inr (inr (mark_at (AreOfOneLog t) ys d s (known e t same_e is_t) before is_s))
        | inr behind ↦ met_of ys parts.1 d e before behind s t is_s is_t
      ]
    ]

-- ---- by each of which a connection was opened
one_worker : (s t : Standing) (v w : ℕ) (c : Connection) → AreComparable s.history t.history → ServesOpened s v c → ServesOpened t w c → v ≡ w
one_worker s t v w c compared here there = elim (cases_lt (length t.history) (length s.history)) [
  | inl fewer ↦
      let on = opened_front (opened_of t.history) (opened_of s.history) c.serial (opened_begins t.history s.history (compared.1 (omega (arith, fewer)))) there.opened in
      sym here.worker_is ∙ on.1 ∙ there.worker_is
  | inr more ↦
      let on = opened_front (opened_of s.history) (opened_of t.history) c.serial (opened_begins s.history t.history (compared.0 (omega (arith, more)))) here.opened in
      sym here.worker_is ∙ sym on.1 ∙ there.worker_is
]

same_worker : (s t : Standing) (v w : ℕ) (c : Connection) → s.node ≡ t.node → (s ≡ t) ⊎ (AreOfOneLog s t ⊎ AreOfOneLog t s) → ServesOpened s v c → ServesOpened t w c → v ≡ w
same_worker s t v w c node (inl same) here there = sym here.worker_is ∙ (subst (λ (x : Standing). ServesOpened x w c) (sym same) there).worker_is
same_worker s t v w c node (inr (inl o)) here there = one_worker s t v w c (o.1 node) here there
same_worker s t v w c node (inr (inr o)) here there = sym (one_worker t s w v c (o.1 (sym node)) there here)

by_marks : (m n : Option Standing) (v w : ℕ) (c : Connection) (node : ℕ) → IfSome m (λ (s : Standing). IsSound s × (s.node ≡ node))
    → IfSome n (λ (t : Standing). IsSound t × (t.node ≡ node))
    → ((s t : Standing) → m ≡ Some s → n ≡ Some t → (s ≡ t) ⊎ (AreOfOneLog s t ⊎ AreOfOneLog t s)) → IsOpenedFor v c m → IsOpenedFor w c n → v ≡ w
by_marks None n v w c node sound others met here there = absurd here
by_marks (Some s) None v w c node sound others met here there = absurd there
by_marks (Some s) (Some t) v w c node sound others met here there = same_worker s t v w c (sound.1 ∙ sym others.1) (met s t refl refl) here there

pub serve_apart : (desks : List WorkerState) → AllByRecursion IsLed desks → AreAllOfOneLog (marks_of desks) → ServeApart desks
serve_apart desks all one_log d e at_d at_e x y at_x at_y same =
    let led_d = all_at IsLed desks d all at_d in
    let led_e = all_at IsLed desks e all at_e in
    let k = all_at (IsServedAt d) d.served x led_d.each at_x in
    let l = all_at (IsServedAt e) e.served y led_e.each at_y in
    let node : d.node ≡ e.node = sym k.node ∙ ap (λ (c : Connection). c.node) same ∙ l.node in (
      node,
      by_marks d.mark e.mark d.worker e.worker x.connection e.node
          (subst (λ (n : ℕ). IfSome d.mark (λ (s : Standing). IsSound s × (s.node ≡ n))) node led_d.sound) led_e.sound
          (λ s t is_s is_t. met_of desks one_log d e at_d at_e s t is_s is_t) k.opened
          (subst (λ (c : Connection). IsOpenedFor e.worker c e.mark) (sym same) l.opened),
    )
