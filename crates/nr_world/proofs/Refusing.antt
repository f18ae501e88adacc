-- What is refused for memory in a step is what the step does.
use Rattle.std.proofs.Common.{◌≡◌, ℕ, ◌-◌, ◌<◌, ◌≤◌, Bool, true, false, cond, inl, inr, List, [], length, refl, ap, sym, ◌∙◌, subst, arith, Some, None, ne_eqb, eq-eqb}
use Rattle.std.specs.Prelude.{◌&&◌, ◌||◌, ◌==◌, ◌⊎◌, nat_lt}
use Rattle.std.proofs.lemmas.Bool.{and_from, lt-ltb, le-ltb}
use Rattle.std.proofs.lemmas.List.{length-map}
use Rattle.std.proofs.lemmas.List.Elements.{All-contains}
use Rattle.nr_model.specs.Sequential.Events.{Emission}
use Rattle.nr_model.specs.Servers.{emitted_all}
use Rattle.nr_model.specs.Entries.{entry_items, read_jobs}
use Rattle.nr_model.specs.Queues.{grows}
use Rattle.nr_model.specs.Nodes.{Logged, Node, World, node_at, client_at, log_of, logged_at, tail_of}
use Rattle.nr_model.specs.Nodes.Steps.{Step, Apply, Look, Revive, Outcome, Done, Cut, Refused, nothing_refused, is_client, texts_for, falls_at, delivered_to, fallen_client, dropped_jobs, advanced, advanced_by}
use Rattle.nr_model.specs.Nodes.Pasts.{found_by, delivers_none, emitted_there, IsGrowth, AreRefused}
use Rattle.nr_model.proofs.NodesOwnAdvance.{next_entry, by_advance, each_advance}
use Rattle.nr_world.specs.Advanced.{IsGrown, IsEntryCut, IsReadCut}
use Rattle.nr_world.specs.Replayed.{next_of, IsNext, IsCutBefore, IsCutBehind, HasLooked}

-- nothing, or a copy alone
pub nothing_is_refused : (world : World) (step : Step) (outcome : Outcome) → AreRefused world step outcome nothing_refused
nothing_is_refused world step outcome = record {
  falls = λ x e. absurd (cc e);
  cuts = λ cut is. let none = is.1 in absurd (omega (arith, none));
  copy = λ e. absurd (cc e);
}

pub copy_is_refused : (world : World) (n f : ℕ) (outcome : Outcome) → AreRefused world (Revive n f) outcome (record { falls = None; cuts = []; copy = true })
copy_is_refused world n f outcome = record {
  falls = λ x e. absurd (cc e);
  cuts = λ cut is. let none = is.1 in absurd (omega (arith, none));
  copy = λ e. refl;
}

-- a node keeps its connections
same_clients : (refused : Refused) (n : ℕ) (log : List Logged) (node : Node) → length (advanced refused n log node).clients ≡ length node.clients
same_clients refused n log node =
    let entry = next_entry log node in
    by_advance (λ x. length x.clients ≡ length node.clients) refused n log node (λ e. refl)
    (λ e. length-map node.clients (fallen_client (dropped_jobs node)))
    (λ e. length-map node.clients (delivered_to refused.cuts node.passed (emitted_all node.server (entry_items entry.jobs))))

found_clients : (count : ℕ) (refused : Refused) (n : ℕ) (log : List Logged) (node : Node)
    → length (advanced_by count refused n log node).clients ≡ length node.clients
found_clients count refused n log node =
    each_advance (λ x. length x.clients ≡ length node.clients) refused n log (λ x e. same_clients refused n log x ∙ e) count node refl

-- a cut of a node's connection, as the definitions say it
growth_of : (world : World) (refused : Refused) (n : ℕ) (cut : Cut) (es : List Emission) → n < length world.nodes
    → delivers_none refused world cut.entry (found_by refused world n cut.entry) ≡ false
    → es ≡ emitted_there world cut.entry (found_by refused world n cut.entry)
    → IsGrown es n (found_by refused world n cut.entry) cut → IsGrowth world refused cut
growth_of world refused n cut es there delivers emits grown =
    let own : n ≡ cut.connection.node = sym grown.own in
    let clients = found_clients (cut.entry - (node_at n world).passed) refused n (log_of world.taken) (node_at n world) in
    let serial = grown.there in
    let inside : is_client world cut.connection ≡ true =
    subst (λ (m : ℕ). (nat_lt m (length world.nodes) && nat_lt cut.connection.serial (length (node_at m world).clients)) ≡ true) own
    (and_from _ _ (lt-ltb n (length world.nodes) there) (lt-ltb cut.connection.serial (length (node_at n world).clients) (omega (arith, clients, serial)))) in
    record {
      there = inside;
      delivers = subst (λ (m : ℕ). delivers_none refused world cut.entry (found_by refused world m cut.entry) ≡ false) own delivers;
      grows = subst (λ (m : ℕ). grows (client_at cut.connection.serial (found_by refused world m cut.entry)).queue
          (texts_for cut.connection (emitted_there world cut.entry (found_by refused world m cut.entry))) cut.after ≡ true) own
          (subst (λ (xs : List Emission). grows (client_at cut.connection.serial (found_by refused world n cut.entry)).queue
          (texts_for cut.connection xs) cut.after ≡ true) emits grown.growing);
    }

-- of an entry, and of the reads behind all entries
entry_growth : (world : World) (refused : Refused) (n : ℕ) (cut : Cut) → n < length world.nodes → cut.entry < tail_of world
    → IsEntryCut n (next_of (log_of world.taken) (found_by refused world n cut.entry)) refused.falls (found_by refused world n cut.entry) cut
    → IsGrowth world refused cut
entry_growth world refused n cut there below is =
    let tail = tail_of world in
    let node = found_by refused world n cut.entry in
    let here = is.at_entry in
    let none : Logged = record { node = 0; jobs = [] } in
    let jobs = λ (x : ℕ). entry_items (logged_at x world).jobs in
    let early : nat_lt cut.entry tail ≡ true = lt-ltb cut.entry tail below in
    let other : (cut.entry == tail) ≡ false = ne_eqb cut.entry tail (λ e. omega (arith, e, below)) in
    growth_of world refused n cut (emitted_all node.server (jobs node.passed)) there
    (ap (λ (b : Bool). node.down || (b && (node.refused || falls_at refused.falls cut.entry))) early
    ∙ ap (λ (x : ℕ). node.down || (node.refused || falls_at refused.falls x)) here ∙ is.applies)
    (ap (λ (x : ℕ). emitted_all node.server (jobs x)) (sym here)
    ∙ ap (λ (b : Bool). emitted_all node.server (cond b (read_jobs node.waiting) (jobs cut.entry))) (sym other))
    is.grown

read_growth : (world : World) (refused : Refused) (n : ℕ) (cut : Cut) → n < length world.nodes
    → (found_by refused world n cut.entry).down ≡ false → IsReadCut n (tail_of world) (found_by refused world n cut.entry) cut → IsGrowth world refused cut
read_growth world refused n cut there up is =
    let tail = tail_of world in
    let node = found_by refused world n cut.entry in
    let here = is.at_tail in
    let late : nat_lt cut.entry tail ≡ false = le-ltb cut.entry tail (omega (arith, here)) in
    let same : (cut.entry == tail) ≡ true = eq-eqb cut.entry tail here in
    growth_of world refused n cut (emitted_all node.server (read_jobs node.waiting)) there
    (λ i. up i || (late i && (node.refused || falls_at refused.falls cut.entry)))
    (ap (λ (b : Bool). emitted_all node.server (cond b (read_jobs node.waiting) (entry_items (logged_at cut.entry world).jobs))) (sym same))
    is.grown

-- a node applied its next entry
pub apply_refused : (world : World) (n : ℕ) (new : Node) (next : IsNext n (log_of world.taken) (node_at n world) new) → n < length world.nodes
    → (node_at n world).passed < tail_of world → AreRefused world (Apply n) Done next.refused
apply_refused world n new next there below =
    let node = node_at n world in
    let log = log_of world.taken in
    let r = next.refused in record {
      falls = λ x e. (
        refl,
        elim next.of_entry.falls [
          | inl none ↦ absurd (let no : None ≡ Some x = sym none ∙ e in cc no)
          | inr is ↦ let same : Some node.passed ≡ Some x = sym is ∙ e in cc same
        ],
      );
      cuts = λ cut in'.
          let is = All-contains (IsEntryCut n (next_of log node) r.falls node) r.cuts cut next.of_entry.cuts in' in
          let here = is.at_entry in
          let none : 0 ≡ cut.entry - node.passed = omega (arith, here) in
          let found : node ≡ found_by r world n cut.entry = ap (λ (k : ℕ). advanced_by k r n log node) none in (
            refl,
            (is.grown.own, here),
            entry_growth world r n cut there (omega (arith, here, below))
                (subst (λ (x : Node). IsEntryCut n (next_of log x) r.falls x cut) found is),
          );
      copy = λ e. absurd (let no : true ≡ false = sym e ∙ next.of_entry.copy in cc no);
    }

-- a node looked
pub look_refused : (world : World) (n : ℕ) (new : Node) (looked : HasLooked n (tail_of world) (log_of world.taken) (node_at n world) new)
    → n < length world.nodes → (node_at n world).passed ≤ tail_of world → AreRefused world (Look n) Done looked.refused
look_refused world n new looked there within =
    let node = node_at n world in
    let log = log_of world.taken in
    let tail = tail_of world in
    let r = looked.refused in record {
      falls = λ x e. (refl, looked.fell x e);
      cuts = λ cut in'.
          elim (All-contains (λ cut. IsCutBefore tail n log r node cut ⊎ IsCutBehind n tail looked.ahead cut) r.cuts cut looked.cuts in') [
            | inl is ↦
                let from = is.from in
                let before = is.before in
                (refl, (is.is_cut.grown.own, omega (arith, from), omega (arith, before)), entry_growth world r n cut there before is.is_cut)
            | inr is ↦
                let here = is.is_cut.at_tail in
                let same : tail - node.passed ≡ cut.entry - node.passed = omega (arith, here) in
                let found : looked.ahead ≡ found_by r world n cut.entry = looked.went ∙ ap (λ (k : ℕ). advanced_by k r n log node) same in (
                  refl,
                  (is.is_cut.grown.own, omega (arith, here, within), omega (arith, here)),
                  read_growth world r n cut there (subst (λ (x : Node). x.down ≡ false) found is.up)
                      (subst (λ (x : Node). IsReadCut n tail x cut) found is.is_cut),
                )
          ];
      copy = λ e. absurd (let no : true ≡ false = sym e ∙ looked.copy in cc no);
    }
