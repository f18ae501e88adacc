-- What was refused in each of many entries, as one: each entry looks at its own alone.
use Rattle.std.proofs.Common.{◌≡◌, ℕ, zero, suc, ◌+◌, ◌-◌, ◌<◌, ◌≤◌, Bool, true, false, cond, inl, inr, List, [], ◌∷◌, ◌++◌, refl, ap, sym, ◌∙◌, subst, arith, Option, Some, None, ne_eqb, eq-eqb}
use Rattle.std.specs.Prelude.{map, ◌&&◌, ◌||◌, ◌==◌, ◌⊎◌, All}
use Rattle.std.proofs.lemmas.Bool.{cases_Bool, or_left}
use Rattle.std.proofs.lemmas.List.Elements.{All-nil, All-head, All-tail, All-append, All-weaker}
use Rattle.nr_model.specs.Items.{Connection, same_connection}
use Rattle.nr_model.specs.Servers.{after_all, emitted_all}
use Rattle.nr_model.specs.Entries.{entry_items, read_jobs, left_by_reads}
use Rattle.nr_model.specs.Queues.{received}
use Rattle.nr_model.specs.Nodes.{Client, Logged, Node}
use Rattle.nr_model.specs.Nodes.Steps.{Cut, Refused, nothing_refused, cut_of, texts_for, falls_at, fallen, passing, is_owed, with_executed, with_entry, with_reads, advanced, advanced_by}
use Rattle.nr_model.proofs.NodesOwnAdvance.{next_entry, advanced_falls, advanced_passed}
use Rattle.nr_world.specs.Advanced.{IsEntryCut, IsReadCut, HasRun}
use Rattle.nr_world.specs.Replayed.{next_of, found_at, IsNext, IsCutBefore, IsAhead, IsCutBehind, HasLooked}
use Rattle.nr_world.proofs.Advanced.{or_true}

-- none is of this entry
abbrev AreOthers : ℕ → List Cut → Type 0
AreOthers entry [] = Unit {0}
AreOthers entry (cut ∷ cuts) = ((cut.entry == entry) ≡ false) × AreOthers entry cuts

others_by : (P : Cut → Type 0) (entry : ℕ) (cuts : List Cut) → ((cut : Cut) → P cut → cut.entry ≡ entry → ⊥) → All P cuts → AreOthers entry cuts
others_by P entry [] h are = tt
others_by P entry (cut ∷ cuts) h are =
    (ne_eqb cut.entry entry (h cut (All-head P cut cuts are)), others_by P entry cuts h (All-tail P cut cuts are))

of_others : (x n : ℕ) (entry : Logged) (falls : Option ℕ) (node : Node) (cuts : List Cut) → x < node.passed → All (IsEntryCut n entry falls node) cuts
    → AreOthers x cuts
of_others x n entry falls node cuts h are =
    others_by (IsEntryCut n entry falls node) x cuts (λ cut is e. let here = is.at_entry in omega (arith, here, e, h)) are

before_others : (x bound n : ℕ) (log : List Logged) (r : Refused) (node : Node) (cuts : List Cut) → bound ≤ x → All (IsCutBefore bound n log r node) cuts
    → AreOthers x cuts
before_others x bound n log r node cuts h are =
    others_by (IsCutBefore bound n log r node) x cuts (λ cut is e. let below = is.before in omega (arith, below, e, h)) are

read_others : (x n tail : ℕ) (node : Node) (cuts : List Cut) → x < tail → All (IsReadCut n tail node) cuts → AreOthers x cuts
read_others x n tail node cuts h are = others_by (IsReadCut n tail node) x cuts (λ cut is e. let here = is.at_tail in omega (arith, here, e, h)) are

and_false : (b : Bool) → (b && false) ≡ false
and_false true = refl
and_false false = refl

-- a cut of another entry changes nothing
no_cut : (entry : ℕ) (cut : Cut) (cuts : List Cut) (c : Connection) → (cut.entry == entry) ≡ false → cut_of (cut ∷ cuts) entry c ≡ cut_of cuts entry c
no_cut entry cut cuts c e =
    ap (λ (b : Bool). cond (same_connection cut.connection c && b) (Some cut.after) (cut_of cuts entry c)) e
    ∙ ap (λ (b : Bool). cond b (Some cut.after) (cut_of cuts entry c)) (and_false (same_connection cut.connection c))

none_of : (entry : ℕ) (cuts : List Cut) (c : Connection) → AreOthers entry cuts → cut_of cuts entry c ≡ None
none_of entry [] c others = refl
none_of entry (cut ∷ cuts) c others = no_cut entry cut cuts c others.0 ∙ none_of entry cuts c others.1

-- others behind them, or in front
cut_front : (entry : ℕ) (xs ys : List Cut) (c : Connection) → AreOthers entry ys → cut_of xs entry c ≡ cut_of (xs ++ ys) entry c
cut_front entry [] ys c others = sym (none_of entry ys c others)
cut_front entry (x ∷ xs) ys c others =
    ap (λ (more : Option ℕ). cond (same_connection x.connection c && x.entry == entry) (Some x.after) more) (cut_front entry xs ys c others)

cut_behind : (entry : ℕ) (xs ys : List Cut) (c : Connection) → AreOthers entry xs → cut_of (xs ++ ys) entry c ≡ cut_of ys entry c
cut_behind entry [] ys c others = refl
cut_behind entry (x ∷ xs) ys c others = no_cut entry x (xs ++ ys) c others.0 ∙ cut_behind entry xs ys c others.1

-- the same was refused of an entry
record AreSame (entry : ℕ) (a b : Refused) : Type 0 where
  falls : falls_at a.falls entry ≡ falls_at b.falls entry
  cuts : (c : Connection) → cut_of a.cuts entry c ≡ cut_of b.cuts entry c

same_once : (a b : Refused) (n : ℕ) (log : List Logged) (node : Node) → AreSame node.passed a b → advanced a n log node ≡ advanced b n log node
same_once a b n log node same =
    let entry = next_entry log node in
    let es = emitted_all node.server (entry_items entry.jobs) in
    let falls = same.falls in
    let cuts = same.cuts in
    λ i. passing (cond node.down node
    (cond (node.refused || falls i) (fallen node)
    (record (cond (is_owed n entry node) (with_executed entry.jobs node) node) {
      applied = suc node.applied;
      server = after_all node.server (entry_items entry.jobs);
      clients = map
          (λ (client : Client). record client { queue = received (cuts client.queue.connection i) client.queue (texts_for client.queue.connection es) })
          node.clients;
    })))

same_by : (count : ℕ) (a b : Refused) (n : ℕ) (log : List Logged) (node : Node)
    → ((x : ℕ) → node.passed ≤ x → x < node.passed + count → AreSame x a b) → advanced_by count a n log node ≡ advanced_by count b n log node
same_by zero a b n log node same = refl
same_by (suc count) a b n log node same =
    let one = advanced_passed b n log node in
    ap (λ (x : Node). advanced_by count a n log x) (same_once a b n log node (same node.passed (omega arith) (omega arith)))
    ∙ same_by count a b n log (advanced b n log node) (λ x h k. same x (omega (arith, one, h)) (omega (arith, one, k)))

same_reads : (xs ys : List Cut) (tail : ℕ) (node : Node) → ((c : Connection) → cut_of xs tail c ≡ cut_of ys tail c)
    → with_reads xs tail node ≡ with_reads ys tail node
same_reads xs ys tail node cuts =
    let jobs = read_jobs node.waiting in
    let es = emitted_all node.server jobs in
    λ i. record (with_executed jobs node) {
      waiting = left_by_reads node.waiting;
      clients = map
          (λ (client : Client). record client { queue = received (cuts client.queue.connection i) client.queue (texts_for client.queue.connection es) })
          node.clients;
    }

-- the last of them
last_one : (count : ℕ) (r : Refused) (n : ℕ) (log : List Logged) (node : Node)
    → advanced_by (suc count) r n log node ≡ advanced r n log (advanced_by count r n log node)
last_one zero r n log node = refl
last_one (suc count) r n log node = last_one count r n log (advanced r n log node)

-- a node that is down stays so, whatever is refused
passes_down : (r : Refused) (n : ℕ) (log : List Logged) (node : Node) → node.down ≡ true → advanced r n log node ≡ passing node
passes_down r n log node down =
    ap (λ (x : Bool). passing (cond x node
    (cond (node.refused || falls_at r.falls node.passed) (fallen node) (with_entry r.cuts n (next_entry log node) node)))) down

falls_down : (r : Refused) (n : ℕ) (log : List Logged) (node : Node) → r.falls ≡ Some node.passed → (advanced r n log node).down ≡ true
falls_down r n log node e =
    let falls : (node.refused || falls_at r.falls node.passed) ≡ true =
    ap (λ (f : Option ℕ). node.refused || falls_at f node.passed) e ∙ ap (λ (b : Bool). node.refused || b) (eq-eqb node.passed node.passed refl)
    ∙ or_true node.refused in
    elim (cases_Bool node.down) [
      | inl down ↦ ap (λ (x : Node). x.down) (passes_down r n log node down) ∙ down
      | inr up ↦ ap (λ (x : Node). x.down) (advanced_falls r n log node up falls)
    ]

-- cuts of the entries before, where others were refused of later ones, and of the next one
kept_cut : (m bound n : ℕ) (log : List Logged) (a b : Refused) (node : Node) (cut : Cut) → m ≤ bound → ((x : ℕ) → node.passed ≤ x → x < m → AreSame x a b)
    → IsCutBefore m n log a node cut → IsCutBefore bound n log b node cut
kept_cut m bound n log a b node cut h same is =
    let count = cut.entry - node.passed in
    let from = is.from in
    let before = is.before in
    let there = is.is_cut.at_entry in
    let found : found_at a n log node cut.entry ≡ found_at b n log node cut.entry =
    same_by count a b n log node (λ x low high. same x low (omega (arith, low, high, from, before))) in
    let falls = (same cut.entry from before).falls in
    let refused : IsEntryCut n (next_of log (found_at a n log node cut.entry)) b.falls (found_at a n log node cut.entry) cut =
    record {
      at_entry = there;
      applies = subst (λ (x : ℕ). ((found_at a n log node cut.entry).down
          || ((found_at a n log node cut.entry).refused || falls_at b.falls x)) ≡ false) there
          (ap (λ (v : Bool). (found_at a n log node cut.entry).down || ((found_at a n log node cut.entry).refused || v)) (sym falls)
          ∙ subst (λ (x : ℕ). ((found_at a n log node cut.entry).down
          || ((found_at a n log node cut.entry).refused || falls_at a.falls x)) ≡ false) (sym there) is.is_cut.applies);
      grown = is.is_cut.grown;
    } in
    record {
      from = from;
      before = omega (arith, before, h);
      is_cut = subst (λ (x : Node). IsEntryCut n (next_of log x) b.falls x cut) found refused;
    }

next_cut : (bound n count : ℕ) (log : List Logged) (r : Refused) (old mid : Node) (cut : Cut) → mid.passed ≡ old.passed + count → mid.passed < bound
    → mid ≡ advanced_by count r n log old → IsEntryCut n (next_of log mid) r.falls mid cut → IsCutBefore bound n log r old cut
next_cut bound n count log r old mid cut far below is h =
    let there = h.at_entry in
    let same : count ≡ cut.entry - old.passed = omega (arith, there, far) in
    let found : mid ≡ found_at r n log old cut.entry = is ∙ ap (λ (k : ℕ). advanced_by k r n log old) same in
    record {
      from = omega (arith, there, far);
      before = omega (arith, there, below);
      is_cut = subst (λ (x : Node). IsEntryCut n (next_of log x) r.falls x cut) found h;
    }

joined_with : (n count : ℕ) (log : List Logged) (old mid new : Node) (ahead : IsAhead n count log old mid) (next : IsNext n log mid new) (falls : Option ℕ)
    → ((x : ℕ) → x < mid.passed → falls_at ahead.refused.falls x ≡ falls_at falls x)
    → advanced next.refused n log mid ≡ advanced (record { falls = falls; cuts = ahead.refused.cuts ++ next.refused.cuts; copy = false }) n log mid
    → (falls ≡ None) ⊎ (new.down ≡ true)
    → ((x : ℕ) → falls ≡ Some x → (old.passed ≤ x) × (x < suc mid.passed))
    → ((cut : Cut) → IsEntryCut n (next_of log mid) next.refused.falls mid cut → IsEntryCut n (next_of log mid) falls mid cut)
    → IsAhead n (suc count) log old new
joined_with n count log old mid new ahead next falls front last down fell still =
    let r = next.refused in
    let both : Refused = record { falls = falls; cuts = ahead.refused.cuts ++ r.cuts; copy = false } in
    let one : new.passed ≡ suc mid.passed = ap (λ (x : Node). x.passed) next.state ∙ advanced_passed r n log mid in
    let far = ahead.passed in
    let same : (x : ℕ) → x < mid.passed → AreSame x ahead.refused both = λ x h. record {
      falls = front x h;
      cuts = λ c. cut_front x ahead.refused.cuts r.cuts c (of_others x n (next_of log mid) r.falls mid r.cuts h next.of_entry.cuts);
    } in
    let reached : mid ≡ advanced_by count both n log old =
    ahead.state ∙ same_by count ahead.refused both n log old (λ x h k. same x (omega (arith, far, k))) in
    record {
      refused = both;
      falls = down;
      fell = λ x e. let within = fell x e in let below = within.1 in (within.0, omega (arith, below, one));
      cuts = All-append (IsCutBefore new.passed n log both old) ahead.refused.cuts r.cuts
          (All-weaker (IsCutBefore mid.passed n log ahead.refused old) (IsCutBefore new.passed n log both old)
          (λ cut is. kept_cut mid.passed new.passed n log ahead.refused both old cut (omega (arith, one)) (λ x low high. same x high) is)
          ahead.refused.cuts ahead.cuts)
          (All-weaker (IsEntryCut n (next_of log mid) r.falls mid) (IsCutBefore new.passed n log both old)
          (λ cut is. next_cut new.passed n count log both old mid cut far (omega (arith, one)) reached (still cut is)) r.cuts next.of_entry.cuts);
      copy = refl;
      passed = omega (arith, one, far);
      state = next.state ∙ last ∙ ap (λ (x : Node). advanced both n log x) reached ∙ sym (last_one count both n log old);
    }

-- none yet, and one entry more
pub none_yet : (n : ℕ) (log : List Logged) (node : Node) → IsAhead n 0 log node node
none_yet n log node = record {
  refused = nothing_refused;
  falls = inl refl;
  fell = λ x e. absurd (cc e);
  cuts = All-nil (IsCutBefore node.passed n log nothing_refused node);
  copy = refl;
  passed = omega arith;
  state = refl;
}

of_next : (entry x : ℕ) (falls : Option ℕ) → (falls ≡ None) ⊎ (falls ≡ Some entry) → x < entry → falls_at falls x ≡ false
of_next entry x falls (inl e) h = ap (λ (f : Option ℕ). falls_at f x) e
of_next entry x falls (inr e) h = ap (λ (f : Option ℕ). falls_at f x) e ∙ ne_eqb entry x (λ same. omega (arith, same, h))

fell_next : (entry x : ℕ) (falls : Option ℕ) → (falls ≡ None) ⊎ (falls ≡ Some entry) → falls ≡ Some x → x ≡ entry
fell_next entry x falls (inl none) e = absurd (let no : None ≡ Some x = sym none ∙ e in cc no)
fell_next entry x falls (inr is) e = let same : Some entry ≡ Some x = sym is ∙ e in cc same

pub one_more : (n count : ℕ) (log : List Logged) (old mid new : Node) → IsAhead n count log old mid → IsNext n log mid new → IsAhead n (suc count) log old new
one_more n count log old mid new ahead next =
    let r = next.refused in
    let far = ahead.passed in
    elim ahead.falls [
      | inl none ↦ joined_with n count log old mid new ahead next r.falls
          (λ x h. ap (λ (f : Option ℕ). falls_at f x) none ∙ sym (of_next mid.passed x r.falls next.of_entry.falls h))
          (same_once r (record { falls = r.falls; cuts = ahead.refused.cuts ++ r.cuts; copy = false }) n log mid (record {
            falls = refl;
            cuts = λ c. sym
                (cut_behind mid.passed ahead.refused.cuts r.cuts c
                (before_others mid.passed mid.passed n log ahead.refused old ahead.refused.cuts (omega arith) ahead.cuts));
          }))
          (elim next.of_entry.falls [
            | inl e ↦ inl e
            | inr e ↦ inr (ap (λ (x : Node). x.down) next.state ∙ falls_down r n log mid e)
          ])
          (λ x e. let is = fell_next mid.passed x r.falls next.of_entry.falls e in (omega (arith, is, far), omega (arith, is)))
          (λ cut is. is)
      | inr down ↦ joined_with n count log old mid new ahead next ahead.refused.falls (λ x h. refl)
          (passes_down r n log mid down ∙ sym (passes_down (record { falls = ahead.refused.falls; cuts = ahead.refused.cuts ++ r.cuts; copy = false }) n log mid down))
          (inr (ap (λ (x : Node). x.down) (next.state ∙ passes_down r n log mid down) ∙ down))
          (λ x e. let within = ahead.fell x e in let below = within.1 in (within.0, omega (arith, below)))
          (λ cut is. absurd (let no : true ≡ false = sym (or_left mid.down (mid.refused || falls_at r.falls mid.passed) down) ∙ is.applies in cc no))
    ]

-- a look that ended with a node that is down, and one that ran the reads
pub looked_down : (n tail : ℕ) (log : List Logged) (old ahead : Node) → IsAhead n (tail - old.passed) log old ahead → old.passed ≤ tail → ahead.down ≡ true
    → HasLooked n tail log old ahead
looked_down n tail log old ahead a within down =
    let far = a.passed in
    let end : ahead.passed ≡ tail = omega (arith, far, within) in
    record {
      refused = a.refused;
      ahead = ahead;
      fell = subst (λ (k : ℕ). (x : ℕ) → a.refused.falls ≡ Some x → (old.passed ≤ x) × (x < k)) end a.fell;
      cuts = All-weaker (IsCutBefore ahead.passed n log a.refused old) (λ cut. IsCutBefore tail n log a.refused old cut ⊎ IsCutBehind n tail ahead cut)
          (λ cut is. inl (subst (λ (k : ℕ). IsCutBefore k n log a.refused old cut) end is)) a.refused.cuts a.cuts;
      copy = a.copy;
      went = a.state;
      state = ap (λ (b : Bool). cond b ahead (with_reads a.refused.cuts tail ahead)) (sym down);
    }

pub looked_up : (n tail : ℕ) (log : List Logged) (old ahead new : Node) → IsAhead n (tail - old.passed) log old ahead → old.passed ≤ tail → ahead.down ≡ false
    → HasRun n tail ahead new → HasLooked n tail log old new
looked_up n tail log old ahead new a within up run =
    let both : Refused = record { falls = a.refused.falls; cuts = a.refused.cuts ++ run.cuts; copy = false } in
    let far = a.passed in
    let end : ahead.passed ≡ tail = omega (arith, far, within) in
    let same : (x : ℕ) → x < tail → AreSame x a.refused both = λ x h. record {
      falls = refl;
      cuts = λ c. cut_front x a.refused.cuts run.cuts c (read_others x n tail ahead run.cuts h run.of_reads);
    } in
    let Each : Cut → Type 0 = λ cut. IsCutBefore tail n log both old cut ⊎ IsCutBehind n tail ahead cut in
    record {
      refused = both;
      ahead = ahead;
      fell = subst (λ (k : ℕ). (x : ℕ) → a.refused.falls ≡ Some x → (old.passed ≤ x) × (x < k)) end a.fell;
      cuts = All-append Each a.refused.cuts run.cuts
          (All-weaker (IsCutBefore ahead.passed n log a.refused old) Each
          (λ cut is. inl (kept_cut ahead.passed tail n log a.refused both old cut (omega (arith, end)) (λ x low high. same x (omega (arith, high, end))) is))
          a.refused.cuts a.cuts)
          (All-weaker (IsReadCut n tail ahead) Each (λ cut is. inr (record { up = up; is_cut = is })) run.cuts run.of_reads);
      copy = refl;
      went = a.state ∙ same_by (tail - old.passed) a.refused both n log old (λ x h k. same x (omega (arith, k, within)));
      state = run.state
          ∙ same_reads run.cuts both.cuts tail ahead
          (λ c. sym (cut_behind tail a.refused.cuts run.cuts c
          (before_others tail ahead.passed n log a.refused old a.refused.cuts (omega (arith, end)) a.cuts)))
          ∙ ap (λ (b : Bool). cond b ahead (with_reads both.cuts tail ahead)) (sym up);
    }
