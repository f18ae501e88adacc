-- What workers leave that have served together is answered by one sequence.
use Rattle.std.proofs.Common.{◌≡◌, ℕ, List, [], ◌∷◌, ◌++◌, length, take, drop, map, Option, Some, refl, ap, sym, ◌∙◌, subst, arith, append_assoc}
use Rattle.std.proofs.lemmas.List.{drop_all, take_all, append-nil, map-append}
use Rattle.std.specs.Prelude.{option_to_list}
use Rattle.std.specs.List.{AllByRecursion}
use Rattle.nr_model.specs.Bytes.{Bytes, IsBeginningOf}
use Rattle.nr_model.specs.Nodes.{Taken, log_of, part_from}
use Rattle.nr_model.specs.Sequential.{emitted_for}
use Rattle.nr_log_end.specs.declared.standing.Standing.{Standing}
use Rattle.nr_log_end.specs.Standings.{record_of}
use Rattle.nr_oplog.specs.Plays.{AreOfOneLog}
use Rattle.nr_replica.specs.Replicas.{ReplicaState}
use Rattle.nr_node.specs.Level.{IsBehind, IsLevel, IsWhole, connection_at, queue_at}
use Rattle.nr_node.specs.Sound.{IsSound}
use Rattle.nr_service.specs.Pollers.{Parting}
use Rattle.nr_taps.specs.Marks as marks
use Rattle.nr_taps.specs.Marks.{MarkState}
use Rattle.nr_taps.specs.Sequence.{AreAllOfOneLog, IsExplainedBy}
use Rattle.nr_worker.specs.Worker.{WorkerState, IsLed}
use Rattle.nr_worker.specs.Law.{HoldsOfDesks, marks_of}
use Rattle.nr_worker_service.proofs.Lists.{each_weaker}
use Rattle.nr_crew.specs.Left.{IsAnswered}
use Rattle.nr_crew.specs.Together.{AllPairs, AreAnsweredTogether, AreLeft, AreTakenOut, IsInOrder, IsLeftBy, IsReplicaOf, standings_of}
use Rattle.nr_crew.specs.declared.lane.WorkerEnd.{WorkerEnd}

-- all elements written back
all_kept : {A : Type 0} (len : ℕ) (now was : List A) → length now ≡ length was → len ≡ length was → take len (now ++ drop (length now) was) ≡ now
all_kept len now was same is =
    ap (λ (xs : List _). take len (now ++ xs)) (drop_all (length now) was (omega arith)) ∙ ap (take len) (append-nil now)
    ∙ take_all len now (omega arith)

-- and none of them changed
pub all_back : {A : Type 0} (len : ℕ) (now was : List A) → len ≡ length was → now ≡ was → take len (now ++ drop (length now) was) ≡ was
all_back len now was is same = all_kept len now was (ap length same) is ∙ same

-- one more of each
pub pairs_more : {X Y : Type 0} (R : X → Y → Type 0) (xs : List X) (ys : List Y) (x : X) (y : Y) → AllPairs R xs ys → R x y
    → AllPairs R (xs ++ x ∷ []) (ys ++ y ∷ [])
pairs_more R [] [] x y all here = (here, tt)
pairs_more R [] (b ∷ ys) x y all here = absurd all
pairs_more R (a ∷ xs) [] x y all here = absurd all
pairs_more R (a ∷ xs) (b ∷ ys) x y all here = (all.0, pairs_more R xs ys x y all.1 here)

-- ---- the replicas
-- what is known by the workers' marks and by those of the nodes
known_of_ends : (ends : List Standing) → marks.standings_of (map marks.mark_of ends) ≡ ends
known_of_ends [] = refl
known_of_ends (s ∷ ends) = ap (λ (l : List Standing). s ∷ l) (known_of_ends ends)

known_behind : (own : List MarkState) (ends : List Standing) → marks.standings_of (own ++ map marks.mark_of ends) ≡ marks.standings_of own ++ ends
known_behind [] ends = known_of_ends ends
known_behind (m ∷ own) ends =
    ap (λ (l : List Standing). option_to_list m.standing ++ l) (known_behind own ends)
    ∙ sym (append_assoc (option_to_list m.standing) (marks.standings_of own) ends)

told_of_ends : (ends : List Standing) → standings_of (map marks.mark_of ends) ≡ map (λ (s : Standing). Some s) ends
told_of_ends [] = refl
told_of_ends (s ∷ ends) = ap (λ (l : List (Option Standing)). Some s ∷ l) (told_of_ends ends)

told_behind : (own : List MarkState) (ends : List Standing)
    → standings_of (own ++ map marks.mark_of ends) ≡ standings_of own ++ map (λ (s : Standing). Some s) ends
told_behind [] ends = told_of_ends ends
told_behind (m ∷ own) ends = ap (λ (l : List (Option Standing)). m.standing ∷ l) (told_behind own ends)

-- what is of one log with another, that is so with it
other_way : (s t : Standing) → AreOfOneLog s t → AreOfOneLog t s
other_way s t o = (
  (o.0.1, o.0.0),
  λ same.
      let c = o.1 (sym same) in
      (c.1, c.0),
  o.3,
  o.2,
)

front_of : (P : Standing → Type 0) (xs ys : List Standing) → AllByRecursion P (xs ++ ys) → AllByRecursion P xs
front_of P [] ys all = tt
front_of P (x ∷ xs) ys all = (all.0, front_of P xs ys all.1)

back_of : (P : Standing → Type 0) (xs ys : List Standing) → AllByRecursion P (xs ++ ys) → AllByRecursion P ys
back_of P [] ys all = all
back_of P (x ∷ xs) ys all = back_of P xs ys all.1

both_of : (P : Standing → Type 0) (xs ys : List Standing) → AllByRecursion P xs → AllByRecursion P ys → AllByRecursion P (xs ++ ys)
both_of P [] ys front back = back
both_of P (x ∷ xs) ys front back = (front.0, both_of P xs ys front.1 back)

-- one more stands behind all of these
with_last : (xs ys : List Standing) (x : Standing) → AllByRecursion (AreOfOneLog x) (xs ++ ys) → AreAllOfOneLog (xs ++ ys) → AreAllOfOneLog (xs ++ x ∷ ys)
with_last [] ys x met all = (met, all)
with_last (y ∷ xs) ys x met all = (
  both_of (AreOfOneLog y) xs (x ∷ ys) (front_of (AreOfOneLog y) xs ys all.0) (other_way x y met.0, back_of (AreOfOneLog y) xs ys all.0),
  with_last xs ys x met.1 all.1,
)

pub swapped : (xs ys : List Standing) → AreAllOfOneLog (xs ++ ys) → AreAllOfOneLog (ys ++ xs)
swapped [] ys all = subst AreAllOfOneLog (sym (append-nil ys)) all
swapped (x ∷ xs) ys all =
    with_last ys xs x (both_of (AreOfOneLog x) ys xs (back_of (AreOfOneLog x) xs ys all.0) (front_of (AreOfOneLog x) xs ys all.0)) (swapped xs ys all.1)

replica_of : (taken : List Taken) (s : Standing) (r : ReplicaState) → IsLevel s r → IsExplainedBy taken s → IsReplicaOf taken r
replica_of taken s r level explained =
    let done = record_of s.history in
    record {
      done = done;
      part = subst (λ (n : ℕ). IsBeginningOf done (part_from n (length (log_of taken)) taken)) level.node explained.part;
      updates = explained.updates;
      server = level.server;
      behind = λ serial near. subst (λ (n : ℕ). IsBehind (queue_at serial r.members) (emitted_for (connection_at n serial) done)) level.node (level.behind serial near);
      whole = λ up serial near. subst (λ (n : ℕ). IsWhole (queue_at serial r.members) (emitted_for (connection_at n serial) done)) level.node
          (level.whole up serial near);
    }

are_replicas : (taken : List Taken) (ends : List Standing) (replicas : List ReplicaState) → AllPairs IsLevel ends replicas → AllByRecursion (IsExplainedBy taken) ends
    → AllByRecursion (IsReplicaOf taken) replicas
are_replicas taken [] [] level explained = tt
are_replicas taken [] (r ∷ replicas) level explained = absurd level
are_replicas taken (s ∷ ends) [] level explained = absurd level
are_replicas taken (s ∷ ends) (r ∷ replicas) level explained =
    (replica_of taken s r level.0 explained.0, are_replicas taken ends replicas level.1 explained.1)

-- what was taken out stays
pub same_out : (own ms next : List MarkState) (replicas more : List ReplicaState) → next ≡ ms → more ≡ replicas → AreTakenOut own ms replicas
    → AreTakenOut own next more
same_out own ms next replicas more same still out =
    subst (λ (l : List ReplicaState). AreTakenOut own next l) (sym still) (subst (λ (l : List MarkState). AreTakenOut own l replicas) (sym same) out)

-- and one more was taken out
pub one_out : (own ms next : List MarkState) (replicas more : List ReplicaState) (s : Standing) (m : MarkState) (r : ReplicaState) → m ≡ marks.mark_of s
    → next ≡ ms ++ m ∷ [] → more ≡ replicas ++ r ∷ [] → IsLevel s r → AreTakenOut own ms replicas → AreTakenOut own next more
one_out own ms next replicas more s m r is next_is more_is level out = record {
  ends = out.ends ++ s ∷ [];
  marks_are = next_is ∙ ap (λ (x : MarkState). ms ++ x ∷ []) is ∙ ap (λ (l : List MarkState). l ++ marks.mark_of s ∷ []) out.marks_are
      ∙ append_assoc own (map marks.mark_of out.ends) (marks.mark_of s ∷ []) ∙ ap (λ (l : List MarkState). own ++ l) (sym (map-append marks.mark_of out.ends (s ∷ [])));
  level = subst (AllPairs IsLevel (out.ends ++ s ∷ [])) (sym more_is) (pairs_more IsLevel out.ends replicas s r out.level level);
}

module _ {S D M : Type 0} (was_received was_sent : S → Option Bytes) (gives : M → M → Option ℕ → Type 0) (parted : D → Option (List (Parting S))) where
  -- one more worker left this
  pub left_more : (ms now : List MarkState) (lefts left_now : List (WorkerEnd S D M)) (m : MarkState) (left : WorkerEnd S D M) → now ≡ ms ++ m ∷ []
      → left_now ≡ lefts ++ left ∷ [] → AreLeft was_received was_sent gives parted ms lefts
      → IsAnswered was_received was_sent gives (parted left.device) left.node left.worker left.ended m.standing left.clients.items
      → AreLeft was_received was_sent gives parted now left_now
  left_more ms now lefts left_now m left is left_is all here =
      subst (λ (l : List MarkState). AreLeft was_received was_sent gives parted l left_now) (sym is)
      (subst (AreLeft was_received was_sent gives parted (ms ++ m ∷ [])) (sym left_is)
      (pairs_more (λ (mark : MarkState) (one : WorkerEnd S D M). IsAnswered was_received was_sent gives (parted one.device) one.node one.worker one.ended mark.standing one.clients.items) ms lefts m
      left all here))

  record AreKnown (ms : List MarkState) (lefts : List (WorkerEnd S D M)) : Type 0 where
    workers : List WorkerState
    marked : map (λ (worker : WorkerState). worker.mark) workers ≡ standings_of ms
    known : marks_of workers ≡ marks.standings_of ms
    led : AllByRecursion IsLed workers
    each : AllPairs (IsLeftBy was_received was_sent gives parted) workers lefts

  are_known : (ms : List MarkState) (lefts : List (WorkerEnd S D M)) → AreLeft was_received was_sent gives parted ms lefts → AreKnown ms lefts
  are_known [] [] all = record { workers = []; marked = refl; known = refl; led = tt; each = tt }
  are_known [] (left ∷ lefts) all = absurd all
  are_known (m ∷ ms) [] all = absurd all
  are_known (m ∷ ms) (left ∷ lefts) all =
      let a = all.0 in
      let more = are_known ms lefts all.1 in
      record {
        workers = a.worker ∷ more.workers;
        marked = λ i. a.marked i ∷ more.marked i;
        known = λ i. option_to_list (a.marked i) ++ more.known i;
        led = (a.led, more.led);
        each = (record { led = a.led; node_is = a.node_is; number_is = a.number_is; served = a.served }, more.each);
      }

  pub are_together : (ms own : List MarkState) (lefts : List (WorkerEnd S D M)) (replicas : List ReplicaState) → HoldsOfDesks
      → AllByRecursion IsSound (marks.standings_of ms) → AreAllOfOneLog (marks.standings_of ms)
      → AreLeft was_received was_sent gives parted own lefts → AreTakenOut own ms replicas
      → AreAnsweredTogether was_received was_sent gives parted ms lefts replicas
  are_together ms own lefts replicas law sound one_log all out =
      let k = are_known own lefts all in
      let are : marks.standings_of ms ≡ marks_of k.workers ++ out.ends =
      ap (λ (l : List MarkState). marks.standings_of l) out.marks_are ∙ known_behind own out.ends ∙ ap (λ (l : List Standing). l ++ out.ends) (sym k.known) in
      let answered = law.answered out.ends k.workers (back_of IsSound (marks_of k.workers) out.ends (subst (AllByRecursion IsSound) are sound)) k.led
      (swapped (marks_of k.workers) out.ends (subst AreAllOfOneLog are one_log)) in
      record {
        workers = k.workers;
        ends = out.ends;
        marked = ap (λ (l : List MarkState). standings_of l) out.marks_are ∙ told_behind own out.ends
            ∙ ap (λ (l : List (Option Standing)). l ++ map (λ (s : Standing). Some s) out.ends) (sym k.marked);
        level = out.level;
        each = k.each;
        answered = answered;
        replicated = are_replicas answered.taken out.ends replicas out.level answered.explained;
        in_order = each_weaker IsLed IsInOrder (λ worker led earlier was goes. law.in_time earlier worker was led goes) k.workers k.led;
      }
