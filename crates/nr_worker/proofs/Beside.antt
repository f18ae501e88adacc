-- Reads were run beside the lock of their node: what a worker keeps goes on as where they were handed in and a turn was taken.
use Rattle.std.proofs.Common.{◌≡◌, ◌≢◌, ◌≤◌, ◌<◌, ℕ, ◌+◌, ◌++◌, true, false, List, [], ◌∷◌, take, drop, length, map, Option, Some, refl, ap, sym, ◌∙◌, subst, arith}
use Rattle.std.proofs.lemmas.List.{take-append-drop, length-append}
use Rattle.nr_entry.specs.declared.job.Job.{Job}
use Rattle.nr_log_end.specs.declared.standing.Standing.{Standing}
use Rattle.nr_node.specs.declared.collecting.LastPiece.{LastPiece}
use Rattle.nr_combiner.specs.Aside.{ReadsBehind}
use Rattle.nr_combiner.specs.Behind.{TurnsBehind}
use Rattle.nr_combiner.specs.Heard.{HasHeard}
use Rattle.nr_combiner.specs.Turned.{tells_down}
use Rattle.nr_combiner.specs.Workers.{HasPosted, NodeHandleState}
use Rattle.nr_combiner.specs.declared.answering.Lifts.TheVariants.{Own}
use Rattle.nr_combiner.specs.declared.answering.Turned.{Turned}
use Rattle.nr_taps.specs.Marks.{Adopts}
use Rattle.nr_taps.specs.Taps.{HaveMet}
use Rattle.nr_worker.specs.Placed.{OpenConnectionsState}
use Rattle.nr_worker.specs.Portions.{AcceptsPortions, portion_of}
use Rattle.nr_worker.specs.Reading.{KeepsJobs, ReadsAside}
use Rattle.nr_worker.specs.Working.{Goes, HandsIn, IsKept, WorkState, due, unchanged}
use Rattle.nr_worker.proofs.Batched.{goes_by, goes_nowhere}
use Rattle.nr_worker.proofs.Portioned.{told_kept, took_by, turned_by}

-- ---- the same jobs wait
pub keeps_same : (v w : WorkState) → w ≡ v → KeepsJobs v w
keeps_same v w same = subst (KeepsJobs v) (sym same) (record { changed = refl })

pub kept_goes : (v w : WorkState) → KeepsJobs v w → Goes unchanged v w
kept_goes v w k = subst (Goes unchanged v) (sym k.changed) (record {
  leads = λ d led r. record {
    then = d;
    led = led;
    goes = goes_nowhere d;
    reflects = record {
      node = r.node;
      worker = r.worker;
      posted = r.posted;
      heard = r.heard;
      mark = r.mark;
      below = r.below;
      apart = r.apart;
      jobs = r.jobs;
      seats = r.seats;
      numbers = r.numbers;
      accounted = r.accounted;
    };
    served = refl;
  };
})

-- those that were taken out came back
pub came_back : (count : ℕ) (v u : WorkState) (worker : NodeHandleState) (first left : List Job) (late : ℕ) → u ≡ v → worker ≡ u.worker → first ≡ take count u.jobs
    → left ≡ drop count u.jobs → KeepsJobs v (record u { worker = worker; jobs = first ++ left; returned = length first; late = late })
came_back count v u worker first left late same still front behind =
    let all : first ++ left ≡ u.jobs = (λ i. front i ++ behind i) ∙ take-append-drop count u.jobs in
    subst (λ (x : WorkState). KeepsJobs x (record u { worker = worker; jobs = first ++ left; returned = length first; late = late })) same
    (record { changed = λ i. record u { worker = still i; jobs = all i; returned = length first; late = late } })

-- ---- a batch was handed in
all_are_due : (count returned : ℕ) → returned ≡ 0 → due count returned ≡ count
all_are_due count returned none = ap (λ n. due count n) none

some_there : (count : ℕ) (jobs : List Job) → 0 < count → count ≤ length jobs → jobs ≢ []
some_there count jobs some there none = absurd (let l = ap length none in omega (arith, some, there, l))

hands_by : (count : ℕ) (v u : WorkState) (worker : NodeHandleState) (first left : List Job) (late : ℕ) → u ≡ v → u.returned ≡ 0 → u.waiting ≡ false → 0 < count
    → count ≤ length u.jobs → first ≡ take count u.jobs → left ≡ drop count u.jobs → HasPosted first u.worker worker
    → HandsIn count v (record u { worker = worker; jobs = left; returned = 0; waiting = true; late = late })
hands_by count v u worker first left late same none still some there front behind p =
    let all = all_are_due count u.returned none in
    subst (λ (x : WorkState). HandsIn count x (record u { worker = worker; jobs = left; returned = 0; waiting = true; late = late })) same (record {
      still = still;
      some = some_there count u.jobs some there;
      posted = subst (λ n. HasPosted (take n u.jobs) u.worker worker) (sym all) (subst (λ (js : List Job). HasPosted js u.worker worker) front p);
      changed = λ i. record u { worker = worker; jobs = (behind ∙ ap (λ n. drop n u.jobs) (sym all)) i; returned = 0; waiting = true; late = late };
    })

-- its place at the node is that of before
same_place : (P : ℕ → ℕ → ℕ → Type 0) (jobs : List Job) (w posted : NodeHandleState) → HasPosted jobs w posted → P w.node w.seat.worker w.generation
    → P posted.node posted.seat.worker posted.generation
same_place P jobs w posted p h = subst (λ (x : NodeHandleState). P x.node x.seat.worker x.generation) (sym p.posted) h

-- the worker as its jobs were handed in
abbrev handed : WorkState → NodeHandleState → List Job → ℕ → WorkState
handed u posted left late = record u { worker = posted; jobs = left; returned = 0; waiting = true; late = late }

pub read_by : (places count most : ℕ) (turned : Turned) (v u : WorkState) (worker : NodeHandleState) (seats : OpenConnectionsState) (mark : Option Standing) (s : Standing)
    (first back left : List Job) (late : ℕ) (old pieces : List LastPiece) → u ≡ v → u.returned ≡ length back → back ≡ [] → u.waiting ≡ false → 0 < count → count ≤ length u.jobs
    → first ≡ take count u.jobs → left ≡ drop count u.jobs → length u.worker.seat.lane.posted ≡ length u.worker.seat.lane.collected → old ≡ []
    → ReadsBehind places first most old pieces turned s u.worker worker → Adopts u.mark s mark → HaveMet u.mark (Some s)
    → AcceptsPortions u.limit (map portion_of pieces) u.seats seats
    → ReadsAside places count most turned v
    (record u { worker = worker; seats = seats; jobs = back ++ left; returned = length back; mark = mark; waiting = true; late = late })
read_by places count most turned v u worker seats mark s first back left late old pieces same returned none still some there front behind answered empty r adopted met a =
    let b = handed u r.posted left late in
    let p = r.has_posted in
    let down = tells_down turned.combined in
    subst (λ (js : List Job). ReadsAside places count most turned v
    (record u { worker = worker; seats = seats; jobs = js ++ left; returned = length js; mark = mark; waiting = true; late = late })) (sym none) (record {
      between = b;
      handed_in = hands_by count v u r.posted first left late same (returned ∙ ap length none) still some there front behind p;
      goes = goes_by count v u r.posted first [] left late same front refl behind p answered;
      took =
          took_by places Own turned b b worker seats mark most s r.note old pieces refl empty r.counted
          (same_place (λ node own generation. TurnsBehind places node own generation Own most old pieces turned s r.note) first u.worker r.posted p r.behind)
          adopted a;
      handed =
          turned_by b b worker.seat.noted worker seats mark most down s old pieces refl empty r.more
          (same_place (λ node own generation. HasHeard own most down worker.seat.noted s r.posted.seat.lane old pieces) first u.worker r.posted p r.heard)
          (r.sound, same_place (λ node own generation. s.node ≡ node) first u.worker r.posted p r.node) adopted met a;
    })

-- what it counts is so too
posting_kept : (batches : ℕ) (u : WorkState) (posted : NodeHandleState) (first left : List Job) (late : ℕ) → IsKept batches u → HasPosted first u.worker posted
    → length u.worker.seat.lane.posted ≡ length u.worker.seat.lane.collected → IsKept (batches + 1) (handed u posted left late)
posting_kept batches u posted first left late k p answered =
    subst (λ (x : NodeHandleState). IsKept (batches + 1) (handed u x left late)) (sym p.posted) (record {
      counted = let c = k.counted in omega (arith, c);
      each = let c = k.each in let l = length-append u.worker.seat.lane.posted (p.batch ∷ []) in omega (arith, c, l);
      waits = let l = length-append u.worker.seat.lane.posted (p.batch ∷ []) in omega (arith, answered, l);
      mark = k.mark;
      none = λ is. refl;
      few = omega arith;
    })

pub read_kept : (places most : ℕ) (turned : Turned) (batches : ℕ) (u : WorkState) (worker : NodeHandleState) (seats : OpenConnectionsState) (mark : Option Standing) (s : Standing)
    (first back left : List Job) (late : ℕ) (old pieces : List LastPiece) → IsKept batches u → back ≡ []
    → length u.worker.seat.lane.posted ≡ length u.worker.seat.lane.collected → ReadsBehind places first most old pieces turned s u.worker worker → Adopts u.mark s mark
    → IsKept (batches + 1) (record u { worker = worker; seats = seats; jobs = back ++ left; returned = length back; mark = mark; waiting = true; late = late })
read_kept places most turned batches u worker seats mark s first back left late old pieces k none answered r adopted =
    subst (λ (js : List Job). IsKept (batches + 1)
    (record u { worker = worker; seats = seats; jobs = js ++ left; returned = length js; mark = mark; waiting = true; late = late })) (sym none)
    (told_kept (batches + 1) (handed u r.posted left late) worker seats mark s (posting_kept batches u r.posted first left late k r.has_posted answered) r.more
    (same_place (λ node own generation. s.node ≡ node) first u.worker r.posted r.has_posted r.node) adopted)
