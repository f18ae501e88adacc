-- Which jobs of runs lead.
use Rattle.std.proofs.Common.{◌≡◌, ℕ, zero, suc, ◌+◌, ◌-◌, ◌<◌, ◌≤◌, Bool, true, false, not, cond, List, [], ◌∷◌, ◌++◌, length, take, get_or, refl, sym, ap, ◌∙◌, append_assoc, arith}
use Rattle.std.specs.Prelude.{◌&&◌, ◌||◌, nat_lt, replicate}
use Rattle.std.proofs.lemmas.Bool.Decides.{nat_tests}
use Rattle.std.proofs.lemmas.List.{append-nil, map-append, take_more}
use mathlib.Core.Bool.{beq}
use Rattle.nr_model.specs.Items.{Connection, Item, same_connection, is_update}
use Rattle.nr_model.specs.Entries.{Jobs, leading}
use Rattle.nr_model.proofs.Subscribed.{same-is}
use Rattle.nr_entry.specs.declared.conn.ConnId.{ConnId}
use Rattle.nr_entry.specs.declared.job.Job.{Job}
use Rattle.nr_entry.specs.declared.run.Run.{Run}
use Rattle.nr_entry.specs.Jobs.{connection_of, item_of, items_of}
use Rattle.nr_entry.specs.Choice.{is_blocked, leads_among, is_taken, room_behind, leading_marks, room_after}
use Rattle.nr_entry.specs.Waiting.{has_some, are_from}
use Rattle.nr_entry.specs.Runs.{any_begins, jobs_in, spread, marks_of, sum_of, front, is_kind_at, has_other, IsWithin}
use Rattle.nr_entry.proofs.Taking.{how_many}
use Rattle.nr_entry.proofs.Fronts.{jobs_in-push}
use Rattle.nr_entry.proofs.Marks.{is_blocked-push, blocked_as_before, leads_is, other_leads_not}

both : (a b : Bool) → (a && b) ≡ true → (a ≡ true) × (b ≡ true)
both true b e = (refl, e)
both false b e = absurd (cc e)

-- a job more blocks
still_blocked : (u : Bool) (c : Connection) (before : Jobs) (x : Item) → is_blocked u c before ≡ true → is_blocked u c (before ++ x ∷ []) ≡ true
still_blocked u c before x is = is_blocked-push u c before x ∙ ap (λ (b : Bool). b || (same_connection x.connection c && not (beq (is_update x.deed) u))) is

or_true : (b : Bool) → (b || true) ≡ true
or_true true = refl
or_true false = refl

now_blocked : (u : Bool) (c : Connection) (before : Jobs) (x : Item) → same_connection x.connection c ≡ true → beq (is_update x.deed) u ≡ false → is_blocked u c (before ++ x ∷ []) ≡ true
now_blocked u c before x same other =
    is_blocked-push u c before x
    ∙ ap (λ (b : Bool). is_blocked u c before || (b && not (beq (is_update x.deed) u))) same
    ∙ ap (λ (b : Bool). is_blocked u c before || not b) other
    ∙ or_true (is_blocked u c before)

-- a job of a connection that is blocked does not lead
leads_not : (u : Bool) (c : Connection) (before : Jobs) (x : Item) (own : Bool) → same_connection x.connection c ≡ true → is_blocked u c before ≡ true → beq (is_update x.deed) u ≡ own → leads_among u before x ≡ false
leads_not u c before x false same is kind = other_leads_not u before x kind
leads_not u c before x true same is kind =
    leads_is u before x kind
    ∙ ap (λ (d : Connection). not (is_blocked u d before)) (same-is x.connection c same)
    ∙ ap not is

leads_now : (u : Bool) (c : Connection) (before : Jobs) (x : Item) → same_connection x.connection c ≡ true → is_blocked u c before ≡ false → beq (is_update x.deed) u ≡ true → leads_among u before x ≡ true
leads_now u c before x same is kind =
    leads_is u before x kind
    ∙ ap (λ (d : Connection). not (is_blocked u d before)) (same-is x.connection c same)
    ∙ ap not is

taken_not : (u : Bool) (room : ℕ) (before : Jobs) (x : Item) → leads_among u before x ≡ false → is_taken (leads_among u) room before x ≡ false
taken_not u zero before x is = refl
taken_not u (suc room) before x is = is

-- the marks of a run, and the room behind it
pub record Marked (u : Bool) (room : ℕ) (before seg : Jobs) (count : ℕ) : Type 0 where
  pub marks : leading_marks (leads_among u) room before seg ≡ spread count (length seg - count)
  pub left : room_after (leads_among u) room before seg ≡ room - count
  pub within : count ≤ length seg
  pub room_for : count ≤ room

nothing_marked : (u : Bool) (room : ℕ) (before : Jobs) → Marked u room before [] 0
nothing_marked u room before = record { marks = let e : 0 ≡ 0 - 0 = omega arith in ap (λ (n : ℕ). replicate n false) e; left = omega arith; within = omega arith; room_for = omega arith }

not_taken : (u : Bool) (room : ℕ) (before seg : Jobs) (x : Item) → is_taken (leads_among u) room before x ≡ false → Marked u room (before ++ x ∷ []) seg 0 → Marked u room before (x ∷ seg) 0
not_taken u room before seg x is m =
    let after = before ++ x ∷ [] in
    let e : suc (length seg - 0) ≡ suc (length seg) - 0 = omega arith in
    record {
      marks =
          ap (λ (b : Bool). b ∷ leading_marks (leads_among u) (room_behind b room) after seg) is
          ∙ ap (λ (ms : List Bool). false ∷ ms) m.marks
          ∙ ap (λ (n : ℕ). replicate n false) e;
      left = ap (λ (b : Bool). room_after (leads_among u) (room_behind b room) after seg) is ∙ m.left;
      within = omega arith;
      room_for = omega arith;
    }

marked_blocked : (u : Bool) (room : ℕ) (c : Connection) (before seg : Jobs) → are_from c seg ≡ true → is_blocked u c before ≡ true → Marked u room before seg 0
marked_blocked u room c before [] own is = nothing_marked u room before
marked_blocked u room c before (x ∷ seg) own is =
    let parts = both (same_connection x.connection c) (are_from c seg) own in
    not_taken u room before seg x (taken_not u room before x (leads_not u c before x (beq (is_update x.deed) u) parts.0 is refl)) (marked_blocked u room c (before ++ x ∷ []) seg parts.1 (still_blocked u c before x is))

marked_full : (u : Bool) (before seg : Jobs) → Marked u zero before seg 0
marked_full u before [] = nothing_marked u zero before
marked_full u before (x ∷ seg) = not_taken u zero before seg x refl (marked_full u (before ++ x ∷ []) seg)

one_taken : (u : Bool) (room : ℕ) (before seg : Jobs) (x : Item) (count : ℕ) → leads_among u before x ≡ true → Marked u room (before ++ x ∷ []) seg count → Marked u (suc room) before (x ∷ seg) (suc count)
one_taken u room before seg x count is m =
    let after = before ++ x ∷ [] in
    let e : length seg - count ≡ suc (length seg) - suc count = omega arith in
    let f : room - count ≡ suc room - suc count = omega arith in
    record {
      marks =
          ap (λ (b : Bool). b ∷ leading_marks (leads_among u) (room_behind b (suc room)) after seg) is
          ∙ ap (λ (ms : List Bool). true ∷ ms) m.marks
          ∙ ap (λ (n : ℕ). spread (suc count) n) e;
      left = ap (λ (b : Bool). room_after (leads_among u) (room_behind b (suc room)) after seg) is ∙ m.left ∙ f;
      within = omega (arith, m.within);
      room_for = omega (arith, m.room_for);
    }

by_kind : (u : Bool) (room : ℕ) (c : Connection) (before : Jobs) (x : Item) (seg : Jobs) → same_connection x.connection c ≡ true → are_from c seg ≡ true → is_blocked u c before ≡ false
    → (own : Bool) → beq (is_update x.deed) u ≡ own → (beq (is_update x.deed) u ≡ true → Marked u room (before ++ x ∷ []) seg (front u room seg))
    → Marked u (suc room) before (x ∷ seg) (elim own [ true ↦ suc (front u room seg) | false ↦ 0 ])
by_kind u room c before x seg same all is true kind more = one_taken u room before seg x (front u room seg) (leads_now u c before x same is kind) (more kind)
by_kind u room c before x seg same all is false kind more =
    not_taken u (suc room) before seg x (taken_not u (suc room) before x (other_leads_not u before x kind)) (marked_blocked u (suc room) c (before ++ x ∷ []) seg all (now_blocked u c before x same kind))

marked_free : (u : Bool) (room : ℕ) (c : Connection) (before seg : Jobs) → are_from c seg ≡ true → is_blocked u c before ≡ false → Marked u room before seg (front u room seg)
marked_free u zero c before seg own is = marked_full u before seg
marked_free u (suc room) c before [] own is = nothing_marked u (suc room) before
marked_free u (suc room) c before (x ∷ seg) own is =
    let parts = both (same_connection x.connection c) (are_from c seg) own in
    by_kind u room c before x seg parts.0 parts.1 is (beq (is_update x.deed) u) refl
    (λ kind. marked_free u room c (before ++ x ∷ []) seg parts.1 (blocked_as_before u c before x kind ∙ is))

pub marked_run : (u : Bool) (room : ℕ) (c : Connection) (before seg : Jobs) (blocked : Bool) → are_from c seg ≡ true → blocked ≡ is_blocked u c before → Marked u room before seg (cond blocked 0 (front u room seg))
marked_run u room c before seg true own is = marked_blocked u room c before seg own (sym is)
marked_run u room c before seg false own is = marked_free u room c before seg own (sym is)

-- without room nothing is marked, whatever is blocked
pub marked_nothing : (u : Bool) (before seg : Jobs) (blocked : Bool) → Marked u zero before seg (cond blocked 0 (front u zero seg))
marked_nothing u before seg true = marked_full u before seg
marked_nothing u before seg false = marked_full u before seg

-- lists in two parts
pub leading_marks-append : (leads : Jobs → Item → Bool) (room : ℕ) (before front back : Jobs)
    → leading_marks leads room before (front ++ back) ≡ leading_marks leads room before front ++ leading_marks leads (room_after leads room before front) (before ++ front) back
leading_marks-append leads room before [] back = ap (λ (b : Jobs). leading_marks leads room b back) (sym (append-nil before))
leading_marks-append leads room before (x ∷ front) back =
    let first = is_taken leads room before x in
    let less = room_behind first room in
    let after = before ++ x ∷ [] in
    ap (λ (ms : List Bool). first ∷ ms)
    (leading_marks-append leads less after front back
    ∙ ap (λ (b : Jobs). leading_marks leads less after front ++ leading_marks leads (room_after leads less after front) b back) (append_assoc before (x ∷ []) front))

pub room_after-append : (leads : Jobs → Item → Bool) (room : ℕ) (before front back : Jobs)
    → room_after leads room before (front ++ back) ≡ room_after leads (room_after leads room before front) (before ++ front) back
room_after-append leads room before [] back = ap (λ (b : Jobs). room_after leads room b back) (sym (append-nil before))
room_after-append leads room before (x ∷ front) back =
    let less = room_behind (is_taken leads room before x) room in
    let after = before ++ x ∷ [] in
    room_after-append leads less after front back
    ∙ ap (λ (b : Jobs). room_after leads (room_after leads less after front) b back) (append_assoc before (x ∷ []) front)

chosen_front : (b : Bool) (x : Item) (more last : Jobs) → cond b (x ∷ (more ++ last)) (more ++ last) ≡ cond b (x ∷ more) more ++ last
chosen_front true x more last = refl
chosen_front false x more last = refl

pub leading-append : (leads : Jobs → Item → Bool) (before front back : Jobs) → leading leads before (front ++ back) ≡ leading leads before front ++ leading leads (before ++ front) back
leading-append leads before [] back = ap (λ (b : Jobs). leading leads b back) (sym (append-nil before))
leading-append leads before (x ∷ front) back =
    let after = before ++ x ∷ [] in
    let more = leading leads after front in
    let rest = leading leads (before ++ x ∷ front) back in
    let e : leading leads after (front ++ back) ≡ more ++ rest = leading-append leads after front back ∙ ap (λ (b : Jobs). more ++ leading leads b back) (append_assoc before (x ∷ []) front) in
    ap (λ (t : Jobs). cond (leads before x) (x ∷ t) t) e
    ∙ chosen_front (leads before x) x more rest

pub has_some-append : (front back : Jobs) → has_some (front ++ back) ≡ (has_some front || has_some back)
has_some-append [] back = refl
has_some-append (x ∷ front) back = refl

-- a run leads by its first job
leading_blocked : (u : Bool) (c : Connection) (before seg : Jobs) → are_from c seg ≡ true → is_blocked u c before ≡ true → leading (leads_among u) before seg ≡ []
leading_blocked u c before [] own is = refl
leading_blocked u c before (x ∷ seg) own is =
    let parts = both (same_connection x.connection c) (are_from c seg) own in
    let more = leading (leads_among u) (before ++ x ∷ []) seg in
    ap (λ (b : Bool). cond b (x ∷ more) more) (leads_not u c before x (beq (is_update x.deed) u) parts.0 is refl)
    ∙ leading_blocked u c (before ++ x ∷ []) seg parts.1 (still_blocked u c before x is)

first_leads : (u : Bool) (c : Connection) (before : Jobs) (x : Item) (seg : Jobs) → same_connection x.connection c ≡ true → are_from c seg ≡ true → is_blocked u c before ≡ false
    → (own : Bool) → beq (is_update x.deed) u ≡ own → own ≡ has_some (leading (leads_among u) before (x ∷ seg))
first_leads u c before x seg same all is true kind =
    let more = leading (leads_among u) (before ++ x ∷ []) seg in
    sym (ap (λ (b : Bool). has_some (cond b (x ∷ more) more)) (leads_now u c before x same is kind))
first_leads u c before x seg same all is false kind =
    let more = leading (leads_among u) (before ++ x ∷ []) seg in
    sym (ap (λ (b : Bool). has_some (cond b (x ∷ more) more)) (other_leads_not u before x kind) ∙ ap has_some (leading_blocked u c (before ++ x ∷ []) seg all (now_blocked u c before x same kind)))

pub run_leads : (u : Bool) (c : Connection) (before seg : Jobs) (blocked : Bool) → are_from c seg ≡ true → blocked ≡ is_blocked u c before → (is_kind_at u 0 seg && not blocked) ≡ has_some (leading (leads_among u) before seg)
run_leads u c before seg true own is = and_false (is_kind_at u 0 seg) ∙ sym (ap has_some (leading_blocked u c before seg own (sym is)))
  where
    and_false : (b : Bool) → (b && false) ≡ false
    and_false true = refl
    and_false false = refl
run_leads u c before [] false own is = refl
run_leads u c before (x ∷ seg) false own is =
    let parts = both (same_connection x.connection c) (are_from c seg) own in
    and_true (beq (is_update x.deed) u) ∙ first_leads u c before x seg parts.0 parts.1 (sym is) (beq (is_update x.deed) u) refl
  where
    and_true : (b : Bool) → (b && true) ≡ b
    and_true true = refl
    and_true false = refl

-- where no run begins with a job of the kind, none leads
other_first : (u : Bool) (c : Connection) (before seg : Jobs) → are_from c seg ≡ true → is_kind_at u 0 seg ≡ false → leading (leads_among u) before seg ≡ []
other_first u c before [] own is = refl
other_first u c before (x ∷ seg) own is =
    let parts = both (same_connection x.connection c) (are_from c seg) own in
    let more = leading (leads_among u) (before ++ x ∷ []) seg in
    ap (λ (b : Bool). cond b (x ∷ more) more) (other_leads_not u before x is)
    ∙ leading_blocked u c (before ++ x ∷ []) seg parts.1 (now_blocked u c before x parts.0 is)

neither : (a b : Bool) → (a || b) ≡ false → (a ≡ false) × (b ≡ false)
neither true b e = absurd (cc e)
neither false b e = (refl, e)

pub none_begins : (u : Bool) (before : Jobs) (runs : List Run) → any_begins u runs ≡ false → leading (leads_among u) before (items_of (jobs_in runs)) ≡ []
none_begins u before [] none = refl
none_begins u before (r ∷ runs) none =
    let leads = leads_among u in
    let seg : Jobs = items_of r.jobs.items in
    let parts = neither (is_kind_at u 0 seg) (any_begins u runs) none in
    ap (leading leads before) (map-append item_of r.jobs.items (jobs_in runs))
    ∙ leading-append leads before seg (items_of (jobs_in runs))
    ∙ ap (λ (t : Jobs). t ++ leading leads (before ++ seg) (items_of (jobs_in runs))) (other_first u (connection_of r.conn) before seg r.own parts.0)
    ∙ none_begins u (before ++ seg) runs parts.1

-- whether a run of a connection blocks it
or_and_none : (b s : Bool) → b ≡ (b || (s && false))
or_and_none true s = refl
or_and_none false true = refl
or_and_none false false = refl

or_joined : (b s o h : Bool) → ((b || (s && o)) || (s && h)) ≡ (b || (s && (o || h)))
or_joined true s o h = refl
or_joined false true o h = refl
or_joined false false o h = refl

pub blocked_by_run : (u : Bool) (q c : Connection) (before seg : Jobs) → are_from c seg ≡ true → is_blocked u q (before ++ seg) ≡ (is_blocked u q before || (same_connection c q && has_other u seg))
blocked_by_run u q c before [] own = ap (is_blocked u q) (append-nil before) ∙ or_and_none (is_blocked u q before) (same_connection c q)
blocked_by_run u q c before (x ∷ seg) own =
    let parts = both (same_connection x.connection c) (are_from c seg) own in
    let other = not (beq (is_update x.deed) u) in
    ap (is_blocked u q) (sym (append_assoc before (x ∷ []) seg))
    ∙ blocked_by_run u q c (before ++ x ∷ []) seg parts.1
    ∙ ap (λ (b : Bool). b || (same_connection c q && has_other u seg)) (is_blocked-push u q before x ∙ ap (λ (d : Connection). is_blocked u q before || (same_connection d q && other)) (same-is x.connection c parts.0))
    ∙ or_joined (is_blocked u q before) (same_connection c q) other (has_other u seg)

-- what stands in front ends before the other kind, or where there is no room
other_cuts : (u : Bool) (most : ℕ) (seg : Jobs) → has_other u seg ≡ true → front u most seg < length seg
other_cuts u most [] is = absurd (cc is)
other_cuts u zero (x ∷ seg) is = omega arith
other_cuts u (suc most) (x ∷ seg) is = at_kind (beq (is_update x.deed) u) refl (λ e. other_cuts u most seg e)
  where
    at_kind : (own : Bool) → beq (is_update x.deed) u ≡ own → (has_other u seg ≡ true → front u most seg < length seg) → elim own [ true ↦ suc (front u most seg) | false ↦ 0 ] < suc (length seg)
    at_kind true kind more = let k = more (sym (ap (λ (b : Bool). not b || has_other u seg) kind) ∙ is) in omega arith
    at_kind false kind more = omega arith

no_other_whole : (u : Bool) (most : ℕ) (seg : Jobs) → has_other u seg ≡ false → front u most seg < most → front u most seg ≡ length seg
no_other_whole u zero seg is lt = absurd (omega arith)
no_other_whole u (suc most) [] is lt = refl
no_other_whole u (suc most) (x ∷ seg) is lt = at_kind (beq (is_update x.deed) u) refl (λ e f. no_other_whole u most seg e f) lt
  where
    at_kind : (own : Bool) → beq (is_update x.deed) u ≡ own → (has_other u seg ≡ false → front u most seg < most → front u most seg ≡ length seg) → elim own [ true ↦ suc (front u most seg) | false ↦ 0 ] < suc most → elim own [ true ↦ suc (front u most seg) | false ↦ 0 ] ≡ suc (length seg)
    at_kind true kind more lt = ap suc (more (sym (ap (λ (b : Bool). not b || has_other u seg) kind) ∙ is) (omega arith))
    at_kind false kind more lt = absurd (cc (sym (ap (λ (b : Bool). not b || has_other u seg) kind) ∙ is))

pub cut_is_other : (u : Bool) (most : ℕ) (seg : Jobs) (other : Bool) → has_other u seg ≡ other → front u most seg < most → nat_lt (front u most seg) (length seg) ≡ other
cut_is_other u most seg true is lt = let k = other_cuts u most seg is in grind (arith, nat_tests)
cut_is_other u most seg false is lt = let k = no_other_whole u most seg is lt in grind (arith, nat_tests)

pub has_other_is : (u : Bool) (jobs : List Job) (len : ℕ) (other : Bool) → len ≡ length jobs → has_other u (items_of jobs) ≡ other → nat_lt (front u len (items_of jobs)) len ≡ has_other u (items_of jobs)
has_other_is u jobs len true same is = let k = other_cuts u len (items_of jobs) is in let l = how_many jobs in sym (is ∙ sym (let t : nat_lt (front u len (items_of jobs)) len ≡ true = grind (arith, nat_tests) in t))
has_other_is u jobs len false same is = let k : front u len (items_of jobs) < len → front u len (items_of jobs) ≡ length (items_of jobs) = no_other_whole u len (items_of jobs) is in let l = how_many jobs in sym (is ∙ sym (let t : nat_lt (front u len (items_of jobs)) len ≡ false = grind (arith, nat_tests) in t))

-- the counts of the runs that were looked at; which connections are blocked is known where a run stands behind them
pub record Chose (u : Bool) (most : ℕ) (done : List Run) (counts : List ℕ) (room : ℕ) (blocked : ConnId → Bool) (followed : Bool) : Type 0 where
  pub marks : marks_of counts done ≡ leading_marks (leads_among u) most [] (items_of (jobs_in done))
  pub left : room ≡ room_after (leads_among u) most [] (items_of (jobs_in done))
  pub within : IsWithin counts done
  pub total : sum_of counts + room ≡ most
  pub block : followed ≡ true → 0 < room → (q : ConnId) → blocked q ≡ is_blocked u (connection_of q) (items_of (jobs_in done))

next_marked : (u : Bool) (most : ℕ) (done : List Run) (counts : List ℕ) (room : ℕ) (blocked : ConnId → Bool) (r : Run)
    → Chose u most done counts room blocked true
    → Marked u room (items_of (jobs_in done)) (items_of r.jobs.items) (cond (blocked r.conn) 0 (front u room (items_of r.jobs.items)))
next_marked u most done counts zero blocked r ch = marked_nothing u (items_of (jobs_in done)) (items_of r.jobs.items) (blocked r.conn)
next_marked u most done counts (suc room) blocked r ch = marked_run u (suc room) (connection_of r.conn) (items_of (jobs_in done)) (items_of r.jobs.items)
    (blocked r.conn) r.own (ch.block refl (omega arith) r.conn)

pub room_for_next : (u : Bool) (most : ℕ) (done : List Run) (counts : List ℕ) (room : ℕ) (blocked : ConnId → Bool) (r : Run) (count : ℕ)
    → Chose u most done counts room blocked true
    → count ≡ cond (blocked r.conn) 0 (front u room (items_of r.jobs.items)) → count ≤ room
room_for_next u most done counts room blocked r count ch is = omega (arith, is, (next_marked u most done counts room blocked r ch).room_for)

marks_of-push : (counts : List ℕ) (done : List Run) (count : ℕ) (r : Run) → IsWithin counts done → marks_of (counts ++ count ∷ []) (done ++ r ∷ []) ≡ marks_of counts done ++ spread count (length r.jobs.items - count)
marks_of-push [] [] count r w = append-nil (spread count (length r.jobs.items - count))
marks_of-push [] (d ∷ done) count r w = absurd w
marks_of-push (k ∷ counts) [] count r w = absurd w
marks_of-push (k ∷ counts) (d ∷ done) count r w =
    let here = spread k (length d.jobs.items - k) in
    ap (λ (t : List Bool). here ++ t) (marks_of-push counts done count r w.1) ∙ sym (append_assoc here (marks_of counts done) (spread count (length r.jobs.items - count)))

within-push : (counts : List ℕ) (done : List Run) (count : ℕ) (r : Run) → IsWithin counts done → count ≤ length r.jobs.items → IsWithin (counts ++ count ∷ []) (done ++ r ∷ [])
within-push [] [] count r w le = (le, tt)
within-push [] (d ∷ done) count r w le = absurd w
within-push (k ∷ counts) [] count r w le = absurd w
within-push (k ∷ counts) (d ∷ done) count r w le = (w.0, within-push counts done count r w.1 le)

sum-push : (counts : List ℕ) (count : ℕ) → sum_of (counts ++ count ∷ []) ≡ sum_of counts + count
sum-push [] count = omega arith
sum-push (k ∷ counts) count = omega (arith, sum-push counts count)

-- a connection that is blocked stays so, and another one is where the run has the other kind
block_step : (was same cut other : Bool) → (same ≡ true → was ≡ true) → (was || (same && cut)) ≡ (was || (same && other))
block_step true same cut other h = refl
block_step false true cut other h = absurd (cc (h refl))
block_step false false cut other h = refl

pub chose_next : (u : Bool) (most : ℕ) (done : List Run) (counts : List ℕ) (room : ℕ) (blocked new : ConnId → Bool) (r : Run) (count : ℕ)
    (followed cut : Bool) → Chose u most done counts room blocked true
    → count ≡ cond (blocked r.conn) 0 (front u room (items_of r.jobs.items))
    → cut ≡ (nat_lt count room && nat_lt count (length r.jobs.items))
    → ((q : ConnId) → new q ≡ (blocked q || (same_connection (connection_of r.conn) (connection_of q) && (followed && cut))))
    → Chose u most (done ++ r ∷ []) (counts ++ count ∷ []) (room - count) new followed
chose_next u most done counts room blocked new r count followed cut ch is is_cut adds =
    let before : Jobs = items_of (jobs_in done) in
    let seg : Jobs = items_of r.jobs.items in
    let m = next_marked u most done counts room blocked r ch in
    let leads = leads_among u in
    let all : items_of (jobs_in (done ++ r ∷ [])) ≡ before ++ seg = ap items_of (jobs_in-push done r) ∙ map-append item_of (jobs_in done) r.jobs.items in
    let k : ℕ = cond (blocked r.conn) 0 (front u room seg) in
    let n = how_many r.jobs.items in
    let fits : count ≤ length r.jobs.items = omega (arith, is, m.within) in
    let here : leading_marks leads room before seg ≡ spread count (length r.jobs.items - count) = m.marks ∙ ap (λ (j : ℕ). spread j (length seg - j)) (sym is) ∙ ap (λ (l : ℕ). spread count (l - count)) n in
    record {
      marks =
          marks_of-push counts done count r ch.within
          ∙ ap (λ (t : List Bool). t ++ spread count (length r.jobs.items - count)) ch.marks
          ∙ ap (λ (t : List Bool). leading_marks leads most [] before ++ t) (sym here)
          ∙ ap (λ (j : ℕ). leading_marks leads most [] before ++ leading_marks leads j before seg) ch.left
          ∙ sym (leading_marks-append leads most [] before seg)
          ∙ ap (leading_marks leads most []) (sym all);
      left =
          ap (λ (j : ℕ). room - j) is ∙ sym m.left
          ∙ ap (λ (j : ℕ). room_after leads j before seg) ch.left
          ∙ sym (room_after-append leads most [] before seg)
          ∙ ap (room_after leads most []) (sym all);
      within = within-push counts done count r ch.within fits;
      total = omega (arith, sum-push counts count, ch.total, is, m.room_for);
      block = λ behind some q.
          let was = ch.block refl (omega arith) in
          let c : Connection = connection_of r.conn in
          let d : Connection = connection_of q in
          adds q
          ∙ ap (λ (b : Bool). blocked q || (same_connection c d && (b && cut))) behind
          ∙ at_blocked (blocked r.conn) refl some q
          ∙ ap (λ (b : Bool). b || (same_connection c d && has_other u seg)) (was q)
          ∙ sym (blocked_by_run u d c before seg r.own)
          ∙ ap (is_blocked u d) (sym all);
    }
  where
    at_blocked : (b : Bool) → blocked r.conn ≡ b → 0 < room - count → (q : ConnId) → (blocked q || (same_connection (connection_of r.conn) (connection_of q) && cut)) ≡ (blocked q || (same_connection (connection_of r.conn) (connection_of q) && has_other u (items_of r.jobs.items)))
    at_blocked true e some q = block_step (blocked q) (same_connection (connection_of r.conn) (connection_of q)) cut (has_other u (items_of r.jobs.items))
        (λ same. ch.block refl (omega arith) q
        ∙ ap (λ (d : Connection). is_blocked u d (items_of (jobs_in done))) (sym (same-is (connection_of r.conn) (connection_of q) same))
        ∙ sym (ch.block refl (omega arith) r.conn) ∙ e)
    at_blocked false e some q =
        let whole : count ≡ front u room (items_of r.jobs.items) = is ∙ ap (λ (b : Bool). cond b 0 (front u room (items_of r.jobs.items))) e in
        let few : front u room (items_of r.jobs.items) < room = omega arith in
        let cuts : cut ≡ has_other u (items_of r.jobs.items) =
        is_cut
        ∙ ap (λ (b : Bool). b && nat_lt count (length r.jobs.items)) (let t : nat_lt count room ≡ true = grind (arith, nat_tests) in t)
        ∙ ap (λ (l : ℕ). nat_lt count l) (sym (how_many r.jobs.items))
        ∙ ap (λ (k : ℕ). nat_lt k (length (items_of r.jobs.items))) whole
        ∙ cut_is_other u room (items_of r.jobs.items) (has_other u (items_of r.jobs.items)) refl few
        in
        ap (λ (b : Bool). blocked q || (same_connection (connection_of r.conn) (connection_of q) && b)) cuts

-- one run more
one_more : (runs : List Run) (i : ℕ) (r : Run) → i < length runs → r ≡ get_or runs i r → items_of (jobs_in (take (i + 1) runs)) ≡ items_of (jobs_in (take i runs)) ++ items_of r.jobs.items
one_more runs i r lt is =
    ap (λ (t : List Run). items_of (jobs_in t)) (take_more runs i r lt ∙ ap (λ (q : Run). take i runs ++ q ∷ []) (sym is))
    ∙ ap items_of (jobs_in-push (take i runs) r)
    ∙ map-append item_of (jobs_in (take i runs)) r.jobs.items

pub one_run_more : (u : Bool) (runs : List Run) (i : ℕ) (r : Run) (found new : Bool) → i < length runs → r ≡ get_or runs i r
    → found ≡ has_some (leading (leads_among u) [] (items_of (jobs_in (take i runs))))
    → new ≡ (found || has_some (leading (leads_among u) (items_of (jobs_in (take i runs))) (items_of r.jobs.items)))
    → new ≡ has_some (leading (leads_among u) [] (items_of (jobs_in (take (i + 1) runs))))
one_run_more u runs i r found new lt is so_far joined =
    let before : Jobs = items_of (jobs_in (take i runs)) in
    let leads = leads_among u in
    joined
    ∙ ap (λ (b : Bool). b || has_some (leading leads before (items_of r.jobs.items))) so_far
    ∙ sym (has_some-append (leading leads [] before) (leading leads before (items_of r.jobs.items)))
    ∙ ap has_some (sym (leading-append leads [] before (items_of r.jobs.items)))
    ∙ ap (λ (t : Jobs). has_some (leading leads [] t)) (sym (one_more runs i r lt is))

pub one_run_behind : (u : Bool) (d : Connection) (runs : List Run) (i : ℕ) (r : Run) (found new : Bool) → i < length runs → r ≡ get_or runs i r
    → found ≡ is_blocked u d (items_of (jobs_in (take i runs)))
    → new ≡ (found || (same_connection (connection_of r.conn) d && has_other u (items_of r.jobs.items)))
    → new ≡ is_blocked u d (items_of (jobs_in (take (i + 1) runs)))
one_run_behind u d runs i r found new lt is so_far joined =
    let before : Jobs = items_of (jobs_in (take i runs)) in
    joined
    ∙ ap (λ (b : Bool). b || (same_connection (connection_of r.conn) d && has_other u (items_of r.jobs.items))) so_far
    ∙ sym (blocked_by_run u d (connection_of r.conn) before (items_of r.jobs.items) r.own)
    ∙ ap (is_blocked u d) (sym (one_more runs i r lt is))

pub or_from : (found this new : Bool) → found ≡ true → new ≡ found → new ≡ (found || this)
or_from found this new is now = now ∙ is ∙ sym (ap (λ (b : Bool). b || this) is)

pub or_else : (found this that new : Bool) → found ≡ false → new ≡ this → this ≡ that → new ≡ (found || that)
or_else found this that new is now same = now ∙ same ∙ sym (ap (λ (b : Bool). b || that) is)
