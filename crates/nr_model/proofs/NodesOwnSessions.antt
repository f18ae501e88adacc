-- What a client's bytes left, and how its jobs stand: executed, left over, and asked for.
use Rattle.std.proofs.Common.{◌≡◌, ℕ, suc, ◌+◌, Bool, true, false, cond, inl, inr, [], ◌∷◌, ◌++◌, length, refl, ap, sym, ◌∙◌, subst, arith, append_assoc}
use Rattle.std.specs.Prelude.{◌&&◌, ◌||◌, ◌==◌, Option, Some, None, is_some, option_to_list}
use Rattle.std.proofs.lemmas.Bool.{cases_Bool, and_right, ne_eqb}
use Rattle.std.proofs.lemmas.List.{append-nil, length-append}
use Rattle.nr_model.specs.Bytes.{Bytes, IsBeginningOf}
use Rattle.nr_model.specs.Keyspace.{moment}
use Rattle.nr_model.specs.Requests.{Framing, framing_of, frames_within}
use Rattle.nr_model.specs.Requests.Laws.{with_frames}
use Rattle.nr_model.specs.Commands.{served}
use Rattle.nr_model.specs.Items.{Connection, End, Item}
use Rattle.nr_model.specs.Modes.{Conversation, framed_conversation, plain, deeds_by}
use Rattle.nr_model.specs.Entries.{Jobs}
use Rattle.nr_model.specs.Asked.{jobs_from, close_number, first_number, cut_by}
use Rattle.nr_model.specs.Nodes.{Client, fresh_client}
use Rattle.nr_model.specs.Nodes.Steps.{asked_next, fed_client, closed_client, close_job}
use Rattle.nr_model.proofs.Conversing.{together}
use Rattle.nr_model.proofs.Asked.{asks_for, asked_behind, goes_on, cuts, cut_counts, number_is}
use Rattle.nr_model.proofs.JobLists.{CountsFrom, CountsFrom-append, jobs_from-counts, length-jobs_from}

-- a client's session is what all its bytes leave
pub record IsSession (client : Client) (text : Bytes) : Type 0 where
  pub mode : client.mode ≡ (asks_for plain (framing_of text)).mode
  pub ended : client.ended ≡ (asks_for plain (framing_of text)).ended
  pub next : client.next ≡ length (deeds_by served text)
  pub rest : client.ended ≡ false → client.rest ≡ (framing_of text).rest

-- at first
pub fresh_session : (limit worker : ℕ) (c : Connection) → IsSession (fresh_client limit worker c) []
unfolding framing_of frames_within
fresh_session limit worker c = record { mode = refl; ended = refl; next = refl; rest = λ e. refl }

-- what more bytes ask for, behind the others
pub record IsGoing (client : Client) (text bytes : Bytes) : Type 0 where
  pub deeds : deeds_by served (text ++ bytes) ≡ deeds_by served text ++ (asked_next client bytes).deeds
  pub session : IsSession (fed_client client bytes) (text ++ bytes)

pub session_fed : (client : Client) (text bytes : Bytes) → client.ended ≡ false → IsSession client text → IsGoing client text bytes
session_fed client text bytes on s =
    let framing = framing_of text in
    let before = asks_for plain framing in
    let next = framing_of (framing.rest ++ bytes) in
    let rest = s.rest on in
    let still : before.ended ≡ false = sym s.ended ∙ on in
    let frames : framing_of (client.rest ++ bytes) ≡ next = ap (λ (r : Bytes). framing_of (r ++ bytes)) rest in
    let asked : asked_next client bytes ≡ asks_for before.mode next = λ i. framed_conversation served (s.mode i) (frames i) in
    let whole : framing_of (text ++ bytes) ≡ with_frames framing.frames next = goes_on text bytes still in
    let all : asks_for plain (framing_of (text ++ bytes)) ≡ together before (asked_next client bytes) =
    ap (asks_for plain) whole ∙ asked_behind framing.frames framing.fault next still ∙ ap (together before) (sym asked) in
    let deeds : deeds_by served (text ++ bytes) ≡ deeds_by served text ++ (asked_next client bytes).deeds = ap (λ (k : Conversation). k.deeds) all in
    record {
      deeds = deeds;
      session = record {
        mode = sym (ap (λ (k : Conversation). k.mode) all);
        ended = sym (ap (λ (k : Conversation). k.ended) all);
        next = ap (λ (k : ℕ). k + length (asked_next client bytes).deeds) s.next
            ∙ sym (length-append (deeds_by served text) (asked_next client bytes).deeds)
            ∙ sym (ap length deeds);
        rest = λ e.
            ap (λ (b : Bool). cond b [] (framing_of (client.rest ++ bytes)).rest) e
            ∙ ap (λ (f : Framing). f.rest) frames
            ∙ sym (ap (λ (f : Framing). f.rest) whole);
      };
    }

-- the jobs of a client that a fall dropped are the last that were asked for, and the first of them is noted
pub record IsLost (client : Client) (done asked : Jobs) : Type 0 where
  pub jobs : Jobs
  pub all : done ++ jobs ≡ asked
  pub first : client.lost ≡ first_number jobs

-- How a client's jobs stand: those that were executed, those left over at its node, and all that were asked for; its bytes; whether it was closed. Its
-- node may be down, and it may be one from before its node came back: then it has lost what was left over.
pub record Stands (client : Client) (down old : Bool) (left done asked : Jobs) (text : Bytes) (shut : Bool) : Type 0 where
  pub own : down ≡ false → old ≡ false → done ++ left ≡ asked
  pub ahead : down ≡ false → IsBeginningOf (done ++ left) asked
  pub begun : IsBeginningOf done asked
  pub lost : (down || old) ≡ true → client.closed ≡ false → IsLost client done asked
  pub none : (down || old) ≡ false → client.lost ≡ None
  pub nothing : down ≡ false → old ≡ true → client.closed ≡ false → left ≡ []
  pub numbers : CountsFrom 0 asked
  pub shut_is : shut ≡ client.closed
  pub counted : client.closed ≡ false → length asked ≡ client.next
  pub session : client.closed ≡ false → IsSession client text

-- at first
pub fresh_stands : (limit worker : ℕ) (c : Connection) (down old : Bool) → Stands (fresh_client limit worker c) down old [] [] [] [] false
fresh_stands limit worker c down old = record {
  own = λ up new. refl;
  ahead = λ up. ([], refl);
  begun = ([], refl);
  lost = λ gone on. record { jobs = []; all = refl; first = refl };
  none = λ going. refl;
  nothing = λ up back on. refl;
  numbers = tt;
  shut_is = refl;
  counted = λ on. refl;
  session = λ on. fresh_session limit worker c;
}

-- some of what was left over is executed
pub record Takes (done left done_after left_after : Jobs) : Type 0 where
  pub taken : Jobs
  pub done_is : done_after ≡ done ++ taken
  pub left_is : taken ++ left_after ≡ left

-- none is
pub takes_none : (done left left_after : Jobs) → left_after ≡ left → Takes done left done left_after
takes_none done left left_after e = record { taken = []; done_is = sym (append-nil done); left_is = e }

takes_all : (done left done_after left_after : Jobs) → Takes done left done_after left_after → done_after ++ left_after ≡ done ++ left
takes_all done left done_after left_after t =
    ap (λ (js : Jobs). js ++ left_after) t.done_is ∙ append_assoc done t.taken left_after ∙ ap (λ (js : Jobs). done ++ js) t.left_is

-- two parts of nothing
empty_parts : (xs ys : Jobs) → xs ++ ys ≡ [] → (xs ≡ []) × (ys ≡ [])
empty_parts [] ys e = (refl, e)
empty_parts (x ∷ xs) ys e = absurd (cc e)

-- what is executed was left over
pub stands_on : (client : Client) (down old : Bool) (left done asked : Jobs) (text : Bytes) (shut : Bool) (left_after done_after : Jobs)
    → (down ≡ false → Takes done left done_after left_after) → (down ≡ true → done_after ≡ done)
    → Stands client down old left done asked text shut → Stands client down old left_after done_after asked text shut
stands_on client down old left done asked text shut left_after done_after up gone s =
    let same : down ≡ false → done_after ++ left_after ≡ done ++ left = λ e. takes_all done left done_after left_after (up e) in
    let neither : (e : down ≡ false) → left ≡ [] → ((up e).taken ≡ []) × (left_after ≡ []) =
    λ e none. empty_parts (up e).taken left_after ((up e).left_is ∙ none) in
    record {
      own = λ e new. same e ∙ s.own e new;
      ahead = λ e. subst (λ (x : Jobs). IsBeginningOf x asked) (sym (same e)) (s.ahead e);
      begun =
          elim (cases_Bool down) [
            | inl e ↦ subst (λ (x : Jobs). IsBeginningOf x asked) (sym (gone e)) s.begun
            | inr e ↦
                let a = s.ahead e in
                (left_after ++ a.0, sym (append_assoc done_after left_after a.0) ∙ ap (λ (js : Jobs). js ++ a.0) (same e) ∙ a.1)
          ];
      lost = λ was on.
          let kept : done_after ≡ done =
          elim (cases_Bool down) [
            | inl e ↦ gone e
            | inr e ↦
                let back : old ≡ true = ap (λ (b : Bool). b || old) (sym e) ∙ was in
                (up e).done_is ∙ ap (λ (js : Jobs). done ++ js) (neither e (s.nothing e back on)).0 ∙ append-nil done
          ] in
          let l = s.lost was on in
          record { jobs = l.jobs; all = ap (λ (js : Jobs). js ++ l.jobs) kept ∙ l.all; first = l.first };
      none = s.none;
      nothing = λ e back on. (neither e (s.nothing e back on)).1;
      numbers = s.numbers;
      shut_is = s.shut_is;
      counted = s.counted;
      session = s.session;
    }

-- the first of what is left over is noted, where it isn't closed and none was
abbrev pub noted : Jobs → Client → Client
noted left client = record client { lost = cond (client.closed || is_some client.lost) client.lost (first_number left) }

none_noted : (closed : Bool) (lost : Option ℕ) → cond (closed || is_some lost) lost None ≡ lost
none_noted true lost = refl
none_noted false None = refl
none_noted false (Some number) = refl

-- its node falls
pub stands_fallen : (client : Client) (down old : Bool) (left done asked : Jobs) (text : Bytes) (shut : Bool) (left_after : Jobs) → down ≡ false
    → Stands client down old left done asked text shut → Stands (noted left client) true old left_after done asked text shut
stands_fallen client down old left done asked text shut left_after up s =
    let note = λ (lost : Option ℕ) (closed : Bool) (jobs : Jobs). cond (closed || is_some lost) lost (first_number jobs) in
    record {
      own = λ e. absurd (cc e);
      ahead = λ e. absurd (cc e);
      begun = s.begun;
      lost = λ was on. elim (cases_Bool old) [
        | inl e ↦
            let l = s.lost (λ i. up i || e i) on in
            let none = s.nothing up e on in
            record { jobs = l.jobs; all = l.all; first = ap (note client.lost client.closed) none ∙ none_noted client.closed client.lost ∙ l.first }
        | inr e ↦
            let none = s.none (λ i. up i || e i) in
            record { jobs = left; all = s.own up e; first = λ i. note (none i) (on i) left }
      ];
      none = λ e. absurd (cc e);
      nothing = λ e. absurd (cc e);
      numbers = s.numbers;
      shut_is = s.shut_is;
      counted = s.counted;
      session = λ on. let session = s.session on in
          record { mode = session.mode; ended = session.ended; next = session.next; rest = session.rest };
    }

-- of values that are the same
pub stands_same : (client client_after : Client) (down old : Bool) (left done asked : Jobs) (text : Bytes) (shut : Bool) (left_after done_after asked_after : Jobs) (text_after : Bytes) (shut_after : Bool)
    → client_after ≡ client → left_after ≡ left → done_after ≡ done → asked_after ≡ asked → text_after ≡ text → shut_after ≡ shut
    → Stands client down old left done asked text shut → Stands client_after down old left_after done_after asked_after text_after shut_after
stands_same client client_after down old left done asked text shut left_after done_after asked_after text_after shut_after a b c d e f s =
    subst (λ (x : Client). Stands x down old left_after done_after asked_after text_after shut_after) (sym a)
    (subst (λ (x : Jobs). Stands client down old x done_after asked_after text_after shut_after) (sym b)
    (subst (λ (x : Jobs). Stands client down old left x asked_after text_after shut_after) (sym c)
    (subst (λ (x : Jobs). Stands client down old left done x text_after shut_after) (sym d)
    (subst (λ (x : Bytes). Stands client down old left done asked x shut_after) (sym e)
    (subst (λ (x : Bool). Stands client down old left done asked text x) (sym f) s)))))

-- the jobs that more bytes ask for
abbrev pub jobs_next : Connection → Client → ℕ → Bytes → Jobs
jobs_next c client time bytes = jobs_from c client.next (moment time) (asked_next client bytes).deeds

-- a feed
pub stands_fed : (c : Connection) (client : Client) (down old : Bool) (left done asked : Jobs) (text : Bytes) (shut : Bool) (time : ℕ) (bytes : Bytes)
    → down ≡ false → old ≡ false → client.ended ≡ false → client.closed ≡ false → Stands client down old left done asked text shut
    → Stands (fed_client client bytes) down old (left ++ jobs_next c client time bytes) done (asked ++ jobs_next c client time bytes) (text ++ bytes) shut
stands_fed c client down old left done asked text shut time bytes up new on unclosed s =
    let more = jobs_next c client time bytes in
    let deeds = (asked_next client bytes).deeds in
    let own : done ++ (left ++ more) ≡ asked ++ more = sym (append_assoc done left more) ∙ ap (λ (js : Jobs). js ++ more) (s.own up new) in
    let known : client.next ≡ 0 + length asked = sym (s.counted unclosed) ∙ omega arith in
    let going = session_fed client text bytes on (s.session unclosed) in
    record {
      own = λ e f. own;
      ahead = λ e. ([], append-nil (done ++ (left ++ more)) ∙ own);
      begun = (left ++ more, own);
      lost = λ was.
          let neither : (down || old) ≡ false = λ i. up i || new i in
          absurd (cc (was, neither));
      none = s.none;
      nothing = λ e back. absurd (cc (back, new));
      numbers = CountsFrom-append 0 asked more s.numbers (subst (λ (k : ℕ). CountsFrom k more) known (jobs_from-counts c client.next (moment time) deeds));
      shut_is = s.shut_is;
      counted = λ still. length-append asked more ∙ (λ i. s.counted unclosed i + length-jobs_from c client.next (moment time) deeds i);
      session = λ still. going.session;
    }

-- a close's job comes behind a front of what was asked for, in the place of the rest
record Closes (front asked : Jobs) (job : Option Item) : Type 0 where
  now : front ++ option_to_list job ≡ cut_by job asked
  counts : CountsFrom 0 (cut_by job asked)

-- a client that has lost nothing
abbrev whole : Client → Client
whole client = record client { lost = None }

close_whole : (c : Connection) (client : Client) (front dropped asked : Jobs) (time : ℕ) → front ++ dropped ≡ asked → CountsFrom 0 asked
    → length asked ≡ client.next → Closes front asked (close_job (whole client) c time dropped)
close_whole c client front dropped asked time was numbers counted =
    let none = client.ended && length dropped == 0 in
    let mine : Item = record { connection = c; number = close_number client.next dropped; moment = moment time; deed = End None } in
    let job = close_job (whole client) c time dropped in
    let counts : CountsFrom 0 (front ++ dropped) = subst (CountsFrom 0) (sym was) numbers in
    let long : length (front ++ dropped) ≡ client.next = ap length was ∙ counted in
    let now : front ++ option_to_list job ≡ cut_by job asked = cuts client.ended front dropped mine client.next counts long refl ∙ ap (cut_by job) was in
    record { now = now; counts = subst (CountsFrom 0) now (cut_counts none front dropped mine counts (number_is front dropped client.next counts long)) }

-- one that has lost jobs is closed as if it dropped them now
close_lost : (c : Connection) (client : Client) (time : ℕ) (jobs : Jobs) → client.lost ≡ first_number jobs
    → close_job client c time [] ≡ close_job (whole client) c time jobs
close_lost c client time [] e = λ i. close_job (record client { lost = e i }) c time []
close_lost c client time (x ∷ jobs) e =
    let mine : Item = record { connection = c; number = x.number; moment = moment time; deed = End None } in
    let some : (length (x ∷ jobs) == 0) ≡ false = ne_eqb (suc (length jobs)) 0 (λ z. absurd (omega (arith, z))) in
    (λ i. close_job (record client { lost = e i }) c time [])
    ∙ sym (ap (λ (b : Bool). cond b None (Some mine)) (and_right client.ended (length (x ∷ jobs) == 0) some))

-- a close, where the last of what is left over is dropped
pub stands_closed : (c : Connection) (client : Client) (down old : Bool) (kept dropped done asked : Jobs) (text : Bytes) (shut : Bool) (time : ℕ)
    → down ≡ false → client.closed ≡ false → Stands client down old (kept ++ dropped) done asked text shut
    → Stands (closed_client client) down old (kept ++ option_to_list (close_job client c time dropped)) done (cut_by (close_job client c time dropped) asked) text true
stands_closed c client down old kept dropped done asked text shut time up unclosed s =
    let job = close_job client c time dropped in
    let closes : Closes (done ++ kept) asked job =
    elim (cases_Bool old) [
      | inl e ↦
          let none = empty_parts kept dropped (s.nothing up e unclosed) in
          let l = s.lost (λ i. up i || e i) unclosed in
          let front : done ++ kept ≡ done = ap (λ (js : Jobs). done ++ js) none.0 ∙ append-nil done in
          let same : job ≡ close_job (whole client) c time l.jobs = ap (close_job client c time) none.1 ∙ close_lost c client time l.jobs l.first in
          subst (λ (js : Jobs). Closes js asked job) (sym front)
          (subst (Closes done asked) (sym same) (close_whole c client done l.jobs asked time l.all s.numbers (s.counted unclosed)))
      | inr e ↦
          let none = s.none (λ i. up i || e i) in
          let same : job ≡ close_job (whole client) c time dropped = λ i. close_job (record client { lost = none i }) c time dropped in
          subst (Closes (done ++ kept) asked) (sym same)
          (close_whole c client (done ++ kept) dropped asked time (append_assoc done kept dropped ∙ s.own up e) s.numbers (s.counted unclosed))
    ] in
    let own : done ++ (kept ++ option_to_list job) ≡ cut_by job asked = sym (append_assoc done kept (option_to_list job)) ∙ closes.now in
    record {
      own = λ e new. own;
      ahead = λ e. ([], append-nil (done ++ (kept ++ option_to_list job)) ∙ own);
      begun = (kept ++ option_to_list job, own);
      lost = λ was still. absurd (cc still);
      none = λ going. refl;
      nothing = λ e back still. absurd (cc still);
      numbers = closes.counts;
      shut_is = refl;
      counted = λ still. absurd (cc still);
      session = λ still. absurd (cc still);
    }

-- its node comes back, where nothing of it is left over
pub stands_revived : (client : Client) (old back : Bool) (left done asked : Jobs) (text : Bytes) (shut : Bool) (left_after : Jobs) → left_after ≡ []
    → back ≡ true → Stands client true old left done asked text shut → Stands client false back left_after done asked text shut
stands_revived client old back left done asked text shut left_after none is s =
    let all : done ++ left_after ≡ done = ap (λ (js : Jobs). done ++ js) none ∙ append-nil done in
    record {
      own = λ up new. absurd (cc (new, is));
      ahead = λ up. subst (λ (js : Jobs). IsBeginningOf js asked) (sym all) s.begun;
      begun = s.begun;
      lost = λ was on. s.lost refl on;
      none = λ going. absurd (cc (going, is));
      nothing = λ up was on. none;
      numbers = s.numbers;
      shut_is = s.shut_is;
      counted = s.counted;
      session = s.session;
    }
