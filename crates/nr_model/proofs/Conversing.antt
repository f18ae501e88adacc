-- Conversations: cut anywhere, transactions read back, and what is held.
use Rattle.std.proofs.Common.{◌≡◌, ℕ, suc, ◌+◌, ◌≤◌, Bool, true, false, cond, inl, inr, List, [], ◌∷◌, ◌++◌, length, map, refl, ap, sym, ◌∙◌, subst, append_assoc, append-nil, arith}
use Rattle.std.specs.Prelude.{◌⊎◌, ◌||◌, filter, flat_map, fold, Option, Some, None, unwrap_or}
use Rattle.std.specs.List.{list_any}
use Rattle.std.specs.FinMap as finmap
use Rattle.nr_model.specs.Bytes.{Bytes}
use Rattle.nr_model.specs.Requests.{Frame}
use Rattle.nr_model.specs.declared.fault.Fault.{Fault}
use Rattle.nr_model.specs.declared.command.Command.{Command}
use Rattle.nr_model.specs.declared.command.Command.TheVariants.{Perform, Session}
use Rattle.nr_model.specs.declared.command.Operation.TheVariants.{Look, Change}
use Rattle.nr_model.specs.declared.command.Look.TheVariants as looks
use Rattle.nr_model.specs.declared.command.ServerLook.TheVariants.{Ping, Echo, Time, DbSize}
use Rattle.nr_model.specs.declared.command.Session.TheVariants.{Multi, Exec, Discard, Watch, Unwatch, Quit, Subscribe, Unsubscribe, Publish, Pubsub}
use Rattle.nr_model.specs.Names.{Held, holding_none}
use Rattle.nr_model.specs.Items.{Connection, connection_cmp, same_connection, Call, Deed, Run, Abort, Item, Sequence, is_end}
use Rattle.nr_model.specs.Modes.{Transaction, Mode, plain, is_subscribed, Reading, Unknown, WrongArity, Known, reading, Answer, answer, reading_answer, known_answer, when_subscribed, by_itself, in_transaction, unsubscribed_answer, Conversation, conversation, first_deed, last_deed}
use Rattle.nr_model.specs.Conversations.{followed_by, with_answer, command_closes, closes, command_queued, queued_by, command_spoils, spoils, begins, IsOpen, own_deeds, ConversationLaw}
use Rattle.nr_model.specs.Servers.{Server, fresh, held_in, stepped, after_all}
use Rattle.nr_model.proofs.Ordered.{or_false, or_true, or_assoc}
use Rattle.nr_model.proofs.Subscribed.{own_deed, held-deed, same-is}
use Rattle.nr_model.proofs.Serving.{server_is_redis}

-- A conversation in two parts.
abbrev first_by : Bool → Answer → Conversation → Conversation
first_by ends a more = cond ends (record { deeds = a.deed ∷ []; mode = a.mode; ended = true }) (record { deeds = a.deed ∷ more.deeds; mode = more.mode; ended = more.ended })

join_fields : (a : Answer) (deeds : List Deed) (mode : Mode) (ended : Bool) (more : Conversation)
    → first_by false a (followed_by (record { deeds = deeds; mode = mode; ended = ended }) more) ≡ followed_by (first_by false a (record { deeds = deeds; mode = mode; ended = ended })) more
join_fields a deeds mode true more = refl
join_fields a deeds mode false more = refl

join_first : (ends : Bool) (a : Answer) (c : Conversation) (more : Mode → Conversation) → first_by ends a (followed_by c (more c.mode)) ≡ followed_by (first_by ends a c) (more (first_by ends a c).mode)
join_first true a c more = refl
join_first false a c more = join_fields a c.deeds c.mode c.ended (more c.mode)

pub joined : (table : List Command) (mode : Mode) (frames more : List Frame) (fault : Option Fault)
    → conversation table mode (frames ++ more) fault ≡ followed_by (conversation table mode frames None) (conversation table (conversation table mode frames None).mode more fault)
joined table mode [] more fault = refl
joined table mode (frame ∷ frames) more fault =
    let a = answer table mode frame in
    ap (first_deed a) (joined table a.mode frames more fault)
    ∙ join_first (is_end a.deed) a (conversation table a.mode frames None) (λ m. conversation table m more fault)

-- A transaction, request by request.
abbrev within : Transaction → Held → Mode
within t h = record { transaction = Some t; held = h }

abbrev outside : Held → Mode
outside h = record { transaction = None; held = h }

abbrev extended : Transaction → Reading → Transaction
extended t r = record { queued = t.queued ++ queued_by r; spoiled = t.spoiled || spoils r }

abbrev begun : Transaction
begun = record { queued = []; spoiled = false }

as_it_was : (t : Transaction) (h : Held) → within t h ≡ within (record { queued = t.queued ++ []; spoiled = t.spoiled || false }) h
as_it_was t h = λ i. record { transaction = Some (record { queued = (sym (append-nil t.queued)) i; spoiled = (sym (or_false t.spoiled)) i }); held = h }

unspoiled : (t : Transaction) (calls : List Call) (h : Held) → within (record { queued = t.queued ++ calls; spoiled = t.spoiled }) h ≡ within (record { queued = t.queued ++ calls; spoiled = t.spoiled || false }) h
unspoiled t calls h = λ i. record { transaction = Some (record { queued = t.queued ++ calls; spoiled = (sym (or_false t.spoiled)) i }); held = h }

now_spoiled : (t : Transaction) (h : Held) → within (record { queued = t.queued; spoiled = true }) h ≡ within (record { queued = t.queued ++ []; spoiled = t.spoiled || true }) h
now_spoiled t h = λ i. record { transaction = Some (record { queued = (sym (append-nil t.queued)) i; spoiled = (sym (or_true t.spoiled)) i }); held = h }

-- either it closes the transaction, or it is added to it
abbrev Closing : Bool → Answer → Type 0
Closing closing a = (closing ≡ true) × ((a.mode.transaction ≡ None) ⊎ (is_end a.deed ≡ true))

abbrev Adding : Bool → Answer → Transaction → Held → Type 0
Adding closing a t h = (closing ≡ false) × (a.mode ≡ within t h) × (is_end a.deed ≡ false)

executed : (t : Transaction) (h : Held) (call : Call) (b : Bool) → t.spoiled ≡ b → is_end (in_transaction (Session Exec) call t (within t h)).deed ≡ false
executed t h call true e = rw e refl
executed t h call false e = rw e refl

command_in : (command : Command) (call : Call) (t : Transaction) (h : Held)
    → Closing (command_closes command) (in_transaction command call t (within t h))
    ⊎ Adding (command_closes command) (in_transaction command call t (within t h)) (record { queued = t.queued ++ command_queued command call; spoiled = t.spoiled || command_spoils command }) h
command_in (Session Multi) call t h = inr (refl, as_it_was t h, refl)
command_in (Session Watch) call t h = inr (refl, as_it_was t h, refl)
command_in (Session Exec) call t h = inl (refl, inl refl)
command_in (Session Discard) call t h = inl (refl, inl refl)
command_in (Session Quit) call t h = inl (refl, inr refl)
command_in (Session (Subscribe kind)) call t h = inr (refl, now_spoiled t h, refl)
command_in (Session (Unsubscribe kind)) call t h = inr (refl, now_spoiled t h, refl)
command_in (Session Unwatch) call t h = inr (refl, unspoiled t (call ∷ []) h, refl)
command_in (Session Publish) call t h = inr (refl, unspoiled t (call ∷ []) h, refl)
command_in (Session Pubsub) call t h = inr (refl, unspoiled t (call ∷ []) h, refl)
command_in (Perform operation) call t h = inr (refl, unspoiled t (call ∷ []) h, refl)

open_step : (r : Reading) (t : Transaction) (h : Held) → is_subscribed (outside h) ≡ false
    → Closing (closes r) (reading_answer r (within t h)) ⊎ Adding (closes r) (reading_answer r (within t h)) (extended t r) h
open_step (Unknown name) t h un = inr (refl, now_spoiled t h, refl)
open_step (WrongArity command) t h un = inr (refl, now_spoiled t h, refl)
open_step (Known call) t h un =
    let known : known_answer call (within t h) ≡ in_transaction call.command call t (within t h) =
    ap (λ b. cond b (when_subscribed call.command call (within t h)) (in_transaction call.command call t (within t h))) un in
    subst (λ (a : Answer). Closing (command_closes call.command) a
    ⊎ Adding (command_closes call.command) a (record { queued = t.queued ++ command_queued call.command call; spoiled = t.spoiled || command_spoils call.command }) h)
    (sym known) (command_in call.command call t h)

-- outside of one: MULTI begins it, and nothing else does
abbrev Begins : Answer → Command → Held → Type 0
Begins a command h = (command ≡ Session Multi) × (a.mode ≡ within begun h) × (is_end a.deed ≡ false)

command_out : (command : Command) (call : Call) (h : Held) → ((by_itself command call (outside h)).mode.transaction ≡ None) ⊎ Begins (by_itself command call (outside h)) command h
command_out (Session Multi) call h = inr (refl, refl, refl)
command_out (Session Watch) call h = inl refl
command_out (Session Exec) call h = inl refl
command_out (Session Discard) call h = inl refl
command_out (Session Quit) call h = inl refl
command_out (Session (Subscribe kind)) call h = inl refl
command_out (Session (Unsubscribe kind)) call h = inl refl
command_out (Session Unwatch) call h = inl refl
command_out (Session Publish) call h = inl refl
command_out (Session Pubsub) call h = inl refl
command_out (Perform operation) call h = inl refl

command_subscribed : (command : Command) (call : Call) (h : Held) → (when_subscribed command call (outside h)).mode.transaction ≡ None
command_subscribed (Session Multi) call h = refl
command_subscribed (Session Watch) call h = refl
command_subscribed (Session Exec) call h = refl
command_subscribed (Session Discard) call h = refl
command_subscribed (Session Quit) call h = refl
command_subscribed (Session (Subscribe kind)) call h = refl
command_subscribed (Session (Unsubscribe kind)) call h = refl
command_subscribed (Session Unwatch) call h = refl
command_subscribed (Session Publish) call h = refl
command_subscribed (Session Pubsub) call h = refl
command_subscribed (Perform (Look (looks.Server Ping))) call h = refl
command_subscribed (Perform (Look (looks.Server Echo))) call h = refl
command_subscribed (Perform (Look (looks.Server Time))) call h = refl
command_subscribed (Perform (Look (looks.Server DbSize))) call h = refl
command_subscribed (Perform (Look (looks.Keys command))) call h = refl
command_subscribed (Perform (Look (looks.Strings command))) call h = refl
command_subscribed (Perform (Look (looks.Lists command))) call h = refl
command_subscribed (Perform (Look (looks.Hashes command))) call h = refl
command_subscribed (Perform (Look (looks.Sets command))) call h = refl
command_subscribed (Perform (Look (looks.SortedSets command))) call h = refl
command_subscribed (Perform (Change command)) call h = refl

abbrev Beginning : Reading → Held → Type 0
Beginning r h = begins r (outside h) × ((reading_answer r (outside h)).mode ≡ within begun h) × (is_end (reading_answer r (outside h)).deed ≡ false)

known_out : (call : Call) (h : Held) (b : Bool) → is_subscribed (outside h) ≡ b → ((known_answer call (outside h)).mode.transaction ≡ None) ⊎ Beginning (Known call) h
known_out call h true e =
    inl (ap (λ b. (cond b (when_subscribed call.command call (outside h)) (by_itself call.command call (outside h))).mode.transaction) e ∙ command_subscribed call.command call h)
known_out call h false e =
    let known : known_answer call (outside h) ≡ by_itself call.command call (outside h) =
    ap (λ b. cond b (when_subscribed call.command call (outside h)) (by_itself call.command call (outside h))) e in
    elim (command_out call.command call h) [
      | inl none ↦ inl (ap (λ (a : Answer). a.mode.transaction) known ∙ none)
      | inr is ↦ inr ((call, refl, is.0, refl, e), ap (λ (a : Answer). a.mode) known ∙ is.1, ap (λ (a : Answer). is_end a.deed) known ∙ is.2)
    ]

closed_step : (r : Reading) (h : Held) → ((reading_answer r (outside h)).mode.transaction ≡ None) ⊎ Beginning r h
closed_step (Unknown name) h = inl refl
closed_step (WrongArity command) h = inl refl
closed_step (Known call) h = known_out call h (is_subscribed (outside h)) refl

-- Requests behind an open transaction.
abbrev extended_by : List Command → Transaction → List Frame → Transaction
extended_by table t frames =
    record {
      queued = t.queued ++ flat_map (λ frame. queued_by (reading table frame)) frames;
      spoiled = t.spoiled || list_any (λ frame. spoils (reading table frame)) frames;
    }

extended_first : (table : List Command) (t : Transaction) (frame : Frame) (frames : List Frame) → extended_by table (extended t (reading table frame)) frames ≡ extended_by table t (frame ∷ frames)
extended_first table t frame frames =
    let r = reading table frame in
    λ i. record {
      queued = append_assoc t.queued (queued_by r) (flat_map (λ frame. queued_by (reading table frame)) frames) i;
      spoiled = or_assoc t.spoiled (spoils r) (list_any (λ frame. spoils (reading table frame)) frames) i;
    }

extended_none : (table : List Command) (t : Transaction) → extended_by table t [] ≡ t
extended_none table t = λ i. record { queued = append-nil t.queued i; spoiled = or_false t.spoiled i }

-- the first request goes on
goes_on : (table : List Command) (mode : Mode) (frame : Frame) (frames : List Frame) → is_end (answer table mode frame).deed ≡ false
    → ((conversation table mode (frame ∷ frames) None).mode ≡ (conversation table (answer table mode frame).mode frames None).mode)
    × ((conversation table mode (frame ∷ frames) None).ended ≡ (conversation table (answer table mode frame).mode frames None).ended)
goes_on table mode frame frames e =
    let a = answer table mode frame in
    let more = conversation table a.mode frames None in
    (ap (λ b. (first_by b a more).mode) e, ap (λ b. (first_by b a more).ended) e)

by_end : (b : Bool) (a : Answer) (more : Conversation) → (first_by b a more).ended ≡ false → b ≡ false
by_end true a more e = absurd (cc)
by_end false a more e = refl

not_ended : (table : List Command) (mode : Mode) (frame : Frame) (frames : List Frame) → (conversation table mode (frame ∷ frames) None).ended ≡ false → is_end (answer table mode frame).deed ≡ false
not_ended table mode frame frames e =
    let a = answer table mode frame in
    let more = conversation table a.mode frames None in
    by_end (is_end a.deed) a more e

-- what a conversation asked for stays first, whatever follows
followed_begins : (deeds : List Deed) (mode : Mode) (ended : Bool) (more : Conversation)
    → (left : List Deed) × (deeds ++ left ≡ (followed_by (record { deeds = deeds; mode = mode; ended = ended }) more).deeds)
followed_begins deeds mode true more = ([], append-nil deeds)
followed_begins deeds mode false more = (more.deeds, refl)

pub deeds_begin : (table : List Command) (mode : Mode) (frames more : List Frame) (fault : Option Fault)
    → (left : List Deed) × ((conversation table mode frames None).deeds ++ left ≡ (conversation table mode (frames ++ more) fault).deeds)
deeds_begin table mode frames more fault =
    let c = conversation table mode frames None in
    let begun = followed_begins c.deeds c.mode c.ended (conversation table c.mode more fault) in
    (begun.0, begun.1 ∙ sym (ap (λ (x : Conversation). x.deeds) (joined table mode frames more fault)))

-- while it goes on, both parts count; behind an end nothing does
abbrev pub together : Conversation → Conversation → Conversation
together c more = record { deeds = c.deeds ++ more.deeds; mode = more.mode; ended = more.ended }

pub joined_on : (table : List Command) (mode : Mode) (frames more : List Frame) (fault : Option Fault) → (conversation table mode frames None).ended ≡ false
    → conversation table mode (frames ++ more) fault
    ≡ together (conversation table mode frames None) (conversation table (conversation table mode frames None).mode more fault)
joined_on table mode frames more fault on =
    let c = conversation table mode frames None in
    joined table mode frames more fault ∙ ap (λ b. cond b c (together c (conversation table c.mode more fault))) on

pub joined_over : (table : List Command) (mode : Mode) (frames more : List Frame) (fault : Option Fault) → (conversation table mode frames None).ended ≡ true
    → conversation table mode (frames ++ more) fault ≡ conversation table mode frames None
joined_over table mode frames more fault over =
    let c = conversation table mode frames None in
    joined table mode frames more fault ∙ ap (λ b. cond b c (together c (conversation table c.mode more fault))) over

-- a fault ends it
first_ends : (b : Bool) (a : Answer) (more : Conversation) → more.ended ≡ true → (first_by b a more).ended ≡ true
first_ends true a more e = refl
first_ends false a more e = e

pub fault_ends : (table : List Command) (mode : Mode) (frames : List Frame) (fault : Fault) → (conversation table mode frames (Some fault)).ended ≡ true
fault_ends table mode [] fault = refl
fault_ends table mode (frame ∷ frames) fault =
    let a = answer table mode frame in
    first_ends (is_end a.deed) a (conversation table a.mode frames (Some fault)) (fault_ends table a.mode frames fault)

-- so one that goes on stands under none
pub no_fault : (table : List Command) (mode : Mode) (frames : List Frame) (fault : Option Fault) → (conversation table mode frames fault).ended ≡ false → fault ≡ None
no_fault table mode frames None on = refl
no_fault table mode frames (Some fault) on = absurd (cc (on, fault_ends table mode frames fault))

-- one request more
one_by : (b : Bool) (c : Conversation) (a : Answer)
    → together c (first_by b a (record { deeds = []; mode = a.mode; ended = false })) ≡ record { deeds = c.deeds ++ a.deed ∷ []; mode = a.mode; ended = b }
one_by true c a = refl
one_by false c a = refl

pub one_further : (table : List Command) (mode : Mode) (frames : List Frame) (frame : Frame) → (conversation table mode frames None).ended ≡ false
    → conversation table mode (frames ++ frame ∷ []) None
    ≡ with_answer (conversation table mode frames None) (answer table (conversation table mode frames None).mode frame)
one_further table mode frames frame on =
    let c = conversation table mode frames None in
    let a = answer table c.mode frame in
    joined_on table mode frames (frame ∷ []) None on ∙ one_by (is_end a.deed) c a

-- the first of the requests that are left
further_by : (b : Bool) (deeds : List Deed) (a : Answer) (more : Conversation)
    → together (record { deeds = deeds; mode = a.mode; ended = false }) (first_by b a more)
    ≡ followed_by (record { deeds = deeds ++ a.deed ∷ []; mode = a.mode; ended = b }) more
further_by true deeds a more = refl
further_by false deeds a more = λ i. record { deeds = sym (append_assoc deeds (a.deed ∷ []) more.deeds) i; mode = more.mode; ended = more.ended }

pub first_further : (table : List Command) (c : Conversation) (frame : Frame) (frames : List Frame) (fault : Option Fault) → c.ended ≡ false
    → followed_by c (conversation table c.mode (frame ∷ frames) fault)
    ≡ followed_by (with_answer c (answer table c.mode frame)) (conversation table (answer table c.mode frame).mode frames fault)
first_further table c frame frames fault on =
    let a = answer table c.mode frame in
    let more = conversation table a.mode frames fault in
    ap (λ b. cond b c (together c (first_by (is_end a.deed) a more))) on ∙ further_by (is_end a.deed) c.deeds a more

-- how many deeds
pub deeds_count : (table : List Command) (mode : Mode) (frames : List Frame) → (conversation table mode frames None).ended ≡ false
    → length (conversation table mode frames None).deeds ≡ length frames
deeds_count table mode [] on = refl
deeds_count table mode (frame ∷ frames) on =
    let a = answer table mode frame in
    let more = conversation table a.mode frames None in
    let e = not_ended table mode frame frames on in
    let next = goes_on table mode frame frames e in
    ap (λ b. length (first_by b a more).deeds) e ∙ ap suc (deeds_count table a.mode frames (sym next.1 ∙ on))

last_mode : (fault : Option Fault) (mode other : Mode) → length (last_deed fault mode).deeds ≡ length (last_deed fault other).deeds
last_mode None mode other = refl
last_mode (Some fault) mode other = refl

pub last_at_most : (fault : Option Fault) (mode : Mode) → length (last_deed fault mode).deeds ≤ 1
last_at_most None mode = omega arith
last_at_most (Some fault) mode = omega arith

first_most : (b : Bool) (a : Answer) (more : Conversation) (n : ℕ) → length more.deeds ≤ n → length (first_by b a more).deeds ≤ suc n
first_most true a more n h = omega arith
first_most false a more n h = omega (arith, h)

pub deeds_at_most : (table : List Command) (mode : Mode) (frames : List Frame) (fault : Option Fault)
    → length (conversation table mode frames fault).deeds ≤ length frames + length (last_deed fault mode).deeds
deeds_at_most table mode [] fault = omega arith
deeds_at_most table mode (frame ∷ frames) fault =
    let a = answer table mode frame in
    let more = conversation table a.mode frames fault in
    let n = length frames + length (last_deed fault mode).deeds in
    let fewer : length more.deeds ≤ n =
    subst (λ k. length more.deeds ≤ length frames + k) (last_mode fault a.mode mode) (deeds_at_most table a.mode frames fault) in
    let most : length (first_by (is_end a.deed) a more).deeds ≤ suc n = first_most (is_end a.deed) a more n fewer in
    omega (arith, most)

-- requests that close no transaction
along : (table : List Command) (frames : List Frame) (t : Transaction) (h : Held) → is_subscribed (outside h) ≡ false → list_any (λ frame. closes (reading table frame)) frames ≡ false
    → (conversation table (within t h) frames None).mode ≡ within (extended_by table t frames) h
along table [] t h un none = λ i. within (sym (extended_none table t) i) h
along table (frame ∷ frames) t h un none =
    let r = reading table frame in
    elim (open_step r t h un) [
      | inl closing ↦ absurd (cc (closing.0, none))
      | inr adding ↦
          (goes_on table (within t h) frame frames adding.2).0
          ∙ ap (λ m. (conversation table m frames None).mode) adding.1
          ∙ along table frames (extended t r) h un (sym (ap (λ b. b || list_any (λ frame. closes (reading table frame)) frames) adding.0) ∙ none)
          ∙ (λ i. within (extended_first table t frame frames i) h)
    ]

-- a transaction that was begun behind requests, in any mode
record OpenFrom (table : List Command) (mode : Mode) (frames : List Frame) (t : Transaction) : Type 0 where
  front : List Frame
  multi : Frame
  since : List Frame
  parts : frames ≡ front ++ multi ∷ since
  begun : begins (reading table multi) (conversation table mode front None).mode
  open_since : list_any (λ frame. closes (reading table frame)) since ≡ false
  queued : t.queued ≡ flat_map (λ frame. queued_by (reading table frame)) since
  spoiled : t.spoiled ≡ list_any (λ frame. spoils (reading table frame)) since

-- or it was open before
abbrev OpenSince : List Command → Option Transaction → List Frame → Transaction → Type 0
OpenSince table o frames t = (first : Transaction) × (o ≡ Some first) × (list_any (λ frame. closes (reading table frame)) frames ≡ false) × (t ≡ extended_by table first frames)

one_before : (table : List Command) (mode : Mode) (frame : Frame) (frames : List Frame) (t : Transaction) → is_end (answer table mode frame).deed ≡ false
    → OpenFrom table (answer table mode frame).mode frames t → OpenFrom table mode (frame ∷ frames) t
one_before table mode frame frames t e o = record {
  front = frame ∷ o.front;
  multi = o.multi;
  since = o.since;
  parts = ap (λ fs. frame ∷ fs) o.parts;
  begun = subst (begins (reading table o.multi)) (sym (goes_on table mode frame o.front e).0) o.begun;
  open_since = o.open_since;
  queued = o.queued;
  spoiled = o.spoiled;
}

same_transaction : (s t : Transaction) → Some s ≡ Some t → s ≡ t
same_transaction s t e = ap (λ o. unwrap_or o s) e

opened_here : (table : List Command) (h : Held) (frame : Frame) (frames : List Frame) (t first : Transaction) → begins (reading table frame) (outside h)
    → begun ≡ first → list_any (λ frame. closes (reading table frame)) frames ≡ false → t ≡ extended_by table first frames → OpenFrom table (outside h) (frame ∷ frames) t
opened_here table h frame frames t first b is none e = record {
  front = [];
  multi = frame;
  since = frames;
  parts = refl;
  begun = b;
  open_since = none;
  queued = ap (λ (x : Transaction). x.queued) (e ∙ ap (λ x. extended_by table x frames) (sym is));
  spoiled = ap (λ (x : Transaction). x.spoiled) (e ∙ ap (λ x. extended_by table x frames) (sym is));
}

abbrev Fits : Option Transaction → Held → Type 0
Fits o h = (t : Transaction) → o ≡ Some t → is_subscribed (outside h) ≡ false

read_back : (table : List Command) (frames : List Frame) (o : Option Transaction) (h : Held) (t : Transaction) → Fits o h
    → (conversation table (record { transaction = o; held = h }) frames None).ended ≡ false → (conversation table (record { transaction = o; held = h }) frames None).mode.transaction ≡ Some t
    → OpenSince table o frames t ⊎ OpenFrom table (record { transaction = o; held = h }) frames t
read_back table [] o h t fits on is = inl (t, is, refl, sym (extended_none table t))
read_back table (frame ∷ frames) None h t fits on is =
    let mode = outside h in
    let a = answer table mode frame in
    let e = not_ended table mode frame frames on in
    let next = goes_on table mode frame frames e in
    elim (closed_step (reading table frame) h) [
      | inl none ↦
          elim (read_back table frames a.mode.transaction a.mode.held t (λ x k. absurd (cc (none, k))) (sym next.1 ∙ on) (sym (ap (λ (m : Mode). m.transaction) next.0) ∙ is)) [
            | inl before ↦ absurd (cc (none, before.1))
            | inr from ↦ inr (one_before table mode frame frames t e from)
          ]
      | inr b ↦
          elim (read_back table frames (Some begun) h t (λ x k. b.0.4)
          (sym (ap (λ m. (conversation table m frames None).ended) b.1) ∙ sym next.1 ∙ on)
          (sym (ap (λ m. (conversation table m frames None).mode.transaction) b.1) ∙ sym (ap (λ (m : Mode). m.transaction) next.0) ∙ is)) [
            | inl before ↦ inr (opened_here table h frame frames t before.0 b.0 (same_transaction begun before.0 before.1) before.2 before.3)
            | inr from ↦ inr (one_before table mode frame frames t e (subst (λ m. OpenFrom table m frames t) (sym b.1) from))
          ]
    ]
read_back table (frame ∷ frames) (Some first) h t fits on is =
    let mode = within first h in
    let r = reading table frame in
    let a = answer table mode frame in
    let e = not_ended table mode frame frames on in
    let next = goes_on table mode frame frames e in
    elim (open_step r first h (fits first refl)) [
      | inl closing ↦
          elim closing.1 [
            | inl none ↦
                elim (read_back table frames a.mode.transaction a.mode.held t (λ x k. absurd (cc (none, k))) (sym next.1 ∙ on) (sym (ap (λ (m : Mode). m.transaction) next.0) ∙ is)) [
                  | inl before ↦ absurd (cc (none, before.1))
                  | inr from ↦ inr (one_before table mode frame frames t e from)
                ]
            | inr ends ↦ absurd (cc (ends, e))
          ]
      | inr adding ↦
          elim (read_back table frames (Some (extended first r)) h t (λ x k. fits first refl)
          (sym (ap (λ m. (conversation table m frames None).ended) adding.1) ∙ sym next.1 ∙ on)
          (sym (ap (λ m. (conversation table m frames None).mode.transaction) adding.1) ∙ sym (ap (λ (m : Mode). m.transaction) next.0) ∙ is)) [
            | inl before ↦
                inl (
                  first,
                  refl,
                  ap (λ b. b || list_any (λ frame. closes (reading table frame)) frames) adding.0 ∙ before.2,
                  before.3 ∙ ap (λ x. extended_by table x frames) (sym (same_transaction (extended first r) before.0 before.1)) ∙ extended_first table first frame frames,
                )
            | inr from ↦ inr (one_before table mode frame frames t e (subst (λ m. OpenFrom table m frames t) (sym adding.1) from))
          ]
    ]

-- Both ways.
opened : (table : List Command) (frames : List Frame) (t : Transaction) → (conversation table plain frames None).ended ≡ false → (conversation table plain frames None).mode.transaction ≡ Some t
    → IsOpen table frames t
opened table frames t on is =
    elim (read_back table frames None holding_none t (λ x k. refl) on is) [
      | inl before ↦ absurd (cc before.1)
      | inr from ↦
          record {
            front = from.front;
            multi = from.multi;
            since = from.since;
            parts = from.parts;
            begun = from.begun;
            open_since = from.open_since;
            queued = from.queued;
            spoiled = from.spoiled;
          }
    ]

followed_on : (deeds : List Deed) (mode : Mode) (ended : Bool) (more : Conversation) → (followed_by (record { deeds = deeds; mode = mode; ended = ended }) more).ended ≡ false
    → (followed_by (record { deeds = deeds; mode = mode; ended = ended }) more).mode ≡ more.mode
followed_on deeds mode true more e = absurd (cc)
followed_on deeds mode false more e = refl

begins_mode : (r : Reading) (mode : Mode) → begins r mode → ((reading_answer r mode).mode ≡ within begun mode.held) × (is_end (reading_answer r mode).deed ≡ false)
begins_mode r mode b =
    let call = b.0 in
    let known : reading_answer r mode ≡ by_itself (Session Multi) call mode =
    ap (λ x. reading_answer x mode) b.1
    ∙ ap (λ s. cond s (when_subscribed call.command call mode) (unsubscribed_answer mode.transaction call mode)) b.4
    ∙ ap (λ o. unsubscribed_answer o call mode) b.3
    ∙ ap (λ command. by_itself command call mode) b.2 in
    (ap (λ (a : Answer). a.mode) known, ap (λ (a : Answer). is_end a.deed) known)

opens : (table : List Command) (frames : List Frame) (t : Transaction) → (conversation table plain frames None).ended ≡ false → IsOpen table frames t
    → (conversation table plain frames None).mode.transaction ≡ Some t
opens table frames t on o =
    let before = conversation table plain o.front None in
    let whole : conversation table plain frames None ≡ followed_by before (conversation table before.mode (o.multi ∷ o.since) None) =
    ap (λ fs. conversation table plain fs None) o.parts ∙ joined table plain o.front (o.multi ∷ o.since) None in
    let behind = followed_on before.deeds before.mode before.ended (conversation table before.mode (o.multi ∷ o.since) None) (sym (ap (λ (c : Conversation). c.ended) whole) ∙ on) in
    let first = begins_mode (reading table o.multi) before.mode o.begun in
    let whole_mode : (conversation table plain frames None).mode ≡ within (extended_by table begun o.since) before.mode.held =
    ap (λ (c : Conversation). c.mode) whole
    ∙ behind
    ∙ (goes_on table before.mode o.multi o.since first.1).0
    ∙ ap (λ m. (conversation table m o.since None).mode) first.0
    ∙ along table o.since begun before.mode.held o.begun.4 o.open_since in
    ap (λ (m : Mode). m.transaction) whole_mode ∙ (λ i. Some (record { queued = sym o.queued i; spoiled = sym o.spoiled i }))

-- What is held, deed by deed.
abbrev of : Command → List Bytes → Call
of command words = record { command = command; words = words }

abbrev Holds : Answer → Held → Type 0
Holds a h = is_end a.deed ≡ false → a.mode.held ≡ own_deed a.deed h

run_holds : (b : Bool) (calls : List Call) (h : Held) → h ≡ own_deed (cond b Abort (Run calls)) h
run_holds true calls h = refl
run_holds false calls h = refl

held_inside : (command : Command) (words : List Bytes) (t : Transaction) (mode : Mode) → Holds (in_transaction command (of command words) t mode) mode.held
held_inside (Session Multi) words t mode e = refl
held_inside (Session Watch) words t mode e = refl
held_inside (Session Exec) words t mode e = run_holds t.spoiled t.queued mode.held
held_inside (Session Discard) words t mode e = refl
held_inside (Session Quit) words t mode e = absurd (cc)
held_inside (Session (Subscribe kind)) words t mode e = refl
held_inside (Session (Unsubscribe kind)) words t mode e = refl
held_inside (Session Unwatch) words t mode e = refl
held_inside (Session Publish) words t mode e = refl
held_inside (Session Pubsub) words t mode e = refl
held_inside (Perform operation) words t mode e = refl

held_outside : (command : Command) (words : List Bytes) (mode : Mode) → Holds (by_itself command (of command words) mode) mode.held
held_outside (Session Multi) words mode e = refl
held_outside (Session Watch) words mode e = refl
held_outside (Session Exec) words mode e = refl
held_outside (Session Discard) words mode e = refl
held_outside (Session Quit) words mode e = absurd (cc)
held_outside (Session (Subscribe kind)) words mode e = refl
held_outside (Session (Unsubscribe kind)) words mode e = refl
held_outside (Session Unwatch) words mode e = refl
held_outside (Session Publish) words mode e = refl
held_outside (Session Pubsub) words mode e = refl
held_outside (Perform operation) words mode e = refl

held_subscribed : (command : Command) (words : List Bytes) (mode : Mode) → Holds (when_subscribed command (of command words) mode) mode.held
held_subscribed (Session Multi) words mode e = refl
held_subscribed (Session Watch) words mode e = refl
held_subscribed (Session Exec) words mode e = refl
held_subscribed (Session Discard) words mode e = refl
held_subscribed (Session Quit) words mode e = absurd (cc)
held_subscribed (Session (Subscribe kind)) words mode e = refl
held_subscribed (Session (Unsubscribe kind)) words mode e = refl
held_subscribed (Session Unwatch) words mode e = refl
held_subscribed (Session Publish) words mode e = refl
held_subscribed (Session Pubsub) words mode e = refl
held_subscribed (Perform (Look (looks.Server Ping))) words mode e = refl
held_subscribed (Perform (Look (looks.Server Echo))) words mode e = refl
held_subscribed (Perform (Look (looks.Server Time))) words mode e = refl
held_subscribed (Perform (Look (looks.Server DbSize))) words mode e = refl
held_subscribed (Perform (Look (looks.Keys command))) words mode e = refl
held_subscribed (Perform (Look (looks.Strings command))) words mode e = refl
held_subscribed (Perform (Look (looks.Lists command))) words mode e = refl
held_subscribed (Perform (Look (looks.Hashes command))) words mode e = refl
held_subscribed (Perform (Look (looks.Sets command))) words mode e = refl
held_subscribed (Perform (Look (looks.SortedSets command))) words mode e = refl
held_subscribed (Perform (Change command)) words mode e = refl

held_unsubscribed : (o : Option Transaction) (call : Call) (mode : Mode) → Holds (unsubscribed_answer o call mode) mode.held
held_unsubscribed None call mode = held_outside call.command call.words mode
held_unsubscribed (Some t) call mode = held_inside call.command call.words t mode

held_known : (b : Bool) (call : Call) (mode : Mode) → Holds (cond b (when_subscribed call.command call mode) (unsubscribed_answer mode.transaction call mode)) mode.held
held_known true call mode = held_subscribed call.command call.words mode
held_known false call mode = held_unsubscribed mode.transaction call mode

held_read : (r : Reading) (mode : Mode) → Holds (reading_answer r mode) mode.held
held_read (Unknown name) mode e = refl
held_read (WrongArity command) mode e = refl
held_read (Known call) mode e = held_known (is_subscribed mode) call mode e

abbrev held_by : Held → List Deed → Held
held_by h deeds = fold (λ x deed. own_deed deed x) h deeds

conversation_holds : (table : List Command) (mode : Mode) (frames : List Frame) → (conversation table mode frames None).ended ≡ false
    → (conversation table mode frames None).mode.held ≡ held_by mode.held (conversation table mode frames None).deeds
conversation_holds table mode [] on = refl
conversation_holds table mode (frame ∷ frames) on =
    let a = answer table mode frame in
    let more = conversation table a.mode frames None in
    let e = not_ended table mode frame frames on in
    let next = goes_on table mode frame frames e in
    ap (λ (m : Mode). m.held) next.0
    ∙ conversation_holds table a.mode frames (sym next.1 ∙ on)
    ∙ ap (λ h. held_by h more.deeds) (held_read (reading table frame) mode e)
    ∙ ap (λ b. held_by mode.held (first_by b a more).deeds) (sym e)

-- along a sequence
own_first : (b : Bool) (s : Server) (item : Item) (items : Sequence) (c : Connection) → same_connection item.connection c ≡ b
    → held_by (cond b (own_deed item.deed (held_in s.held item.connection)) (held_in s.held c)) (own_deeds c items)
    ≡ held_by (held_in s.held c) (map {A = Item} (λ (i : Item). i.deed) (cond b (item ∷ filter (λ (i : Item). same_connection i.connection c) items) (filter (λ (i : Item). same_connection i.connection c) items)))
own_first true s item items c e = ap (λ x. held_by (own_deed item.deed (held_in s.held x)) (own_deeds c items)) (same-is item.connection c e)
own_first false s item items c e = refl

sequence_holds : (s : Server) (items : Sequence) (c : Connection) → held_in (after_all s items).held c ≡ held_by (held_in s.held c) (own_deeds c items)
sequence_holds s [] c = refl
sequence_holds s (item ∷ items) c =
    sequence_holds (stepped s item) items c
    ∙ ap (λ h. held_by h (own_deeds c items)) (held-deed s.held item.connection c item.deed)
    ∙ own_first (same_connection item.connection c) s item items c refl

pub conversation_is : ConversationLaw
conversation_is = record {
  joins = λ table mode frames more fault. joined table mode frames more fault;
  one_more = λ table mode frames frame on. one_further table mode frames frame on;
  counts = λ table mode frames on. deeds_count table mode frames on;
  at_most = λ table mode frames fault. deeds_at_most table mode frames fault;
  transactions = λ table frames t on. (opened table frames t on, opens table frames t on);
  holds = λ table frames items c on same.
      server_is_redis.held items c
      ∙ sequence_holds fresh items c
      ∙ ap (λ h. held_by h (own_deeds c items)) (ap (λ o. unwrap_or o holding_none) (finmap.get-empty connection_cmp c))
      ∙ ap (held_by holding_none) same
      ∙ sym (conversation_holds table plain frames on);
}
