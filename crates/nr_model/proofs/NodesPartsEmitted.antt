-- What the sequential Redis emits for a node's connection along the node's part begins what it emits along the whole sequence.
use Rattle.std.proofs.Common.{◌≡◌, ℕ, zero, suc, ◌+◌, ◌≤◌, Bool, true, false, cond, inl, inr, List, [], ◌∷◌, ◌++◌, length, refl, ap, sym, ◌∙◌, subst, arith, append_assoc}
use Rattle.std.specs.Prelude.{◌==◌, flat_map, filter, slice_index_or}
use Rattle.std.specs.List.{AllByRecursion}
use Rattle.std.proofs.Common.{eqb}
use Rattle.std.proofs.lemmas.Bool.{cases_Bool, not-true, and_left, ne_eqb, eqb-false}
use Rattle.std.proofs.lemmas.List.{append-nil}
use Rattle.std.proofs.lemmas.List.Elements.{filter-append}
use Rattle.nr_model.specs.Bytes.{Bytes, IsBeginningOf}
use Rattle.nr_model.specs.Items.{Connection, same_connection, Call, Deed, Say, Act, Run, Abort, End, Item, Sequence, is_update}
use Rattle.nr_model.specs.declared.command.Command.{Command}
use Rattle.nr_model.specs.declared.command.Command.TheVariants.{Perform, Session}
use Rattle.nr_model.specs.declared.command.Operation.TheVariants.{Look, Change}
use Rattle.nr_model.specs.declared.command.Session.TheVariants as sessions
use Rattle.nr_model.specs.Sequential.Events.{Emission}
use Rattle.nr_model.specs.Sequential.{Found, Progress, start, done_by, acted, bytes_for, emitted_for}
use Rattle.nr_model.specs.Servers as servers
use Rattle.nr_model.specs.Servers.{Server, found_in, now_in, progress_in, stepped, emitted_in, after_all, emitted_all}
use Rattle.nr_model.specs.Entries.{Jobs, entry_items}
use Rattle.nr_model.specs.Nodes.{Taken, Entry, Reads, log_of, items_taken, part_from}
use Rattle.nr_model.proofs.Serving.{server_is_redis}
use Rattle.nr_model.proofs.Logged.{none_kept, AreReads}
use Rattle.nr_model.proofs.Emitted.{after_all-append, emitted_all-append, bytes_for-append, emitted_for-is, emitted_for-more, replies_to, to_others}
use Rattle.nr_model.proofs.NodesParts.{ReadsWithin, part_none, part_applied, within_later}

-- jobs of connections of a node
abbrev pub AreOfNode : ℕ → Jobs → Type 0
AreOfNode n jobs = AllByRecursion (λ (job : Item). job.connection.node ≡ n) jobs

-- what a look ran are reads, of connections of its node
abbrev pub IsRun : Taken → Type 0
IsRun (Entry n jobs) = Unit {0}
IsRun (Reads n count jobs) = AreReads jobs × AreOfNode n jobs

abbrev pub AreRun : List Taken → Type 0
AreRun taken = AllByRecursion IsRun taken

-- a connection of one node is none of another
pub of_another : (c d : Connection) → (c.node ≡ d.node → ⊥) → same_connection c d ≡ false
of_another c d apart = and_left (eqb c.node d.node) (eqb c.serial d.serial) (ne_eqb c.node d.node apart)

-- a read sends no message
command_sends : (found : Found) (now : ℕ) (command : Command) (call : Call) (p : Progress)
    → is_update (Act (record { command = command; words = call.words })) ≡ false → (acted found now command call p).messages ≡ p.messages
command_sends found now (Perform (Look command)) call p h = refl
command_sends found now (Perform (Change command)) call p h = absurd (cc)
command_sends found now (Session sessions.Pubsub) call p h = refl
command_sends found now (Session sessions.Publish) call p h = absurd (cc)
command_sends found now (Session (sessions.Subscribe k)) call p h = absurd (cc)
command_sends found now (Session (sessions.Unsubscribe k)) call p h = absurd (cc)
command_sends found now (Session sessions.Multi) call p h = absurd (cc)
command_sends found now (Session sessions.Exec) call p h = absurd (cc)
command_sends found now (Session sessions.Discard) call p h = absurd (cc)
command_sends found now (Session sessions.Watch) call p h = absurd (cc)
command_sends found now (Session sessions.Unwatch) call p h = absurd (cc)
command_sends found now (Session sessions.Quit) call p h = absurd (cc)

deed_sends : (found : Found) (now : ℕ) (deed : Deed) (p : Progress) → is_update deed ≡ false → (done_by found now deed p).messages ≡ p.messages
deed_sends found now (Say reply) p h = refl
deed_sends found now (Act call) p h = command_sends found now call.command call p h
deed_sends found now (Run calls) p h = absurd (cc)
deed_sends found now Abort p h = absurd (cc)
deed_sends found now (End reply) p h = absurd (cc)

-- it emits for its own connection alone
read_emits : (c : Connection) (s : Server) (item : Item) → is_update item.deed ≡ false → same_connection item.connection c ≡ false
    → bytes_for c (emitted_in s item) ≡ []
read_emits c s item read other =
    let p = progress_in s item in
    let now = now_in s item in
    let found = found_in s item.connection now in
    let none : p.messages ≡ [] = deed_sends found now item.deed (start found) read in
    ap (λ (es : List Emission). bytes_for c (es ++ replies_to item.connection p.replies)) none
    ∙ to_others item.connection c p.replies other

-- reads leave the server as it is
pub after_reads : (s : Server) (jobs : Jobs) → AreReads jobs → after_all s jobs ≡ s
after_reads s [] reads = refl
after_reads s (job ∷ jobs) reads =
    ap (λ (t : Server). after_all t jobs) (server_is_redis.reads s job (not-true (is_update job.deed) reads.0)) ∙ after_reads s jobs reads.1

-- reads of another node emit nothing for a connection
pub others_emit : (c : Connection) (n : ℕ) (s : Server) (jobs : Jobs) → (n ≡ c.node → ⊥) → AreReads jobs → AreOfNode n jobs
    → bytes_for c (emitted_all s jobs) ≡ []
others_emit c n s [] apart reads of = refl
others_emit c n s (job ∷ jobs) apart reads of =
    let read = not-true (is_update job.deed) reads.0 in
    let here = read_emits c s job read (of_another job.connection c (λ e. apart (sym of.0 ∙ e))) in
    let more : bytes_for c (emitted_all (stepped s job) jobs) ≡ [] = others_emit c n (stepped s job) jobs apart reads.1 of.1 in
    bytes_for-append c (emitted_in s job) (emitted_all (stepped s job) jobs) ∙ (λ i. here i ++ more i)

-- behind the same front
pub front_begins : {A : Type 0} (front x y : List A) → IsBeginningOf x y → IsBeginningOf (front ++ x) (front ++ y)
front_begins front x y b = (b.0, append_assoc front x b.0 ∙ ap (λ (zs : List _). front ++ zs) b.1)

pub begins_itself : {A : Type 0} (x : List A) → IsBeginningOf x x
begins_itself x = ([], append-nil x)

pub begins_on : {A : Type 0} (x y z : List A) → IsBeginningOf x y → IsBeginningOf y z → IsBeginningOf x z
begins_on x y z a b = (a.0 ++ b.0, sym (append_assoc x a.0 b.0) ∙ ap (λ (ws : List _). ws ++ b.0) a.1 ∙ b.1)

pub none_begins : {A : Type 0} (y : List A) → IsBeginningOf [] y
none_begins y = (y, refl)

-- the bytes of two parts
abbrev bytes_along : Connection → Server → Sequence → Bytes
bytes_along c s items = bytes_for c (emitted_all s items)

pub two_parts : (c : Connection) (s : Server) (items more : Sequence)
    → bytes_for c (emitted_all s (items ++ more)) ≡ bytes_for c (emitted_all s items) ++ bytes_for c (emitted_all (after_all s items) more)
two_parts c s items more =
    ap (bytes_for c) (emitted_all-append s items more) ∙ bytes_for-append c (emitted_all s items) (emitted_all (after_all s items) more)

-- the same items in front of both
both_begin : (c : Connection) (s : Server) (items x y : Sequence)
    → IsBeginningOf (bytes_for c (emitted_all (after_all s items) x)) (bytes_for c (emitted_all (after_all s items) y))
    → IsBeginningOf (bytes_for c (emitted_all s (items ++ x))) (bytes_for c (emitted_all s (items ++ y)))
both_begin c s items x y b =
    let front = bytes_for c (emitted_all s items) in
    let here = front_begins front (bytes_along c (after_all s items) x) (bytes_along c (after_all s items) y) b in
    (here.0, ap (λ (bs : Bytes). bs ++ here.0) (two_parts c s items x) ∙ here.1 ∙ sym (two_parts c s items y))

-- another node's reads in front of the whole
other_begins : (c : Connection) (n : ℕ) (s : Server) (jobs x y : Sequence) → (n ≡ c.node → ⊥) → AreReads jobs → AreOfNode n jobs
    → IsBeginningOf (bytes_for c (emitted_all s x)) (bytes_for c (emitted_all s y))
    → IsBeginningOf (bytes_for c (emitted_all s x)) (bytes_for c (emitted_all s (jobs ++ y)))
other_begins c n s jobs x y apart reads of b =
    let none = others_emit c n s jobs apart reads of in
    let same = after_reads s jobs reads in
    (b.0, b.1 ∙ sym (two_parts c s jobs y ∙ (λ i. none i ++ bytes_for c (emitted_all (same i) y))))

-- reads in front, of its own node or another
reads_begin : (c : Connection) (n : ℕ) (s : Server) (jobs x y : Sequence) → AreReads jobs × AreOfNode n jobs
    → ((t : Server) → IsBeginningOf (bytes_for c (emitted_all t x)) (bytes_for c (emitted_all t y)))
    → IsBeginningOf (bytes_for c (emitted_all s (cond (n == c.node) (jobs ++ x) x))) (bytes_for c (emitted_all s (jobs ++ y)))
reads_begin c n s jobs x y run b =
    let at = λ (own : Bool). IsBeginningOf (bytes_for c (emitted_all s (cond own (jobs ++ x) x))) (bytes_for c (emitted_all s (jobs ++ y))) in
    elim (cases_Bool (n == c.node)) [
      | inl e ↦ subst at (sym e) (both_begin c s jobs x y (b (after_all s jobs)))
      | inr e ↦ subst at (sym e) (other_begins c n s jobs x y (eqb-false n c.node e) run.0 run.1 (b s))
    ]

-- the part of a connection's node, from any server on
part_begins : (c : Connection) (applied : ℕ) (taken : List Taken) (s : Server) → ReadsWithin c.node applied taken → AreRun taken
    → IsBeginningOf (bytes_for c (emitted_all s (part_from c.node applied taken))) (bytes_for c (emitted_all s (flat_map items_taken taken)))
part_begins c zero [] s within run = begins_itself []
part_begins c (suc applied) [] s within run = begins_itself []
part_begins c zero (Entry n jobs ∷ taken) s within run =
    subst (λ (items : Sequence). IsBeginningOf (bytes_for c (emitted_all s items)) (bytes_for c (emitted_all s (flat_map items_taken (Entry n jobs ∷ taken)))))
    (sym (part_none c.node taken within)) (none_begins (bytes_for c (emitted_all s (flat_map items_taken (Entry n jobs ∷ taken)))))
part_begins c (suc applied) (Entry n jobs ∷ taken) s within run =
    both_begin c s (entry_items jobs) (part_from c.node applied taken) (flat_map items_taken taken)
    (part_begins c applied taken (after_all s (entry_items jobs)) within run.1)
part_begins c zero (Reads n count jobs ∷ taken) s within run =
    reads_begin c n s jobs (part_from c.node zero taken) (flat_map items_taken taken) run.0 (λ t. part_begins c zero taken t within run.1)
part_begins c (suc applied) (Reads n count jobs ∷ taken) s within run =
    reads_begin c n s jobs (part_from c.node (suc applied) taken) (flat_map items_taken taken) run.0 (λ t. part_begins c (suc applied) taken t within run.1)

-- from the first server on
pub part_emits : (c : Connection) (applied : ℕ) (taken : List Taken) → ReadsWithin c.node applied taken → AreRun taken
    → IsBeginningOf (emitted_for c (part_from c.node applied taken)) (emitted_for c (flat_map items_taken taken))
part_emits c applied taken within run =
    let b = part_begins c applied taken servers.fresh within run in
    (b.0, ap (λ (bs : Bytes). bs ++ b.0) (emitted_for-is c (part_from c.node applied taken)) ∙ b.1 ∙ sym (emitted_for-is c (flat_map items_taken taken)))

-- more emits more behind
pub more_emits : (c : Connection) (items more : Sequence) → IsBeginningOf (emitted_for c items) (emitted_for c (items ++ more))
more_emits c items more = (bytes_for c (emitted_all (after_all servers.fresh items) more), sym (emitted_for-more c items more))

-- a part emits more behind, as further entries are applied
pub part_grows : (c : Connection) (applied count : ℕ) (taken : List Taken) → count + applied ≤ length (log_of taken) → ReadsWithin c.node applied taken
    → IsBeginningOf (emitted_for c (part_from c.node applied taken)) (emitted_for c (part_from c.node (count + applied) taken))
part_grows c applied zero taken below within =
    let same : applied ≡ 0 + applied = omega arith in
    let emitted = emitted_for c (part_from c.node applied taken) in
    subst (λ (k : ℕ). IsBeginningOf emitted (emitted_for c (part_from c.node k taken))) same (begins_itself emitted)
part_grows c applied (suc count) taken below within =
    let part = part_from c.node (count + applied) taken in
    let items = entry_items (slice_index_or (log_of taken) (count + applied) (record { node = 0; jobs = [] })).jobs in
    let same : suc (count + applied) ≡ suc count + applied = omega arith in
    let next : part_from c.node (suc count + applied) taken ≡ part ++ items =
    ap (λ (k : ℕ). part_from c.node k taken) (sym same)
    ∙ part_applied c.node (count + applied) taken (record { node = 0; jobs = [] }) (omega arith) (within_later c.node applied count taken within) in
    begins_on (emitted_for c (part_from c.node applied taken)) (emitted_for c part) (emitted_for c (part_from c.node (suc count + applied) taken))
    (part_grows c applied count taken (omega arith) within)
    (subst (λ (more : Sequence). IsBeginningOf (emitted_for c part) (emitted_for c more)) (sym next) (more_emits c part items))

-- reads in front of a part leave its server
reads_leave : (b : Bool) (s : Server) (jobs items : Sequence) → AreReads jobs → after_all s (cond b (jobs ++ items) items) ≡ after_all s items
reads_leave true s jobs items reads = after_all-append s jobs items ∙ ap (λ (t : Server). after_all t items) (after_reads s jobs reads)
reads_leave false s jobs items reads = refl

-- so the parts of two nodes that have applied as many entries lead to the same server
pub same_server : (r f applied : ℕ) (taken : List Taken) (s : Server) → AreRun taken
    → after_all s (part_from r applied taken) ≡ after_all s (part_from f applied taken)
same_server r f zero [] s run = refl
same_server r f (suc applied) [] s run = refl
same_server r f zero (Entry n jobs ∷ taken) s run = same_server r f zero taken s run.1
same_server r f (suc applied) (Entry n jobs ∷ taken) s run =
    let items = entry_items jobs in
    after_all-append s items (part_from r applied taken) ∙ same_server r f applied taken (after_all s items) run.1
    ∙ sym (after_all-append s items (part_from f applied taken))
same_server r f zero (Reads n count jobs ∷ taken) s run =
    reads_leave (n == r) s jobs (part_from r zero taken) run.0.0 ∙ same_server r f zero taken s run.1
    ∙ sym (reads_leave (n == f) s jobs (part_from f zero taken) run.0.0)
same_server r f (suc applied) (Reads n count jobs ∷ taken) s run =
    reads_leave (n == r) s jobs (part_from r (suc applied) taken) run.0.0 ∙ same_server r f (suc applied) taken s run.1
    ∙ sym (reads_leave (n == f) s jobs (part_from f (suc applied) taken) run.0.0)

-- the updates of a sequence
abbrev pub updates_of : Sequence → Sequence
updates_of items = filter (λ (item : Item). is_update item.deed) items

-- reads have none
no_updates : (jobs : Jobs) (items : Sequence) → AreReads jobs → updates_of (jobs ++ items) ≡ updates_of items
no_updates jobs items reads =
    filter-append (λ (item : Item). is_update item.deed) jobs items
    ∙ ap (λ (xs : Sequence). xs ++ updates_of items) (none_kept (λ (item : Item). is_update item.deed) jobs reads)

-- reads in front, of the node or another
reads_between : (b : Bool) (jobs x y : Sequence) → AreReads jobs → IsBeginningOf (updates_of x) (updates_of y)
    → IsBeginningOf (updates_of (cond b (jobs ++ x) x)) (updates_of (jobs ++ y))
reads_between true jobs x y reads h =
    (h.0, ap (λ (xs : Sequence). xs ++ h.0) (no_updates jobs x reads) ∙ h.1 ∙ sym (no_updates jobs y reads))
reads_between false jobs x y reads h = (h.0, h.1 ∙ sym (no_updates jobs y reads))

-- the updates of a part are the first of the sequence
pub part_updates : (r applied : ℕ) (taken : List Taken) → ReadsWithin r applied taken → AreRun taken
    → IsBeginningOf (updates_of (part_from r applied taken)) (updates_of (flat_map items_taken taken))
part_updates r zero [] within run = begins_itself []
part_updates r (suc applied) [] within run = begins_itself []
part_updates r zero (Entry n jobs ∷ taken) within run =
    subst (λ (items : Sequence). IsBeginningOf (updates_of items) (updates_of (flat_map items_taken (Entry n jobs ∷ taken))))
    (sym (part_none r taken within)) (none_begins (updates_of (flat_map items_taken (Entry n jobs ∷ taken))))
part_updates r (suc applied) (Entry n jobs ∷ taken) within run =
    let update = λ (item : Item). is_update item.deed in
    let ih = part_updates r applied taken within run.1 in
    let front = updates_of (entry_items jobs) in
    let here = front_begins front (updates_of (part_from r applied taken)) (updates_of (flat_map items_taken taken)) ih in (
      here.0,
      ap (λ (xs : Sequence). xs ++ here.0) (filter-append update (entry_items jobs) (part_from r applied taken)) ∙ here.1
          ∙ sym (filter-append update (entry_items jobs) (flat_map items_taken taken)),
    )
part_updates r zero (Reads n count jobs ∷ taken) within run =
    reads_between (n == r) jobs (part_from r zero taken) (flat_map items_taken taken) run.0.0 (part_updates r zero taken within run.1)
part_updates r (suc applied) (Reads n count jobs ∷ taken) within run =
    reads_between (n == r) jobs (part_from r (suc applied) taken) (flat_map items_taken taken) run.0.0 (part_updates r (suc applied) taken within run.1)
