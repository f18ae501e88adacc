-- What reads emit: each one reply, to its own connection.
use Rattle.std.proofs.Common.{◌≡◌, ℕ, zero, suc, ◌+◌, ◌<◌, ◌≤◌, true, false, cond, List, [], ◌∷◌, ◌++◌, length, take, get_or, refl, ap, sym, ◌∙◌, subst, arith, append_assoc, add-one}
use Rattle.std.specs.Prelude.{Option, Some, None}
use Rattle.std.proofs.lemmas.Bool.Decides.{nat_tests}
use Rattle.std.proofs.lemmas.List.{append-nil}
use Rattle.nr_model.specs.Bytes.{Bytes}
use Rattle.nr_model.specs.Items.{Connection, same_connection, Call, Deed, Say, Act, Run, Abort, End, Item, is_update}
use Rattle.nr_model.specs.declared.command.Command.{Command}
use Rattle.nr_model.specs.declared.command.Command.TheVariants.{Perform, Session}
use Rattle.nr_model.specs.declared.command.Operation.TheVariants.{Look, Change}
use Rattle.nr_model.specs.declared.command.Session.TheVariants as sessions
use Rattle.nr_model.specs.Replies.{Reply, reply_text}
use Rattle.nr_model.specs.Queues.{Queue, put, cut_off, received}
use Rattle.nr_model.specs.Sequential.Events.{Emission}
use Rattle.nr_model.specs.Sequential.{Found, start, done_by, emissions_of}
use Rattle.nr_model.specs.Servers.{Server, found_in, now_in, stepped, emitted_in, emitted_all}
use Rattle.nr_model.specs.Nodes.Steps.{texts_for}
use Rattle.nr_model.proofs.Serving.{server_is_redis}
use Rattle.nr_emission.specs.Emitted.{all_after}
use Rattle.nr_entry.specs.Jobs.{connection_of, item_of, items_of}
use Rattle.nr_entry.specs.Kinds.{deed_of}
use Rattle.nr_entry.specs.declared.job.JobKind.{JobKind}
use Rattle.nr_entry.specs.declared.job.Job.{Job}
use Rattle.nr_replica.specs.Members.{Member, Queues, queue_at, members_of, AreNumbered, AreReceived, AreDelivered, AreReads}
use Rattle.nr_replica.proofs.Listed.{IsPut}
use Rattle.nr_replica.proofs.Reached.{unreached, reached_open, reached_closed, reached_elsewhere}
use Rattle.nr_replica.proofs.Received.{alike, one_text}
use Rattle.nr_replica.proofs.Giving.{delivered_more}

-- a reply to its connection is all that a read emits
abbrev pub IsReply : Connection → List Emission → Type 0
IsReply c es = (reply : Reply) × (es ≡ record { connection = c; reply = reply } ∷ [])

command_replies : (c : Connection) (found : Found) (now : ℕ) (command : Command) (call : Call)
    → is_update (Act (record { command = command; words = call.words })) ≡ false
    → IsReply c (emissions_of c (done_by found now (Act (record { command = command; words = call.words })) (start found)))
command_replies c found now (Perform (Look command)) call h = (_, refl)
command_replies c found now (Perform (Change command)) call h = absurd (cc)
command_replies c found now (Session sessions.Pubsub) call h = (_, refl)
command_replies c found now (Session sessions.Publish) call h = absurd (cc)
command_replies c found now (Session (sessions.Subscribe k)) call h = absurd (cc)
command_replies c found now (Session (sessions.Unsubscribe k)) call h = absurd (cc)
command_replies c found now (Session sessions.Multi) call h = absurd (cc)
command_replies c found now (Session sessions.Exec) call h = absurd (cc)
command_replies c found now (Session sessions.Discard) call h = absurd (cc)
command_replies c found now (Session sessions.Watch) call h = absurd (cc)
command_replies c found now (Session sessions.Unwatch) call h = absurd (cc)
command_replies c found now (Session sessions.Quit) call h = absurd (cc)

deed_replies : (c : Connection) (found : Found) (now : ℕ) (deed : Deed) → is_update deed ≡ false → IsReply c (emissions_of c (done_by found now deed (start found)))
deed_replies c found now (Say reply) h = (reply, refl)
deed_replies c found now (Act call) h = command_replies c found now call.command call h
deed_replies c found now (Run calls) h = absurd (cc)
deed_replies c found now Abort h = absurd (cc)
deed_replies c found now (End reply) h = absurd (cc)

pub read_replies : (s : Server) (item : Item) → is_update item.deed ≡ false → IsReply item.connection (emitted_in s item)
read_replies s item h = deed_replies item.connection (found_in s item.connection (now_in s item)) (now_in s item) item.deed h

pub same_itself : (c : Connection) → same_connection c c ≡ true
same_itself c = grind (arith, nat_tests)

-- the text of the reply
abbrev pub read_text : (s : Server) (item : Item) → is_update item.deed ≡ false → Bytes
read_text s item h = reply_text (read_replies s item h).0

pub texts_of_read : (s : Server) (item : Item) (h : is_update item.deed ≡ false) (c : Connection)
    → texts_for c (emitted_in s item) ≡ one_text item.connection (read_text s item h) c
texts_of_read s item h c = ap (texts_for c) (read_replies s item h).1

own_texts : (s : Server) (item : Item) (h : is_update item.deed ≡ false) → texts_for item.connection (emitted_in s item) ≡ read_text s item h ∷ []
own_texts s item h =
    texts_of_read s item h item.connection ∙ ap (λ b. cond b (read_text s item h ∷ []) []) (same_itself item.connection)

-- what a look does to the queue of its connection
abbrev pub putting : Queue → Emission → Queue
putting queue emission = put queue (reply_text emission.reply)

pub look_received : (s : Server) (item : Item) (old new : Queue) → is_update item.deed ≡ false → new ≡ all_after putting old (emitted_in s item)
    → (n : Option ℕ) × (new ≡ received n old (texts_for item.connection (emitted_in s item)))
look_received s item old new h is =
    (None, is ∙ ap (all_after putting old) (read_replies s item h).1 ∙ ap (λ (ts : List Bytes). received None old ts) (sym (own_texts s item h)))

pub look_refused : (s : Server) (item : Item) (old new : Queue) → is_update item.deed ≡ false → new ≡ cut_off old
    → (n : Option ℕ) × (new ≡ received n old (texts_for item.connection (emitted_in s item)))
look_refused s item old new h is = (Some 0, is ∙ ap (λ (ts : List Bytes). received (Some 0) old ts) (sym (own_texts s item h)))

-- the same of a job
pub reply_received : (s : Server) (job : Job) (kind : JobKind) (old new : Queue) → is_update (deed_of job.kind) ≡ false → job.kind ≡ kind
    → new ≡ all_after putting old
    (emitted_in s (record { connection = connection_of job.conn; number = job.number; moment = job.moment; deed = deed_of kind }))
    → (n : Option ℕ) × (new ≡ received n old (texts_for (connection_of job.conn) (emitted_in s (item_of job))))
reply_received s job kind old new read is emitted =
    let at : JobKind → Item = λ kind. record { connection = connection_of job.conn; number = job.number; moment = job.moment; deed = deed_of kind } in
    look_received s (item_of job) old new read (emitted ∙ ap (λ (k : JobKind). all_after putting old (emitted_in s (at k))) (sym is))

pub reply_refused : (s : Server) (job : Job) (old new : Queue) → is_update (deed_of job.kind) ≡ false → new ≡ cut_off old
    → (n : Option ℕ) × (new ≡ received n old (texts_for (connection_of job.conn) (emitted_in s (item_of job))))
reply_refused s job old new read is = look_refused s (item_of job) old new read is

-- its text to its connection is what a read delivers
as_read : (s : Server) (item : Item) (read : is_update item.deed ≡ false) (olds news : List Member)
    → AreReceived (one_text item.connection (read_text s item read)) olds news → AreDelivered (emitted_in s item) olds news
as_read s item read olds news got =
    alike (one_text item.connection (read_text s item read)) (λ c. texts_for c (emitted_in s item)) olds news (λ c. sym (texts_of_read s item read c)) got

-- a read of one of the node's connections that is open
pub read_open : (node : ℕ) (s : Server) (item : Item) (workers : List ℕ) (old new : Queues) (at queue : Queue) → AreNumbered node 0 (members_of node workers old)
    → is_update item.deed ≡ false → item.connection.node ≡ node → Some at ≡ queue_at item.connection.serial old
    → IsPut item.connection.serial (Some queue) old new
    → ((n : Option ℕ) × (queue ≡ received n at (texts_for item.connection (emitted_in s item))))
    → AreDelivered (emitted_in s item) (members_of node workers old) (members_of node workers new)
read_open node s item workers old new at queue numbered read own found put got =
    as_read s item read (members_of node workers old) (members_of node workers new)
    (reached_open node item.connection (read_text s item read) workers old new at queue got.0 numbered own found put
    (got.1 ∙ ap (λ (ts : List Bytes). received got.0 at ts) (own_texts s item read)))

-- of one that was closed, and of none of them
pub read_closed : (node : ℕ) (s : Server) (item : Item) (workers : List ℕ) (old new : Queues) → AreNumbered node 0 (members_of node workers old)
    → is_update item.deed ≡ false → item.connection.node ≡ node → None ≡ queue_at item.connection.serial old → new ≡ old
    → AreDelivered (emitted_in s item) (members_of node workers old) (members_of node workers new)
read_closed node s item workers old new numbered read own none same =
    subst (λ (queues : Queues). AreDelivered (emitted_in s item) (members_of node workers old) (members_of node workers queues)) (sym same)
    (as_read s item read (members_of node workers old) (members_of node workers old)
    (reached_closed node item.connection (read_text s item read) workers old numbered own none))

pub read_past : (node : ℕ) (s : Server) (item : Item) (workers : List ℕ) (queues : Queues) → AreNumbered node 0 (members_of node workers queues)
    → is_update item.deed ≡ false → length workers ≤ item.connection.serial
    → AreDelivered (emitted_in s item) (members_of node workers queues) (members_of node workers queues)
read_past node s item workers queues numbered read past =
    as_read s item read (members_of node workers queues) (members_of node workers queues)
    (unreached node item.connection (read_text s item read) workers queues numbered past)

pub read_elsewhere : (node : ℕ) (s : Server) (item : Item) (workers : List ℕ) (queues : Queues) → AreNumbered node 0 (members_of node workers queues)
    → is_update item.deed ≡ false → (item.connection.node ≡ node → ⊥)
    → AreDelivered (emitted_in s item) (members_of node workers queues) (members_of node workers queues)
read_elsewhere node s item workers queues numbered read other =
    as_read s item read (members_of node workers queues) (members_of node workers queues)
    (reached_elsewhere node item.connection (read_text s item read) workers queues numbered other)

-- reads one after the other leave the server as it is
pub read_at : (jobs : List Job) (i : ℕ) (d : Job) → AreReads (items_of jobs) → i < length jobs → is_update (item_of (get_or jobs i d)).deed ≡ false
read_at [] i d reads within = absurd (omega arith)
read_at (job ∷ jobs) zero d reads within = reads.0
read_at (job ∷ jobs) (suc i) d reads within = read_at jobs i d reads.1 (omega arith)

emitted_next : (s : Server) (jobs : List Job) (i : ℕ) (d : Job) → AreReads (items_of jobs) → i < length jobs
    → emitted_all s (items_of (take (suc i) jobs)) ≡ emitted_all s (items_of (take i jobs)) ++ emitted_in s (item_of (get_or jobs i d))
emitted_next s [] i d reads within = absurd (omega arith)
emitted_next s (job ∷ jobs) zero d reads within = append-nil (emitted_in s (item_of job))
emitted_next s (job ∷ jobs) (suc i) d reads within =
    let kept : stepped s (item_of job) ≡ s = server_is_redis.reads s (item_of job) reads.0 in
    let here = emitted_in s (item_of job) in
    ap (λ (t : Server). here ++ emitted_all t (items_of (take (suc i) jobs))) kept
    ∙ ap (λ (es : List Emission). here ++ es) (emitted_next s jobs i d reads.1 (omega arith))
    ∙ sym (append_assoc here (emitted_all s (items_of (take i jobs))) (emitted_in s (item_of (get_or jobs i d))))
    ∙ ap (λ (t : Server). (here ++ emitted_all t (items_of (take i jobs))) ++ emitted_in s (item_of (get_or jobs i d))) (sym kept)

pub reads_next : (s : Server) (jobs : List Job) (i : ℕ) (d job : Job) (olds mids news : List Member) → AreReads (items_of jobs) → i < length jobs → job ≡ get_or jobs i d
    → AreDelivered (emitted_all s (items_of (take i jobs))) olds mids → AreDelivered (emitted_in s (item_of job)) mids news
    → AreDelivered (emitted_all s (items_of (take (i + 1) jobs))) olds news
reads_next s jobs i d job olds mids news reads within is first second =
    subst (λ (es : List Emission). AreDelivered es olds news)
    (ap (λ (j : Job). emitted_all s (items_of (take i jobs)) ++ emitted_in s (item_of j)) is ∙ sym (emitted_next s jobs i d reads within)
    ∙ ap (λ (n : ℕ). emitted_all s (items_of (take n jobs))) (sym (add-one i)))
    (delivered_more (emitted_all s (items_of (take i jobs))) (emitted_in s (item_of job)) olds mids news first second)
