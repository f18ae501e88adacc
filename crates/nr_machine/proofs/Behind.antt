-- The server behind a deed, from the parts that the code keeps.
use Rattle.std.proofs.Common.{◌≡◌, ℕ, Bool, true, false, inl, inr, List, [], ◌∷◌, ◌++◌, map, drop, refl, ap, sym, ◌∙◌}
use Rattle.std.specs.Prelude.{◌==◌, Option, Some, None, option_to_list}
use Rattle.std.specs.Option.{option_map}
use Rattle.std.specs.FinMap as finmap
use Rattle.std.specs.FinSet as finset
use Rattle.std.proofs.lemmas.Bool.{cases_Bool}
use Rattle.std.proofs.lemmas.List.Sums.{fold-append}
use Rattle.nr_model.specs.Bytes.{Bytes}
use Rattle.nr_model.specs.Replies.{Reply, array}
use Rattle.nr_model.specs.Keyspace.{Keyspace, live}
use Rattle.nr_model.specs.Names.{Held}
use Rattle.nr_model.specs.Commands.{change}
use Rattle.nr_model.specs.Commands.Shape.{Done}
use Rattle.nr_model.specs.declared.command.Change.{Change}
use Rattle.nr_model.specs.declared.command.Command.TheVariants as commands
use Rattle.nr_model.specs.declared.command.Operation.TheVariants as operations
use Rattle.nr_model.specs.Items.{Connection, connection_cmp, Deed, Act, Run, End}
use Rattle.nr_model.specs.Sequential.{Found, Progress, start, acted, acted_all, published, run_calls, one_reply, emissions_of, for_node}
use Rattle.nr_model.specs.Sequential.Events.{Emission}
use Rattle.nr_model.specs.Servers.{Server, database_in, is_spoiled_in, found_in, with_database, touched_by}
use Rattle.nr_resp.specs.Check.{call}
use Rattle.nr_entry.specs.declared.job.Queueable.{Queueable}
use Rattle.nr_entry.specs.declared.job.Queueable.TheVariants as queueable
use Rattle.nr_entry.specs.declared.job.Queued.{Queued}
use Rattle.nr_entry.specs.declared.job.SessionUpdate.{SessionUpdate}
use Rattle.nr_entry.specs.declared.job.SessionUpdate.TheVariants as session_updates
use Rattle.nr_entry.specs.declared.job.Update.{Update}
use Rattle.nr_entry.specs.declared.job.Update.TheVariants as updates
use Rattle.nr_entry.specs.Kinds.{queued_command, queued_call, session_command, update_deed}
use Rattle.nr_resp.specs.Seen.{reply_of}
use Rattle.nr_resp.specs.declared.reply.Reply as code
use Rattle.nr_resp.specs.Done.{IsDone}
use Rattle.nr_emission.specs.Emitted.{all_after, replies_to}
use Rattle.nr_emission.specs.Messages.{subscriptions_of, publish_messages, publish_reply}
use Rattle.nr_emission.proofs.Nodes.{for_node-append, other_replies}
use Rattle.nr_watch.specs.Watching.{Watching, touched_at}
use Rattle.nr_watch.proofs.Touching.{touched_in_turn}
use Rattle.nr_machine.specs.Steps.{left_by, behind, after_deed, emitted_by}
use Rattle.nr_machine.specs.Ran.{among, begun, Runs}
use Rattle.nr_machine.proofs.Transactions.{published_messages, published_replies}

-- a server by its parts
abbrev pub parts : Keyspace → ℕ → finmap.FinMap connection_cmp ℕ → finmap.FinMap connection_cmp Held → Watching → Server
parts keyspace logged databases held w = record { keyspace = keyspace; logged = logged; databases = databases; held = held; watches = w.watches; touched = w.touched }

-- behind a command that may change the keyspace
abbrev after_change : ℕ → finmap.FinMap connection_cmp ℕ → finmap.FinMap connection_cmp Held → Watching → Connection → Done → Server
after_change l d h w c did =
    record { keyspace = did.keyspace; logged = l; databases = with_database d c did.database; held = h; watches = w.watches; touched = touched_by w.watches did.touched w.touched }

pub changed : (s : Server) (k k' : Keyspace) (l : ℕ) (d d' : finmap.FinMap connection_cmp ℕ) (h : finmap.FinMap connection_cmp Held) (w w' : Watching) (c : Connection) (now : ℕ) (command : Change)
    (words : List Bytes) (reply : Reply) (before database : ℕ) → parts k l d h w ≡ s → before ≡ database_in d c
    → IsDone touched_at reply k' database w w' (change command now (live k now) before (drop 1 words)) → d' ≡ with_database d c database
    → parts k' l d' h w' ≡ after_deed s c now (Act (call (commands.Perform (operations.Change command)) words))
changed s k k' l d d' h w w' c now command words reply before database is at done kept =
    let did = change command now (live k now) before (drop 1 words) in
    let told = done.touched ∙ touched_in_turn w did.touched in
    let deed : Deed = Act (call (commands.Perform (operations.Change command)) words) in
    let fields : parts k' l d' h w' ≡ after_change l d h w c did =
    λ i. record {
      keyspace = done.left i;
      logged = l;
      databases = (kept ∙ ap (with_database d c) done.selected) i;
      held = h;
      watches = ap (λ (x : Watching). x.watches) told i;
      touched = ap (λ (x : Watching). x.touched) told i;
    } in
    fields
    ∙ ap (λ (n : ℕ). after_change l d h w c (change command now (live k now) n (drop 1 words))) at
    ∙ ap (λ (x : Server). after_deed x c now deed) is

-- commands of a transaction ask for subscriptions alone
acted_among : (found : Found) (now : ℕ) (command : Queueable) (words : List Bytes) (p : Progress)
    → acted found now (queued_command command) (call (queued_command command) words) p ≡ acted (among found.subscriptions) now (queued_command command) (call (queued_command command) words) p
acted_among found now (queueable.Perform (operations.Look command)) words p = refl
acted_among found now (queueable.Perform (operations.Change command)) words p = refl
acted_among found now queueable.Unwatch words p = refl
acted_among found now queueable.Publish words p = refl
acted_among found now queueable.Pubsub words p = refl

all_among : (found : Found) (now : ℕ) (cmds : List Queued) (p : Progress) → acted_all found now (map queued_call cmds) p ≡ acted_all (among found.subscriptions) now (map queued_call cmds) p
all_among found now [] p = refl
all_among found now (cmd ∷ cmds) p =
    ap (acted_all found now (map queued_call cmds)) (acted_among found now cmd.command cmd.words.items p)
    ∙ all_among found now cmds (acted (among found.subscriptions) now (queued_command cmd.command) (queued_call cmd) p)

-- what a transaction leaves whose watches aren't broken
abbrev ran_as : Bool → Progress → Progress → Progress
ran_as spoiled p q = elim spoiled [ true ↦ p | false ↦ q ]

abbrev pub ran_whole : Progress → Progress
ran_whole q = one_reply (array q.replies) q

pub run_is : (found : Found) (now : ℕ) (cmds : List Queued) (p : Progress) → found.spoiled ≡ false
    → run_calls found now (map queued_call cmds) p ≡ ran_whole (acted_all (among found.subscriptions) now (map queued_call cmds) p)
run_is found now cmds p on =
    ap (λ b. run_by b) on ∙ ap ran_whole (all_among found now cmds p)
  where
    run_by : Bool → Progress
    run_by b = run_calls (record found { spoiled = b }) now (map queued_call cmds) p

abbrev all_run : finmap.FinMap connection_cmp Held → ℕ → List Queued → Keyspace → ℕ → Progress
all_run h now cmds k before = acted_all (among (subscriptions_of h)) now (map queued_call cmds) (begun k before)

left_run : (k : Keyspace) (l : ℕ) (d : finmap.FinMap connection_cmp ℕ) (h : finmap.FinMap connection_cmp Held) (w : Watching) (c : Connection) (now : ℕ) (cmds : List Queued) (before : ℕ)
    → is_spoiled_in (parts k l d h w) c now ≡ false → before ≡ database_in d c
    → left_by (parts k l d h w) c now (Run (map queued_call cmds)) ≡ ran_whole (all_run h now cmds k before)
left_run k l d h w c now cmds before on at =
    run_is (found_in (parts k l d h w) c now) now cmds (start (found_in (parts k l d h w) c now)) on
    ∙ ap (λ (n : ℕ). ran_whole (all_run h now cmds k n)) (sym at)

-- what it emits
pub emitted_run : (s : Server) (k : Keyspace) (l : ℕ) (d : finmap.FinMap connection_cmp ℕ) (h : finmap.FinMap connection_cmp Held) (w : Watching) (c : Connection) (now : ℕ) (cmds : List Queued)
    (before : ℕ) → parts k l d h w ≡ s → is_spoiled_in (parts k l d h w) c now ≡ false → before ≡ database_in d c
    → emitted_by s c now (Run (map queued_call cmds)) ≡ (all_run h now cmds k before).messages ++ replies_to c (array (all_run h now cmds k before).replies ∷ [])
emitted_run s k l d h w c now cmds before is on at =
    ap (λ (x : Server). emitted_by x c now (Run (map queued_call cmds))) (sym is)
    ∙ ap (emissions_of c) (left_run k l d h w c now cmds before on at)

-- and what it leaves
pub applied_run : {S : Type 0} (after : S → Emission → S) (node : ℕ) (answered : Bool) (s : Server) (k k' : Keyspace) (l : ℕ) (d d' : finmap.FinMap connection_cmp ℕ)
    (h : finmap.FinMap connection_cmp Held) (w w1 w2 : Watching) (c : Connection) (now : ℕ) (cmds : List Queued) (before database : ℕ) (out out' : S) (replies : List Reply)
    → parts k l d h w ≡ s → is_spoiled_in (parts k l d h w) c now ≡ false → before ≡ database_in d c
    → Runs after node answered (all_run h now cmds k before) k' database w w1 out out' [] replies
    → d' ≡ with_database d c database → w2 ≡ record { watches = finmap.remove w1.watches c; touched = finset.remove w1.touched c }
    → parts k' l d' h w2 ≡ after_deed s c now (Run (map queued_call cmds))
applied_run after node answered s k k' l d d' h w w1 w2 c now cmds before database out out' replies is on at ran kept forgotten =
    let q = all_run h now cmds k before in
    let deed : Deed = Run (map queued_call cmds) in
    let told = ran.told ∙ touched_in_turn w q.touched in
    let fields : parts k' l d' h w2
    ≡ record { keyspace = q.keyspace; logged = l; databases = with_database d c q.database; held = h; watches = finmap.remove w.watches c; touched = finset.remove (touched_by w.watches q.touched w.touched) c } =
    λ i. record {
      keyspace = ran.keyspace_is i;
      logged = l;
      databases = (kept ∙ ap (with_database d c) ran.database_is) i;
      held = h;
      watches = (ap (λ (x : Watching). x.watches) forgotten ∙ ap (λ (x : Watching). finmap.remove x.watches c) told) i;
      touched = (ap (λ (x : Watching). x.touched) forgotten ∙ ap (λ (x : Watching). finset.remove x.touched c) told) i;
    } in
    fields
    ∙ ap (λ (p : Progress). behind (parts k l d h w) c now deed p) (sym (left_run k l d h w c now cmds before on at))
    ∙ ap (λ (x : Server). after_deed x c now deed) is

-- the array of replies, where the connection is answered: elsewhere nobody asks what it is
pub same_answer : {S : Type 0} (after : S → Emission → S) (node : ℕ) (c : Connection) (here later : S) (made meant : Reply) → ((c.node == node) ≡ true → made ≡ meant)
    → later ≡ all_after after here (for_node node (replies_to c (made ∷ []))) → later ≡ all_after after here (for_node node (replies_to c (meant ∷ [])))
same_answer after node c here later made meant same is =
    is ∙ elim (cases_Bool (c.node == node)) [
      | inl own ↦ ap (λ (r : Reply). all_after after here (for_node node (replies_to c (r ∷ [])))) (same own)
      | inr other ↦ ap (all_after after here) (other_replies node c (made ∷ []) other ∙ sym (other_replies node c (meant ∷ []) other))
    ]

-- messages, and then a reply
pub both_sent : {S : Type 0} (after : S → Emission → S) (node : ℕ) (before here later : S) (one two : List Emission) → here ≡ all_after after before (for_node node one)
    → later ≡ all_after after here (for_node node two) → later ≡ all_after after before (for_node node (one ++ two))
both_sent after node before here later one two first second =
    second ∙ ap (λ s. all_after after s (for_node node two)) first ∙ sym (fold-append after before (for_node node one) (for_node node two))
    ∙ ap (all_after after before) (sym (for_node-append node one two))

-- what a PUBLISH emits
pub emitted_publish : (s : Server) (k : Keyspace) (l : ℕ) (d : finmap.FinMap connection_cmp ℕ) (h : finmap.FinMap connection_cmp Held) (w : Watching) (c : Connection) (now : ℕ) (command : SessionUpdate)
    (words shown : List Bytes) → parts k l d h w ≡ s → command ≡ session_updates.Publish → shown ≡ drop 1 words
    → emitted_by s c now (Act (call (session_command command) words)) ≡ publish_messages (subscriptions_of h) shown ++ replies_to c (option_to_list (publish_reply (subscriptions_of h) shown))
emitted_publish s k l d h w c now command words shown is publishes behind_name =
    ap (λ (x : Server). emitted_by x c now (Act (call (session_command command) words))) (sym is)
    ∙ ap (λ (x : SessionUpdate). emitted_by (parts k l d h w) c now (Act (call (session_command x) words))) publishes
    ∙ ap (λ (es : List Emission). es ++ replies_to c (published (subscriptions_of h) (drop 1 words) (begun k (database_in d c))).replies) (published_messages (subscriptions_of h) (drop 1 words) k (database_in d c))
    ∙ ap (λ (rs : List Reply). publish_messages (subscriptions_of h) (drop 1 words) ++ replies_to c rs) (published_replies (subscriptions_of h) (drop 1 words) k (database_in d c))
    ∙ ap (λ (ws : List Bytes). publish_messages (subscriptions_of h) ws ++ replies_to c (option_to_list (publish_reply (subscriptions_of h) ws))) (sym behind_name)

-- what ends a connection
pub close_deed : (update : Update) (reply : Option code.Reply) → update ≡ updates.Close reply → End (option_map reply_of reply) ≡ update_deed update
close_deed update None is = ap update_deed (sym is)
close_deed update (Some reply) is = ap update_deed (sym is)
