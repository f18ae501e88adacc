-- What a sequence emits for a connection: piece by piece, and nothing where none of its items are the connection's, since it is subscribed to nothing.
use Rattle.std.proofs.Common.{◌≡◌, ℕ, Bool, true, false, cond, inl, inr, List, [], ◌∷◌, ◌++◌, map, refl, ap, sym, ◌∙◌, append_assoc}
use Rattle.std.specs.Prelude.{filter, flat_map, Option, Some, None, unwrap_or}
use Rattle.std.proofs.lemmas.Bool.{cases_Bool}
use Rattle.nr_model.specs.Bytes.{Bytes}
use Rattle.nr_model.specs.Replies.{Reply, reply_text}
use Rattle.nr_model.specs.Patterns.{matches}
use Rattle.nr_model.specs.declared.command.Command.{Command}
use Rattle.nr_model.specs.declared.command.Command.TheVariants.{Perform, Session}
use Rattle.nr_model.specs.declared.command.Operation.TheVariants.{Look, Change}
use Rattle.nr_model.specs.declared.command.Session.TheVariants.{Multi, Exec, Discard, Watch, Unwatch, Quit, Subscribe, Unsubscribe, Publish, Pubsub}
use Rattle.nr_model.specs.declared.command.Kind.{Kind}
use Rattle.nr_model.specs.declared.command.Kind.TheVariants.{Channels, Patterns}
use Rattle.nr_model.specs.Names.{Held, holding_none, held}
use Rattle.nr_model.specs.Items.{Connection, connection_cmp, same_connection, Call, arguments, Deed, Say, Act, Run, Abort, End, Item, Sequence}
use Rattle.nr_model.specs.Sequential.Events.{Emission}
use Rattle.nr_model.specs.Sequential.Subscribers.{names}
use Rattle.nr_model.specs.Sequential.Messages.{Subscriptions, to, message, pattern_message, deliveries}
use Rattle.nr_model.specs.Sequential.{Found, Progress, start, published, acted, acted_all, run_calls, done_by, bytes_for, emitted_for}
use Rattle.nr_model.specs.Servers.{Server, fresh, held_in, subscribers_in, names_in, subscriptions_in, found_in, now_in, progress_in, stepped, emitted_in, after_all, emitted_all}
use Rattle.nr_model.specs.Asked.{own_jobs}
use Rattle.nr_model.proofs.Subscribed.{own_deed, held-deed}
use Rattle.nr_model.proofs.Serving.{server_is_redis}
use Rattle.nr_model.proofs.JobLists.{same_is, filter-keeps, filter-drops}
use Rattle.std.specs.FinMap as finmap

-- the state behind two parts
pub after_all-append : (s : Server) (items more : Sequence) → after_all s (items ++ more) ≡ after_all (after_all s items) more
after_all-append s [] more = refl
after_all-append s (item ∷ items) more = after_all-append (stepped s item) items more

-- what two parts emit
pub emitted_all-append : (s : Server) (items more : Sequence) → emitted_all s (items ++ more) ≡ emitted_all s items ++ emitted_all (after_all s items) more
emitted_all-append s [] more = refl
emitted_all-append s (item ∷ items) more =
    ap (λ (es : List Emission). emitted_in s item ++ es) (emitted_all-append (stepped s item) items more)
    ∙ sym (append_assoc (emitted_in s item) (emitted_all (stepped s item) items) (emitted_all (after_all (stepped s item) items) more))

-- the bytes of two parts
pub bytes_for-append : (c : Connection) (es more : List Emission) → bytes_for c (es ++ more) ≡ bytes_for c es ++ bytes_for c more
bytes_for-append c [] more = refl
bytes_for-append c (e ∷ es) more =
    let ih = bytes_for-append c es more in
    let text = reply_text e.reply in
    elim (same_connection e.connection c) as (λ own. cond own (text ++ bytes_for c (es ++ more)) (bytes_for c (es ++ more)) ≡ cond own (text ++ bytes_for c es) (bytes_for c es) ++ bytes_for c more) [
      | true ↦ ap (λ (b : Bytes). text ++ b) ih ∙ sym (append_assoc text (bytes_for c es) (bytes_for c more))
      | false ↦ ih
    ]

-- by the server
pub emitted_for-is : (c : Connection) (items : Sequence) → emitted_for c items ≡ bytes_for c (emitted_all fresh items)
emitted_for-is c items = ap (bytes_for c) (server_is_redis.emissions items)

-- what more items emit for a connection
pub emitted_for-more : (c : Connection) (items more : Sequence)
    → emitted_for c (items ++ more) ≡ emitted_for c items ++ bytes_for c (emitted_all (after_all fresh items) more)
emitted_for-more c items more =
    emitted_for-is c (items ++ more)
    ∙ ap (bytes_for c) (emitted_all-append fresh items more)
    ∙ bytes_for-append c (emitted_all fresh items) (emitted_all (after_all fresh items) more)
    ∙ ap (λ (b : Bytes). b ++ bytes_for c (emitted_all (after_all fresh items) more)) (sym (emitted_for-is c items))

-- a reply to connections among which one isn't
to_filtered : (c : Connection) (reply : Reply) (test : Connection → Bool) (all : List Connection) → test c ≡ false
    → bytes_for c (map (to reply) (filter test all)) ≡ []
to_filtered c reply test [] out = refl
to_filtered c reply test (d ∷ all) out =
    let ih = to_filtered c reply test all out in
    elim (cases_Bool (test d)) [
      | inr e ↦ ap (λ (ds : List Connection). bytes_for c (map (to reply) ds)) (filter-drops test d all e) ∙ ih
      | inl e ↦ elim (cases_Bool (same_connection d c)) [
        | inl same ↦ absurd (cc (e, ap test (same_is d c same), out))
        | inr other ↦
            let rest = bytes_for c (map (to reply) (filter test all)) in
            ap (λ (ds : List Connection). bytes_for c (map (to reply) ds)) (filter-keeps test d all e)
            ∙ ap (λ (own : Bool). cond own (reply_text reply ++ rest) rest) other ∙ ih
      ]
    ]

-- replies, each to such connections
to_each : (c : Connection) (f : Bytes → List Emission) → ((name : Bytes) → bytes_for c (f name) ≡ []) → (ns : List Bytes)
    → bytes_for c (flat_map f ns) ≡ []
to_each c f silent [] = refl
to_each c f silent (name ∷ ns) = bytes_for-append c (f name) (flat_map f ns) ∙ (λ i. silent name i ++ to_each c f silent ns i)

-- no message is for a connection that holds nothing
abbrev SendsNone : Connection → Subscriptions → Type 0
SendsNone c all = (channel text : Bytes) → bytes_for c (deliveries all channel text) ≡ []

not_held : (s : Server) (c : Connection) (kind : Kind) (name : Bytes) → held_in s.held c ≡ holding_none → names (held kind (held_in s.held c)) name ≡ false
not_held s c Channels name none = ap (λ (h : Held). names h.channels name) none
not_held s c Patterns name none = ap (λ (h : Held). names h.patterns name) none

sends_none : (s : Server) (c : Connection) → held_in s.held c ≡ holding_none → SendsNone c (subscriptions_in s)
sends_none s c none channel text =
    let subscribed = λ (kind : Kind) (name : Bytes) (d : Connection). names (held kind (held_in s.held d)) name in
    let to_them : (kind : Kind) (name : Bytes) (reply : Reply) → bytes_for c (map (to reply) (subscribers_in s.held kind name)) ≡ [] =
    λ kind name reply. to_filtered c reply (subscribed kind name) (finmap.keys s.held) (not_held s c kind name none) in
    let by_pattern = λ (p : Bytes). map (to (pattern_message channel text p)) (subscribers_in s.held Patterns p) in
    let matching = filter (λ (p : Bytes). matches p channel) (names_in s.held Patterns) in
    bytes_for-append c (map (to (message channel text)) (subscribers_in s.held Channels channel)) (flat_map by_pattern matching)
    ∙ (λ i. to_them Channels channel (message channel text) i ++ to_each c by_pattern (λ p. to_them Patterns p (pattern_message channel text p)) matching i)

-- so no command sends it one
abbrev IsSilent : Connection → Progress → Type 0
IsSilent c p = bytes_for c p.messages ≡ []

published_silent : (c : Connection) (all : Subscriptions) → SendsNone c all → (words : List Bytes) (p : Progress) → IsSilent c p
    → IsSilent c (published all words p)
published_silent c all none [] p still = still
published_silent c all none (channel ∷ []) p still = still
published_silent c all none (channel ∷ text ∷ words) p still =
    bytes_for-append c p.messages (deliveries all channel text) ∙ (λ i. still i ++ none channel text i)

act_silent : (c : Connection) (found : Found) → SendsNone c found.subscriptions → (now : ℕ) (command : Command) (call : Call) (p : Progress)
    → IsSilent c p → IsSilent c (acted found now command call p)
act_silent c found none now (Perform (Look command)) call p still = still
act_silent c found none now (Perform (Change command)) call p still = still
act_silent c found none now (Session (Subscribe kind)) call p still = still
act_silent c found none now (Session (Unsubscribe kind)) call p still = still
act_silent c found none now (Session Publish) call p still = published_silent c found.subscriptions none (arguments call) p still
act_silent c found none now (Session Pubsub) call p still = still
act_silent c found none now (Session Multi) call p still = still
act_silent c found none now (Session Exec) call p still = still
act_silent c found none now (Session Discard) call p still = still
act_silent c found none now (Session Watch) call p still = still
act_silent c found none now (Session Unwatch) call p still = still
act_silent c found none now (Session Quit) call p still = still

-- nor do the commands of a transaction
acts_silent : (c : Connection) (found : Found) → SendsNone c found.subscriptions → (now : ℕ) (calls : List Call) (p : Progress)
    → IsSilent c p → IsSilent c (acted_all found now calls p)
acts_silent c found none now [] p still = still
acts_silent c found none now (call ∷ calls) p still =
    acts_silent c found none now calls (acted found now call.command call p) (act_silent c found none now call.command call p still)

run_silent : (c : Connection) (found : Found) → SendsNone c found.subscriptions
    → (now : ℕ) (calls : List Call) (p : Progress) (spoiled : Bool) → found.spoiled ≡ spoiled
    → IsSilent c p → IsSilent c (run_calls found now calls p)
run_silent c found none now calls p true e still = rw e still
run_silent c found none now calls p false e still = rw e (acts_silent c found none now calls p still)

-- by the deed
deed_silent : (c : Connection) (found : Found) → SendsNone c found.subscriptions → (now : ℕ) (deed : Deed) (p : Progress) → IsSilent c p
    → IsSilent c (done_by found now deed p)
deed_silent c found none now (Say reply) p still = still
deed_silent c found none now (Act call) p still = act_silent c found none now call.command call p still
deed_silent c found none now (Run calls) p still = run_silent c found none now calls p found.spoiled refl still
deed_silent c found none now Abort p still = still
deed_silent c found none now (End None) p still = still
deed_silent c found none now (End (Some reply)) p still = still

-- replies as emissions
abbrev pub replies_to : Connection → List Reply → List Emission
replies_to c replies = map {A = Reply} (λ reply. record { connection = c; reply = reply }) replies

-- replies are for their connection alone
pub to_others : (c d : Connection) (replies : List Reply) → same_connection c d ≡ false → bytes_for d (replies_to c replies) ≡ []
to_others c d [] other = refl
to_others c d (reply ∷ replies) other =
    let more = bytes_for d (replies_to c replies) in
    ap (λ (own : Bool). cond own (reply_text reply ++ more) more) other ∙ to_others c d replies other

-- an item emits nothing for another connection that holds nothing
item_silent : (c : Connection) (s : Server) (item : Item) → held_in s.held c ≡ holding_none → same_connection item.connection c ≡ false
    → bytes_for c (emitted_in s item) ≡ []
item_silent c s item none other =
    let p = progress_in s item in
    let now = now_in s item in
    let found = found_in s item.connection now in
    let still : bytes_for c p.messages ≡ [] = deed_silent c found (sends_none s c none) now item.deed (start found) refl in
    bytes_for-append c p.messages (replies_to item.connection p.replies) ∙ (λ i. still i ++ to_others item.connection c p.replies other i)

-- and that goes on to hold nothing
holds_none : (c : Connection) (s : Server) (item : Item) → held_in s.held c ≡ holding_none → same_connection item.connection c ≡ false
    → held_in (stepped s item).held c ≡ holding_none
holds_none c s item none other =
    held-deed s.held item.connection c item.deed
    ∙ ap (λ (own : Bool). cond own (own_deed item.deed (held_in s.held item.connection)) (held_in s.held c)) other ∙ none

-- nothing is emitted for a connection that has no item
silent_from : (c : Connection) (s : Server) (items : Sequence) → held_in s.held c ≡ holding_none → own_jobs c items ≡ []
    → bytes_for c (emitted_all s items) ≡ []
silent_from c s [] nothing none = refl
silent_from c s (item ∷ items) nothing none =
    let of_c = λ (j : Item). same_connection j.connection c in
    elim (cases_Bool (same_connection item.connection c)) [
      | inl e ↦ absurd (cc (filter-keeps of_c item items e, none))
      | inr e ↦ let here = item_silent c s item nothing e in
          let more = silent_from c (stepped s item) items (holds_none c s item nothing e) (sym (filter-drops of_c item items e) ∙ none) in
          bytes_for-append c (emitted_in s item) (emitted_all (stepped s item) items) ∙ (λ i. here i ++ more i)
    ]

pub silent : (c : Connection) (items : Sequence) → own_jobs c items ≡ [] → emitted_for c items ≡ []
silent c items none =
    emitted_for-is c items ∙ silent_from c fresh items (ap (λ (o : Option Held). unwrap_or o holding_none) (finmap.get-empty connection_cmp c)) none
