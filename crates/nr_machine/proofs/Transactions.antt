-- Commands of a transaction, one after the other.
use Rattle.std.proofs.Common.{◌≡◌, ℕ, ◌+◌, ◌<◌, ◌≤◌, Bool, List, [], ◌∷◌, ◌++◌, length, drop, get_or, map, refl, ap, sym, ◌∙◌, append_assoc, append-nil}
use Rattle.std.specs.Prelude.{fold, option_to_list}
use Rattle.std.proofs.lemmas.List.{drop_all}
use Rattle.std.proofs.lemmas.List.Sums.{fold-append}
use Rattle.nr_model.specs.Bytes.{Bytes}
use Rattle.nr_model.specs.Replies.{Reply}
use Rattle.nr_model.specs.Keyspace.{Keyspace}
use Rattle.nr_model.specs.declared.command.Command.TheVariants as commands
use Rattle.nr_model.specs.declared.command.Operation.TheVariants.{Look, Change}
use Rattle.nr_model.specs.Sequential.{Found, Progress, acted, acted_all, published, for_node}
use Rattle.nr_model.specs.Sequential.Events.{Emission}
use Rattle.nr_model.specs.Sequential.Messages.{Subscriptions}
use Rattle.nr_resp.specs.Check.{call}
use Rattle.nr_entry.specs.declared.job.Queueable.{Queueable}
use Rattle.nr_entry.specs.declared.job.Queueable.TheVariants as queueable
use Rattle.nr_entry.specs.declared.job.Queued.{Queued}
use Rattle.nr_entry.specs.Kinds.{queued_command, queued_call}
use Rattle.nr_emission.specs.Emitted.{all_after}
use Rattle.nr_emission.specs.Messages.{publish_messages, publish_reply}
use Rattle.nr_emission.proofs.Nodes.{for_node-append}
use Rattle.nr_emission.proofs.Sent.{IsFront, front_more, cut}
use Rattle.nr_watch.specs.Watching.{Watching, touched_at}
use Rattle.nr_machine.specs.Ran.{among, begun, Runs}

-- what was done, and what was done behind it
abbrev pub joined : Progress → Progress → Progress
joined p r = record { keyspace = r.keyspace; database = r.database; touched = p.touched ++ r.touched; messages = p.messages ++ r.messages; replies = p.replies ++ r.replies }

-- a reply alone, and nothing else
replied : (p : Progress) (replies : List Reply)
    → record p { replies = p.replies ++ replies } ≡ joined p (record (begun p.keyspace p.database) { replies = replies })
replied p replies i =
    record { keyspace = p.keyspace; database = p.database; touched = sym (append-nil p.touched) i; messages = sym (append-nil p.messages) i; replies = p.replies ++ replies }

nothing : (p : Progress) → p ≡ joined p (begun p.keyspace p.database)
nothing p i =
    record { keyspace = p.keyspace; database = p.database; touched = sym (append-nil p.touched) i; messages = sym (append-nil p.messages) i; replies = sym (append-nil p.replies) i }

published_from : (subscriptions : Subscriptions) (words : List Bytes) (p : Progress) → published subscriptions words p ≡ joined p (published subscriptions words (begun p.keyspace p.database))
published_from subscriptions [] p = nothing p
published_from subscriptions (channel ∷ []) p = nothing p
published_from subscriptions (channel ∷ text ∷ words) p = λ i. record {
  keyspace = p.keyspace;
  database = p.database;
  touched = sym (append-nil p.touched) i;
  messages = p.messages ++ publish_messages subscriptions (channel ∷ text ∷ words);
  replies = p.replies ++ option_to_list (publish_reply subscriptions (channel ∷ text ∷ words));
}

-- a command does the same behind whatever was done
pub acted_from : (found : Found) (now : ℕ) (command : Queueable) (words : List Bytes) (p : Progress)
    → acted found now (queued_command command) (call (queued_command command) words) p
    ≡ joined p (acted found now (queued_command command) (call (queued_command command) words) (begun p.keyspace p.database))
acted_from found now (queueable.Perform (Look command)) words p = replied p _
acted_from found now (queueable.Perform (Change command)) words p = λ i.
    record (acted found now (commands.Perform (Change command)) (call (commands.Perform (Change command)) words) p) { messages = sym (append-nil p.messages) i }
acted_from found now queueable.Unwatch words p = replied p _
acted_from found now queueable.Publish words p = published_from found.subscriptions (drop 1 words) p
acted_from found now queueable.Pubsub words p = replied p _

-- what PUBLISH sends
pub published_messages : (subscriptions : Subscriptions) (words : List Bytes) (keyspace : Keyspace) (database : ℕ)
    → (published subscriptions words (begun keyspace database)).messages ≡ publish_messages subscriptions words
published_messages subscriptions [] keyspace database = refl
published_messages subscriptions (channel ∷ []) keyspace database = refl
published_messages subscriptions (channel ∷ text ∷ words) keyspace database = refl

pub published_replies : (subscriptions : Subscriptions) (words : List Bytes) (keyspace : Keyspace) (database : ℕ)
    → (published subscriptions words (begun keyspace database)).replies ≡ option_to_list (publish_reply subscriptions words)
published_replies subscriptions [] keyspace database = refl
published_replies subscriptions (channel ∷ []) keyspace database = refl
published_replies subscriptions (channel ∷ text ∷ words) keyspace database = refl

abbrev one_acted : Subscriptions → ℕ → Queued → Progress → Progress
one_acted subscriptions now cmd p = acted (among subscriptions) now (queued_command cmd.command) (queued_call cmd) p

abbrev all_acted : Subscriptions → ℕ → List Queued → Progress → Progress
all_acted subscriptions now cmds p = acted_all (among subscriptions) now (map queued_call cmds) p

-- the messages so far stay in front
grown : (subscriptions : Subscriptions) (now : ℕ) (cmds : List Queued) (p : Progress) → (more : List Emission) × (p.messages ++ more ≡ (all_acted subscriptions now cmds p).messages)
grown subscriptions now [] p = ([], append-nil p.messages)
grown subscriptions now (cmd ∷ cmds) p =
    let r = one_acted subscriptions now cmd (begun p.keyspace p.database) in
    let is : one_acted subscriptions now cmd p ≡ joined p r = acted_from (among subscriptions) now cmd.command cmd.words.items p in
    let rest = grown subscriptions now cmds (joined p r) in (
      r.messages ++ rest.0,
      sym (append_assoc p.messages r.messages rest.0) ∙ rest.1 ∙ ap (λ (q : Progress). (all_acted subscriptions now cmds q).messages) (sym is),
    )

-- The first of the commands were run, and the others do the rest of what all do.
pub record Along {S : Type 0} (after : S → Emission → S) (node : ℕ) (answered : Bool) (subscriptions : Subscriptions) (now : ℕ) (all : List Queued) (k0 : Keyspace) (d0 : ℕ) (w0 : Watching) (o0 : S)
    (rest : List Queued) (keyspace : Keyspace) (database : ℕ) (watches : Watching) (out : S) (replies : List Reply) : Type 0 where
  pub done : Progress
  pub ran : Runs after node answered done keyspace database w0 watches o0 out [] replies
  pub further : all_acted subscriptions now rest done ≡ all_acted subscriptions now all (begun k0 d0)

pub none_yet : {S : Type 0} (after : S → Emission → S) (node : ℕ) (answered : Bool) (subscriptions : Subscriptions) (now : ℕ) (all : List Queued) (k0 : Keyspace) (d0 : ℕ) (w0 : Watching) (o0 : S)
    → Along after node answered subscriptions now all k0 d0 w0 o0 (drop 0 all) k0 d0 w0 o0 []
none_yet after node answered subscriptions now all k0 d0 w0 o0 = record {
  done = begun k0 d0;
  ran = record { keyspace_is = refl; database_is = refl; told = refl; sent = refl; replied = λ _. refl };
  further = refl;
}

begins : (subscriptions : Subscriptions) (now : ℕ) (all : List Queued) (i : ℕ) (cmd : Queued) (p : Progress) → i < length all → cmd ≡ get_or all i cmd
    → all_acted subscriptions now (drop i all) p ≡ all_acted subscriptions now (drop (i + 1) all) (one_acted subscriptions now cmd p)
begins subscriptions now all i cmd p below at = ap (λ (cmds : List Queued). all_acted subscriptions now cmds p) (cut all i cmd below at)

step_is : (subscriptions : Subscriptions) (now : ℕ) (cmd : Queued) (p : Progress) (keyspace : Keyspace) (database : ℕ) → keyspace ≡ p.keyspace → database ≡ p.database
    → one_acted subscriptions now cmd p ≡ joined p (one_acted subscriptions now cmd (begun keyspace database))
step_is subscriptions now cmd p keyspace database k d =
    acted_from (among subscriptions) now cmd.command cmd.words.items p
    ∙ ap (λ (x : Keyspace). joined p (one_acted subscriptions now cmd (begun x p.database))) (sym k)
    ∙ ap (λ (x : ℕ). joined p (one_acted subscriptions now cmd (begun keyspace x))) (sym d)

-- one command further
pub one_further : {S : Type 0} (after : S → Emission → S) (node : ℕ) (answered : Bool) (subscriptions : Subscriptions) (now : ℕ) (all : List Queued) (k0 : Keyspace) (d0 : ℕ) (w0 : Watching) (o0 : S)
    (i : ℕ) (cmd : Queued) (keyspace keyspace' : Keyspace) (database database' : ℕ) (watches watches' : Watching) (out out' : S) (replies replies' : List Reply)
    → i < length all → cmd ≡ get_or all i cmd
    → Along after node answered subscriptions now all k0 d0 w0 o0 (drop i all) keyspace database watches out replies
    → Runs after node answered (one_acted subscriptions now cmd (begun keyspace database)) keyspace' database' watches watches' out out' replies replies'
    → Along after node answered subscriptions now all k0 d0 w0 o0 (drop (i + 1) all) keyspace' database' watches' out' replies'
one_further after node answered subscriptions now all k0 d0 w0 o0 i cmd keyspace keyspace' database database' watches watches' out out' replies replies' below at along step =
    let p = along.done in
    let r = one_acted subscriptions now cmd (begun keyspace database) in
    let is = step_is subscriptions now cmd p keyspace database along.ran.keyspace_is along.ran.database_is in
    record {
      done = joined p r;
      ran = record {
        keyspace_is = step.keyspace_is;
        database_is = step.database_is;
        told = step.told ∙ ap (λ (w : Watching). fold touched_at w r.touched) along.ran.told ∙ sym (fold-append touched_at w0 p.touched r.touched);
        sent =
            step.sent ∙ ap (λ s. all_after after s (for_node node r.messages)) along.ran.sent
            ∙ sym (fold-append after o0 (for_node node p.messages) (for_node node r.messages))
            ∙ ap (all_after after o0) (sym (for_node-append node p.messages r.messages));
        replied = λ yes'. step.replied yes' ∙ ap (λ (rs : List Reply). rs ++ r.replies) (along.ran.replied yes');
      };
      further =
          ap (all_acted subscriptions now (drop (i + 1) all)) (sym is)
          ∙ sym (begins subscriptions now all i cmd p below at)
          ∙ along.further;
    }

-- past the last
pub no_further : {S : Type 0} (after : S → Emission → S) (node : ℕ) (answered : Bool) (subscriptions : Subscriptions) (now : ℕ) (all : List Queued) (k0 : Keyspace) (d0 : ℕ) (w0 : Watching) (o0 : S)
    (i : ℕ) (keyspace : Keyspace) (database : ℕ) (watches : Watching) (out : S) (replies : List Reply) → length all ≤ i
    → Along after node answered subscriptions now all k0 d0 w0 o0 (drop i all) keyspace database watches out replies
    → Runs after node answered (all_acted subscriptions now all (begun k0 d0)) keyspace database w0 watches o0 out [] replies
no_further after node answered subscriptions now all k0 d0 w0 o0 i keyspace database watches out replies past along =
    let is : along.done ≡ all_acted subscriptions now all (begun k0 d0) =
    sym (ap (λ (cmds : List Queued). all_acted subscriptions now cmds along.done) (drop_all i all past)) ∙ along.further in
    record {
      keyspace_is = along.ran.keyspace_is ∙ ap (λ (p : Progress). p.keyspace) is;
      database_is = along.ran.database_is ∙ ap (λ (p : Progress). p.database) is;
      told = along.ran.told ∙ ap (λ (p : Progress). fold touched_at w0 p.touched) is;
      sent = along.ran.sent ∙ ap (λ (p : Progress). all_after after o0 (for_node node p.messages)) is;
      replied = λ yes'. along.ran.replied yes' ∙ ap (λ (p : Progress). p.replies) is;
    }

-- what was sent before a refusal, and in the command that was refused, is a front
pub so_far : {S : Type 0} (after : S → Emission → S) (node : ℕ) (answered : Bool) (subscriptions : Subscriptions) (now : ℕ) (all : List Queued) (k0 : Keyspace) (d0 : ℕ) (w0 : Watching) (o0 : S)
    (i : ℕ) (cmd : Queued) (keyspace : Keyspace) (database : ℕ) (watches : Watching) (out out' : S) (replies : List Reply)
    → i < length all → cmd ≡ get_or all i cmd
    → Along after node answered subscriptions now all k0 d0 w0 o0 (drop i all) keyspace database watches out replies
    → IsFront after out out' (for_node node (one_acted subscriptions now cmd (begun keyspace database)).messages)
    → IsFront after o0 out' (for_node node (all_acted subscriptions now all (begun k0 d0)).messages)
so_far after node answered subscriptions now all k0 d0 w0 o0 i cmd keyspace database watches out out' replies below at along some =
    let p = along.done in
    let r = one_acted subscriptions now cmd (begun keyspace database) in
    let is = step_is subscriptions now cmd p keyspace database along.ran.keyspace_is along.ran.database_is in
    let rest = grown subscriptions now (drop (i + 1) all) (joined p r) in
    let whole = (all_acted subscriptions now all (begun k0 d0)).messages in
    let parts : p.messages ++ (r.messages ++ rest.0) ≡ whole =
    sym (append_assoc p.messages r.messages rest.0) ∙ rest.1
    ∙ ap (λ (q : Progress). (all_acted subscriptions now (drop (i + 1) all) q).messages) (sym is)
    ∙ ap (λ (q : Progress). q.messages) (sym (begins subscriptions now all i cmd p below at) ∙ along.further) in
    front_more after node o0 out out' whole r.messages rest.0 some (record { front = p.messages; seen = along.ran.sent; parts = parts })

-- what a PUBLISH among them sends
pub publish_acted : (subscriptions : Subscriptions) (now : ℕ) (command : Queueable) (words shown : List Bytes) (keyspace : Keyspace) (database : ℕ) → command ≡ queueable.Publish → shown ≡ drop 1 words
    → publish_messages subscriptions shown ≡ (acted (among subscriptions) now (queued_command command) (call (queued_command command) words) (begun keyspace database)).messages
publish_acted subscriptions now command words shown keyspace database is same =
    ap (publish_messages subscriptions) same ∙ sym (published_messages subscriptions (drop 1 words) keyspace database)
    ∙ ap (λ (c : Queueable). (acted (among subscriptions) now (queued_command c) (call (queued_command c) words) (begun keyspace database)).messages) (sym is)
