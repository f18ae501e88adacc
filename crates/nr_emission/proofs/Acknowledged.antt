-- Names of one command, one after the other: what the connection holds, and what a sink has of the acknowledgements.
use Rattle.std.proofs.Common.{◌≡◌, ℕ, suc, ◌<◌, Bool, true, false, List, [], ◌∷◌, length, drop, fold, refl, ap, sym, ◌∙◌, subst, arith}
use Rattle.std.specs.Prelude.{Some, None, slice_get}
use Rattle.std.specs.List.Sorted.{IsStrictlySortedBy}
use Rattle.nr_model.specs.Bytes.{Bytes}
use Rattle.nr_model.specs.declared.command.Kind.{Kind}
use Rattle.nr_model.specs.Keyspace.{byte_cmp}
use Rattle.nr_model.specs.Names.{Held, held, with_held, without_name, unsubscribed}
use Rattle.nr_model.specs.Items.{Connection}
use Rattle.nr_model.specs.Servers.{held_in, with_held_by}
use Rattle.nr_model.specs.Sequential.{for_node}
use Rattle.nr_model.specs.Sequential.Events.{Emission}
use Rattle.nr_model.specs.Sequential.Messages.{acknowledged_all, unsubscribe_verb}
use Rattle.nr_emission.specs.Emitted.{all_after, replies_to}
use Rattle.nr_emission.specs.Subscribing.{IsGivenUp}
use Rattle.nr_emission.proofs.Holding.{Holdings, held-changed, changed_again, held_with, none_left, cleared_again, no_first, first_is, first_removed}
use Rattle.nr_emission.proofs.Sent.{Sent, IsFront, none_sent, sent_more, all_sent, front_unchanged}

-- what is remembered stays as it is where nothing changes
abbrev pub IsKept : Holdings → Connection → Type 0
IsKept all c = with_held_by all c (held_in all c) ≡ all

kept-changed : (now new : Holdings) (c : Connection) (h : Held) → new ≡ with_held_by now c h → IsKept new c
kept-changed now new c h is =
    let own : held_in new c ≡ h = ap (λ m. held_in m c) is ∙ held-changed now c h in
    (λ i. with_held_by (is i) c (own i)) ∙ changed_again now c h h ∙ sym is

goal-changed : (now new : Holdings) (c : Connection) (h : Held) (f : Held → Held) → new ≡ with_held_by now c h → with_held_by new c (f (held_in new c))
    ≡ with_held_by now c (f h)
goal-changed now new c h f is =
    let own : held_in new c ≡ h = ap (λ m. held_in m c) is ∙ held-changed now c h in
    (λ i. with_held_by (is i) c (f (own i))) ∙ changed_again now c h (f h)

-- Of these names the rest is left to be taken.
pub record Acknowledged {S : Type 0} (after : S → Emission → S) (node : ℕ) (c : Connection) (change : Held → Bytes → Held) (verb : Bytes)
    (old now : Holdings) (before here : S)
    (names rest : List Bytes) : Type 0 where
  pub kept : IsKept now c
  pub goal : with_held_by now c (fold change (held_in now c) rest) ≡ with_held_by old c (fold change (held_in old c) names)
  pub sent : Sent after node before here (replies_to c (acknowledged_all change verb (held_in old c) names))
      (replies_to c (acknowledged_all change verb (held_in now c) rest))

pub none_yet : {S : Type 0} (after : S → Emission → S) (node : ℕ) (c : Connection) (change : Held → Bytes → Held) (verb : Bytes) (old : Holdings)
    (before : S) (names : List Bytes)
    → IsKept old c → Acknowledged after node c change verb old old before before names names
none_yet after node c change verb old before names kept =
    record { kept = kept; goal = refl; sent = none_sent after node before (replies_to c (acknowledged_all change verb (held_in old c) names)) }

pub one_further : {S : Type 0} (after : S → Emission → S) (node : ℕ) (c : Connection) (change : Held → Bytes → Held) (verb : Bytes) (old now new : Holdings)
    (before here later : S)
    (names : List Bytes) (name : Bytes) (left rest : List Bytes) → left ≡ name ∷ rest → new ≡ with_held_by now c (change (held_in now c) name)
    → later ≡ all_after after here (for_node node (replies_to c (acknowledged_all change verb (held_in now c) (name ∷ []))))
    → Acknowledged after node c change verb old now before here names left → Acknowledged after node c change verb old new before later names rest
one_further {S} after node c change verb old now new before here later names name left rest begins is more so_far =
    let h = change (held_in now c) name in
    let own : held_in new c ≡ h = ap (λ m. held_in m c) is ∙ held-changed now c h in
    let whole = replies_to c (acknowledged_all change verb (held_in old c) names) in
    let cut = subst (Acknowledged after node c change verb old now before here names) begins so_far in
    record {
      kept = kept-changed now new c h is;
      goal = goal-changed now new c h (λ k. fold change k rest) is ∙ cut.goal;
      sent = subst (λ k. Sent after node before later whole (replies_to c (acknowledged_all change verb k rest))) (sym own)
          (sent_more after node before here later whole (replies_to c (acknowledged_all change verb (held_in now c) (name ∷ [])))
          (replies_to c (acknowledged_all change verb h rest)) more cut.sent);
    }

pub no_further : {S : Type 0} (after : S → Emission → S) (node : ℕ) (c : Connection) (change : Held → Bytes → Held) (verb : Bytes) (old now : Holdings)
    (before here : S)
    (names left : List Bytes) → left ≡ [] → Acknowledged after node c change verb old now before here names left
    → (now ≡ with_held_by old c (fold change (held_in old c) names))
    × (here ≡ all_after after before (for_node node (replies_to c (acknowledged_all change verb (held_in old c) names))))
no_further after node c change verb old now before here names left none so_far =
    let all = subst (Acknowledged after node c change verb old now before here names) none so_far in
    (sym all.kept ∙ all.goal, all_sent after node before here (replies_to c (acknowledged_all change verb (held_in old c) names)) all.sent)

pub so_far : {S : Type 0} (after : S → Emission → S) (node : ℕ) (c : Connection) (change : Held → Bytes → Held) (verb : Bytes) (old now : Holdings)
    (before here later : S)
    (names left : List Bytes) → later ≡ here → Acknowledged after node c change verb old now before here names left
    → IsFront after before later (for_node node (replies_to c (acknowledged_all change verb (held_in old c) names)))
so_far after node c change verb old now before here later names left same along =
    front_unchanged after node before here later (replies_to c (acknowledged_all change verb (held_in old c) names))
    (replies_to c (acknowledged_all change verb (held_in now c) left)) same along.sent

-- one step that gives a name up: none was held, or the first
pub none_given_up : {S : Type 0} (after : S → Emission → S) (node : ℕ) (c : Connection) (kind : Kind) (all : Holdings) (before : S)
    → None ≡ slice_get (held kind (held_in all c)) 0 → IsGivenUp after node c kind all all before before false
none_given_up after node c kind all before none = record { none = λ _. (no_first (held kind (held_in all c)) (sym none), refl, refl); one = λ e. absurd (cc) }

pub one_given_up : {S : Type 0} (after : S → Emission → S) (node : ℕ) (c : Connection) (kind : Kind) (old new : Holdings) (before later : S)
    (name copied : Bytes)
    → Some name ≡ slice_get (held kind (held_in old c)) 0 → IsStrictlySortedBy byte_cmp (held kind (held_in old c)) → copied ≡ name
    → new ≡ with_held_by old c (unsubscribed kind (held_in old c) copied)
    → later ≡ all_after after before (for_node node (replies_to c (acknowledged_all (unsubscribed kind) (unsubscribe_verb kind) (held_in old c) (copied ∷ []))))
    → IsGivenUp after node c kind old new before later true
one_given_up after node c kind old new before later name copied first rises same is more =
    let names = held kind (held_in old c) in
    let begins : names ≡ copied ∷ drop 1 names = first_is names name first ∙ ap (λ (n : Bytes). n ∷ drop 1 names) (sym same) in
    record {
      none = λ e. absurd (cc);
      one = λ _. (
        copied,
        drop 1 names,
        begins,
        held_with kind (without_name names copied) (held_in old c) ∙ ap (λ ns. without_name ns copied) begins
            ∙ first_removed copied (drop 1 names) (subst (IsStrictlySortedBy byte_cmp) begins rises),
        is,
        more,
      );
    }

-- fewer are held behind a step that gave one up
pub fewer_held : {S : Type 0} (after : S → Emission → S) (node : ℕ) (c : Connection) (kind : Kind) (old new : Holdings) (before later : S) (more : Bool)
    → IsGivenUp after node c kind old new before later more → more ≡ true → length (held kind (held_in new c)) < length (held kind (held_in old c))
fewer_held after node c kind old new before later more given is_more =
    let one = given.one is_more in
    let left : held kind (held_in new c) ≡ one.1 = ap (λ m. held kind (held_in m c)) one.4
    ∙ ap (held kind) (held-changed old c (unsubscribed kind (held_in old c) one.0)) ∙ one.3 in
    let was : length (held kind (held_in old c)) ≡ suc (length one.1) = ap length one.2 in
    let is : length (held kind (held_in new c)) ≡ length one.1 = ap length left in
    omega (arith, was, is)

-- All names of a kind, of which those that are held now are left to be given up.
pub record Cleared {S : Type 0} (after : S → Emission → S) (node : ℕ) (c : Connection) (kind : Kind) (old now : Holdings) (before here : S) : Type 0 where
  pub kept : IsKept now c
  pub goal : with_held_by now c (with_held kind [] (held_in now c)) ≡ with_held_by old c (with_held kind [] (held_in old c))
  pub sent : Sent after node before here (replies_to c (acknowledged_all (unsubscribed kind) (unsubscribe_verb kind) (held_in old c)
      (held kind (held_in old c))))
      (replies_to c (acknowledged_all (unsubscribed kind) (unsubscribe_verb kind) (held_in now c) (held kind (held_in now c))))

pub none_cleared : {S : Type 0} (after : S → Emission → S) (node : ℕ) (c : Connection) (kind : Kind) (old : Holdings) (before : S) → IsKept old c
    → Cleared after node c kind old old before before
none_cleared after node c kind old before kept =
    record {
      kept = kept;
      goal = refl;
      sent = none_sent after node before (replies_to c
          (acknowledged_all (unsubscribed kind) (unsubscribe_verb kind) (held_in old c) (held kind (held_in old c))));
    }

pub one_cleared : {S : Type 0} (after : S → Emission → S) (node : ℕ) (c : Connection) (kind : Kind) (old now new : Holdings) (before here later : S)
    (more : Bool)
    → IsGivenUp after node c kind now new here later more → more ≡ true → Cleared after node c kind old now before here
    → Cleared after node c kind old new before later
one_cleared {S} after node c kind old now new before here later more given is_more so_far =
    let one = given.one is_more in
    let name = one.0 in
    let rest = one.1 in
    let change : Held → Bytes → Held = unsubscribed kind in
    let verb = unsubscribe_verb kind in
    let h = change (held_in now c) name in
    let is : new ≡ with_held_by now c h = one.4 in
    let own : held_in new c ≡ h = ap (λ m. held_in m c) is ∙ held-changed now c h in
    let whole = replies_to c (acknowledged_all change verb (held_in old c) (held kind (held_in old c))) in
    let cut : Sent after node before here whole (replies_to c (acknowledged_all change verb (held_in now c) (name ∷ rest))) =
    subst (λ ns. Sent after node before here whole (replies_to c (acknowledged_all change verb (held_in now c) ns))) one.2 so_far.sent in
    let sent : Sent after node before later whole (replies_to c (acknowledged_all change verb h rest)) =
    sent_more after node before here later whole (replies_to c (acknowledged_all change verb (held_in now c) (name ∷ [])))
    (replies_to c (acknowledged_all change verb h rest)) one.5 cut in
    record {
      kept = kept-changed now new c h is;
      goal = goal-changed now new c h (with_held kind []) is ∙ ap (with_held_by now c) (cleared_again kind _ (held_in now c)) ∙ so_far.goal;
      sent = subst (λ k. Sent after node before later whole (replies_to c (acknowledged_all change verb k (held kind k)))) (sym own)
          (subst (λ ns. Sent after node before later whole (replies_to c (acknowledged_all change verb h ns))) (sym one.3) sent);
    }

pub all_cleared : {S : Type 0} (after : S → Emission → S) (node : ℕ) (c : Connection) (kind : Kind) (old now new : Holdings) (before here later : S)
    (more : Bool)
    → IsGivenUp after node c kind now new here later more → more ≡ false → Cleared after node c kind old now before here
    → (new ≡ with_held_by old c (with_held kind [] (held_in old c)))
    × (later ≡ all_after after before (for_node node (replies_to c (acknowledged_all (unsubscribed kind) (unsubscribe_verb kind) (held_in old c)
    (held kind (held_in old c))))))
all_cleared after node c kind old now new before here later more given is_none so_far =
    let none = given.none is_none in
    let verb = unsubscribe_verb kind in
    let whole = replies_to c (acknowledged_all (unsubscribed kind) verb (held_in old c) (held kind (held_in old c))) in
    let sent : Sent after node before here whole [] =
    subst (λ ns. Sent after node before here whole (replies_to c (acknowledged_all (unsubscribed kind) verb (held_in now c) ns))) none.0 so_far.sent in (
      none.1 ∙ sym so_far.kept ∙ ap (with_held_by now c) (sym (none_left kind (held_in now c) none.0)) ∙ so_far.goal,
      none.2
          ∙ all_sent after node before here whole sent,
    )

pub cleared_so_far : {S : Type 0} (after : S → Emission → S) (node : ℕ) (c : Connection) (kind : Kind) (old now : Holdings) (before here later : S) → later
    ≡ here
    → Cleared after node c kind old now before here
    → IsFront after before later (for_node node (replies_to c (acknowledged_all (unsubscribed kind) (unsubscribe_verb kind) (held_in old c)
    (held kind (held_in old c)))))
cleared_so_far after node c kind old now before here later same along =
    front_unchanged after node before here later (replies_to c (acknowledged_all (unsubscribed kind) (unsubscribe_verb kind) (held_in old c)
    (held kind (held_in old c))))
    (replies_to c (acknowledged_all (unsubscribed kind) (unsubscribe_verb kind) (held_in now c) (held kind (held_in now c)))) same along.sent
