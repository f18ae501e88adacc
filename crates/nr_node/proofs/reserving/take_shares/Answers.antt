use Rattle.std.proofs.Common.{◌≡◌, Some, refl, ap, sym, ◌∙◌, subst}
use Rattle.nr_entry.specs.Shares.{entry_of}
use Rattle.nr_node.specs.declared.next.Next.TheVariants as forms
use Rattle.nr_node.specs.Next.{jobs_shared, jobs_next, IsNextOf}
use Rattle.nr_node.proofs.Taking.{some_is, none_is, shared_jobs, kept_taken, whole_taken, led_taken, none_led, left_due, left_next, err_anyhow}
use Rattle.nr_node.proofs.reserving.take_shares.Goals as goal

pub returns-in-Some-Shared-clause-some : goal.returns-in-Some-Shared-clause-some
returns-in-Some-Shared-clause-some c =
    let is : c.args.next.now ≡ Some (forms.Shared c.in-Some-Shared.shares) = sym c.take.ensures.value ∙ c.in-Some-Shared.is ∙ ap Some c.in-Some-Shared.field-0-is in
    let q = subst (IsNextOf c.args.replica.now.node c.args.nodes) is c.requires.next in (
      q.0,
      q.1,
      q.2,
      kept_taken q.0 c.args.next.now c.take.new.self c.args.replica.now c.take.ensures.after
          (ap jobs_next is ∙ ap jobs_shared q.1 ∙ shared_jobs q.0 c.args.nodes c.requires.nodes),
    )

pub returns-in_ok-share-in-Some-Unshared-clause-some : goal.returns-in_ok-share-in-Some-Unshared-clause-some
returns-in_ok-share-in-Some-Unshared-clause-some c =
    let e = entry_of c.in-Some-Unshared.entry in
    let is : c.args.next.now ≡ Some (forms.Unshared c.in-Some-Unshared.entry) = sym c.take.ensures.value ∙ c.in-Some-Unshared.is ∙ ap Some c.in-Some-Unshared.field-0-is in
    let own = subst (IsNextOf c.args.replica.now.node c.args.nodes) is c.requires.next in
    let h = c.in_ok-share-in-Some-Unshared.ensures.ok in
    (e, h.0, own, whole_taken e c.args.next.now _ c.args.replica.now c.args.replica.now (h.1 ∙ c.take.ensures.after) refl (ap jobs_next is))

pub returns-in_err-share-in-Some-Unshared-clause-err : goal.returns-in_err-share-in-Some-Unshared-clause-err
returns-in_err-share-in-Some-Unshared-clause-err c =
    let e = entry_of c.in-Some-Unshared.entry in
    let is : c.args.next.now ≡ Some (forms.Unshared c.in-Some-Unshared.entry) = sym c.take.ensures.value ∙ c.in-Some-Unshared.is ∙ ap Some c.in-Some-Unshared.field-0-is in
    let taken = whole_taken e c.args.next.now c.take.new.self c.args.replica.now c.args.replica.now c.take.ensures.after refl (ap jobs_next is) in
    err_anyhow _ _ (left_due e c.args.next.now c.take.new.self _ c.args.replica.now c.args.replica.now taken c.in_err-share-in-Some-Unshared.ensures.err)

pub returns-in_err-share-in-Some-Unshared-clause-next : goal.returns-in_err-share-in-Some-Unshared-clause-next
returns-in_err-share-in-Some-Unshared-clause-next c =
    let is : c.args.next.now ≡ Some (forms.Unshared c.in-Some-Unshared.entry) = sym c.take.ensures.value ∙ c.in-Some-Unshared.is ∙ ap Some c.in-Some-Unshared.field-0-is in
    let own = subst (IsNextOf c.args.replica.now.node c.args.nodes) is c.requires.next in
    err_anyhow _ _ (left_next (entry_of c.in-Some-Unshared.entry) _ c.args.replica.now.node c.args.nodes c.in_err-share-in-Some-Unshared.ensures.err own)

pub returns-in_ok-share-in-Some-clause-some : goal.returns-in_ok-share-in-Some-clause-some
returns-in_ok-share-in-Some-clause-some c =
    let e = c.in-Some.entry in
    let is = sym c.take.ensures.value ∙ c.in-None.is in
    let led = some_is _ _ _ c.in-Some.is c.in_ok-entry-in-None.ensures.some in
    let h = c.in_ok-share-in-Some.ensures.ok in (
      e,
      h.0,
      led.0,
      led_taken e c.args.next.now _ c.args.replica.now c.take_entry.new.self (h.1 ∙ c.take.ensures.after) is led.1 c.in_ok-entry-in-None.ensures.left c.in_ok-entry-in-None.ensures.rest,
    )

pub returns-in_err-share-in-Some-clause-err : goal.returns-in_err-share-in-Some-clause-err
returns-in_err-share-in-Some-clause-err c =
    let e = c.in-Some.entry in
    let is = sym c.take.ensures.value ∙ c.in-None.is in
    let led = some_is _ _ _ c.in-Some.is c.in_ok-entry-in-None.ensures.some in
    let taken = led_taken e c.args.next.now c.take.new.self c.args.replica.now c.take_entry.new.self c.take.ensures.after is led.1 c.in_ok-entry-in-None.ensures.left
    c.in_ok-entry-in-None.ensures.rest in
    err_anyhow _ _ (left_due e c.args.next.now c.take.new.self _ c.args.replica.now c.take_entry.new.self taken c.in_err-share-in-Some.ensures.err)

pub returns-in_err-share-in-Some-clause-next : goal.returns-in_err-share-in-Some-clause-next
returns-in_err-share-in-Some-clause-next c =
    let led = some_is _ _ _ c.in-Some.is c.in_ok-entry-in-None.ensures.some in
    err_anyhow _ _ (left_next c.in-Some.entry _ c.args.replica.now.node c.args.nodes c.in_err-share-in-Some.ensures.err led.0)

pub returns-in-None-2-clause-none : goal.returns-in-None-2-clause-none
returns-in-None-2-clause-none c =
    none_led c.args.next.now c.take.new.self c.args.replica.now c.take_entry.new.self c.take.ensures.after (sym c.take.ensures.value ∙ c.in-None.is)
    (none_is _ _ c.in-None-2.is c.in_ok-entry-in-None.ensures.none) c.in_ok-entry-in-None.ensures.left c.in_ok-entry-in-None.ensures.rest
