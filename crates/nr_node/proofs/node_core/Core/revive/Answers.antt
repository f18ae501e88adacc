use Rattle.std.proofs.Common.{◌≡◌, ℕ, ◌<◌, None, true, inr, refl, ap, sym, ◌∙◌, subst}
use Rattle.std.specs.Prelude.{◌⊎◌}
use Rattle.nr_log_end.specs.Standings.{passed_of}
use Rattle.nr_oplog.specs.declared.view.LogView.{LogView}
use Rattle.nr_node.specs.OwnEntries.{is_from}
use Rattle.nr_node.specs.Advanced.{HasStopped}
use Rattle.nr_node.specs.Level.{NodeState}
use Rattle.nr_node.specs.Next.{jobs_next}
use Rattle.nr_node.specs.Revived.{HasRevived, IsNotYet, revive_refusal, place_of}
use Rattle.nr_node.proofs.Revived.{Reaches, ComesBack, not_refused, revived_within, has_revived, is_not_yet}
use Rattle.nr_node.proofs.Shares.{reached_last, ended_last}
use Rattle.nr_node.proofs.Taking.{IsWithin, goes_within}
use Rattle.nr_node.proofs.node_core.Core.revive.Goals as goal

pub invariant_of-self : goal.invariant_of-self
invariant_of-self g c =
    let inside = c.self.inside in
    let keeps = c.self.invariant in
    let offer = c.args.offer in
    let n : NodeState = record { seat = inside.end; replica = inside.replica; book = inside.accounts; next = jobs_next inside.next } in
    let w = c.reach.new.end in
    let mid = c.reach.new.replica in
    let none : revive_refusal n offer ≡ None = ap (λ (x : NodeState). revive_refusal x offer) c.self.view_is ∙ sym c.revive_refusal.ensures ∙ c.in_default.is in
    let free = not_refused n offer none in
    let went = c.reach.ensures.goes in
    let last = reached_last went.0 inside.kept inside.end w went.1.passed c.reach.ensures.met keeps.5 in
    let reaches : Reaches went.0 inside.end w inside.replica mid inside.next c.reach.new.next inside.accounts c.reach.new.accounts inside.kept.last =
    record { goes = went.1; idle = c.reach.ensures.idle; met = c.reach.ensures.met; down = free.0; answered = free.2; last_is = last.3 } in
    let before : IsWithin inside.end.standing inside.replica inside.accounts inside.next inside.nodes = (keeps.0, keeps.1, keeps.2, keeps.3, keeps.4) in
    let now = goes_within went.0 inside.end.standing w.standing inside.replica mid inside.accounts c.reach.new.accounts inside.next c.reach.new.next inside.nodes went.1
    c.reach.ensures.idle before in
    (now.0, now.1, now.2, now.3, now.4, last)

pub returns-then-not-reach-clause-refused : goal.returns-then-not-reach-clause-refused
returns-then-not-reach-clause-refused g c =
    let inside = c.self.inside in
    let keeps = c.self.invariant in
    let offer = c.args.offer in
    let n : NodeState = record { seat = inside.end; replica = inside.replica; book = inside.accounts; next = jobs_next inside.next } in
    let w = c.reach.new.end in
    let mid = c.reach.new.replica in
    let none : revive_refusal n offer ≡ None = ap (λ (x : NodeState). revive_refusal x offer) c.self.view_is ∙ sym c.revive_refusal.ensures ∙ c.in_default.is in
    let free = not_refused n offer none in
    let went = c.reach.ensures.goes in
    let last = reached_last went.0 inside.kept inside.end w went.1.passed c.reach.ensures.met keeps.5 in
    let reaches : Reaches went.0 inside.end w inside.replica mid inside.next c.reach.new.next inside.accounts c.reach.new.accounts inside.kept.last =
    record { goes = went.1; idle = c.reach.ensures.idle; met = c.reach.ensures.met; down = free.0; answered = free.2; last_is = last.3 } in
    let before : IsWithin inside.end.standing inside.replica inside.accounts inside.next inside.nodes = (keeps.0, keeps.1, keeps.2, keeps.3, keeps.4) in
    let m : NodeState = record { seat = w; replica = mid; book = c.reach.new.accounts; next = jobs_next c.reach.new.next } in
    let why = subst (λ (place : ℕ). ((passed_of w.standing < place) × HasStopped inside.end.looks w mid) ⊎ ((passed_of w.standing ≡ place) × (is_from place inside.kept.last ≡ true)))
    c.place-place.ensures.place (c.reach.ensures.before c.if-not-reach.true) in
    inr (
      ap (λ (x : NodeState). revive_refusal x offer) (sym c.self.view_is) ∙ none,
      refl,
      subst (λ (x : NodeState). IsNotYet offer x m) c.self.view_is
          (is_not_yet went.0 inside.end w inside.replica mid inside.next c.reach.new.next inside.accounts c.reach.new.accounts inside.kept.last offer inside.nodes reaches why before),
    )

pub invariant_of-self-2 : goal.invariant_of-self-2
invariant_of-self-2 g c =
    let inside = c.self.inside in
    let keeps = c.self.invariant in
    let offer = c.args.offer in
    let n : NodeState = record { seat = inside.end; replica = inside.replica; book = inside.accounts; next = jobs_next inside.next } in
    let w = c.reach.new.end in
    let mid = c.reach.new.replica in
    let none : revive_refusal n offer ≡ None = ap (λ (x : NodeState). revive_refusal x offer) c.self.view_is ∙ sym c.revive_refusal.ensures ∙ c.in_default.is in
    let free = not_refused n offer none in
    let went = c.reach.ensures.goes in
    let last = reached_last went.0 inside.kept inside.end w went.1.passed c.reach.ensures.met keeps.5 in
    let reaches : Reaches went.0 inside.end w inside.replica mid inside.next c.reach.new.next inside.accounts c.reach.new.accounts inside.kept.last =
    record { goes = went.1; idle = c.reach.ensures.idle; met = c.reach.ensures.met; down = free.0; answered = free.2; last_is = last.3 } in
    let before : IsWithin inside.end.standing inside.replica inside.accounts inside.next inside.nodes = (keeps.0, keeps.1, keeps.2, keeps.3, keeps.4) in
    let place : c.place-place.result ≡ place_of offer = c.place-place.ensures.place in
    let all = c.reach.ensures.reached c.if-not-reach.false in
    let back : ComesBack w mid c.come_back.new.replica inside.kept.last offer =
    record {
      one = c.come_back.ensures.of_one_log;
      place = all.0 ∙ place;
      none_from = ap (λ (k : ℕ). is_from k inside.kept.last) (sym place) ∙ all.1;
      offered = c.come_back.ensures.offered;
      replica = c.come_back.ensures.replica;
    } in
    let now = subst (λ (v : LogView). IsWithin v.standing c.come_back.new.replica c.reach.new.accounts c.reach.new.next inside.nodes) (sym c.come_back.ensures.end)
    (revived_within went.0 inside.end w inside.replica mid c.come_back.new.replica inside.next c.reach.new.next inside.accounts c.reach.new.accounts inside.kept.last offer
    inside.nodes reaches back before) in
    (now.0, now.1, now.2, now.3, now.4, ended_last inside.kept w c.come_back.new.end c.come_back.ensures.end last)

pub returns-clause-revived : goal.returns-clause-revived
returns-clause-revived g c =
    let inside = c.self.inside in
    let keeps = c.self.invariant in
    let offer = c.args.offer in
    let n : NodeState = record { seat = inside.end; replica = inside.replica; book = inside.accounts; next = jobs_next inside.next } in
    let w = c.reach.new.end in
    let mid = c.reach.new.replica in
    let none : revive_refusal n offer ≡ None = ap (λ (x : NodeState). revive_refusal x offer) c.self.view_is ∙ sym c.revive_refusal.ensures ∙ c.in_default.is in
    let free = not_refused n offer none in
    let went = c.reach.ensures.goes in
    let last = reached_last went.0 inside.kept inside.end w went.1.passed c.reach.ensures.met keeps.5 in
    let reaches : Reaches went.0 inside.end w inside.replica mid inside.next c.reach.new.next inside.accounts c.reach.new.accounts inside.kept.last =
    record { goes = went.1; idle = c.reach.ensures.idle; met = c.reach.ensures.met; down = free.0; answered = free.2; last_is = last.3 } in
    let before : IsWithin inside.end.standing inside.replica inside.accounts inside.next inside.nodes = (keeps.0, keeps.1, keeps.2, keeps.3, keeps.4) in
    let place : c.place-place.result ≡ place_of offer = c.place-place.ensures.place in
    let all = c.reach.ensures.reached c.if-not-reach.false in
    let back : ComesBack w mid c.come_back.new.replica inside.kept.last offer =
    record {
      one = c.come_back.ensures.of_one_log;
      place = all.0 ∙ place;
      none_from = ap (λ (k : ℕ). is_from k inside.kept.last) (sym place) ∙ all.1;
      offered = c.come_back.ensures.offered;
      replica = c.come_back.ensures.replica;
    } in
    let m : LogView → NodeState = λ v. record { seat = v; replica = c.come_back.new.replica; book = c.reach.new.accounts; next = jobs_next c.reach.new.next } in
    let now = has_revived went.0 inside.end w inside.replica mid c.come_back.new.replica inside.next c.reach.new.next inside.accounts c.reach.new.accounts inside.kept.last offer
    inside.nodes reaches back before in (
      ap (λ (x : NodeState). revive_refusal x offer) (sym c.self.view_is) ∙ none,
      subst (λ (x : NodeState). HasRevived offer x (m c.come_back.new.end)) c.self.view_is
          (subst (λ (v : LogView). HasRevived offer n (m v)) (sym c.come_back.ensures.end) now),
    )
