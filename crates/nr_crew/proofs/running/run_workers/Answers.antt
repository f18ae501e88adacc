use Rattle.std.proofs.Common.{◌≡◌, sym, ◌∙◌, subst}
use Rattle.std.specs.List.{AllByRecursion}
use Rattle.nr_taps.specs.Marks.{standings_of}
use Rattle.nr_taps.specs.Sequence.{AreAllOfOneLog}
use Rattle.nr_node.specs.Sound.{IsSound}
use Rattle.nr_crew.specs.Together.{AreAnsweredTogether}
use Rattle.nr_crew.proofs.Together.{all_back, are_together}
use Rattle.nr_crew.proofs.running.run_workers.Goals as goal

pub returns-clause-together : goal.returns-clause-together
returns-clause-together g c =
    let received = g.S.Stream.received in
    let sent = g.S.Stream.sent in
    let joined = c.in_ok-ran_all.ran_all.0 in
    let kept = c.keep_replicas.new.marks in
    let replicas = c.keep_replicas.new.replicas.items in
    let same : c.meet_marks.new.marks ≡ kept.items = search (c.meet_marks.ensures, c.deref_mut.ensures) in
    let was = sym c.meet_marks.ensures.same ∙ same in
    subst (λ ms. AreAnsweredTogether received sent g.M.Moments.gives g.D.Poller.parted ms joined.lefts.items replicas)
    (sym (all_back kept.len c.meet_marks.new.marks kept.items (search kept.ok) same))
    (are_together received sent g.M.Moments.gives g.D.Poller.parted kept.items joined.marks.items joined.lefts.items replicas c.desk_law.ensures
    (subst (λ ms. AllByRecursion IsSound (standings_of ms)) was c.meet_marks.ensures.sound) (subst (λ ms. AreAllOfOneLog (standings_of ms)) was c.meet_marks.ensures.one_log)
    c.in_ok-ran_all.ensures.left c.keep_replicas.ensures)
