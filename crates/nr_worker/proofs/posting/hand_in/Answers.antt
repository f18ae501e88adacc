use Rattle.nr_worker.proofs.Batched.{taken_in}
use Rattle.nr_worker.proofs.posting.hand_in.Goals as goal

pub returns : goal.returns
returns g c =
    let e = c.post-posted.ensures in
    taken_in c.post-posted.result _ (e.exactly.1 (c.requires.answered, c.requires.counted)) e.posted
