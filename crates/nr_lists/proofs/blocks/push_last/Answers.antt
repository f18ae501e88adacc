use Rattle.std.proofs.Common.{◌≡◌, ap, List, rules}
use Rattle.nr_model.specs.Bytes.{Bytes}
use Rattle.nr_lists.specs.Packed.{joined}
use Rattle.nr_lists.proofs.Around.{pushed_alone}
use Rattle.nr_lists.proofs.blocks.push_last.Goals as goal

pub returns-clause-ok : goal.returns-clause-ok
returns-clause-ok c =
    let same : c.reserve_first.new.blocks.items ≡ c.args.blocks.now.items = search rules in
    pushed_alone c.args.blocks.now.items c.reserve_first.new.blocks.items c.push_back.new.self.items c.in_ok-alone.alone c.args.item c.in_ok-alone.ensures
    (ap (λ (deque : List (List Bytes)). joined deque) same) c.in_ok-push_back.ensures.items
