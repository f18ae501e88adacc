use Rattle.std.proofs.Common.{◌≡◌, take, drop}
use Rattle.std.specs.List.{enumerate_from}
use Rattle.nr_model.specs.Lists.{seen_from}
use Rattle.nr_lists.proofs.Placed.{Finds, found_in}
use Rattle.nr_lists.proofs.matches.places.Given as goal

-- the places so far, and what is left to look at
abbrev pub invariant-loop-seen : goal.invariant-loop-seen
invariant-loop-seen l =
    let all = take l.looked_at (seen_from l.end (enumerate_from 0 l.fn.walk)) in
    record {
      finds : Finds l.fn.bytes l.count l.to_pass l.seen all l.places.items (found_in l.fn.bytes l.count l.initial.to_pass all);
      left : seen_from l.end l.walk ≡ drop l.seen (seen_from l.end l.fn.walk);
    }
