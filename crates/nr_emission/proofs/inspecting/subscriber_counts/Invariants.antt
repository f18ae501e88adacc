use Rattle.std.proofs.Common.{◌≡◌, ◌++◌, map, drop}
use Rattle.std.specs.Prelude.{flat_map}
use Rattle.nr_model.specs.Sequential.Messages.{count_reply}
use Rattle.nr_resp.specs.Seen.{reply_of}
use Rattle.nr_emission.specs.Messages.{subscriptions_of}
use Rattle.nr_emission.proofs.inspecting.subscriber_counts.Given as goal

abbrev pub invariant-loop-name : goal.invariant-loop-name
invariant-loop-name l =
    map reply_of l.counts.items ++ flat_map (count_reply (subscriptions_of l.subs)) (drop l.name-index l.names)
    ≡ flat_map (count_reply (subscriptions_of l.subs)) l.names
