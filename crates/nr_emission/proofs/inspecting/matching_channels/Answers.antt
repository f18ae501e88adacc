use Rattle.std.proofs.Common.{◌≡◌, List, ◌++◌, map, ap, ◌∙◌}
use Rattle.nr_resp.specs.Seen.{reply_of}
use Rattle.nr_resp.specs.declared.reply.Reply.{Reply}
use Rattle.std.specs.Prelude.{filter}
use Rattle.nr_model.specs.Patterns.{matches}
use Rattle.std.specs.BTreeSet.{BTreeSet}
use Rattle.nr_model.specs.Servers.{subscribers_in, names_in}
use Rattle.nr_model.specs.Sequential.Messages.{bulks}
use Rattle.nr_model.specs.declared.command.Kind.TheVariants.{Channels}
use Rattle.nr_entry.specs.declared.conn.ConnId.{ConnId}
use Rattle.nr_pubsub.specs.Standings.{connections, standing_entries}
use Rattle.nr_emission.proofs.Delivered.{names_listed}
use Rattle.nr_emission.proofs.inspecting.matching_channels.Goals as goal

pub loop-name-init : goal.loop-name-init
loop-name-init c =
    let given : c.into_iter-name-iterator.result ≡ c.by_name-name-items.result.now.entries = c.into_iter-name-iterator.ensures.into_iter_gives.0 in
    ap (λ (rs : List Reply). map reply_of rs ++ bulks (filter (λ name. matches c.args.pattern.now name) (map (λ e. e.0) c.into_iter-name-iterator.result)))
    c.new-names.ensures.items
    ∙ ap (λ names. bulks (filter (λ name. matches c.args.pattern.now name) names))
    (names_listed c.into_iter-name-iterator.result (λ (set : BTreeSet ConnId). connections set.keys) (subscribers_in c.args.subs.now Channels)
    (names_in c.args.subs.now Channels)
    (ap standing_entries given ∙ c.by_name-name-items.ensures))
