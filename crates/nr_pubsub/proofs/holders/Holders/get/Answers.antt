use Rattle.std.proofs.Common.{◌∙◌, sym}
use Rattle.nr_entry.specs.Jobs.{connection_of}
use Rattle.nr_pubsub.proofs.Held.{seen_holding, found_is}
use Rattle.nr_pubsub.proofs.holders.Holders.get.Goals as goal

pub returns : goal.returns
returns c = seen_holding c.get.result
    ∙ sym (found_is c.self.inside.by_conn.entries c.args.self.now (connection_of c.args.conn) _ c.self.view_is c.get.ensures.value)
