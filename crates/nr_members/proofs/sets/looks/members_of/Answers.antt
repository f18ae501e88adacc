use Rattle.std.proofs.Common.{◌∙◌, ap, sym, map}
use Rattle.nr_model.specs.Replies.{Bulk}
use Rattle.nr_model.specs.Sets.{listed}
use Rattle.nr_resp.specs.Shown.{item_reply}
use Rattle.nr_sets.specs.Lent.{lent}
use Rattle.nr_sets.proofs.Common.{none_listed}
use Rattle.nr_members.proofs.sets.looks.members_of.Goals as goal

pub returns-in-None : goal.returns-in-None
returns-in-None c = ap (map item_reply) c.new.ensures.items ∙ ap (map Bulk) (none_listed ∙ sym (ap (λ held. listed (lent held)) c.in-None.is))
