use Rattle.std.proofs.Common.{◌∙◌, sym}
use Rattle.nr_watch.proofs.Seen.{none_kept, kept_none}
use Rattle.nr_watch.proofs.watches.Watches.is_empty.Goals as goal

pub returns : goal.returns
returns c =
    let kept = c.self.inside.by_conn.entries in
    (λ empty. sym c.self.view_is ∙ none_kept kept (c.is_empty.ensures.0 empty), λ none. c.is_empty.ensures.1 (kept_none kept (c.self.view_is ∙ none)))
