use Rattle.std.proofs.Common.{◌||◌, Bool, ap, ◌∙◌, sym}
use Rattle.std.specs.List.{list_any}
use Rattle.nr_model.specs.Servers as model
use Rattle.nr_watch.specs.Kept.{Watcher}
use Rattle.nr_watch.proofs.watched.Watched.is_spoiled.Goals as goal

pub returns-else-self : goal.returns-else-self
returns-else-self c =
    let gone : model.Watch → Bool = λ w. model.has_gone c.args.now w.deadline in
    c.has_gone.ensures ∙ ap (list_any gone) c.deref.ensures.value
    ∙ ap (λ (b : Bool). b || list_any gone c.self.inside.watches.items) (sym c.if-self.false)
    ∙ ap (λ (w : Watcher). w.touched || list_any gone w.watches) c.self.view_is
