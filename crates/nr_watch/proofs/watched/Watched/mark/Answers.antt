use Rattle.std.proofs.Common.{◌≡◌, ◌||◌, Bool, ap, ◌∙◌, sym}
use Rattle.std.specs.List.{list_any}
use Rattle.nr_model.specs.Keyspace.{Key}
use Rattle.nr_model.specs.Sequential.Watches.{same_key}
use Rattle.nr_model.specs.Servers as model
use Rattle.nr_keyspace.specs.Joined.{key_of}
use Rattle.nr_watch.specs.Kept.{Watcher, marked_at}
use Rattle.nr_watch.proofs.watched.Watched.mark.Goals as goal

pub returns : goal.returns
returns c =
    let key : Key = key_of c.args.database c.args.name.now in
    let hits : model.Watch → Bool = λ w. same_key w.key key in
    let flagged : Bool → Watcher = λ b. record { watches = c.self.inside.watches.items; touched = b } in
    let flag : c.has_key-self-inside.result ≡ (c.self.inside.touched || list_any hits c.self.inside.watches.items) =
    c.has_key-self-inside.ensures ∙ ap (list_any hits) c.deref.ensures.value
    ∙ ap (λ (b : Bool). b || list_any hits c.self.inside.watches.items) (sym c.if-self.false) in
    ap flagged flag ∙ ap (marked_at key) c.self.view_is
