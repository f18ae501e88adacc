use Rattle.std.proofs.Common.{◌≡◌, ap, ◌∙◌, sym, rules}
use Rattle.std.specs.List.{list_any}
use Rattle.nr_model.specs.Keyspace.{Key}
use Rattle.nr_keyspace.specs.Joined.{key_of}
use Rattle.nr_watch.specs.Watching.{Watching, nobody, touched_at}
use Rattle.nr_watch.specs.Kept.{is_conn}
use Rattle.nr_watch.proofs.Touching.{nobody_touched}
use Rattle.nr_watch.proofs.Marking.{untouched, touch_seen}
use Rattle.nr_watch.proofs.watches.Watches.touch.Goals as goal

pub returns-then-is_empty : goal.returns-then-is_empty
returns-then-is_empty c =
    let key : Key = key_of c.args.database c.args.name.now in
    let none : c.args.self.now ≡ nobody = c.is_empty.ensures.0 (search (rules, c.if-is_empty.true)) in
    none ∙ sym (nobody_touched key) ∙ ap (λ (w : Watching). touched_at w key) (sym none)

pub returns-in_default : goal.returns-in_default
returns-in_default c =
    let key : Key = key_of c.args.database c.args.name.now in
    sym c.self.view_is
    ∙ untouched c.self.inside.by_conn.entries c.self.inside.by_name.conns.entries key c.self.invariant c.in_default.ensures
    ∙ ap (λ (w : Watching). touched_at w key) c.self.view_is

pub returns : goal.returns
returns c =
    let key : Key = key_of c.args.database c.args.name.now in
    touch_seen c.self.inside.by_conn.entries c.mark_each.new.by_conn.entries c.self.inside.by_name.conns.entries key c.self.invariant
    (λ d. list_any (is_conn d) c.in-Some.conns.now.keys) c.in-Some.ensures c.mark_each.ensures
    ∙ ap (λ (w : Watching). touched_at w key) c.self.view_is
