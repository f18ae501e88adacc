use Rattle.std.proofs.Common.{rules, arith, ◌≡◌, ◌-◌, ◌++◌, ap, sym, ◌∙◌}
use Rattle.std.specs.List.{insert}
use Rattle.std.proofs.lemmas.List.Edits.{insert-append_right}
use Rattle.nr_ordered.specs.Lists.{Item}
use Rattle.nr_ordered.proofs.tree.edits.put_either.Goals as goal

pub returns : goal.returns
returns c =
    let front = c.args.front.now in
    let behind = c.args.behind.now in
    let item : Item = (c.args.bytes.now, c.args.number) in
    let put : c.insert-2.new.self ≡ insert behind (c.args.place - c.len-stay.result) item = search (rules, c.in_ok-insert-2.ensures.ok) in
    ap (λ xs. front ++ xs) put
    ∙ sym (insert-append_right front behind c.len-stay.result c.args.place item (sym c.len-stay.ensures.len) (omega (arith, c.if-place-stay.false)))
