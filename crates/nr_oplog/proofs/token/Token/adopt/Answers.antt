use Rattle.std.proofs.Common.{◌≡◌, None, length, ap, sym, ◌∙◌}
use Rattle.nr_log_end.specs.declared.standing.Standing.{Standing}
use Rattle.nr_log_end.specs.Standings.{known_of}
use Rattle.nr_oplog.specs.declared.view.LogView.{LogView}
use Rattle.nr_oplog.proofs.Adopted.{later_known}
use Rattle.nr_oplog.proofs.token.Token.adopt.Goals as goal

pub invariant_of-self : goal.invariant_of-self
invariant_of-self g c =
    let mine = c.self.invariant in
    let theirs = c.other.invariant in
    let s = c.self.inside.seat.me.0.standing in
    let t = c.keep-told.result.me.0.standing in
    let kept : t ≡ c.other.inside.seat.me.0.standing = ap (λ m. m.0.standing) c.keep-told.ensures.kept.1 in
    let here : c.self.inside.seat.me.0 ≡ c.args.self.now = c.self.view_is in
    let there : c.other.inside.seat.me.0 ≡ c.args.other.now = c.other.view_is in
    let idle : s.held ≡ None = ap (λ (v : LogView). v.standing.held) here ∙ c.requires.idle.0 in
    let quiet : t.held ≡ None = ap (λ (x : Standing). x.held) kept ∙ ap (λ (v : LogView). v.standing.held) there ∙ c.requires.idle.1 in
    let same : s.node ≡ t.node =
    ap (λ (v : LogView). v.standing.node) here ∙ sym c.requires.node ∙ ap (λ (v : LogView). v.standing.node) (sym there) ∙ ap (λ (x : Standing). x.node) (sym kept) in
    let is = c.adopt-self-inside.ensures.view in (
      c.adopt-self-inside.ensures.seat.0 ∙ mine.0,
      ap (λ m. m.1) is ∙ mine.1,
      ap (λ m. m.0.upto) is ∙ mine.2,
      c.max-self-inside.ensures
          ∙ later_known s t c.adopt-self-inside.result c.self.inside.known c.other.inside.known idle quiet (c.adopt-self-inside.ensures.of_one_log.1 same) mine.3
          (theirs.3 ∙ ap (λ (x : Standing). length (known_of x)) (sym kept))
          ∙ ap (λ m. length (known_of m.0.standing)) (sym is),
    )
