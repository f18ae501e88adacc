use Rattle.std.proofs.Common.{◌≡◌, ap, sym, ◌∙◌, ◌+◌, ◌++◌, ◌^◌, ◌<◌, length, arith, subst}
use Rattle.nr_entry.specs.Jobs.{connection_of}
use Rattle.nr_taps.specs.Taps.{TapState, bytes_accepted, refusal, standing_of}
use Rattle.nr_taps.proofs.Tapped.{accepted_tapped}
use Rattle.nr_taps.proofs.tap.Tap.accept.Goals as goal

pub returns-in-Ok-clause-bytes : goal.returns-in-Ok-clause-bytes
returns-in-Ok-clause-bytes g c =
    let conn = connection_of c.args.piece.conn in
    let fits = c.in_default-last_count.ensures.few in
    let count = c.len.ensures in
    let long = c.args.piece.bytes.ok.0 in
    let few : c.args.piece.from + length c.args.piece.bytes.items < 2 ^ 64 = omega (arith, fits, count, long) in
    let due = ap (λ (t : TapState). refusal t conn c.args.piece.from) c.self.view_is ∙ sym c.refuses.ensures ∙ c.in_default.is in
    let now : TapState = record {
      connection = connection_of c.self.inside.conn;
      pending = c.put.new.self;
      written = c.self.inside.written;
      standing = standing_of c.replace.new.held;
    } in
    subst (λ (t : TapState). bytes_accepted now ≡ bytes_accepted t ++ c.args.piece.bytes.items) c.self.view_is
    (accepted_tapped _ conn c.args.piece.from c.args.piece.bytes.items c.put.new.self c.args.token.standing _ c.self.invariant due
    c.replace.ensures.met c.requires.sound c.requires.node c.requires.emitted c.requires.some few c.in-Ok.ensures.put c.replace.ensures.standing).1

pub invariant_of-self : goal.invariant_of-self
invariant_of-self g c =
    let conn = connection_of c.args.piece.conn in
    let fits = c.in_default-last_count.ensures.few in
    let count = c.len.ensures in
    let long = c.args.piece.bytes.ok.0 in
    let few : c.args.piece.from + length c.args.piece.bytes.items < 2 ^ 64 = omega (arith, fits, count, long) in
    let due = ap (λ (t : TapState). refusal t conn c.args.piece.from) c.self.view_is ∙ sym c.refuses.ensures ∙ c.in_default.is in
    (accepted_tapped _ conn c.args.piece.from c.args.piece.bytes.items c.put.new.self c.args.token.standing _ c.self.invariant due
    c.replace.ensures.met c.requires.sound c.requires.node c.requires.emitted c.requires.some few c.in-Ok.ensures.put c.replace.ensures.standing).0
