use Rattle.std.proofs.Common.{rules, ◌≡◌, subst}
use Rattle.std.specs.Io.KnownBytes.{Appends}
use Rattle.nr_model.specs.Bytes.{Bytes}
use Rattle.nr_script.specs.Playing.{IsPlayed}
use Rattle.nr_script.proofs.Printed.{one_further}
use Rattle.nr_script.proofs.playing.script_on.Goals as goal

pub loop-number-preserved : goal.loop-number-preserved
loop-number-preserved g c =
    let next = c.in-Some.ensures.some in
    let out = c.play_line.new.out.items in
    let same : c.deref.result.now ≡ out = search rules in
    let played = subst (λ (b : Bytes). IsPlayed c.in-Some.line.now c.loop-number.player c.play_line.new.player b out) c.loop-number.invariant.empty
    c.in_ok-play_line.ensures.played in
    let written = subst (Appends (g.W.Write.contents c.loop-number.writer) (g.W.Write.contents c.write_out.new.writer)) same c.in_ok-write_out.ensures.written in
    record {
      so_far = one_further _ _ _ _ _ _ _ _ _ _ _ _ c.loop-number.invariant.so_far next.1 next.2 played written;
      empty = c.clear.ensures.items;
    }
