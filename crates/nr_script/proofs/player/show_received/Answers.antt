use Rattle.std.proofs.Common.{rules, ◌≡◌, ◌<◌, ◌++◌, length, ◌∙◌, ap}
use Rattle.nr_model.specs.Bytes.{Bytes}
use Rattle.nr_script.specs.Receivers.{received_line}
use Rattle.nr_script.proofs.Receivers.{emptied_more, printed_more}
use Rattle.nr_script.proofs.player.show_received.Goals as goal

pub loop-number-preserved : goal.loop-number-preserved
loop-number-preserved c =
    let number = c.loop-number.number in
    let all = c.args.opened.now in
    let below : number < length all = search rules in
    let bytes_is : c.deref.result.now ≡ c.take_received-received.result.items = search rules in
    record {
      taken = emptied_more all c.loop-number.opened c.take_received-received.new.self number below c.loop-number.invariant.taken
          c.take_received-received.ensures.left;
      printed = printed_more all c.loop-number.opened number c.take_received-received.result.items c.args.out.now.items c.loop-number.out.items
          c.write_received.new.out.items below c.loop-number.invariant.taken c.take_received-received.ensures.taken c.loop-number.invariant.printed
          (c.in_ok-write_received.ensures ∙ ap (λ (b : Bytes). c.loop-number.out.items ++ received_line number b) bytes_is);
    }
