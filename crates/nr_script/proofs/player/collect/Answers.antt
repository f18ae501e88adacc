use Rattle.std.proofs.Common.{rules, ◌≡◌, ◌++◌, List, map, ap, ◌∙◌}
use Rattle.nr_world.specs.declared.step.HandedBytes.{HandedBytes}
use Rattle.nr_world.specs.Seen.{handed_seen}
use Rattle.nr_script.specs.Acts.{collected_line}
use Rattle.nr_script.specs.Receivers.{handed_lines}
use Rattle.nr_script.proofs.Receivers.{lines_behind}
use Rattle.nr_script.proofs.player.collect.Goals as goal

pub returns-clause-collected : goal.returns-clause-collected
returns-clause-collected c =
    let happened = c.in_ok-happened.happened in
    let all = c.args.opened.now in
    let same : c.deref.result.now ≡ happened.handed.items = search rules in
    record {
      happened = happened;
      takes = c.in_ok-happened.ensures.taken;
      shown = record {
        taken = c.in_ok-show_handed.ensures.taken;
        printed = lines_behind c.args.out.now.items (collected_line happened.outcome) (handed_lines (map handed_seen happened.handed.items) all)
            c.write_collected.new.out.items c.show_handed.new.out.items c.in_ok-write_collected.ensures
            (c.in_ok-show_handed.ensures.printed
            ∙ ap (λ (hs : List HandedBytes). c.write_collected.new.out.items ++ handed_lines (map handed_seen hs) all) same);
      };
    }
