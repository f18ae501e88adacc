use Rattle.std.proofs.Common.{◌≡◌, ◌<◌, refl, rules, arith}
use Rattle.nr_model.specs.Strings.{range_start, range_end}
use Rattle.nr_lists.proofs.Laid.{cut_twice}
use Rattle.nr_lists.proofs.Listed.{trimmed}
use Rattle.nr_lists.proofs.small.Small.trim.Goals as goal

pub returns : goal.returns
returns c =
    let begins : c.start_of-start.result ≡ range_start c.len-len.result c.args.first = search (rules, c.start_of-start.ensures.start) in
    let ends : c.end_of-end.result ≡ range_end c.len-len.result c.args.last = search (rules, c.end_of-end.ensures.end) in
    let order : c.start_of-start.result < c.end_of-end.result = c.if-end-start.false in
    let cuts = cut_twice c.args.self.now c.cut-2.new.self c.cut-3.new.self c.len-len.result c.start_of-start.result c.end_of-end.result c.len-len.ensures.len
    c.cut-2.ensures c.cut-3.ensures in
    trimmed c.args.self.now c.args.self.now c.cut-2.new.self c.cut-3.new.self c.len-len.result c.start_of-start.result c.end_of-end.result c.args.first c.args.last
    c.len-len.ensures.len refl begins ends (omega (arith, order)) cuts.0 cuts.1
