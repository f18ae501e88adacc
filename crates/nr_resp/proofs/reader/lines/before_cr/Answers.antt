use Rattle.nr_model.proofs.Words.{cr_by_suffix}
use Rattle.nr_resp.proofs.reader.lines.before_cr.Goals as goal

pub returns : goal.returns
returns c = cr_by_suffix c.args.line.now c.strip_suffix.result c.strip_suffix.ensures.cases
