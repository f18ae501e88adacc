use Rattle.std.proofs.Common.{ap, sym, ◌∙◌, ℤ}
use Rattle.std.specs.Cmp.{unsigned_Decides}
use Rattle.std.specs.FinMap as finmap
use Rattle.nr_model.specs.Keyspace.{byte_cmp}
use Rattle.nr_zsets.proofs.zset.Zset.is_empty.Goals as goal

pub returns : goal.returns
returns c =
    let decides = unsigned_Decides c.len.result 0 in (
      λ none. finmap.empty_of_len c.args.self.now (sym c.len.ensures.len ∙ decides.0 none),
      λ none. decides.1 (c.len.ensures.len ∙ ap (λ m. finmap.len m) none ∙ finmap.len-empty byte_cmp ℤ),
    )
