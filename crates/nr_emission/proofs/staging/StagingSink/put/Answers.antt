use Rattle.std.proofs.Common.{rules, ◌≡◌, [], length, ◌-◌, ◌∷◌, ◌++◌, ap, ◌∙◌, List}
use Rattle.nr_model.specs.Replies.{reply_text}
use Rattle.nr_resp.specs.Shown.{shown_reply}
use Rattle.nr_entry.specs.Jobs.{connection_of}
use Rattle.nr_emission.specs.Emitted.{Written}
use Rattle.nr_emission.specs.declared.staging.Staged.TheVariants.{Reply}
use Rattle.nr_emission.proofs.Held.{reply_held, reply_seen}
use Rattle.nr_emission.proofs.staging.StagingSink.put.Goals as goal

-- src/staging.rt:93:5
pub returns-clause-put : goal.returns-clause-put
returns-clause-put c =
    let text = reply_text (shown_reply c.args.shown) in
    let bytes = c.self.inside.bytes.items in
    let from = c.len-from.result in
    let len = c.len.result - from in
    let is : c.write.new.out.items ≡ bytes ++ text = search rules in
    let start : from ≡ length bytes = search rules in
    let size : len ≡ length c.write.new.out.items - from = search rules in
    let more : c.push_reserved.new.self.items ≡ c.self.inside.staged.items ++ Reply c.args.conn from len ∷ [] = search rules in
    reply_seen bytes text c.write.new.out.items c.self.inside.staged.items c.push_reserved.new.self.items c.args.conn from len is start size more c.self.invariant
    ∙ ap (λ (all : List Written). all ++ record { connection = connection_of c.args.conn; bytes = text } ∷ []) c.self.view_is

pub invariant_of-self-2 : goal.invariant_of-self-2
invariant_of-self-2 c =
    let text = reply_text (shown_reply c.args.shown) in
    let bytes = c.self.inside.bytes.items in
    let from = c.len-from.result in
    let len = c.len.result - from in
    let is : c.write.new.out.items ≡ bytes ++ text = search rules in
    let start : from ≡ length bytes = search rules in
    let size : len ≡ length c.write.new.out.items - from = search rules in
    let more : c.push_reserved.new.self.items ≡ c.self.inside.staged.items ++ Reply c.args.conn from len ∷ [] = search rules in
    reply_held bytes text c.write.new.out.items c.self.inside.staged.items c.push_reserved.new.self.items c.args.conn from len is start size more c.self.invariant
