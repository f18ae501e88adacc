use Rattle.std.proofs.Common.{◌∷◌, decimal, length}
use Rattle.nr_model.specs.Replies.{line}
use Rattle.nr_resp.proofs.Writing.{texts_more, texts_all}
use Rattle.nr_resp.proofs.reply.+append.Goals as goal

pub loop-each-preserved : goal.loop-each-preserved
loop-each-preserved t c =
    let items = c.deref-each-items.result.now in
    texts_more items c.loop-each.each-index c.each-item.result _ (42 ∷ line (decimal (length items))) _ _ c.loop-each-test.true c.each-item.is c.loop-each.invariant c.in_ok-append-in-Array.ensures.ok

pub returns-after-loop-each-clause-ok : goal.returns-after-loop-each-clause-ok
returns-after-loop-each-clause-ok t c =
    texts_all c.deref-each-items.result.now c.loop-each.each-index c.args.reply.now c.in-Array.inner _ _ c.loop-each-test.false c.in-Array.is c.deref-each-items.ensures.value c.loop-each.invariant
