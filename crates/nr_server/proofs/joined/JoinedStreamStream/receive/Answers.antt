-- Nothing more comes behind the end.
use Rattle.std.proofs.Common.{◌≡◌, sym, subst}
use Rattle.std.specs.Prelude.{IfSome}
use Rattle.nr_model.specs.Bytes.{Bytes}
use Rattle.nr_server.proofs.Read.{still_all}
use Rattle.nr_server.proofs.joined.JoinedStreamStream.receive.Goals as goal

pub invariant_of-self-in-Bytes-clause-ends : goal.invariant_of-self-in-Bytes-clause-ends
invariant_of-self-in-Bytes-clause-ends g c = λ end.
    subst (λ (bytes : Bytes). IfSome g.B.Beginning.input (λ all. bytes ≡ all)) (sym c.note.ensures)
    (still_all _ _ _ _ _ c.args.self.now.reads c.in-Bytes.ensures.bytes (c.args.self.now.ends end))
