-- What connections got: texts behind what waits, until their queues are cut.
use Rattle.std.proofs.Common.{◌≡◌, ℕ, List, [], ◌∷◌, ◌++◌, refl, ap, sym, ◌∙◌}
use Rattle.std.specs.Prelude.{Option}
use Rattle.nr_model.specs.Bytes.{Bytes}
use Rattle.nr_model.specs.Items.{Connection}
use Rattle.nr_model.specs.Queues.{Queue, received}
use Rattle.nr_replica.specs.Members.{Member, AreReceived}
use Rattle.nr_node.specs.Advanced.{all_received, HaveGot}

received-append : (q : Queue) (xs ys : List (Option ℕ × List Bytes)) → all_received q (xs ++ ys) ≡ all_received (all_received q xs) ys
received-append q [] ys = refl
received-append q (x ∷ xs) ys = received-append (received x.0 q x.1) xs ys

pub got_itself : (members : List Member) → HaveGot members members
got_itself [] = tt
got_itself (m ∷ members) = (([], refl), got_itself members)

pub got_on : (a b c : List Member) → HaveGot a b → HaveGot b c → HaveGot a c
got_on [] [] [] first last = tt
got_on [] [] (z ∷ c) first last = absurd last
got_on [] (y ∷ b) c first last = absurd first
got_on (x ∷ a) [] c first last = absurd first
got_on (x ∷ a) (y ∷ b) [] first last = absurd last
got_on (x ∷ a) (y ∷ b) (z ∷ c) first last = (
  (
    first.0.0 ++ last.0.0,
    last.0.1 ∙ ap (λ (m : Member). record m { outbox = all_received m.outbox last.0.0 }) first.0.1
        ∙ ap (λ (q : Queue). record x { outbox = q }) (sym (received-append x.outbox first.0.0 last.0.0)),
  ),
  got_on a b c first.1 last.1,
)

pub got_received : (texts : Connection → List Bytes) (olds news : List Member) → AreReceived texts olds news → HaveGot olds news
got_received texts [] [] r = tt
got_received texts [] (new ∷ news) r = absurd r
got_received texts (old ∷ olds) [] r = absurd r
got_received texts (old ∷ olds) (new ∷ news) r = (((r.0.0, texts old.outbox.connection) ∷ [], r.0.1), got_received texts olds news r.1)
