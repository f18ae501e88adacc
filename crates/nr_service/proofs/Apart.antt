-- Connections that differ.
use Rattle.std.proofs.Common.{◌≡◌, false, inl, inr, List, [], ◌∷◌, map, refl, sym, ◌∙◌, subst}
use Rattle.std.specs.Prelude.{All}
use Rattle.std.specs.List.{AllByRecursion}
use Rattle.std.proofs.lemmas.Bool.{cases_Bool}
use Rattle.std.proofs.lemmas.List.Elements.{All-nil, All-cons, All-head, All-tail}
use Rattle.nr_model.specs.Items.{Connection, same_connection}
use Rattle.nr_model.proofs.JobLists.{same_is}
use Rattle.nr_service.specs.Serving.{connection}
use Rattle.nr_service.specs.declared.client.Client.{Client}

turned : (a b : Connection) → a ≡ b → same_connection a b ≡ same_connection b a
turned a b e = subst (λ (x : Connection). same_connection a x ≡ same_connection x a) e refl

-- whichever comes first
pub flips : (a b : Connection) → same_connection a b ≡ same_connection b a
flips a b =
    elim (cases_Bool (same_connection a b)) [
      | inl one ↦ turned a b (same_is a b one)
      | inr apart ↦ elim (cases_Bool (same_connection b a)) [ inl one ↦ sym (turned b a (same_is b a one)) | inr other ↦ apart ∙ sym other ]
    ]

-- what holds of each client of another connection
pub of_others : {S : Type 0} (P Q : Client S → Type 0) (c : Connection)
    → ((client : Client S) → same_connection (connection client) c ≡ false → P client → Q client)
    → (others : List (Client S)) → AllByRecursion (λ d. same_connection c d ≡ false) (map connection others) → All P others → All Q others
of_others P Q c step [] apart all = All-nil Q
of_others P Q c step (client ∷ others) apart all =
    All-cons Q client others (step client (flips (connection client) c ∙ apart.0) (All-head P client others all))
    (of_others P Q c step others apart.1 (All-tail P client others all))

-- none of them has this one
pub from_others : {S : Type 0} (P : Client S → Type 0) (c : Connection)
    → ((client : Client S) → P client → same_connection c (connection client) ≡ false)
    → (others : List (Client S)) → All P others → AllByRecursion (λ d. same_connection c d ≡ false) (map connection others)
from_others P c step [] all = tt
from_others P c step (client ∷ others) all =
    (step client (All-head P client others all), from_others P c step others (All-tail P client others all))
