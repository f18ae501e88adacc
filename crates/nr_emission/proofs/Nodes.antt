-- What is emitted for one node.
use Rattle.std.proofs.Common.{◌≡◌, ℕ, true, false, cond, List, [], ◌∷◌, ◌++◌, refl, ap, ◌∙◌}
use Rattle.std.specs.Prelude.{◌==◌}
use Rattle.std.proofs.lemmas.List.Elements.{filter-append}
use Rattle.nr_model.specs.Replies.{Reply}
use Rattle.nr_model.specs.Items.{Connection}
use Rattle.nr_model.specs.Sequential.{for_node}
use Rattle.nr_model.specs.Sequential.Events.{Emission}
use Rattle.nr_emission.specs.Emitted.{to, replies_to}

pub for_node-append : (node : ℕ) (xs ys : List Emission) → for_node node (xs ++ ys) ≡ for_node node xs ++ for_node node ys
for_node-append node xs ys = filter-append _ xs ys

-- replies to a connection of the node, and of another
pub own_replies : (node : ℕ) (c : Connection) (replies : List Reply) → (c.node == node) ≡ true → for_node node (replies_to c replies) ≡ replies_to c replies
own_replies node c [] own = refl
own_replies node c (reply ∷ replies) own =
    ap (λ b. cond b (to c reply ∷ for_node node (replies_to c replies)) (for_node node (replies_to c replies))) own
    ∙ ap (λ (es : List Emission). to c reply ∷ es) (own_replies node c replies own)

pub other_replies : (node : ℕ) (c : Connection) (replies : List Reply) → (c.node == node) ≡ false → for_node node (replies_to c replies) ≡ []
other_replies node c [] other = refl
other_replies node c (reply ∷ replies) other =
    ap (λ b. cond b (to c reply ∷ for_node node (replies_to c replies)) (for_node node (replies_to c replies))) other
    ∙ other_replies node c replies other
