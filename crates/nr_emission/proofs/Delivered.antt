-- The messages of a PUBLISH, in the parts in which they are sent.
use Rattle.std.proofs.Common.{◌≡◌, ℕ, suc, ◌+◌, Bool, true, false, cond, List, [], ◌∷◌, ◌++◌, length, map, refl, ap, sym, ◌∙◌, length-append, arith}
use Rattle.std.specs.Prelude.{◌||◌, ◌==◌, filter, flat_map}
use Rattle.std.specs.List.{list_any}
use Rattle.nr_model.specs.Bytes.{Bytes}
use Rattle.nr_model.specs.Replies.{Reply}
use Rattle.nr_model.specs.Patterns.{matches}
use Rattle.nr_model.specs.Items.{Connection}
use Rattle.nr_model.specs.Sequential.{for_node}
use Rattle.nr_model.specs.Sequential.Events.{Emission}
use Rattle.nr_model.specs.Sequential.Messages.{pattern_message}
use Rattle.nr_entry.specs.Jobs.{connection_of}
use Rattle.nr_entry.specs.declared.conn.ConnId.{ConnId}
use Rattle.nr_pubsub.specs.Standings.{connections}
use Rattle.nr_emission.specs.Parts.{to_each, matching_messages}

-- none of the receivers is the node's
pub none_of_node : (node : ℕ) (reply : Reply) (conns : List ConnId) → list_any (λ (conn : ConnId). conn.node == node) conns ≡ false
    → for_node node (to_each reply (connections conns)) ≡ []
none_of_node node reply [] none = refl
none_of_node node reply (conn ∷ conns) none =
    let both = neither (conn.node == node) (list_any (λ (d : ConnId). d.node == node) conns) none in
    ap (λ b. cond b (record { connection = connection_of conn; reply = reply } ∷ for_node node (to_each reply (connections conns)))
    (for_node node (to_each reply (connections conns)))) both.0
    ∙ none_of_node node reply conns both.1
  where
    neither : (a b : Bool) → (a || b) ≡ false → (a ≡ false) × (b ≡ false)
    neither true b h = absurd (cc)
    neither false b h = (refl, h)

-- a filter before a flat_map
pub flat_map-filter : {A B : Type 0} (t : A → Bool) (f : A → List B) (xs : List A) → flat_map (λ x. cond (t x) (f x) []) xs ≡ flat_map f (filter t xs)
flat_map-filter t f [] = refl
flat_map-filter t f (x ∷ xs) =
    elim (t x) as (λ b. cond b (f x) [] ++ flat_map (λ y. cond (t y) (f y) []) xs ≡ flat_map f (cond b (x ∷ filter t xs) (filter t xs))) [
      | true ↦ ap (λ ys. f x ++ ys) (flat_map-filter t f xs)
      | false ↦ flat_map-filter t f xs
    ]

flat_map-map : {A B C : Type 0} (f : B → List C) (g : A → B) (xs : List A) → flat_map f (map g xs) ≡ flat_map (λ x. f (g x)) xs
flat_map-map f g [] = refl
flat_map-map f g (x ∷ xs) = ap (λ ys. f (g x) ++ ys) (flat_map-map f g xs)

-- to the subscribers of each pattern that matches, by the patterns with their subscribers
pub by_pattern : (channel text : Bytes) (subscribers : Bytes → List Connection) (names : List Bytes) (entries : List (Bytes × List Connection))
    → entries ≡ map {B = Bytes × List Connection} (λ name. (name, subscribers name)) names
    → flat_map (matching_messages channel text) entries ≡ flat_map (λ p. to_each (pattern_message channel text p) (subscribers p))
    (filter (λ p. matches p channel) names)
by_pattern channel text subscribers names entries is =
    ap (flat_map (matching_messages channel text)) is ∙ flat_map-map (matching_messages channel text) (λ name. (name, subscribers name)) names
    ∙ flat_map-filter (λ p. matches p channel) (λ p. to_each (pattern_message channel text p) (subscribers p)) names

-- the names of what is listed with each
pub names_listed : {A : Type 0} (entries : List (Bytes × A)) (seen : A → List Connection) (subscribers : Bytes → List Connection) (names : List Bytes)
    → map {B = Bytes × List Connection} (λ e. (e.0, seen e.1)) entries ≡ map {B = Bytes × List Connection} (λ name. (name, subscribers name)) names
    → map (λ e. e.0) entries ≡ names
names_listed {A = A} entries seen subscribers names is = firsts entries ∙ ap (map (λ (e : Bytes × List Connection). e.0)) is ∙ sym (own names)
  where
    firsts : (es : List (Bytes × A)) → map (λ e. e.0) es ≡ map (λ (e : Bytes × List Connection). e.0)
        (map {B = Bytes × List Connection} (λ e. (e.0, seen e.1)) es)
    firsts [] = refl
    firsts (e ∷ es) = ap (λ (ns : List Bytes). e.0 ∷ ns) (firsts es)

    own : (ns : List Bytes) → ns ≡ map (λ (e : Bytes × List Connection). e.0) (map {B = Bytes × List Connection} (λ name. (name, subscribers name)) ns)
    own [] = refl
    own (n ∷ ns) = ap (λ (ms : List Bytes). n ∷ ms) (own ns)

-- a count goes on with each part
pub counted_more : (sofar new : ℕ) (one rest whole : List Emission) → new ≡ sofar + length one → sofar + length (one ++ rest) ≡ length whole
    → new + length rest ≡ length whole
counted_more sofar new one rest whole more is = let parts : length (one ++ rest) ≡ length one + length rest = length-append one rest in omega
    (arith, more, is, parts)

pub length-to_each : (reply : Reply) (cs : List Connection) → length (to_each reply cs) ≡ length cs
length-to_each reply [] = refl
length-to_each reply (c ∷ cs) = ap suc (length-to_each reply cs)
