-- Items shown one behind the other.
use Rattle.std.proofs.Common.{◌≡◌, ℕ, suc, ◌+◌, ◌<◌, ◌≤◌, List, [], ◌∷◌, ◌++◌, length, map, get_or, take, decimal, refl, sym, ap, ◌∙◌, append_assoc}
use Rattle.std.proofs.lemmas.List.{take_more, take_all, append-nil}
use Rattle.nr_model.specs.Replies.{line, reply_text, replies_text, how_many_replies, replies, array}
use Rattle.nr_resp.specs.Shown.{item_reply}
use Rattle.nr_resp.specs.declared.shown.Item.{Item}

-- the bytes of items, one behind the other
abbrev pub item_texts : List Item → List ℕ
item_texts [] = []
item_texts (x ∷ xs) = reply_text (item_reply x) ++ item_texts xs

item_texts-push : (xs : List Item) (x : Item) → item_texts (xs ++ x ∷ []) ≡ item_texts xs ++ reply_text (item_reply x)
item_texts-push [] x = append-nil (reply_text (item_reply x))
item_texts-push (y ∷ xs) x = ap (λ (t : List ℕ). reply_text (item_reply y) ++ t) (item_texts-push xs x) ∙ sym (append_assoc (reply_text (item_reply y)) (item_texts xs) (reply_text (item_reply x)))

-- one more item
pub items_more : (xs : List Item) (i : ℕ) (x d : Item) (old head front new : List ℕ) → i < length xs → x ≡ get_or xs i d
    → front ≡ old ++ (head ++ item_texts (take i xs))
    → new ≡ front ++ reply_text (item_reply x)
    → new ≡ old ++ (head ++ item_texts (take (i + 1) xs))
items_more xs i x d old head front new lt is so_far written =
    let cut : take (i + 1) xs ≡ take i xs ++ x ∷ [] = take_more xs i d lt ∙ ap (λ (y : Item). take i xs ++ y ∷ []) (sym is) in
    let text = reply_text (item_reply x) in
    let more : item_texts (take (i + 1) xs) ≡ item_texts (take i xs) ++ text = ap item_texts cut ∙ item_texts-push (take i xs) x in
    written ∙ ap (λ (t : List ℕ). t ++ text) so_far ∙ append_assoc old (head ++ item_texts (take i xs)) text
    ∙ ap (λ (t : List ℕ). old ++ t) (append_assoc head (item_texts (take i xs)) text ∙ ap (λ (t : List ℕ). head ++ t) (sym more))

texts_of_items : (xs : List Item) → replies_text (replies (map item_reply xs)) ≡ item_texts xs
texts_of_items [] = refl
texts_of_items (x ∷ xs) = ap (λ (t : List ℕ). reply_text (item_reply x) ++ t) (texts_of_items xs)

how_many_items : (xs : List Item) → how_many_replies (replies (map item_reply xs)) ≡ length xs
how_many_items [] = refl
how_many_items (x ∷ xs) = ap suc (how_many_items xs)

-- the whole array
pub items_all : (xs : List Item) (i : ℕ) (old out : List ℕ) → length xs ≤ i
    → out ≡ old ++ (42 ∷ line (decimal (length xs)) ++ item_texts (take i xs))
    → out ≡ old ++ reply_text (array (map item_reply xs))
items_all xs i old out all written =
    written
    ∙ ap (λ (ys : List Item). old ++ (42 ∷ line (decimal (length xs)) ++ item_texts ys)) (take_all i xs all)
    ∙ ap (λ (n : ℕ). old ++ (42 ∷ line (decimal n) ++ item_texts xs)) (sym (how_many_items xs))
    ∙ ap (λ (t : List ℕ). old ++ (42 ∷ line (decimal (how_many_replies (replies (map item_reply xs)))) ++ t)) (sym (texts_of_items xs))
