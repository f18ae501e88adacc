-- Replies written one behind the other.
use Rattle.std.proofs.Common.{◌≡◌, ℕ, suc, ◌+◌, ◌<◌, ◌≤◌, List, [], ◌∷◌, ◌++◌, length, map, get_or, take, decimal, Vec, Global, refl, sym, ap, ◌∙◌, append_assoc}
use Rattle.std.proofs.lemmas.List.{take_more, take_all, append-nil}
use Rattle.nr_model.specs.Replies.{line, reply_text, replies_text, how_many_replies, replies}
use Rattle.nr_resp.specs.Seen.{reply_of}
use Rattle.nr_resp.specs.declared.reply.Reply.{Reply, Array}
use Rattle.nr_resp.proofs.Arrays.{reply_of-Array}

-- the bytes of replies, one behind the other
abbrev pub texts : List Reply → List ℕ
texts [] = []
texts (x ∷ xs) = reply_text (reply_of x) ++ texts xs

texts-push : (xs : List Reply) (x : Reply) → texts (xs ++ x ∷ []) ≡ texts xs ++ reply_text (reply_of x)
texts-push [] x = append-nil (reply_text (reply_of x))
texts-push (y ∷ xs) x = ap (λ (t : List ℕ). reply_text (reply_of y) ++ t) (texts-push xs x) ∙ sym (append_assoc (reply_text (reply_of y)) (texts xs) (reply_text (reply_of x)))

-- one more reply
pub texts_more : (xs : List Reply) (i : ℕ) (x : Reply) (old head front new : List ℕ) → i < length xs → x ≡ get_or xs i x
    → front ≡ old ++ (head ++ texts (take i xs))
    → new ≡ front ++ reply_text (reply_of x)
    → new ≡ old ++ (head ++ texts (take (i + 1) xs))
texts_more xs i x old head front new lt is so_far written =
    let cut : take (i + 1) xs ≡ take i xs ++ x ∷ [] = take_more xs i x lt ∙ ap (λ (y : Reply). take i xs ++ y ∷ []) (sym is) in
    let text = reply_text (reply_of x) in
    let more : texts (take (i + 1) xs) ≡ texts (take i xs) ++ text = ap texts cut ∙ texts-push (take i xs) x in
    written ∙ ap (λ (t : List ℕ). t ++ text) so_far ∙ append_assoc old (head ++ texts (take i xs)) text
    ∙ ap (λ (t : List ℕ). old ++ t) (append_assoc head (texts (take i xs)) text ∙ ap (λ (t : List ℕ). head ++ t) (sym more))

-- what an array writes
replies_text-texts : (xs : List Reply) → replies_text (replies (map reply_of xs)) ≡ texts xs
replies_text-texts [] = refl
replies_text-texts (x ∷ xs) = ap (λ (t : List ℕ). reply_text (reply_of x) ++ t) (replies_text-texts xs)

how_many_replies-map : (xs : List Reply) → how_many_replies (replies (map reply_of xs)) ≡ length xs
how_many_replies-map [] = refl
how_many_replies-map (x ∷ xs) = ap suc (how_many_replies-map xs)

reply_text-Array : (inner : Vec Reply Global) → reply_text (reply_of (Array inner)) ≡ 42 ∷ line (decimal (length inner.items)) ++ texts inner.items
reply_text-Array inner =
    ap reply_text (reply_of-Array inner)
    ∙ ap (λ (n : ℕ). 42 ∷ line (decimal n) ++ replies_text (replies (map reply_of inner.items))) (how_many_replies-map inner.items)
    ∙ ap (λ (t : List ℕ). 42 ∷ line (decimal (length inner.items)) ++ t) (replies_text-texts inner.items)

-- the whole array
pub texts_all : (xs : List Reply) (i : ℕ) (reply : Reply) (inner : Vec Reply Global) (old out : List ℕ) → length xs ≤ i → reply ≡ Array inner → xs ≡ inner.items
    → out ≡ old ++ (42 ∷ line (decimal (length xs)) ++ texts (take i xs))
    → out ≡ old ++ reply_text (reply_of reply)
texts_all xs i reply inner old out all is items written =
    let text = λ (ys : List Reply). 42 ∷ line (decimal (length ys)) ++ texts ys in
    written
    ∙ ap (λ (ys : List Reply). old ++ (42 ∷ line (decimal (length xs)) ++ texts ys)) (take_all i xs all)
    ∙ ap (λ (ys : List Reply). old ++ text ys) items
    ∙ ap (λ (t : List ℕ). old ++ t) (sym (reply_text-Array inner) ∙ ap (λ (r : Reply). reply_text (reply_of r)) (sym is))
