-- Bytes taken out behind the free places in front.
use Rattle.std.proofs.Common.{◌≡◌, ℕ, ◌+◌, ◌-◌, ◌≤◌, take, drop, ◌++◌, length, ap, sym, ◌∙◌, arith, append-nil}
use Rattle.std.proofs.lemmas.List.{drop-take, drop-drop, drop_all, drop-append-le, length-take, length-drop}
use Rattle.nr_model.specs.Bytes.{Bytes}

-- at the end
pub end_out : (free start end : ℕ) (all old new : Bytes) → drop free all ≡ old → length old ≤ end → new ≡ take (free + start) all
    → drop free new ≡ take start old ++ drop end old
end_out free start end all old new held ended are =
    ap (drop free) are ∙ drop-take free start all ∙ ap (take start) held
    ∙ sym (append-nil (take start old)) ∙ ap (λ ys. take start old ++ ys) (sym (drop_all end old ended))

-- written over as many
pub written_over : (free start end n : ℕ) (all old new item : Bytes) → drop free all ≡ old → free ≤ length all → start ≤ end → end ≤ length old → n ≡ end - start
    → new ≡ take (free + start) all ++ (item ++ drop (free + start + n) all) → drop free new ≡ take start old ++ (item ++ drop end old)
written_over free start end n all old new item held within order ends count are =
    let long : length old ≡ length all - free = ap length (sym held) ∙ length-drop free all in
    let at : free + start + n ≡ free + end = omega (arith, order, count) in
    ap (drop free) are
    ∙ drop-append-le free (take (free + start) all) (item ++ drop (free + start + n) all) (omega (arith, within, order, ends, long, length-take (free + start) all))
    ∙ (λ i. drop-take free start all i ++ (item ++ (ap (λ k. drop k all) at ∙ sym (drop-drop end free all)) i))
    ∙ ap (λ ys. take start ys ++ (item ++ drop end ys)) held

-- in the middle
pub middle_out : (free start end : ℕ) (all old new : Bytes) → drop free all ≡ old → free ≤ length all → start ≤ length old
    → new ≡ take (free + start) all ++ drop (free + end) all → drop free new ≡ take start old ++ drop end old
middle_out free start end all old new held within order are =
    let long : length old ≡ length all - free = ap length (sym held) ∙ length-drop free all in
    ap (drop free) are
    ∙ drop-append-le free (take (free + start) all) (drop (free + end) all) (omega (arith, within, order, long, length-take (free + start) all))
    ∙ (λ i. drop-take free start all i ++ sym (drop-drop end free all) i)
    ∙ ap (λ ys. take start ys ++ drop end ys) held
