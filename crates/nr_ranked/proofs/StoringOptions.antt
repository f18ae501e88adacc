-- The options of a request to join sorted sets, word by word.
use Rattle.std.proofs.Common.{◌≡◌, ℕ, zero, suc, ◌-◌, ℤ, true, false, List, [], ◌∷◌, ◌++◌, refl, ap, sym, ◌∙◌, arith}
use Rattle.std.specs.Prelude.{Ok, codes}
use Rattle.nr_model.specs.Bytes.{Bytes}
use Rattle.nr_model.specs.Commands.Reading.{Read, read_then, is_word}
use Rattle.nr_model.specs.Commands.SortedSets.{StoreOptions, store_options, score, aggregate_of}
use Rattle.nr_model.specs.declared.command.Aggregate.{Aggregate}

-- a weight that is missing
abbrev with_weight : ℕ → StoreOptions → ℕ → List Bytes → Read ℤ → Read StoreOptions
with_weight keys options left words read = read_then read (λ weight. store_options keys (record options { weights = options.weights ++ weight ∷ [] }) left words)

weight_at : (keys : ℕ) (options : StoreOptions) (n m : ℕ) (word : Bytes) (behind : List Bytes) → (n ≡ 0 → ⊥) → m ≡ n - 1
    → store_options keys options n (word ∷ behind) ≡ with_weight keys options m behind (score word)
weight_at keys options zero m word behind some less = absurd (some refl)
weight_at keys options (suc n) m word behind some less =
    let same : n ≡ m = omega (arith, less) in
    ap (λ n. with_weight keys options n behind (score word)) same

pub weight_read : (keys : ℕ) (options : StoreOptions) (n m : ℕ) (word : Bytes) (behind : List Bytes) (weight : ℤ) → (n ≡ 0 → ⊥) → m ≡ n - 1 → score word ≡ Ok weight
    → store_options keys options n (word ∷ behind) ≡ store_options keys (record { weights = options.weights ++ weight ∷ []; aggregate = options.aggregate }) m behind
weight_read keys options n m word behind weight some less is = weight_at keys options n m word behind some less ∙ ap (with_weight keys options m behind) is

-- an option
pub weights_read : (keys : ℕ) (options : StoreOptions) (word value : Bytes) (behind left : List Bytes) → behind ≡ value ∷ left → is_word (codes "weights") word ≡ true
    → store_options keys options 0 (word ∷ behind) ≡ store_options keys (record { weights = []; aggregate = options.aggregate }) keys behind
weights_read keys options word value behind left is named =
    let here : store_options keys options 0 (word ∷ value ∷ left) ≡ store_options keys (record { weights = []; aggregate = options.aggregate }) keys (value ∷ left) = rw named refl in
    ap (λ words. store_options keys options 0 (word ∷ words)) is ∙ here
    ∙ ap (store_options keys (record { weights = []; aggregate = options.aggregate }) keys) (sym is)

abbrev with_aggregate : ℕ → StoreOptions → List Bytes → Read Aggregate → Read StoreOptions
with_aggregate keys options words read = read_then read (λ aggregate. store_options keys (record options { aggregate = aggregate }) zero words)

aggregate_at : (keys : ℕ) (options : StoreOptions) (word value : Bytes) (behind left : List Bytes) → behind ≡ value ∷ left → is_word (codes "weights") word ≡ false
    → is_word (codes "aggregate") word ≡ true → store_options keys options 0 (word ∷ behind) ≡ with_aggregate keys options left (aggregate_of value)
aggregate_at keys options word value behind left is other named = rw (is, other, named) refl

pub aggregate_read : (keys : ℕ) (options : StoreOptions) (word value : Bytes) (behind left : List Bytes) (aggregate : Aggregate) → behind ≡ value ∷ left
    → is_word (codes "weights") word ≡ false → is_word (codes "aggregate") word ≡ true → aggregate_of value ≡ Ok aggregate
    → store_options keys options 0 (word ∷ behind) ≡ store_options keys (record { weights = options.weights; aggregate = aggregate }) 0 left
aggregate_read keys options word value behind left aggregate is other named read =
    aggregate_at keys options word value behind left is other named ∙ ap (with_aggregate keys options left) read
