-- What a read gave, by all that was received.
use Rattle.std.proofs.Common.{◌≡◌, ◌<◌, ◌≤◌, ℕ, List, ◌++◌, length, take, ap, subst, sym, ◌∙◌, arith}
use Rattle.std.proofs.lemmas.List.{length-append, length-take}
use Rattle.nr_service.specs.Streams.{IsSomeReceived, received_count}
use Rattle.nr_service.specs.declared.stream.Received.{Received}
use Rattle.nr_service.specs.declared.stream.Received.TheVariants as received_as

-- no bytes, where no more were received
pub gave_none : (received : Received) (old new buffer : List ℕ) → IsSomeReceived received → received_count received ≤ length buffer
    → new ≡ old ++ take (received_count received) buffer → new ≡ old → (count : ℕ) → received ≡ received_as.Bytes count → ⊥
gave_none received old new buffer some bound grows same count is =
    let more : 0 < count = subst IsSomeReceived is some in
    let many : received_count received ≡ count = ap received_count is in
    let all = ap (λ (l : List ℕ). length l) (sym same ∙ grows) in
    let long = length-append old (take (received_count received) buffer) in
    let taken = length-take (received_count received) buffer in
    omega arith
