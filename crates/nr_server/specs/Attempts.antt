-- When it is tried to bring a node back that is down.
use Rattle.std.specs.Prelude.{◌≡◌, ◌⊎◌, ℕ, ◌+◌, ◌*◌, ◌<◌, ◌≤◌, List, length, min, max, slice_index_or, slice_set}
use Rattle.nr_server.specs.declared.attempts.Attempts.{Attempts}

-- How long it is waited behind a try that is over at a moment: a second where none was made for ten seconds longer than it was to be waited, or the clock went back behind the
-- last one; else twice as long as before, a second at least and 30 at most.
abbrev pub IsPausedBehind : Attempts → ℕ → ℕ → Type 0
IsPausedBehind attempts moment pause =
    (((moment < attempts.last) ⊎ (attempts.last + attempts.pause + 10000 ≤ moment)) × (pause ≡ 1000))
    ⊎ ((attempts.last ≤ moment) × (moment < attempts.last + attempts.pause + 10000) × (pause ≡ min (max (attempts.pause * 2) 1000) 30000))

-- Whether it is time for a try: it was waited long enough behind the last one, or the clock went back behind that.
abbrev pub IsDue : Attempts → ℕ → Type 0
IsDue attempts moment = (moment < attempts.last) ⊎ (attempts.last + attempts.pause ≤ moment)

-- One more try of this node is noted, over at a moment; those of the others stay.
abbrev pub HasNoted : ℕ → ℕ → List Attempts → List Attempts → Type 0
HasNoted node moment old new =
    node < length old → (noted : Attempts) × (noted.last ≡ moment) × IsPausedBehind (slice_index_or old node noted) moment noted.pause × (new ≡ slice_set old node noted)
