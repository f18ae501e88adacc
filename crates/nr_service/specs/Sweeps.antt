-- Turns in which all clients are looked at.
use Rattle.std.specs.Prelude.{◌≡◌, ◌≢◌, ◌<◌, ◌≤◌, ◌+◌, ◌/◌, max, ◌⊎◌, ℕ, Bool, true, false, List, [], length, map, slice_index_or, None, All}
use Rattle.std.specs.List.{IsDistinct}
use Rattle.nr_model.specs.Items.{Connection, same_connection}
use Rattle.nr_service.specs.Leaving.{IsEnding}
use Rattle.nr_service.specs.Serving.{connection}
use Rattle.nr_service.specs.Stories.{Kept, kept_bytes}
use Rattle.nr_service.specs.declared.backend.ConnectionState.{ConnectionState}
use Rattle.nr_service.specs.declared.client.Client.{Client}
use Rattle.nr_service.specs.declared.leaving.LeavingBounds.{LeavingBounds}

-- how many turns lie at most between two of them
abbrev pub turns_between : ℕ
turns_between = 1023

-- of so many turns until the next of them there are fewer, or this is one, in which this holds
abbrev pub LooksSoon : ℕ → ℕ → Type 0 → Type 0
LooksSoon before after P = ((after ≡ turns_between) × P) ⊎ (after < before)

-- nothing is kept for a client, or its stream took nothing when it was written last
abbrev pub IsSent : {S : Type 0} → Kept → Client S → Type 0
IsSent keeps client = (kept_bytes (keeps (connection client)) ≡ []) ⊎ (client.is_full ≡ true)

-- or its stream failed
abbrev pub IsSentOrBroken : {S : Type 0} → Kept → Client S → Type 0
IsSentOrBroken keeps client = IsSent keeps client ⊎ (client.is_broken ≡ true)

-- how many bytes are written for a client in a visit at most: an eighth of those that may wait, and a mebibyte where that is more
abbrev pub most_written : ℕ → ℕ
most_written limit = max (limit / 8) 1048576

-- where so many bytes were kept, and so many are left, it was written until this held or as many were taken as may be
abbrev pub IsWrittenOn : ℕ → ℕ → ℕ → Type 0 → Type 0
IsWrittenOn most kept left P = P ⊎ (left + most ≤ kept)

-- What was written at a place: where nothing more can be done at once behind that, nothing could be before, and all is sent there; and elsewhere it is as
-- before, where no two of the clients have one connection.
pub record WritesAt {A S : Type 0} (keeps : A → Kept) (place : ℕ) (busy_before busy_after : Bool) (before after : A) (old new : List (Client S)) : Type 0 where
  pub calm : busy_after ≡ false → busy_before ≡ false
  pub here : busy_after ≡ false → (client : Client S) → place < length old → IsSentOrBroken (keeps after) (slice_index_or new place client)
  pub others : IsDistinct same_connection (map connection old) → (k : ℕ) (client : Client S) → k ≢ place → k < length old
      → IsSentOrBroken (keeps before) (slice_index_or old k client) → IsSentOrBroken (keeps after) (slice_index_or new k client)

-- The one at this place, where there is one, goes on, and all is as before.
pub record GoesOnAt {A S : Type 0} (keeps : A → Kept) (stands : A → Connection → ConnectionState → Type 0) (busy : A → Bool) (bounds : LeavingBounds) (place : ℕ)
    (before after : A) (old new : List (Client S)) : Type 0 where
  pub clients : new ≡ old
  pub answers : after ≡ before
  pub here : (client : Client S) → place < length old
      → IsEnding (keeps before) (stands before) (busy before) bounds (slice_index_or old place client) None

-- Where all were looked at, each goes on; and all is as before.
pub record GoOn {A S : Type 0} (keeps : A → Kept) (stands : A → Connection → ConnectionState → Type 0) (busy : A → Bool) (bounds : LeavingBounds) (is_all : Bool)
    (before after : A) (old new : List (Client S)) : Type 0 where
  pub clients : new ≡ old
  pub answers : after ≡ before
  pub each : is_all ≡ true → All (λ client. IsEnding (keeps before) (stands before) (busy before) bounds client None) old

-- each client goes on, and what is kept for it is sent as far as its stream takes it
abbrev pub AreSent : {S : Type 0} → Kept → (Connection → ConnectionState → Type 0) → Bool → LeavingBounds → List (Client S) → Type 0
AreSent keeps stands busy bounds clients = All (λ client. IsEnding keeps stands busy bounds client None × IsSent keeps client) clients
