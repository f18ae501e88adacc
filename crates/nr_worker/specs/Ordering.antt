-- Jobs in another order.
use Rattle.std.specs.Prelude.{ℕ, Bool, List, not, ◌==◌}
use Rattle.std.specs.List.{list_any}

-- a connection with this serial is none of these
abbrev pub is_free : List ℕ → ℕ → Bool
is_free writers serial = not (list_any (λ (w : ℕ). w == serial) writers)
