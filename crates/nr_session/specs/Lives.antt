-- Where a connection is in its life, as contracts see it.
use Rattle.std.specs.Prelude.{Bool, true, false}
use Rattle.nr_session.specs.declared.session.Life.{Life}
use Rattle.nr_session.specs.declared.session.Life.TheVariants.{Open, GaveEnd, Cut}

abbrev pub has_ended : Life → Bool
has_ended Open = false
has_ended GaveEnd = true
has_ended Cut = true

abbrev pub gave_end : Life → Bool
gave_end Open = false
gave_end GaveEnd = true
gave_end Cut = false
