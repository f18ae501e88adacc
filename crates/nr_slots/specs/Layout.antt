-- Where the words and the places of the slots lie. Those of two workers lie 128 bytes or more apart.
use Rattle.std.specs.Prelude.{ℕ, ◌+◌, ◌*◌}

abbrev pub word_of : ℕ → ℕ
word_of worker = 16 * worker + 16

abbrev pub place_of : ℕ → ℕ
place_of worker = 2 * worker

abbrev pub words_of : ℕ → ℕ
words_of workers = 16 * workers + 16

abbrev pub places_of : ℕ → ℕ
places_of workers = 2 * workers
