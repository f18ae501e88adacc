-- Ranges, padding, counted bits and joined strings, at some texts.
use Rattle.std.specs.Prelude.{◌≡◌, [], ◌∷◌, true, false, pos, negsuc, codes, bit_and, bit_or, bit_xor}
use Rattle.nr_model.specs.Strings.{range, overwritten, bit_at, with_bit_at, bits_of, set_bits, ones, joined_bits, inverted, max_len}

-- the ends of ranges, bits from the highest on, and strings of different lengths
pub record StringRows : Type 0 where
  pub range_counted : range (pos 0) (pos 3) (codes "This is a string") ≡ codes "This"
  pub range_from_the_end : range (negsuc 2) (negsuc 0) (codes "This is a string") ≡ codes "ing"
  pub range_whole : range (pos 0) (negsuc 0) (codes "This is a string") ≡ codes "This is a string"
  pub range_past_the_end : range (pos 10) (pos 100) (codes "This is a string") ≡ codes "string"
  pub range_reversed : range (pos 3) (pos 1) (codes "This is a string") ≡ []
  pub overwritten_inside : overwritten 6 (codes "Redis") (codes "Hello World") ≡ codes "Hello Redis"
  pub overwritten_behind : overwritten 3 (codes "x") (codes "a") ≡ 97 ∷ 0 ∷ 0 ∷ 120 ∷ []
  pub bit_of_a : bit_at (codes "a") 1 ≡ true
  pub bit_behind : bit_at (codes "a") 8 ≡ false
  pub bit_set : with_bit_at [] 7 true ≡ 1 ∷ []
  pub bit_cleared : with_bit_at (1 ∷ []) 7 false ≡ 0 ∷ []
  pub ones_whole : ones (codes "foobar") ≡ 26
  pub ones_first : ones (range (pos 0) (pos 0) (codes "foobar")) ≡ 4
  pub ones_second : ones (range (pos 1) (pos 1) (codes "foobar")) ≡ 6
  pub ones_last : ones (range (negsuc 1) (negsuc 0) (codes "foobar")) ≡ 7
  pub ones_of_bits : set_bits (range (pos 5) (pos 30) (bits_of (codes "foobar"))) ≡ 17
  pub ones_of_the_last_bits : set_bits (range (negsuc 6) (negsuc 0) (bits_of (codes "foobar"))) ≡ 4
  pub ones_of_none : ones [] ≡ 0
  pub anded : joined_bits bit_and (codes "foobar" ∷ codes "abcdef" ∷ []) ≡ codes "`bc`ab"
  pub anded_longer : joined_bits bit_and ((255 ∷ []) ∷ (15 ∷ 15 ∷ []) ∷ []) ≡ 15 ∷ 0 ∷ []
  pub ored_longer : joined_bits bit_or ((1 ∷ []) ∷ (2 ∷ 4 ∷ []) ∷ (8 ∷ []) ∷ []) ≡ 11 ∷ 4 ∷ []
  pub xored_shorter : joined_bits bit_xor ((255 ∷ 255 ∷ []) ∷ (15 ∷ []) ∷ []) ≡ 240 ∷ 255 ∷ []
  pub joined_alone : joined_bits bit_xor (codes "a" ∷ []) ≡ codes "a"
  pub joined_none : joined_bits bit_and [] ≡ []
  pub turned : inverted (0 ∷ 255 ∷ 170 ∷ []) ≡ 255 ∷ 0 ∷ 85 ∷ []
  pub limit : max_len ≡ 536870912
