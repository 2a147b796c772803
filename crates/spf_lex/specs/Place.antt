-- The place of a byte in a text.
use Rattle.std.specs.Prelude.{ℕ, ◌+◌, List, length, take, reverse, count_by, take_while, not, ◌==◌}
use Rattle.spf_base.specs.declared.place.Place.{Place}

-- the place of a byte: its line is one more than the line feeds before it, and its column one more than the bytes behind the last of them
abbrev pub place_of : List ℕ → ℕ → Place
place_of text at = record {
  line = 1 + count_by (λ b. b == 10) (take at text);
  column = 1 + length (take_while (λ b. not (b == 10)) (reverse (take at text)));
}
