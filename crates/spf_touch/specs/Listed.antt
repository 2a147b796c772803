-- Numbers that are put at the end of a list, unless they stand there already.
use Rattle.std.specs.Prelude.{ℕ, List, [], ◌∷◌, ◌++◌, if◌then◌else◌}
use Rattle.spf_touch.specs.Ordered.{is_in}

-- the list with the number at its end, unless it stands there already
abbrev pub with_listed : List ℕ → ℕ → List ℕ
with_listed listed x = if is_in listed x then listed else listed ++ x ∷ []

-- the list with these numbers put there one after another
abbrev pub all_listed : List ℕ → List ℕ → List ℕ
all_listed listed [] = listed
all_listed listed (x ∷ xs) = all_listed (with_listed listed x) xs
