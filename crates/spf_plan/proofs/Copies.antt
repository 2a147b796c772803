-- An order that is put back.
use Rattle.std.proofs.Common.{◌≡◌, ℕ, List, get_or, slice_set, ap, ◌∙◌}
use Rattle.std.proofs.lemmas.List.{set-get_or, set-set}

-- what was replaced is put back
pub put_back : {A : Type 0} (xs : List A) (n : ℕ) (x old read : A) → old ≡ read → read ≡ get_or xs n read → slice_set (slice_set xs n x) n old ≡ xs
put_back xs n x old read same is = set-set xs n x old ∙ (ap (slice_set xs n) (same ∙ is) ∙ set-get_or xs n read)
