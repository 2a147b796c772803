-- The words that a script is printed as, step by step.
use Rattle.std.specs.Prelude.{ℕ, List, [], ◌∷◌, ◌++◌, flat_map, codes, decimal}
use Rattle.spf_lex.specs.Joined.{listed}
use Rattle.spf_script.specs.declared.step.TextSeed.{TextSeed}
use Rattle.spf_script.specs.declared.step.TextSeed.TheVariants.{Block, Spread, Plug}
use Rattle.spf_script.specs.declared.step.TextStep.{TextStep}
use Rattle.spf_script.specs.declared.step.TextStep.TheVariants.{Cpack, LexGroup, LexSort, Bucket, Tile, TilePack}

abbrev pub seed_words : TextSeed → List (List ℕ)
seed_words Block = codes "block" ∷ []
seed_words Spread = codes "spread" ∷ []
seed_words (Plug n) = codes "plug" ∷ decimal n ∷ []

abbrev pub order_words : List ℕ → List ℕ → List ℕ → List (List ℕ)
order_words word of by = word ∷ of ∷ codes "by" ∷ by ∷ codes ";" ∷ []

abbrev pub step_words : TextStep → List (List ℕ)
step_words (Cpack arrays by) = codes "cpack" ∷ listed arrays ++ codes "by" ∷ by ∷ codes ";" ∷ []
step_words (LexGroup of by) = order_words (codes "lexgroup") of by
step_words (LexSort of by) = order_words (codes "lexsort") of by
step_words (Bucket of by size) = codes "bucket" ∷ of ∷ codes "by" ∷ by ∷ codes "size" ∷ decimal size ∷ codes ";" ∷ []
step_words (Tile of step seed parts) = codes "tile" ∷ of ∷ codes "at" ∷ decimal step ∷ codes "seed" ∷ seed_words seed ++ decimal parts ∷ codes ";" ∷ []
step_words (TilePack arrays) = codes "tilepack" ∷ listed arrays ++ codes ";" ∷ []

-- the words of a script
abbrev pub words_of : List TextStep → List (List ℕ)
words_of steps = codes "script" ∷ codes "{" ∷ flat_map step_words steps ++ codes "}" ∷ []
