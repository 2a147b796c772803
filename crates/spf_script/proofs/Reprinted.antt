-- The words of a script whose names and numbers are fit are read as that script.
use Rattle.std.proofs.Common.{◌≡◌, ℕ, ◌+◌, ◌≤◌, ◌^◌, ◌==◌, Bool, true, false, List, [], ◌∷◌, length, None, decimal, refl}
use Rattle.std.specs.Prelude.{⊤, codes, if◌then◌else◌}
use Rattle.std.specs.List.{AllByRecursion}
use Rattle.spf_base.specs.Word.{IsName}
use Rattle.spf_lex.specs.BundleWords.{bundle_words, quoted_texts}
use Rattle.spf_lex.specs.Joined.{listed}
use Rattle.spf_lex.specs.Language.{lookup, lexed}
use Rattle.spf_lex.specs.declared.kind.Kind.{Kind}
use Rattle.spf_lex.specs.declared.kind.Kind.TheVariants as kind
use Rattle.spf_lex.proofs.FixedWords.{IsFixed, small_fixed, symbol_fixed, name_fixed, number_fixed, number_value}
use Rattle.spf_lex.proofs.PrintedWords.{IsPrinted, ArePrinted, word_alone, behind_word, behind_part, on_left, on_right, enclosed, many_printed, separated_printed}
use Rattle.spf_script.specs.Printed.{seed_words, order_words, step_words, words_of}
use Rattle.spf_script.specs.Productions.{Syntax, name, number, names, cpack, order, bucket, seed, tile, tilepack, step, script}
use Rattle.spf_script.specs.declared.step.TextSeed.{TextSeed}
use Rattle.spf_script.specs.declared.step.TextSeed.TheVariants.{Block, Spread, Plug}
use Rattle.spf_script.specs.declared.step.TextStep.{TextStep}
use Rattle.spf_script.specs.declared.step.TextStep.TheVariants.{Cpack, LexGroup, LexSort, Bucket, Tile, TilePack}

-- ---- what can be printed

-- a name that isn't quoted
pub record IsFree (text : List ℕ) : Type 0 where
  pub name : IsName text
  pub free : lookup quoted_texts text ≡ None

abbrev pub IsSmall : ℕ → Type 0
IsSmall n = n ≤ 2 ^ 63

-- some names, each of them free
abbrev pub AreFree : List (List ℕ) → Type 0
AreFree [] = ⊥
AreFree (name ∷ names) = AllByRecursion IsFree (name ∷ names)

abbrev pub SeedFits : TextSeed → Type 0
SeedFits (Plug n) = IsSmall n
SeedFits other = ⊤

abbrev pub StepFits : TextStep → Type 0
StepFits (Cpack arrays by) = AreFree arrays × IsFree by
StepFits (LexGroup of by) = IsFree of × IsFree by
StepFits (LexSort of by) = IsFree of × IsFree by
StepFits (Bucket of by size) = IsFree of × IsFree by × IsSmall size
StepFits (Tile of step seed parts) = IsFree of × IsSmall step × SeedFits seed × IsSmall parts
StepFits (TilePack arrays) = AreFree arrays

-- ---- words that are printed the same each time

cpack_word : IsFixed bundle_words kind.Cpack (codes "cpack")
cpack_word = small_fixed bundle_words kind.Cpack (codes "cpack") refl refl

by_word : IsFixed bundle_words kind.By (codes "by")
by_word = small_fixed bundle_words kind.By (codes "by") refl refl

semicolon : IsFixed bundle_words kind.Semicolon (codes ";")
semicolon = symbol_fixed bundle_words kind.Semicolon (codes ";") refl refl

comma : IsFixed bundle_words kind.Comma (codes ",")
comma = symbol_fixed bundle_words kind.Comma (codes ",") refl refl

lexgroup_word : IsFixed bundle_words kind.Lexgroup (codes "lexgroup")
lexgroup_word = small_fixed bundle_words kind.Lexgroup (codes "lexgroup") refl refl

lexsort_word : IsFixed bundle_words kind.Lexsort (codes "lexsort")
lexsort_word = small_fixed bundle_words kind.Lexsort (codes "lexsort") refl refl

bucket_word : IsFixed bundle_words kind.Bucket (codes "bucket")
bucket_word = small_fixed bundle_words kind.Bucket (codes "bucket") refl refl

size_word : IsFixed bundle_words kind.Size (codes "size")
size_word = small_fixed bundle_words kind.Size (codes "size") refl refl

tile_word : IsFixed bundle_words kind.Tile (codes "tile")
tile_word = small_fixed bundle_words kind.Tile (codes "tile") refl refl

at_word : IsFixed bundle_words kind.At (codes "at")
at_word = small_fixed bundle_words kind.At (codes "at") refl refl

seed_word : IsFixed bundle_words kind.Seed (codes "seed")
seed_word = small_fixed bundle_words kind.Seed (codes "seed") refl refl

block_word : IsFixed bundle_words kind.Block (codes "block")
block_word = small_fixed bundle_words kind.Block (codes "block") refl refl

spread_word : IsFixed bundle_words kind.Spread (codes "spread")
spread_word = small_fixed bundle_words kind.Spread (codes "spread") refl refl

plug_word : IsFixed bundle_words kind.Plug (codes "plug")
plug_word = small_fixed bundle_words kind.Plug (codes "plug") refl refl

tilepack_word : IsFixed bundle_words kind.Tilepack (codes "tilepack")
tilepack_word = small_fixed bundle_words kind.Tilepack (codes "tilepack") refl refl

script_word : IsFixed bundle_words kind.Script (codes "script")
script_word = small_fixed bundle_words kind.Script (codes "script") refl refl

open_brace : IsFixed bundle_words kind.OpenBrace (codes "{")
open_brace = symbol_fixed bundle_words kind.OpenBrace (codes "{") refl refl

close_brace : IsFixed bundle_words kind.CloseBrace (codes "}")
close_brace = symbol_fixed bundle_words kind.CloseBrace (codes "}") refl refl

-- ---- productions

-- the part is printed as these words, wherever they stand
abbrev IsReprinted : {A : Type 0} → Syntax A → A → List (List ℕ) → Type 0
IsReprinted p part words = (at : ℕ) → IsPrinted bundle_words p.shape.grammar p.make part words at

free_fixed : (n : List ℕ) → IsFree n → IsFixed bundle_words kind.Name n
free_fixed n free = name_fixed bundle_words n free.name free.free

name_printed : (n : List ℕ) → IsFree n → IsReprinted name n (n ∷ [])
unfolding name lexed
name_printed n free at = record { text = word_alone at (free_fixed n free); means = refl }

number_printed : (n : ℕ) → IsSmall n → IsReprinted number n (decimal n ∷ [])
unfolding number
number_printed n small at = by (n == 1) (number_fixed bundle_words n small) where
  by : (b : Bool) → IsFixed bundle_words (if b then kind.One else kind.Number) (decimal n) → IsPrinted bundle_words number.shape.grammar number.make n (decimal n ∷ []) at
  by true fixed = record { text = on_left (word_alone at fixed); means = number_value bundle_words at n small }
  by false fixed = record { text = on_right (word_alone at fixed); means = number_value bundle_words at n small }

each_printed : (ns : List (List ℕ)) → AllByRecursion IsFree ns → AllByRecursion (ArePrinted bundle_words name.shape.grammar name.make (λ n. n ∷ [])) ns
each_printed [] each = tt
each_printed (n ∷ ns) each = (name_printed n each.0, each_printed ns each.1)

names_printed : (ns : List (List ℕ)) → AreFree ns → IsReprinted names ns (listed ns)
unfolding names
names_printed [] none at = absurd none
names_printed (n ∷ ns) each at = separated_printed name.shape.grammar name.make (λ n. n ∷ []) comma n ns (each_printed (n ∷ ns) each) at

-- a list of names between a word and other words
cpack_printed : (arrays : List (List ℕ)) (by : List ℕ) → AreFree arrays → IsFree by → IsReprinted cpack (Cpack arrays by) (step_words (Cpack arrays by))
unfolding cpack
cpack_printed arrays by free last at =
    let list = names_printed arrays free (at + 1) in
    let by_at = at + 1 + length (listed arrays) in
    let name = name_printed by last (by_at + 1) in
    record {
      text = behind_word at cpack_word (behind_part list.text (behind_word by_at by_word (behind_part name.text (word_alone (by_at + 1 + 1) semicolon))));
      means = λ i. Cpack (list.means i) (name.means i);
    }

order_printed : (wanted : Kind) (word : List ℕ) (make : List ℕ → List ℕ → TextStep) (of by : List ℕ) → IsFixed bundle_words wanted word → IsFree of → IsFree by
    → IsReprinted (order wanted make) (make of by) (order_words word of by)
unfolding order
order_printed wanted word make of by fixed first last at =
    let loop = name_printed of first (at + 1) in
    let array = name_printed by last (at + 1 + 1 + 1) in
    record {
      text = behind_word at fixed (behind_part loop.text (behind_word (at + 1 + 1) by_word (behind_part array.text (word_alone (at + 1 + 1 + 1 + 1) semicolon))));
      means = λ i. make (loop.means i) (array.means i);
    }

bucket_printed : (of by : List ℕ) (size : ℕ) → IsFree of → IsFree by → IsSmall size → IsReprinted bucket (Bucket of by size) (step_words (Bucket of by size))
unfolding bucket
bucket_printed of by size first last small at =
    let loop = name_printed of first (at + 1) in
    let array = name_printed by last (at + 1 + 1 + 1) in
    let number = number_printed size small (at + 1 + 1 + 1 + 1 + 1) in
    record {
      text =
          behind_word at bucket_word (behind_part loop.text (behind_word (at + 1 + 1) by_word (behind_part array.text (behind_word (at + 1 + 1 + 1 + 1) size_word
          (behind_part number.text (word_alone (at + 1 + 1 + 1 + 1 + 1 + 1) semicolon))))));
      means = λ i. Bucket (loop.means i) (array.means i) (number.means i);
    }

seed_printed : (x : TextSeed) → SeedFits x → IsReprinted seed x (seed_words x)
unfolding seed
seed_printed Block fits at = record { text = on_left (on_left (word_alone at block_word)); means = refl }
seed_printed Spread fits at = record { text = on_left (on_right (word_alone at spread_word)); means = refl }
seed_printed (Plug n) fits at =
    let number = number_printed n fits (at + 1) in
    record { text = on_right (behind_word at plug_word number.text); means = λ i. Plug (number.means i) }

tile_printed : (of : List ℕ) (s : ℕ) (x : TextSeed) (parts : ℕ) → IsFree of → IsSmall s → SeedFits x → IsSmall parts → IsReprinted tile (Tile of s x parts) (step_words (Tile of s x parts))
unfolding tile
tile_printed of s x parts free small fits few at =
    let loop = name_printed of free (at + 1) in
    let time = number_printed s small (at + 1 + 1 + 1) in
    let seed_at = at + 1 + 1 + 1 + 1 + 1 in
    let dealt = seed_printed x fits seed_at in
    let parts_at = seed_at + length (seed_words x) in
    let number = number_printed parts few parts_at in
    record {
      text =
          behind_word at tile_word (behind_part loop.text (behind_word (at + 1 + 1) at_word (behind_part time.text (behind_word (at + 1 + 1 + 1 + 1) seed_word
          (behind_part dealt.text (behind_part number.text (word_alone (parts_at + 1) semicolon)))))));
      means = λ i. Tile (loop.means i) (time.means i) (dealt.means i) (number.means i);
    }

tilepack_printed : (arrays : List (List ℕ)) → AreFree arrays → IsReprinted tilepack (TilePack arrays) (step_words (TilePack arrays))
unfolding tilepack
tilepack_printed arrays free at =
    let list = names_printed arrays free (at + 1) in
    record {
      text = behind_word at tilepack_word (behind_part list.text (word_alone (at + 1 + length (listed arrays)) semicolon));
      means = λ i. TilePack (list.means i);
    }

step_printed : (x : TextStep) → StepFits x → IsReprinted step x (step_words x)
unfolding step
step_printed (Cpack arrays by) fits at = let x = cpack_printed arrays by fits.0 fits.1 at in record { text = on_left x.text; means = x.means }
step_printed (LexGroup of by) fits at =
    let x = order_printed kind.Lexgroup (codes "lexgroup") LexGroup of by lexgroup_word fits.0 fits.1 at in record { text = on_right (on_left x.text); means = x.means }
step_printed (LexSort of by) fits at =
    let x = order_printed kind.Lexsort (codes "lexsort") LexSort of by lexsort_word fits.0 fits.1 at in record { text = on_right (on_right (on_left x.text)); means = x.means }
step_printed (Bucket of by size) fits at =
    let x = bucket_printed of by size fits.0 fits.1 fits.2 at in record { text = on_right (on_right (on_right (on_left x.text))); means = x.means }
step_printed (Tile of s seed parts) fits at =
    let x = tile_printed of s seed parts fits.0 fits.1 fits.2 fits.3 at in record { text = on_right (on_right (on_right (on_right (on_left x.text)))); means = x.means }
step_printed (TilePack arrays) fits at =
    let x = tilepack_printed arrays fits at in record { text = on_right (on_right (on_right (on_right (on_right x.text)))); means = x.means }

steps_each : (steps : List TextStep) → AllByRecursion StepFits steps → AllByRecursion (ArePrinted bundle_words step.shape.grammar step.make step_words) steps
steps_each [] each = tt
steps_each (x ∷ steps) each = (step_printed x each.0, steps_each steps each.1)

pub script_printed : (steps : List TextStep) → AllByRecursion StepFits steps → IsPrinted bundle_words script.shape.grammar script.make steps (words_of steps) 0
unfolding script
script_printed steps each =
    let body = many_printed step.shape.grammar step.make step_words steps (steps_each steps each) (0 + 1 + 1) in
    record { text = behind_word 0 script_word (enclosed (0 + 1) open_brace close_brace body.text); means = body.means }
