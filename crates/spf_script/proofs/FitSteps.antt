-- The steps of a script that stands in a text have names that aren't quoted and numbers that aren't too large.
use Rattle.std.proofs.Common.{List, [], ◌∷◌, map, refl, sym, subst, inl, inr}
use Rattle.std.specs.List.{AllByRecursion}
use Rattle.spf_lex.specs.BundleWords.{same_kind, bundle_words}
use Rattle.spf_lex.specs.Derivation.{Derivation}
use Rattle.spf_lex.specs.Language.{Lexed}
use Rattle.spf_lex.specs.Tokens.{texts}
use Rattle.spf_lex.specs.declared.kind.Kind.{Kind}
use Rattle.spf_lex.specs.declared.kind.Kind.TheVariants as kind
use Rattle.spf_lex.proofs.Leaves.{Leaves}
use Rattle.spf_lex.proofs.NamedTokens.{IsFit, token_fits}
use Rattle.spf_lex.proofs.PrintedTexts.{printed_stands}
use Rattle.spf_lex.proofs.Spans.{each_text}
use Rattle.spf_lex.proofs.StandingLeaves.{standing_leaves}
use Rattle.spf_lex.specs.Joined.{joined}
use Rattle.spf_script.specs.Parsed.{IsParsed, IsTextOf}
use Rattle.spf_script.specs.Printed.{words_of}
use Rattle.spf_script.specs.Productions.{Syntax, name, number, names, cpack, order, bucket, seed, tile, tilepack, step, script}
use Rattle.spf_script.specs.declared.step.TextStep.{TextStep}
use Rattle.spf_script.specs.declared.step.TextStep.TheVariants.{LexGroup, LexSort}
use Rattle.spf_script.proofs.Reprinted.{IsFree, IsSmall, AreFree, SeedFits, StepFits, script_printed}
use Rattle.spf_script.proofs.Scripts.{kinds_exact}

abbrev Leaf : Kind → Lexed Kind → Type 0
Leaf = IsFit same_kind kinds_exact bundle_words refl

-- each derivation from such tokens makes what is P
abbrev Makes : {A : Type 0} → Syntax A → (A → Type 0) → Type 0
Makes p P = (d : Derivation (Lexed Kind) p.shape.grammar) → Leaves Leaf p.shape.grammar d → P (p.make d)

name_fits : Makes name IsFree
unfolding Leaves name
name_fits d leaf = record { name = leaf.name refl; free = leaf.free refl }

number_fits : Makes number IsSmall
unfolding Leaves number
number_fits (inl d) leaf = leaf.value
number_fits (inr d) leaf = leaf.value

further_fit : (ds : List (Lexed Kind × Derivation (Lexed Kind) name.shape.grammar)) → AllByRecursion (λ d. Leaf kind.Comma d.0 × Leaves Leaf name.shape.grammar d.1) ds → AllByRecursion IsFree (map (λ d. name.make d.1) ds)
further_fit [] each = tt
further_fit (d ∷ ds) each = (name_fits d.1 each.0.1, further_fit ds each.1)

names_fit : Makes names AreFree
unfolding Leaves names
names_fit (first, others) leaves = (name_fits first leaves.0, further_fit others leaves.1)

seed_fits : Makes seed SeedFits
unfolding Leaves seed
seed_fits (inl (inl d)) leaves = tt
seed_fits (inl (inr d)) leaves = tt
seed_fits (inr (word, n)) leaves = number_fits n leaves.1

cpack_fits : Makes cpack StepFits
unfolding Leaves cpack
cpack_fits (word, (arrays, (by_word, (by, end)))) leaves = (names_fit arrays leaves.1.0, name_fits by leaves.1.1.1.0)

lexgroup_fits : Makes (order kind.Lexgroup LexGroup) StepFits
unfolding Leaves order
lexgroup_fits (word, (of, (by_word, (by, end)))) leaves = (name_fits of leaves.1.0, name_fits by leaves.1.1.1.0)

lexsort_fits : Makes (order kind.Lexsort LexSort) StepFits
unfolding Leaves order
lexsort_fits (word, (of, (by_word, (by, end)))) leaves = (name_fits of leaves.1.0, name_fits by leaves.1.1.1.0)

bucket_fits : Makes bucket StepFits
unfolding Leaves bucket
bucket_fits (word, (of, (by_word, (by, (size_word, (size, end)))))) leaves = (name_fits of leaves.1.0, name_fits by leaves.1.1.1.0, number_fits size leaves.1.1.1.1.1.0)

tile_fits : Makes tile StepFits
unfolding Leaves tile
tile_fits (word, (of, (at_word, (time, (seed_word, (dealt, (parts, end))))))) leaves =
    (name_fits of leaves.1.0, number_fits time leaves.1.1.1.0, seed_fits dealt leaves.1.1.1.1.1.0, number_fits parts leaves.1.1.1.1.1.1.0)

tilepack_fits : Makes tilepack StepFits
unfolding Leaves tilepack
tilepack_fits (word, (arrays, end)) leaves = names_fit arrays leaves.1.0

step_fits : Makes step StepFits
unfolding Leaves step
step_fits (inl d) leaves = cpack_fits d leaves
step_fits (inr (inl d)) leaves = lexgroup_fits d leaves
step_fits (inr (inr (inl d))) leaves = lexsort_fits d leaves
step_fits (inr (inr (inr (inl d)))) leaves = bucket_fits d leaves
step_fits (inr (inr (inr (inr (inl d))))) leaves = tile_fits d leaves
step_fits (inr (inr (inr (inr (inr d))))) leaves = tilepack_fits d leaves

steps_fit : (ds : List (Derivation (Lexed Kind) step.shape.grammar)) → AllByRecursion (Leaves Leaf step.shape.grammar) ds → AllByRecursion StepFits (map step.make ds)
steps_fit [] each = tt
steps_fit (d ∷ ds) each = (step_fits d each.0, steps_fit ds each.1)

script_fits : Makes script (AllByRecursion StepFits)
unfolding Leaves script
script_fits (word, (opened, (ds, closed))) leaves = steps_fit ds leaves.1.1.0

parsed_fit : (steps : List TextStep) → IsParsed steps → AllByRecursion StepFits steps
parsed_fit steps parsed =
    let tokens = parsed.tokens in
    let stands = parsed.stands in
    let leaves =
    standing_leaves bundle_words (texts tokens) Leaf (λ at text there token. token_fits same_kind kinds_exact bundle_words refl at text token) script.shape.grammar parsed.from parsed.next stands.front
    (each_text tokens.text tokens.spans parsed.lexed.tokens) stands.splits stands.yields.0 stands.yields.1
    in
    subst (AllByRecursion StepFits) (sym stands.yields.2) (script_fits stands.yields.0 leaves)

pub printed_parses : (steps : List TextStep) → IsParsed steps → IsTextOf (joined (words_of steps)) steps
printed_parses steps parsed =
    let standing = printed_stands bundle_words script (words_of steps) steps (script_printed steps (parsed_fit steps parsed)) in
    record { spans = standing.spans; tokens = standing.tokens; stands = standing.stands }
