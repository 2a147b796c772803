-- The name of each entry of a bundle's input is a word.
use Rattle.std.proofs.Common.{◌≡◌, ℕ, List, [], ◌++◌, length, drop, get_or, All, refl, arith}
use Rattle.std.specs.List.{AllByRecursion}
use Rattle.std.proofs.lemmas.List.{append-nil, drop_all}
use Rattle.spf_base.specs.Word.{IsName}
use Rattle.spf_lex.specs.BundleWords.{bundle_words, same_kind}
use Rattle.spf_lex.specs.Language.{Lexed, lexed, tokens_of}
use Rattle.spf_lex.specs.Standing.{IsWhole}
use Rattle.spf_lex.specs.Tokens.{IsTokenText, Tokenized, texts}
use Rattle.spf_lex.specs.declared.cursor.Token.{Token}
use Rattle.spf_lex.specs.declared.kind.Kind.{Kind}
use Rattle.spf_lex.specs.declared.kind.Kind.TheVariants as kind
use Rattle.spf_lex.proofs.Leaves.{Leaves}
use Rattle.spf_lex.proofs.Makes.{Makes, many_makes}
use Rattle.spf_lex.proofs.NamedTokens.{name_text}
use Rattle.spf_lex.proofs.Numbered.{numbered_length}
use Rattle.spf_lex.proofs.StandingLeaves.{standing_leaves}
use Rattle.spf_kernel.specs.Facts.{text_of}
use Rattle.spf_input.specs.Productions.{bundle, entry, input}
use Rattle.spf_input.specs.Tested.{AreNamed}
use Rattle.spf_input.specs.declared.bundle.RawBundle.{RawBundle}
use Rattle.spf_input.specs.declared.entries.RawEntry.{RawEntry}
use Rattle.spf_input.specs.declared.entries.RawInput.{RawInput}
use Rattle.spf_input.proofs.Bundles.{kinds_exact}

module _ (of : List (List ℕ)) where
  abbrev IsTextName : Token → Type 0
  IsTextName token = IsName (text_of of token)

  -- the token is a word, where the grammar wants a name
  abbrev IsWordAt : Kind → Lexed Kind → Type 0
  IsWordAt k lexed = k ≡ kind.Name → IsTextName lexed.token

  token_is_word : (at : ℕ) (text : List ℕ) → get_or of at [] ≡ text → IsTokenText text → IsWordAt (lexed bundle_words at text).kind (lexed bundle_words at text)
  unfolding lexed
  token_is_word at text there is_token e =
      rw there (name_text same_kind kinds_exact bundle_words refl at text is_token ((kinds_exact (lexed bundle_words at text).kind kind.Name).1 e))

  abbrev HasName : RawEntry → Type 0
  HasName x = IsTextName x.name

  entry_made : Makes {same = same_kind} IsWordAt HasName entry
  unfolding Leaves entry
  entry_made d leaves = leaves.0 refl

  input_made : Makes {same = same_kind} IsWordAt (λ (x : RawInput). AllByRecursion HasName x.entries) input
  unfolding Leaves input
  input_made d leaves = many_makes IsWordAt HasName entry entry_made d.1.1.0 leaves.1.1.0

  bundle_made : Makes {same = same_kind} IsWordAt (λ (x : RawBundle). AreNamed of x.input.entries) bundle
  unfolding Leaves bundle
  bundle_made d leaves = input_made d.1.1.1.1 leaves.1.1.1.1

pub entries_named : (tokens : Tokenized) (raw : RawBundle) → All IsTokenText (texts tokens) → IsWhole bundle_words bundle tokens raw → AreNamed (texts tokens) raw.input.entries
entries_named tokens raw each (d, spells, is) =
    let all = tokens_of bundle_words (texts tokens) in
    let none : drop (length (texts tokens)) all ≡ [] = drop_all (length (texts tokens)) all (omega (arith, numbered_length bundle_words 0 (texts tokens))) in
    let splits : drop 0 all ≡ all ++ drop (length (texts tokens)) all = rw (none, append-nil all) refl in
    let leaves = standing_leaves bundle_words (texts tokens) (IsWordAt (texts tokens)) (token_is_word (texts tokens)) bundle.shape.grammar 0 (length (texts tokens)) all each splits d spells in
    rw is (bundle_made (texts tokens) d leaves)
