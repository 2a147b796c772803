-- The names that a kernel declares are words.
use Rattle.spf_kernel.proofs.Common.{◌≡◌, ℕ, List, [], ◌∷◌, ◌++◌, drop, get_or, map, flat_map, All, refl, inl, inr, AllByRecursion, IsName, bundle_words, same_kind, Lexed, many, token, IsTokenText, Token, Kind, join_each, standing_leaves, RawItem, RawLoop, RawRange, RawSized, RawDecl, RawKernel, Note, Declared, note, text_of, IsKernel, is_naming, tokens_that, nothing, All-cons, All-nil, lexed, tokens_of, separated, Leaves, Sort, kernel_notes, decl, index, inner, item, kernel, one_loop, params, range, sized, values}
use Rattle.spf_lex.proofs.Makes.{Makes, many_makes, separated_makes}
use Rattle.spf_lex.proofs.NamedTokens.{name_text}
use Rattle.spf_kernel.proofs.OneKernel.{kinds_exact}
use Rattle.spf_kernel.proofs.GivenNames.{decl_given, item_given, loop_given, kernel_given, kernel_giving}

module _ (texts : List (List ℕ)) where
  abbrev IsTextName : Token → Type 0
  IsTextName token = IsName (text_of texts token)

  -- the token is a word, where the grammar wants a name
  abbrev IsWordAt : Kind → Lexed Kind → Type 0
  IsWordAt k lexed = k ≡ Kind.Name → IsTextName lexed.token

  pub token_is_word : (at : ℕ) (text : List ℕ) → get_or texts at [] ≡ text → IsTokenText text → IsWordAt (lexed bundle_words at text).kind (lexed bundle_words at text)
  unfolding lexed
  token_is_word at text there is_token e =
      rw there (name_text same_kind kinds_exact bundle_words refl at text is_token ((kinds_exact (lexed bundle_words at text).kind Kind.Name).1 e))

  -- ---- what a derivation names

  -- each of these notes is of a word
  abbrev AreOfWords : List Note → Type 0
  AreOfWords notes = AllByRecursion (λ (note : Note). IsTextName note.token) notes

  named_tokens : (notes : List Note) → AreOfWords notes → All IsTextName (map (λ (note : Note). note.token) notes)
  named_tokens [] each = All-nil IsTextName
  named_tokens (note ∷ notes) each = All-cons IsTextName note.token (map (λ (note : Note). note.token) notes) each.0 (named_tokens notes each.1)

  all_words : {A : Type 0} (Q : A → Type 0) (notes : A → List Note) → ((x : A) → Q x → AreOfWords (notes x)) → (xs : List A) → AllByRecursion Q xs → AreOfWords (flat_map notes xs)
  all_words Q notes one [] each = tt
  all_words Q notes one (x ∷ xs) each = join_each (λ (note : Note). IsTextName note.token) (notes x) (flat_map notes xs) (one x each.0) (all_words Q notes one xs each.1)

  marked_words : {A : Type 0} (sort : Sort) (token : A → Token) (xs : List A) → AllByRecursion (λ x. IsTextName (token x)) xs → AreOfWords (map (λ x. note (token x) (Declared sort) nothing) xs)
  marked_words sort token [] each = tt
  marked_words sort token (x ∷ xs) each = (each.0, marked_words sort token xs each.1)

  name_made : Makes {same = same_kind} IsWordAt IsTextName (token Kind.Name)
  unfolding Leaves
  name_made d leaves = leaves refl

  abbrev IsSizedName : RawSized → Type 0
  IsSizedName x = IsTextName x.name

  sized_made : Makes IsWordAt IsSizedName sized
  unfolding Leaves sized
  sized_made d leaves = leaves.0 refl

  decl_made : Makes IsWordAt (λ (x : RawDecl). AreOfWords (decl_given x)) decl
  unfolding Leaves decl params index values
  decl_made (inl d) leaves =
      let name = token {same = same_kind} Kind.Name in
      marked_words Sort.Param (λ (token : Token). token) ((separated Kind.Comma name).make d.1.0) (separated_makes IsWordAt IsTextName Kind.Comma name name_made d.1.0 leaves.1.0)
  decl_made (inr (inl d)) leaves = (sized_made d.1.0 leaves.1.0, tt)
  decl_made (inr (inr d)) leaves =
      marked_words Sort.Data (λ (array : RawSized). array.name) ((separated Kind.Comma sized).make d.1.0) (separated_makes IsWordAt IsSizedName Kind.Comma sized sized_made d.1.0 leaves.1.0)

  range_made : Makes IsWordAt (λ (x : RawRange). IsTextName x.var) range
  unfolding Leaves range
  range_made d leaves = leaves.0 refl

  abbrev IsItemOfWords : RawItem → Type 0
  IsItemOfWords x = (outer : Token) → AreOfWords (item_given outer x)

  item_made : Makes IsWordAt IsItemOfWords item
  unfolding Leaves item inner
  item_made (inl d) leaves outer = tt
  item_made (inr d) leaves outer = (range_made d.1.0 leaves.1.0, tt)

  loop_made : Makes IsWordAt (λ (x : RawLoop). AreOfWords (loop_given x)) one_loop
  unfolding Leaves one_loop
  loop_made d leaves =
      let var = (range.make d.1.1.0.1.0).var in
      let items = many_makes IsWordAt IsItemOfWords item item_made d.1.1.1.1.0 leaves.1.1.1.1.0 in
      (leaves.1.0 refl, (range_made d.1.1.0.1.0 leaves.1.1.0.1.0, all_words IsItemOfWords (item_given var) (λ x named. named var) ((many item).make d.1.1.1.1.0) items))

  kernel_made : Makes IsWordAt (λ (x : RawKernel). AreOfWords (kernel_given x)) kernel
  unfolding Leaves kernel
  kernel_made d leaves =
      let decls = (many decl).make d.1.1.0 in
      let loops = (many one_loop).make d.1.1.1.1.1.1.0 in
      join_each (λ (note : Note). IsTextName note.token) (flat_map decl_given decls) (flat_map loop_given loops)
      (all_words _ decl_given (λ x named. named) decls (many_makes IsWordAt _ decl decl_made d.1.1.0 leaves.1.1.0))
      (all_words _ loop_given (λ x named. named) loops (many_makes IsWordAt _ one_loop loop_made d.1.1.1.1.1.1.0 leaves.1.1.1.1.1.1.0))

-- ---- the tokens of a kernel stand among those of the text

pub names_are_words : (texts : List (List ℕ)) (n m : ℕ) (front : List (Lexed Kind)) (raw : RawKernel) → All IsTokenText texts
    → drop n (tokens_of bundle_words texts) ≡ front ++ drop m (tokens_of bundle_words texts) → IsKernel front raw
    → All (λ t. IsName (text_of texts t)) (tokens_that is_naming (kernel_notes raw))
names_are_words texts n m front raw each splits (derivation, spells, tree) =
    let leaves = standing_leaves bundle_words texts (IsWordAt texts) (token_is_word texts) kernel.shape.grammar n m front each splits derivation spells in
    let given = kernel.make derivation in
    rw tree (rw (kernel_giving given) (named_tokens texts (kernel_given given) (kernel_made texts derivation leaves)))
