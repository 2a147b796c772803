-- The signs of assignments: of each the kind of its token, and its word.
use Rattle.std.specs.Prelude.{ℕ, false, List, [], ◌∷◌, codes}
use Rattle.spf_lex.specs.BundleWords.{same_kind}
use Rattle.spf_lex.specs.Production.{Production, one_of}
use Rattle.spf_kernel.specs.Types.{Kind, Becomes}

unfoldable pub becomes : Production same_kind false Becomes
becomes = one_of (Kind.Equals, Becomes.Put) ((Kind.PlusEquals, Becomes.Add) ∷ [])

abbrev pub becomes_word : Becomes → List ℕ
becomes_word Becomes.Put = codes "="
becomes_word Becomes.Add = codes "+="
