-- Looking a text or the next token up in a table, one entry after another.
use Rattle.std.proofs.Common.{◌≡◌, ℕ, ◌+◌, ◌<◌, Bool, true, false, List, length, map, drop, get_or, Some, Ok, refl, ◌∙◌, add-one, drop-cons}
use Rattle.std.specs.Prelude.{if◌then◌else◌}
use Rattle.std.specs.Str.{bytes_eq}
use Rattle.spf_lex.specs.Language.{Entry, Lexed, lookup}
use Rattle.spf_lex.specs.Reader.{sees, after, keyword}
use Rattle.spf_lex.proofs.Taking.{after_unseen}

module _ {A K : Type 0} (entry : A → Entry K) (table : List A) (text : List ℕ) (i : ℕ) (item : A) (inside : i < length table) (is : item ≡ get_or table i item) where
  next : lookup (map entry (drop i table)) text ≡ (if bytes_eq (entry item).0 text then Some (entry item).1 else lookup (map entry (drop (i + 1) table)) text)
  next = rw (add-one, drop-cons table i item, ← is) refl

  pub found_here : bytes_eq (entry item).0 text ≡ true → lookup (map entry (drop i table)) text ≡ Some (entry item).1
  found_here e = next ∙ rw e refl

  pub found_later : bytes_eq (entry item).0 text ≡ false → lookup (map entry (drop i table)) text ≡ lookup (map entry (drop (i + 1) table)) text
  found_later e = next ∙ rw e refl

module _ {K A : Type 0} (same : K → K → Bool) (table : List (K × A)) (tokens : List (Lexed K)) (i : ℕ) (item : K × A) (inside : i < length table) (is : item ≡ get_or table i item) where
  next_keyword : keyword same (drop i table) tokens ≡ (if sees same item.0 tokens then Ok (item.1, after same item.0 tokens) else keyword same (drop (i + 1) table) tokens)
  next_keyword = rw (add-one, drop-cons table i item, ← is) refl

  pub keyword_here : sees same item.0 tokens ≡ true → keyword same (drop i table) tokens ≡ Ok (item.1, after same item.0 tokens)
  keyword_here e = next_keyword ∙ rw e refl

  pub keyword_later : sees same item.0 tokens ≡ false → keyword same (drop i table) tokens ≡ keyword same (drop (i + 1) table) (after same item.0 tokens)
  keyword_later e = next_keyword ∙ rw (e, after_unseen same item.0 tokens e) refl
