use Rattle.std.proofs.Common.{◌≡◌, ◌+◌, Bool, true, List, ◌∷◌, map, refl, ap, sym, ◌∙◌, inl, inr, arith, ◌⊎◌}
use Rattle.std.specs.List.{slice_range}
use Rattle.spf_lex.specs.declared.lexeme.Lexeme.{Lexeme}
use Rattle.spf_lex.specs.declared.lexeme.Lexeme.TheVariants.{Word, Symbol}
use Rattle.spf_lex.specs.Lexeme.{lexeme_of}
use Rattle.spf_lex.specs.Tokens.{texts}
use Rattle.spf_input.specs.Given.{numbers_from}
use Rattle.spf_input.proofs.Slices.{range_more}
use Rattle.spf_input.proofs.given.next_number.Goals as goal

pub returns-in-Number : goal.returns-in-Number
returns-in-Number c =
    let lexemes = map lexeme_of (texts c.args.tokens.now) in
    let more = range_more lexemes c.loop-place.place c.args.to c.lexeme.result c.lexeme.ensures (omega arith) in
    (sym c.loop-place.invariant ∙ ap (numbers_from c.loop-place.minus) more ∙ rw c.in-Number.is refl, omega arith, omega arith)

-- a token that is no number is passed
passed : (minus : Bool) (lexeme : Lexeme) (lexemes : List Lexeme) → (lexeme ≡ Word) ⊎ (lexeme ≡ Symbol) → numbers_from minus (lexeme ∷ lexemes) ≡ numbers_from true lexemes
passed minus lexeme lexemes (inl e) = rw e refl
passed minus lexeme lexemes (inr e) = rw e refl

pub loop-place-preserved : goal.loop-place-preserved
loop-place-preserved c =
    let lexemes = map lexeme_of (texts c.args.tokens.now) in
    let more = range_more lexemes c.loop-place.place c.args.to c.lexeme.result c.lexeme.ensures (omega arith) in
    sym (passed c.loop-place.minus c.lexeme.result (slice_range lexemes (c.loop-place.place + 1) c.args.to) c.in-Word.is) ∙ (sym (ap (numbers_from c.loop-place.minus) more) ∙ c.loop-place.invariant)
