use Rattle.std.proofs.Common.{◌≡◌, ◌∷◌, [], ◌++◌, arith, ap, List, ℕ, ◌∙◌}
use Rattle.std.proofs.lemmas.Grind.{common_steps}
use Rattle.spf_lex.proofs.Written.{push_word, word_pushed}
use Rattle.spf_lex.proofs.words.Words.push.Goals as goal

-- the word and a blank stand behind what stood there
written : (c : goal.In_ok-push) → c.push.new.self.items ≡ (c.self.inside.text.items ++ c.args.word.now) ++ 32 ∷ []
written c = grind (arith, common_steps)

pub invariant_of-self-2 : goal.invariant_of-self-2
invariant_of-self-2 c = push_word c.self.inside.text.items c.args.word.now c.push.new.self.items c.self.invariant c.requires (written c)

pub returns-clause-pushed : goal.returns-clause-pushed
returns-clause-pushed c =
    word_pushed c.self.inside.text.items c.args.word.now c.push.new.self.items c.self.invariant c.requires (written c)
    ∙ ap (λ (words : List (List ℕ)). words ++ c.args.word.now ∷ []) c.self.view_is
