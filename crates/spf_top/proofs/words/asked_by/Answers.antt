use Rattle.std.proofs.Common.{◌<◌, length, string_bytes, ◌∙◌, arith}
use Rattle.std.proofs.lemmas.Bool.Decides.{nat_tests}
use Rattle.spf_top.proofs.WordLists.{refused_first, refused_none}
use Rattle.spf_top.proofs.words.asked_by.Goals as goal

pub returns-then-is_empty-clause-refused : goal.returns-then-is_empty-clause-refused
returns-then-is_empty-clause-refused c = refused_none string_bytes c.args.words.now (grind (arith, nat_tests, c.is_empty.ensures, c.if-is_empty.true))

pub returns-in_default-clause-refused : goal.returns-in_default-clause-refused
returns-in_default-clause-refused c =
    let some : 0 < length c.args.words.now = grind (arith, nat_tests, c.is_empty.ensures, c.if-is_empty.false) in
    refused_first string_bytes c.args.words.now c.index-words-0.result some c.index-words-0.is (λ asked is. c.in_default.ensures.unknown asked (c.as_str.ensures.value ∙ is))
