use Rattle.std.proofs.Common.{◌≡◌, ◌∙◌, ◌<◌, ◌^◌, ℕ, ℤ, List, None, FitsSigned, ap, length, map, slice_get, subst}
use Rattle.std.specs.Int.{w64}
use Rattle.std.specs.List.{AllByRecursion, position_or_len}
use Rattle.std.specs.Str.{bytes_eq}
use Rattle.spf_lex.specs.Tokens.{texts}
use Rattle.spf_input.specs.Given.{Given, given_at, numbers_of}
use Rattle.spf_input.specs.Rules.{given_names, large_number}
use Rattle.spf_input.specs.Tested.{listed, numbers_at}
use Rattle.spf_input.proofs.Fitting.{given_fit}
use Rattle.spf_input.proofs.Lookups.{numbers_found}
use Rattle.spf_input.proofs.lookup.Entries.numbers.Goals as goal
use Rattle.spf_input.proofs.lookup.Entries.numbers.Goals.{After-numbers_at}

found : (c : After-numbers_at) → listed c.numbers_at.result ≡ numbers_of c.args.self.now c.args.name.now
found c =
    let name = c.args.name.now in
    let given = map (given_at (texts c.self.inside.tokens.now)) c.self.inside.entries.now in
    let place : c.number.result ≡ position_or_len (bytes_eq name) (given_names given) = c.number.ensures.number ∙ ap (position_or_len (bytes_eq name)) c.self.invariant.0 in
    c.numbers_at.ensures.numbers ∙ (ap (λ (n : ℕ). numbers_at (slice_get given n)) place ∙ (numbers_found given name ∙ ap (λ (g : List Given). numbers_of g name) c.self.view_is))

pub returns-clause-numbers : goal.returns-clause-numbers
returns-clause-numbers c = found c

pub returns-clause-few : goal.returns-clause-few
returns-clause-few c = subst (λ (numbers : List ℤ). length numbers < 2 ^ 32) (found c) c.numbers_at.ensures.few

pub returns-clause-fit : goal.returns-clause-fit
returns-clause-fit c =
    subst (λ (given : List Given). large_number given ≡ None → AllByRecursion (FitsSigned w64) (numbers_of given c.args.name.now)) c.self.view_is
    (given_fit (texts c.self.inside.tokens.now) c.self.inside.entries.now c.args.name.now)
