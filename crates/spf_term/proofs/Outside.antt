-- A reader that goes on as it is at entries inside their tables, and stops at the first one outside.
use Rattle.std.proofs.Common.{◌≡◌, List, [], ◌∷◌, refl, sym, ◌∙◌, arith, subst}
use Rattle.std.specs.List.{All, Any, AllByRecursion, Contains}
use Rattle.std.proofs.lemmas.List.Elements.{All-from_recursion, Contains-append_right}
use Rattle.spf_term.specs.Environment.{Environment}
use Rattle.spf_term.specs.Value.{Entry, IsInside}
use Rattle.spf_term.specs.Walk.{Through, StopsAt}

module _ {S : Type 0} (env_of : S → Environment) where
  abbrev goes_on : S → Entry → S → Type 0
  goes_on before entry after = IsInside (env_of before) entry × (after ≡ before)

  each_inside : (entries : List Entry) (before after : S) → Through goes_on before entries after → AllByRecursion (IsInside (env_of before)) entries
  each_inside [] before after through = tt
  each_inside (entry ∷ entries) before after through =
      (through.1.0, subst (λ (state : S). AllByRecursion (IsInside (env_of state)) entries) through.1.1 (each_inside entries through.0 after through.2))

  pub all_inside : (entries : List Entry) (before after : S) → Through goes_on before entries after → All (IsInside (env_of before)) entries
  all_inside entries before after through = All-from_recursion (IsInside (env_of before)) entries (each_inside entries before after through)

  same_state : (entries : List Entry) (before after : S) → Through goes_on before entries after → after ≡ before
  same_state [] before after through = sym through
  same_state (entry ∷ entries) before after through = same_state entries through.0 after through.2 ∙ through.1.1

  pub any_outside : {R : Type 0} (entries : List Entry) (before : S) (stop : R) → StopsAt goes_on (λ state entry stop'. ¬ IsInside (env_of state) entry) before entries stop → Any (λ (entry : Entry). ¬ IsInside (env_of before) entry) entries
  any_outside entries before stop at =
      let here : Contains (at.event ∷ at.rest) at.event = (0, omega arith, refl) in
      let found = subst (λ (of : List Entry). Contains of at.event) (sym at.splits) (Contains-append_right at.accepted (at.event ∷ at.rest) at.event here) in
      (found.0, at.event, found.1, found.2, subst (λ (state : S). ¬ IsInside (env_of state) at.event) (same_state at.accepted before at.state at.through) at.refused)
