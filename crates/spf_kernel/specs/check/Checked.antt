-- What the rules say of the notes of a kernel.
use Rattle.std.specs.Prelude.{ℕ, ◌≡◌, ◌+◌, ◌≤◌, Bool, if◌then◌else◌, List, [], ◌∷◌, Option, None, Some, Result, Ok, Err}
use Rattle.spf_kernel.specs.Types.{Note}
use Rattle.spf_kernel.specs.declared.check.rules.Breach.{Breach}
use Rattle.spf_kernel.specs.Facts.{Fact, facts_of}
use Rattle.spf_kernel.specs.Names.{Names, names_of}
use Rattle.spf_kernel.specs.Rules.{rules, IsFirstBreach, IsUnbroken}

-- a breach stands at a place no later than another, and at the same place it is of no later rule
abbrev pub Leads : Breach → Breach → Type 0
Leads a b = (a.place ≤ b.place) × (a.place ≡ b.place → a.rule ≤ b.rule)

-- the number of the first of these rules that the fact breaks, behind those before, where they have the numbers from `n` on
abbrev pub first_broken : ℕ → List (List Fact → Fact → Bool) → List Fact → Fact → Option ℕ
first_broken n [] before fact = None
first_broken n (rule ∷ rules) before fact = if rule before fact then Some n else first_broken (n + 1) rules before fact

-- the least rule that the fact breaks, behind those before
unfoldable pub least_rule : List Fact → Fact → Option ℕ
least_rule before fact = first_broken 1 rules before fact

module _ (texts : List (List ℕ)) where
  -- the first breach of the notes, or that there is none
  abbrev pub IsFirst : List Note → Option Breach → Type 0
  IsFirst notes None = IsUnbroken texts notes
  IsFirst notes (Some breach) = IsFirstBreach texts notes breach.place breach.rule

  -- the notes keep the rules, and these are the names; or this is the first breach
  abbrev pub Checked : List Note → Result Names Breach → Type 0
  Checked notes (Ok names) = IsUnbroken texts notes × (names ≡ names_of (facts_of texts notes))
  Checked notes (Err breach) = IsFirstBreach texts notes breach.place breach.rule
