-- Names that grow keep what they had.
use Rattle.std.proofs.Common.{ℕ, Result, Ok, Err, OnErr, subst, Bool, true, false, if◌then◌else◌, List, [], ◌∷◌, ◌++◌, length, take, ◌≡◌, refl, ap, ◌∙◌, sym, append-nil, append_assoc}
use Rattle.std.proofs.Math.Seq.{take-append_seam}
use Rattle.std.specs.List.{list_any}
use Rattle.std.specs.Str.{bytes_eq}
use Rattle.spf_reltext.specs.Facts.{constraints_facts}
use Rattle.spf_reltext.specs.Names.{Extends, GoesOn, fact_names, inserted, literal_names, names_of, noted, with_param}
use Rattle.spf_reltext.specs.Rules.{variables}
use Rattle.spf_reltext.specs.declared.fact.Fact.{Fact}
use Rattle.spf_reltext.specs.declared.fact.Role.{Role}
use Rattle.spf_reltext.specs.declared.names.RelNames.{RelNames}
use Rattle.spf_reltext.specs.declared.raw.RawLiteral.{RawLiteral}

stays : (names : List (List ℕ)) → GoesOn names names
stays names = ([], sym (append-nil names))

goes_on : (a b c : List (List ℕ)) → GoesOn a b → GoesOn b c → GoesOn a c
goes_on a b c first second = (first.0 ++ second.0, second.1 ∙ ap (λ (names : List (List ℕ)). names ++ second.0) first.1 ∙ append_assoc a first.0 second.0)

inserted_goes_on : (names : List (List ℕ)) (name : List ℕ) → GoesOn names (inserted names name)
inserted_goes_on names name = by (list_any (bytes_eq name) names) where
  by : (b : Bool) → GoesOn names (if b then names else names ++ name ∷ [])
  by true = stays names
  by false = (name ∷ [], refl)

pub same : (names : RelNames) → Extends names names
same names = record { params = stays names.params; funs = stays names.funs }

pub behind : (a b c : RelNames) → Extends a b → Extends b c → Extends a c
behind a b c first second = record { params = goes_on a.params b.params c.params first.params second.params; funs = goes_on a.funs b.funs c.funs first.funs second.funs }

role_extends : (variables : List (List ℕ)) (names : RelNames) (role : Role) → Extends names (noted variables names role)
role_extends variables names Role.Alone = same names
role_extends variables names (Role.Plain name) = by (list_any (bytes_eq name) variables) where
  by : (b : Bool) → Extends names (if b then names else with_param names name)
  by true = same names
  by false = record { params = inserted_goes_on names.params name; funs = stays names.funs }
role_extends variables names (Role.Entry name) = record { params = stays names.params; funs = inserted_goes_on names.funs name }

pub facts_extend : (variables : List (List ℕ)) (names : RelNames) (facts : List Fact) → Extends names (fact_names variables names facts)
facts_extend variables names [] = same names
facts_extend variables names (fact ∷ facts) =
    behind names (noted variables names fact.role) (fact_names variables (noted variables names fact.role) facts) (role_extends variables names fact.role) (facts_extend variables (noted variables names fact.role) facts)

pub names_extend : (names : RelNames) (literals : List RawLiteral) → Extends names (names_of names literals)
names_extend names [] = same names
names_extend names (literal ∷ literals) =
    behind names (literal_names names literal) (names_of (literal_names names literal) literals) (facts_extend (variables literal) names (constraints_facts literal.constraints)) (names_extend (literal_names names literal) literals)

-- what goes on behind the names begins with them
pub kept : (old new : List (List ℕ)) → GoesOn old new → take (length old) new ≡ old
kept old new more = ap (take (length old)) more.1 ∙ take-append_seam old more.0

-- the names of literals begin with those that there were, whatever comes after
pub extends_on_err : {A E : Type 0} (result : Result A E) (old : RelNames) (literals : List RawLiteral) (new : RelNames) → new ≡ names_of old literals → OnErr result (Extends old new)
extends_on_err (Ok found) old literals new same = tt
extends_on_err (Err fault) old literals new same = subst (Extends old) (sym same) (names_extend old literals)

pub truncated : (old new cut : RelNames) → Extends old new → cut.params ≡ take (length old.params) new.params → cut.funs ≡ take (length old.funs) new.funs → cut ≡ old
truncated old new cut more params funs = λ i. record { params = (params ∙ kept old.params new.params more.params) i; funs = (funs ∙ kept old.funs new.funs more.funs) i }
