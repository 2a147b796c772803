-- Trees whose parts have a property: each index expression, each factor other than a value in parentheses, and the number
-- of each array that is assigned to.
use Rattle.std.specs.Prelude.{ℕ, All, ⊤}
use Rattle.spf_kernel.specs.Types.{Term, Value, Value', Row_of-Prod, end_of-Prod, more_of-Prod, Row_of-Factor, end_of-Factor, more_of-Factor, Factor, Assign, Cond, Guard, Part, Item, Loop, DataDecl, Decl}

pub record Property : Type 1 where
  pub ix : Term → Type 0
  pub leaf : Factor → Type 0
  pub array : ℕ → Type 0

module _ (p : Property) where
  abbrev mutual
    pub KeepsValue : Value → Type 0
    KeepsValue (Value' shape prods) = KeepProds prods

    pub KeepProds : {n : _} → Row_of-Prod n → Type 0
    KeepProds end_of-Prod = ⊤
    KeepProds (more_of-Prod minus shape facts others) = KeepFactors facts × KeepProds others

    pub KeepFactors : {n : _} → Row_of-Factor n → Type 0
    KeepFactors end_of-Factor = ⊤
    KeepFactors (more_of-Factor fact others) = KeepsFactor fact × KeepFactors others

    pub KeepsFactor : Factor → Type 0
    KeepsFactor (Factor.Paren value) = KeepsValue value
    KeepsFactor fact = p.leaf fact

  pub record KeepsAssign (assign : Assign) : Type 0 where
    pub array : p.array assign.array
    pub sub : p.ix assign.sub
    pub value : KeepsValue assign.value

  pub record KeepsCond (cond : Cond) : Type 0 where
    pub left : p.ix cond.left
    pub right : p.ix cond.right

  pub record KeepsGuard (guard : Guard) : Type 0 where
    pub conds : All KeepsCond guard.conds
    pub body : All KeepsAssign guard.body

  abbrev pub KeepsPart : Part → Type 0
  KeepsPart (Part.Assign assign) = KeepsAssign assign
  KeepsPart (Part.Branch guard) = KeepsGuard guard

-- of loops and declarations, given the property where so many variables are in scope: in the body of a loop its variable is,
-- and between the braces of a `for` that of the `for` is too
module _ (p : ℕ → Property) where
  abbrev pub KeepsItem : Item → Type 0
  KeepsItem (Item.Assign assign) = KeepsAssign (p 1) assign
  KeepsItem (Item.Branch guard) = KeepsGuard (p 1) guard
  KeepsItem (Item.Inner var low high parts) = (p 1).ix low × (p 1).ix high × All (KeepsPart (p 2)) parts

  pub record KeepsLoop (loop : Loop) : Type 0 where
    pub low : (p 0).ix loop.low
    pub high : (p 0).ix loop.high
    pub items : All KeepsItem loop.items

  abbrev pub KeepsDecl : Decl → Type 0
  KeepsDecl (Decl.Params names) = ⊤
  KeepsDecl (Decl.Index name size low high trend) = (p 0).ix size × (p 0).ix low × (p 0).ix high
  KeepsDecl (Decl.Values arrays) = All (λ (array : DataDecl). (p 0).ix array.size) arrays
