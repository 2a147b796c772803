-- From what contracts see of a pass and of its turn to the seat and the table.
use Rattle.std.proofs.Common.{◌≡◌, ℕ, false, List, [], ◌∷◌, ◌++◌, Option, Some, sym, ap, ◌∙◌}
use mathlib.Core.Option.{none}
use Rattle.atomic_table.specs.Seated.{TableId}
use Rattle.atomic_table.specs.Table.{Me, step, rest}
use Rattle.spf_turn.specs.Passes.{PassState, TurnState, IsPassOf}
use Rattle.spf_turn.specs.Steps.{Added, Gave}
use Rattle.spf_turn.specs.declared.view.View.{View}

pub same_table : {K E : Type 0} {seat board : TableId} {pass : PassState K E} {turn : TurnState K} → seat ≡ pass.table → board ≡ turn.table → IsPassOf turn pass → seat ≡ board
same_table p t of = p ∙ (of.table ∙ sym t)

-- the slot that was taken last is in front
pub in_front : {T : Type 0} {slots before : List (ℕ × T)} {x : T} → slots ≡ (0, x) ∷ before → slots ≡ (0, x) ∷ rest slots
in_front {x = x} e = e ∙ ap (λ z. (0, x) ∷ rest z) (sym e)

module _ {T K E : Type 0} where
  -- the seat after an entry was added, and after the turn was then put back
  pub added_is : (tale_of : T → List E) (laid me : Me (Option T) (View K E)) (v : View K E) (x : T) (e : E) → Added tale_of (step 0 0 0 0 none) laid 0 me
      → laid ≡ (v, (0, Some x) ∷ []) → tale_of x ≡ v.seen ++ e ∷ [] → me ≡ (record v { seen = tale_of x; own = v.own ++ e ∷ [] }, (0, Some x) ∷ [])
  added_is tale_of laid me v x e told is tale =
      let h = told x e (ap (λ m. m.1) is) (tale ∙ ap (λ m. m.0.seen ++ e ∷ []) (sym is)) in
      λ i. ((h.0 ∙ ap (λ m. record m.0 { seen = tale_of x; own = m.0.own ++ e ∷ [] }) is) i, (h.1 ∙ ap (λ m. m.1) is) i)

  pub gave_is : (before me : Me (Option T) (View K E)) (v : View K E) (x : T) → Gave (step 0 0 0 0 none) before 0 me → before ≡ (v, (0, Some x) ∷ []) → me ≡ (record v { holds = false }, [])
  gave_is before me v x gave is = λ i. ((gave.0 ∙ ap (λ m. record m.0 { holds = false }) is) i, (gave.1 ∙ ap (λ m. rest m.1) is) i)
