-- How far a run has come: what is left makes of the cells what the whole makes of the first ones.
use Rattle.std.proofs.Common.{◌≡◌, ℕ, ℤ, Bool, refl, ap, sym, ◌∙◌}
use mathlib.Core.Path.{fun_ext}
use Rattle.spf_store.specs.Done.{IsDone}

module _ {C : Type 0} (own : C → ℕ → Bool) (value : C → ℕ → ℤ) (kept : C → C → Type 0) where
  pub record OnTheWay (before now : C) (whole rest : (ℕ → ℤ) → ℕ → ℤ) : Type 0 where
    pub owns : (e : ℕ) → own now e ≡ own before e
    pub keeps : kept before now
    pub left : rest (value now) ≡ whole (value before)

  pub set_out : ((cells : C) → kept cells cells) → (before : C) (whole : (ℕ → ℤ) → ℕ → ℤ) → OnTheWay before before whole whole
  set_out at_first before whole = record { owns = λ e. refl; keeps = at_first before; left = refl }

  pub went_on : ((first second last : C) → kept first second → kept second last → kept first last) → (before now after : C) (whole rest part others : (ℕ → ℤ) → ℕ → ℤ) →
      ((values : ℕ → ℤ) → rest values ≡ others (part values)) → OnTheWay before now whole rest → IsDone own value kept part now after → OnTheWay before after whole others
  went_on goes_on before now after whole rest part others splits way done = record {
    owns = λ e. done.owns e ∙ way.owns e;
    keeps = goes_on before now after way.keeps done.keeps;
    left = ap others (fun_ext done.values) ∙ sym (splits (value now)) ∙ way.left;
  }

  pub arrived : (before now : C) (whole rest : (ℕ → ℤ) → ℕ → ℤ) → ((values : ℕ → ℤ) → rest values ≡ values) → OnTheWay before now whole rest → IsDone own value kept whole before now
  arrived before now whole rest none way = record {
    owns = way.owns;
    keeps = way.keeps;
    values = λ e. ap (λ (made : ℕ → ℤ). made e) (sym (none (value now)) ∙ way.left);
  }
