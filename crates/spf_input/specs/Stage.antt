-- Stages: what is answered for what is given, a value or a refusal.
use Rattle.std.specs.Prelude.{◌≡◌, ◌⊎◌, Result, Ok, Err}

-- a stage that is given an A and answers a B, or refuses with an R
abbrev pub Stage : Type 0 → Type 0 → Type 0 → Type 1
Stage R A B = A → Result B R → Type 0

-- one stage and then another, which is given what the first one answered; the first refusal is the refusal
infixr 10 ◌then◌
abbrev pub ◌then◌ : {R A B C : Type 0} → (A → Result B R → Type 0) → (B → Result C R → Type 0) → A → Result C R → Type 0
◌then◌ {B = B} p q a (Ok c) = (b : B) × p a (Ok b) × q b (Ok c)
◌then◌ {B = B} p q a (Err refusal) = p a (Err refusal) ⊎ ((b : B) × p a (Ok b) × q b (Err refusal))

-- a stage that answers what it was given too
abbrev pub with_given : {R A B : Type 0} → (A → Result B R → Type 0) → A → Result (A × B) R → Type 0
with_given p a (Ok (same, b)) = (same ≡ a) × p a (Ok b)
with_given p a (Err refusal) = p a (Err refusal)

-- where the stage answers a value, nothing else is answered but this refusal, which is free
abbrev pub OneAnswer : {R A B : Type 0} → R → (A → Result B R → Type 0) → Type 0
OneAnswer {R} {A} {B} free p = (a : A) (b : B) (result : Result B R) → p a (Ok b) → p a result → (result ≡ Ok b) ⊎ (result ≡ Err free)
