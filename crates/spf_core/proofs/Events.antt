-- The tiles of a list of events that has one more.
use Rattle.std.proofs.Common.{◌≡◌, ℕ, Bool, true, false, ◌&&◌, ◌||◌, List, [], ◌∷◌, ◌++◌, refl, sym, ap, ◌∙◌, eqb}
use Rattle.spf_core.specs.History.{claimed_tiles, has_claimed, published_tiles}
use Rattle.spf_core.specs.declared.event.Event.{Event}
use Rattle.spf_core.specs.declared.event.Event.TheVariants.{Claim, Publish}

pub published-claim : (es : List Event) (w t : ℕ) → published_tiles (es ++ Claim w t ∷ []) ≡ published_tiles es
published-claim [] w t = refl
published-claim (Claim v s ∷ es) w t = published-claim es w t
published-claim (Publish v s ∷ es) w t = ap (λ l. s ∷ l) (published-claim es w t)

pub published-publish : (es : List Event) (w t : ℕ) → published_tiles (es ++ Publish w t ∷ []) ≡ published_tiles es ++ t ∷ []
published-publish [] w t = refl
published-publish (Claim v s ∷ es) w t = published-publish es w t
published-publish (Publish v s ∷ es) w t = ap (λ l. s ∷ l) (published-publish es w t)

pub claimed-claim : (es : List Event) (w t : ℕ) → claimed_tiles (es ++ Claim w t ∷ []) ≡ claimed_tiles es ++ t ∷ []
claimed-claim [] w t = refl
claimed-claim (Claim v s ∷ es) w t = ap (λ l. s ∷ l) (claimed-claim es w t)
claimed-claim (Publish v s ∷ es) w t = claimed-claim es w t

pub claimed-publish : (es : List Event) (w t : ℕ) → claimed_tiles (es ++ Publish w t ∷ []) ≡ claimed_tiles es
claimed-publish [] w t = refl
claimed-publish (Claim v s ∷ es) w t = ap (λ l. s ∷ l) (claimed-publish es w t)
claimed-publish (Publish v s ∷ es) w t = claimed-publish es w t

or_assoc : (a b c : Bool) → (a || (b || c)) ≡ ((a || b) || c)
or_assoc true b c = refl
or_assoc false b c = refl

pub or_false : (a : Bool) → a ≡ (a || false)
or_false true = refl
or_false false = refl

pub has_claimed-claim : (es : List Event) (w t v s : ℕ) → has_claimed (es ++ Claim w t ∷ []) v s ≡ (has_claimed es v s || ((eqb v w) && (eqb s t)))
has_claimed-claim [] w t v s = sym (or_false ((eqb v w) && (eqb s t)))
has_claimed-claim (Claim x y ∷ es) w t v s =
    ap (λ b. ((eqb v x) && (eqb s y)) || b) (has_claimed-claim es w t v s) ∙ or_assoc ((eqb v x) && (eqb s y)) (has_claimed es v s) ((eqb v w) && (eqb s t))
has_claimed-claim (Publish x y ∷ es) w t v s = has_claimed-claim es w t v s

pub has_claimed-publish : (es : List Event) (w t v s : ℕ) → has_claimed (es ++ Publish w t ∷ []) v s ≡ has_claimed es v s
has_claimed-publish [] w t v s = refl
has_claimed-publish (Claim x y ∷ es) w t v s = ap (λ b. ((eqb v x) && (eqb s y)) || b) (has_claimed-publish es w t v s)
has_claimed-publish (Publish x y ∷ es) w t v s = has_claimed-publish es w t v s
