-- What stands in a list of one unit, and in groups.
use Rattle.std.proofs.Common.{◌≡◌, ℕ, zero, suc, ◌<◌, true, List, [], ◌∷◌, length, get_or, sym, ap, ◌∙◌, arith}
use Rattle.spf_touch.specs.Ordered.{is_in}
use Rattle.spf_touch.proofs.Members.{place_in}
use Rattle.spf_layers.specs.Fits.{StandsIn}
use Rattle.spf_layers.specs.Groups.{Group}

pub one_unit : (us : List ℕ) (u v : ℕ) → length us ≡ 1 → is_in us u ≡ true → is_in us v ≡ true → u ≡ v
one_unit us u v one h k =
    let p = place_in us u h in
    let q = place_in us v k in
    let same : p.0 ≡ q.0 = omega (arith, p.1, q.1) in
    sym (p.2 0) ∙ ap (λ n. get_or us n 0) same ∙ q.2 0

pub stands_within : (gs : List Group) (n u : ℕ) → StandsIn gs n u → n < length gs
stands_within [] n u h = cc
stands_within (g ∷ gs) zero u h = omega arith
stands_within (g ∷ gs) (suc n) u h = omega (arith, stands_within gs n u h)
