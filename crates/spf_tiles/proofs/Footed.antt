-- One more list with its foot.
use Rattle.std.proofs.Common.{◌≡◌, ℕ, ◌+◌, ◌<◌, List, [], ◌∷◌, ◌++◌, length, get_or, inl, inr, arith}
use Rattle.std.proofs.lemmas.Bool.{cases_lt}
use Rattle.std.proofs.lemmas.List.{get_or-append-add, get_or_append_left}
use Rattle.spf_touch.specs.declared.touch.Touch.{Touch}
use Rattle.spf_tiles.specs.Feet.{IsFootOf}

pub foot_more : (touches : ℕ → List Touch) (lists : List (List ℕ)) (feet : List (List Touch)) (k : ℕ) (list : List ℕ) (foot : List Touch) → length feet ≡ k → get_or lists k [] ≡ list → IsFootOf touches list foot →
    ((t : ℕ) → t < k → IsFootOf touches (get_or lists t []) (get_or feet t [])) → (t : ℕ) → t < k + 1 → IsFootOf touches (get_or lists t []) (get_or (feet ++ foot ∷ []) t [])
foot_more touches lists feet k list foot len is new old t lt = elim (cases_lt t k) [
  | inl less ↦ let inside : t < length feet = omega arith in rw (get_or_append_left feet (foot ∷ []) [] t inside) (old t less)
  | inr last ↦
      let here : t ≡ length feet + 0 = omega arith in
      let same : t ≡ k = omega arith in
      let mine : get_or lists t [] ≡ list = rw same is in
      rw (mine, here, get_or-append-add feet (foot ∷ []) 0 []) new
]
