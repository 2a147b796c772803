-- What the units of each tile touch together.
use Rattle.std.specs.Prelude.{◌≡◌, ℕ, ◌<◌, List, [], length, slice_index_or}
use Rattle.std.specs.List.{AllPairs}
use Rattle.spf_touch.specs.Copy.{class_of}
use Rattle.spf_touch.specs.Frame.{class_at}
use Rattle.spf_touch.specs.declared.touch.Touch.{Touch}

-- the foot has the elements that these units touch in ascending order, each once, with the class in which they do together
pub record IsFootOf (touches : ℕ → List Touch) (list : List ℕ) (foot : List Touch) : Type 0 where
  pub rising : AllPairs (λ (a b : Touch). a.element < b.element) foot
  pub classes : (e : ℕ) → class_at foot e ≡ class_of touches list e

-- each list has its foot
pub record AreFeet (touches : ℕ → List Touch) (lists : List (List ℕ)) (feet : List (List Touch)) : Type 0 where
  pub each_list : length feet ≡ length lists
  pub feet_of : (t : ℕ) → t < length lists → IsFootOf touches (slice_index_or lists t []) (slice_index_or feet t [])
