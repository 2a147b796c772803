use Rattle.std.proofs.Common.{◌≡◌, ℕ, ℤ, pos, List, [], ◌∷◌, ◌∙◌, refl}
use Rattle.spf_touch.specs.Ops.{op_behavior}
use Rattle.spf_touch.specs.declared.class.Class.TheVariants.{Add, Read, Write}
use Rattle.spf_touch.specs.declared.op.Op.{Op}
use Rattle.spf_touch.specs.declared.op.Op.TheVariants.{Gain, Put}
use Rattle.spf_touch.specs.declared.touch.Touch.{Touch}
use Rattle.spf_core.specs.SoundJob.{IsSound}
use Rattle.spf_core.specs.Tiling.{Tiling}
use Rattle.spf_loop_tests.proofs.SoundJobs.{sound_from}
use Rattle.spf_loop_tests.proofs.tiles.three_units.Goals as goal

abbrev put_and_gains : List (List Op)
put_and_gains = (Put 1 0 (pos 5) ∷ []) ∷ (Gain 2 1 ∷ []) ∷ (Gain 2 0 ∷ []) ∷ []

abbrev job : Tiling
job = record {
  lists = (0 ∷ []) ∷ (1 ∷ []) ∷ (2 ∷ []) ∷ [];
  order = [] ∷ (0 ∷ []) ∷ [] ∷ [];
  feet = (record { element = 0; class = Read } ∷ record { element = 1; class = Write } ∷ []) ∷
      (record { element = 1; class = Read } ∷ record { element = 2; class = Add } ∷ []) ∷
      (record { element = 0; class = Read } ∷ record { element = 2; class = Add } ∷ []) ∷ [];
  cells = pos 3 ∷ pos 4 ∷ pos 10 ∷ [];
}

job_sound : IsSound (op_behavior put_and_gains) job
job_sound = sound_from (op_behavior put_and_gains) job (λ u. u) refl refl refl refl refl refl

sound : (us : List (List Op)) (lists order : List (List ℕ)) (feet : List (List Touch)) (cells : List ℤ) → us ≡ put_and_gains → lists ≡ job.lists → order ≡ job.order → feet ≡ job.feet → cells ≡ job.cells →
    IsSound (op_behavior us) (record { lists = lists; order = order; feet = feet; cells = cells })
sound us lists order feet cells a b c d e = rw (a, b, c, d, e) job_sound

pub make-requires : goal.make-requires
make-requires c =
    sound _ _ _ _ _ (c.in_ok-units.ensures ∙ c.in_ok-lists.ensures) c.in_ok-tiles.ensures (c.of_lists.ensures ∙ c.in_ok-before.ensures) c.in_ok-feet.ensures c.in_ok-cells.ensures.items
