-- A job as contracts see it.
use Rattle.spf_core.specs.Tiling.{Tiling}

-- the units of a job, and its tiles
pub record Parts (U : Type 0) : Type 0 where
  pub units : U
  pub tiling : Tiling
