-- What is known of a bundle that was read.
use Rattle.std.specs.Prelude.{◌≡◌}
use Rattle.spf_input.specs.declared.reading.Bundle.{Bundle}
use Rattle.spf_store.specs.Accepted.{IsAccepted}
use Rattle.spf_store.specs.Shaped.{data_of, size}

-- the numbers are those that the kernel may be given, the arrays are its own, and so is the number of steps
pub record IsKept (bundle : Bundle) : Type 0 where
  pub accepted : IsAccepted bundle.env bundle.kernel
  pub arrays : bundle.store.arrays ≡ data_of bundle.env bundle.kernel
  pub steps : bundle.steps ≡ size bundle.env bundle.kernel.steps
