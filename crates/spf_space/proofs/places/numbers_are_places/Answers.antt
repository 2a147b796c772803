use Rattle.spf_space.proofs.Placed.{down, one, up}
use Rattle.spf_space.proofs.places.numbers_are_places.Goals as goal

pub returns-clause-below : goal.returns-clause-below
returns-clause-below c steps loops tiles orders u v places ltu ltv = (down steps loops tiles orders places u v ltu ltv, up steps loops tiles orders places u v ltu ltv)

pub returns-clause-one : goal.returns-clause-one
returns-clause-one c steps loops tiles orders u v places = one steps loops tiles orders places u v
