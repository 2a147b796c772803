use Rattle.spf_store.proofs.Adjacent.{one_place}
use Rattle.spf_store.proofs.store.places_are_elements.Goals as goal

pub returns-clause-place : goal.returns-clause-place
returns-clause-place c arrays array place other_array other_place e adjacent first second = one_place arrays array place other_array other_place e adjacent first second
