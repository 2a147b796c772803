-- What may come after an event might come before it.
use Rattle.std.proofs.Common.{◌≡◌, ℕ, Bool, List, ◌∙◌}
use Rattle.spf_store.specs.Event.{Event, Turn, Bound, Read, Access, Store}
use Rattle.spf_store.specs.Needs.{Allows}

pub allows_still : (starts : List ℕ) (owns others : ℕ → Bool) → ((e : ℕ) → others e ≡ owns e) → (event : Event) → Allows starts owns event → Allows starts others event
allows_still starts owns others same Turn allows = allows
allows_still starts owns others same (Bound site value) allows = allows
allows_still starts owns others same (Read entry) allows = allows
allows_still starts owns others same (Access site class array place) allows = record { placed = allows.placed; own = same _ ∙ allows.own }
allows_still starts owns others same (Store assign variables) allows = allows
