-- Lists and an order that are sound for units are so for others of which no more conflict.
use Rattle.std.proofs.Common.{◌≡◌, ℕ, ◌<◌, true, List, length}
use Rattle.spf_touch.specs.Conflict.{Conflict}
use Rattle.spf_touch.specs.Frame.{Behavior}
use Rattle.spf_touch.specs.Ordered.{IsLegalOrder, is_in}
use Rattle.spf_core.specs.SoundJob.{IsFoot, IsSound}
use Rattle.spf_core.specs.Tiling.{Tiling, list_of}
use Rattle.spf_core.proofs.Tiles.{units_below}
use Rattle.spf_core.proofs.Unordered.{tile_of_unit}

module _ (units mine : Behavior) (job moved : Tiling) (sound : IsSound units job) (count : mine.count ≡ units.count) where
  listed_below : (t u : ℕ) → is_in (list_of job t) u ≡ true → u < mine.count
  listed_below t u h = rw count (units_below units job sound t (tile_of_unit units job sound t u h) u h)

  pub sound_moved : ((us : List ℕ) → IsLegalOrder units us → IsLegalOrder mine us) →
      ((u v : ℕ) → u < mine.count → v < mine.count → Conflict (mine.touches u) (mine.touches v) → Conflict (units.touches u) (units.touches v)) →
      moved.lists ≡ job.lists → moved.order ≡ job.order → length moved.feet ≡ length job.lists → ((t : ℕ) → t < length job.lists → IsFoot mine moved t) → IsSound mine moved
  sound_moved legal clash lists order footings feet = record {
    tiles = rw lists sound.tiles;
    orders = rw (lists, order) sound.orders;
    footings = rw lists footings;
    somewhere = λ u inside. rw lists (sound.somewhere u (rw count at inside));
    nowhere_else = λ s t u first second. sound.nowhere_else s t u (rw lists at first) (rw lists at second);
    legal = λ t inside. rw lists (legal (list_of job t) (sound.legal t (rw lists at inside)));
    ordered = λ s t u v first second apart clashes below.
        let here : is_in (list_of job s) u ≡ true = rw lists at first in
        let there : is_in (list_of job t) v ≡ true = rw lists at second in
        rw order (sound.ordered s t u v here there apart (clash u v (listed_below s u here) (listed_below t v there) clashes) below);
    transitive = λ a b c first second. rw order (sound.transitive a b c (rw order at first) (rw order at second));
    upward = λ a b before. sound.upward a b (rw order at before);
    feet = λ t inside. feet t (rw lists at inside);
  }
