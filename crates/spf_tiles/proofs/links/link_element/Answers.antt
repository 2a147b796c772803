use Rattle.std.proofs.Common.{refl, arith}
use Rattle.spf_tiles.proofs.Adding.{kept}
use Rattle.spf_tiles.proofs.TileSets.{none_has}
use Rattle.spf_tiles.proofs.links.link_element.Goals as goal

pub loop-n-init : goal.loop-n-init
loop-n-init c = record {
  size = refl;
  last = λ a low. (λ h. absurd (none_has 16 a 0 h), λ h. let no = h.1 in absurd (omega arith));
  added = λ a d low. kept _ _ (λ h. let no = h.1 in absurd (omega arith));
}
