use Rattle.std.proofs.Common.{◌≡◌, length, map, take}
use Rattle.spf_space.specs.declared.shape.ArrayShape.{ArrayShape}
use Rattle.spf_source.proofs.source.starts_of.Given as goal

abbrev pub invariant-loop-number : goal.invariant-loop-number
invariant-loop-number l = record {
  filled : take l.number l.starts ≡ map (λ (array : ArrayShape). array.start) (take l.number l.arrays);
  room : length l.starts ≡ 64;
}
