use Rattle.std.proofs.Common.{◌+◌, ap, arith}
use Rattle.std.proofs.lemmas.Option.{get_or_from_slice_get, slice_get_within}
use Rattle.spf_space.specs.declared.shape.ArrayShape.{ArrayShape}
use Rattle.spf_store.proofs.Adjacent.{element_fits}
use Rattle.spf_store.proofs.store.element_in.Goals as goal

pub bounds-arrays-array : goal.bounds-arrays-array
bounds-arrays-array c = slice_get_within _ _ _ c.requires.there.there

pub bounds-arrays-array-2 : goal.bounds-arrays-array-2
bounds-arrays-array-2 c = slice_get_within _ _ _ c.requires.there.there

pub overflow_add-result : goal.overflow_add-result
overflow_add-result c =
    let fits = element_fits _ _ _ c.requires.adjacent c.requires.few c.requires.there c.index-arrays-array.result in
    omega (arith, fits)

pub returns : goal.returns
returns c =
    let shape = get_or_from_slice_get c.args.arrays.now c.args.array c.requires.there.shape c.index-arrays-array.result c.requires.there.there in
    record {
      shape = c.requires.there.shape;
      there = c.requires.there.there;
      inside = c.requires.there.inside;
      lies = ap (λ (each : ArrayShape). each.start + c.args.place) shape;
    }
