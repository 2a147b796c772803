use Rattle.spf_rel.proofs.Light.{SizeLaws, bounded_within, composed_light, packed_light}
use Rattle.spf_rel.proofs.graphs.compositions_stay_light.Goals as goal

pub returns-clause-composed : goal.returns-clause-composed
returns-clause-composed c start iteration inner term h k within =
    let laws : SizeLaws = record {
      normal_count = c.normal_forms_are_no_larger.ensures.count;
      normal_size = c.normal_forms_are_no_larger.ensures.size;
      normal_factor = c.normal_forms_are_no_larger.ensures.factor;
      put_count = c.substitutions_are_bounded.ensures.count;
      put_size = c.substitutions_are_bounded.ensures.size;
      put_factor = c.substitutions_are_bounded.ensures.factor;
      counted = c.numbers_are_within_the_size.ensures.count;
      bounded_size = c.numbers_are_within_the_size.ensures.size;
      bounded_factor = c.numbers_are_within_the_size.ensures.factor;
    } in
    composed_light laws start iteration inner term h k within

pub returns-clause-packed : goal.returns-clause-packed
returns-clause-packed c start place packed h k =
    let laws : SizeLaws = record {
      normal_count = c.normal_forms_are_no_larger.ensures.count;
      normal_size = c.normal_forms_are_no_larger.ensures.size;
      normal_factor = c.normal_forms_are_no_larger.ensures.factor;
      put_count = c.substitutions_are_bounded.ensures.count;
      put_size = c.substitutions_are_bounded.ensures.size;
      put_factor = c.substitutions_are_bounded.ensures.factor;
      counted = c.numbers_are_within_the_size.ensures.count;
      bounded_size = c.numbers_are_within_the_size.ensures.size;
      bounded_factor = c.numbers_are_within_the_size.ensures.factor;
    } in
    packed_light laws start place packed h k

pub returns-clause-bounded : goal.returns-clause-bounded
returns-clause-bounded c term bounded =
    let laws : SizeLaws = record {
      normal_count = c.normal_forms_are_no_larger.ensures.count;
      normal_size = c.normal_forms_are_no_larger.ensures.size;
      normal_factor = c.normal_forms_are_no_larger.ensures.factor;
      put_count = c.substitutions_are_bounded.ensures.count;
      put_size = c.substitutions_are_bounded.ensures.size;
      put_factor = c.substitutions_are_bounded.ensures.factor;
      counted = c.numbers_are_within_the_size.ensures.count;
      bounded_size = c.numbers_are_within_the_size.ensures.size;
      bounded_factor = c.numbers_are_within_the_size.ensures.factor;
    } in
    bounded_within laws term bounded
