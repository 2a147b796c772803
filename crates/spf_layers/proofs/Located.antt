-- Where a group of an element lies among all groups, and its units among all units.
use Rattle.std.proofs.Common.{◌≡◌, ℕ, ◌+◌, ◌-◌, ◌<◌, ◌≤◌, List, [], length, get_or, drop, sym, ap, ◌∙◌, arith}
use Rattle.std.proofs.lemmas.List.{get_or-drop, get_or-take, length-drop, length-take-le}
use Rattle.std.specs.List.{slice_range}
use Rattle.spf_touch.specs.Lists.{start_of}
use Rattle.spf_touch.specs.declared.class.Class.{Class}
use Rattle.spf_touch.specs.declared.class.Class.TheVariants.{Read}
use Rattle.spf_layers.specs.Flat.{AreLaid, groups_in, parts}
use Rattle.spf_layers.specs.Groups.{Group, element_groups, group_at}
use Rattle.spf_layers.specs.declared.rows.Rows.{Rows}
use Rattle.spf_layers.proofs.Flat.{length_groups}
use Rattle.spf_layers.proofs.Parts.{grouped_at, length-parts, part_at, part_within}

module _ (rows : Rows) (ends : List ℕ) (laid : AreLaid rows ends) where
  abbrev layers : List (List Group)
  layers = parts (groups_in rows) 0 ends

  pub elements_are : length layers ≡ length ends
  elements_are = length-parts (groups_in rows) 0 ends

  groups_are : length (groups_in rows) ≡ length rows.ends.items
  groups_are = length_groups rows.units.items rows.ends.items rows.classes.items laid.groups.classes ∙ laid.groups.classes

  -- where the groups of an element begin and end
  pub element_within : (e d : ℕ) → e < length layers → (start_of 0 ends e ≤ get_or ends e d) × (get_or ends e d ≤ length rows.ends.items)
  element_within e d lt = part_within (length rows.ends.items) 0 ends e d laid.elements (omega (arith, elements_are))

  element_is : (e d : ℕ) → e < length layers → element_groups layers e ≡ slice_range (groups_in rows) (start_of 0 ends e) (get_or ends e d)
  element_is e d lt = part_at (groups_in rows) 0 ends e d [] (omega (arith, elements_are))

  pub element_length : (e d : ℕ) → e < length layers → length (element_groups layers e) ≡ get_or ends e d - start_of 0 ends e
  element_length e d lt =
      let at = element_within e d lt in
      ap length (element_is e d lt) ∙ length-take-le (get_or ends e d - start_of 0 ends e) (drop (start_of 0 ends e) (groups_in rows)) (omega (arith, at.0, at.1, groups_are, length-drop (start_of 0 ends e) (groups_in rows)))

  pub group_within : (e n : ℕ) → e < length layers → n < length (element_groups layers e) → start_of 0 ends e + n < length rows.ends.items
  group_within e n lt lt' = let at = element_within e 0 lt in omega (arith, at.0, at.1, element_length e 0 lt)

  -- the group of an element is that of all groups
  pub group_is : (e n : ℕ) (c : Class) (d : ℕ) → e < length layers → n < length (element_groups layers e) →
      group_at (element_groups layers e) n ≡ record {
        class = get_or rows.classes.items (start_of 0 ends e + n) c;
        units = slice_range rows.units.items (start_of 0 rows.ends.items (start_of 0 ends e + n)) (get_or rows.ends.items (start_of 0 ends e + n) d);
      }
  group_is e n c d lt lt' =
      let k = start_of 0 ends e + n in
      let none : Group = record { class = Read; units = [] } in
      let within = group_within e n lt lt' in
      let short : n < get_or ends e 0 - start_of 0 ends e = omega (arith, element_length e 0 lt) in
      let same = laid.groups.classes ∙ sym (length-parts rows.units.items 0 rows.ends.items) in
      let units = part_at rows.units.items 0 rows.ends.items k d [] within in
      ap (λ gs. group_at gs n) (element_is e 0 lt) ∙
      get_or-take (get_or ends e 0 - start_of 0 ends e) (drop (start_of 0 ends e) (groups_in rows)) n none short ∙
      get_or-drop (start_of 0 ends e) (groups_in rows) n none ∙
      grouped_at rows.classes.items (parts rows.units.items 0 rows.ends.items) k c same (omega (arith, within, laid.groups.classes)) ∙
      ap (λ us. record { class = get_or rows.classes.items k c; units = us }) units

  -- where the units of a group begin and end
  pub units_within : (k d : ℕ) → k < length rows.ends.items → (start_of 0 rows.ends.items k ≤ get_or rows.ends.items k d) × (get_or rows.ends.items k d ≤ length rows.units.items)
  units_within k d lt = part_within (length rows.units.items) 0 rows.ends.items k d laid.groups.ends lt

  -- the same where the layers are seen as a value, and the element's first group has been found
  module _ (now : List (List Group)) (view : layers ≡ now) (e n first : ℕ) (begins : first ≡ start_of 0 ends e) (element : e < length now) (group : n < length (element_groups now e)) where
    pub number_there : first + n < length rows.ends.items
    number_there = omega (arith, begins, group_within e n (rw view element) (rw view group))

    pub class_there : (c : Class) → get_or rows.classes.items (first + n) c ≡ (group_at (element_groups now e) n).class
    class_there c = rw begins (ap (λ (g : Group). g.class) (sym (group_is e n c 0 (rw view element) (rw view group))) ∙ ap (λ ls. (group_at (element_groups ls e) n).class) view)

    pub units_there : slice_range rows.units.items (start_of 0 rows.ends.items (first + n)) (get_or rows.ends.items (first + n) 0) ≡ (group_at (element_groups now e) n).units
    units_there = rw begins (ap (λ (g : Group). g.units) (sym (group_is e n Read 0 (rw view element) (rw view group))) ∙ ap (λ ls. (group_at (element_groups ls e) n).units) view)
