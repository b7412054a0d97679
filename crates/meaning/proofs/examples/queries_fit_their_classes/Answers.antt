use Rattle.std.proofs.Common.{refl}
use Rattle.meaning.proofs.examples.queries_fit_their_classes.Goals as goal

pub returns : goal.returns
returns c = record {
  of_a_point = refl;
  of_a_number = refl;
  of_a_text = refl;
  with_another_bound = refl;
  no_such_attribute = refl;
  of_another_class = refl;
  no_such_variable = refl;
  slope_of_a_point = refl;
  slope_of_a_number = refl;
  text_with_a_sign = refl;
  text_in_a_sum = refl;
  nothing_is_bound = refl;
  text_is_bound = refl;
  text_is_not_below = refl;
  text_is_no_number = refl;
  bound_for_its_part_alone = refl;
  point_inside = refl;
  no_such_region = refl;
  no_point_inside = refl;
  distance_of_a_point_to_itself = refl;
  distance_to_no_point = refl;
  circle_of_no_point = refl;
}
