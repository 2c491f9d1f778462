use Rattle.std.proofs.Common.{refl}
use Rattle.fmp_tasklang.proofs.laws.examples_hold.Goals as goal

pub returns : goal.returns
returns c =
    record {
      and_stops_early = refl;
      and_goes_on = refl;
      or_stops_early = refl;
      or_goes_on = refl;
      least_negated = refl;
      least_divided = refl;
      least_reduced = refl;
      reduced_by_zero = refl;
      left_fault_first = refl;
      left_fault_first_too = refl;
      local_before_object = refl;
      number_of_object = refl;
      one_turn_is_few = refl;
      two_turns_are_enough = refl;
      continue_is_a_turn = refl;
      break_is_no_turn = refl;
      break_ends_one_loop = refl;
      fault_in_a_body = refl;
      call_of_a_service = refl;
      call_in_second_body = refl;
      reply_with_value = refl;
      reply_with_error = refl;
      element_is_stored = refl;
      index_too_great = refl;
      negative_index = refl;
      value_before_index_test = refl;
      index_before_value = refl;
      read_out_of_range = refl;
    }
