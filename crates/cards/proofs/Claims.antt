-- The bench cards hold.
use mathlib.Core.Path.{◌≡◌, refl}
use mathlib.Core.Bool.{true}
use Rattle.device.specs.Parts.{row_of, is_large, shape_of, size_in, length_in, offset_in, holder_in, mirrored, start_in, block_in, unknown_part, unknown_device, size_of, length_of, start_of, block_of}
use Rattle.model_levels.specs.Levels.{vpp_low, at_twelve, at_five, vpp_high, bad_wp, most_oe, bad_pins, bad_levels, unlocked, locked}
use Rattle.model_types.specs.Cells.{ones}
use Rattle.model_states.specs.States.{proper, improper}
use Rattle.model_commands.specs.Commands.{command_of, asks_program, first_write, after_erase, while_erasing, while_suspending, while_suspended}
use Rattle.model_actions.specs.Performed.{data_of, unsupplied, started_of}
use Rattle.model_operation.specs.Settling.{cut_by, counted_off, suspend_passed, passed_of, settle_of}
use Rattle.model_judge.specs.Judging.{past_array, short_residue}
use Rattle.model_rules.specs.Cycles.{no_command, suspended_read, no_identifier, number_of, accept_of, decide_of}
use Rattle.model.specs.Arrays.{erased, residual, array_after, answer_of}
use Rattle.file_check.specs.Check.{check_of}
use Rattle.cards.specs.Table.{card1, card3, card4, card5, card6, card8, card9, card12, Cards}
use Rattle.cards.proofs.Busy.{two}
use Rattle.cards.proofs.Suspended.{seven}
use Rattle.cards.proofs.Counts.{ten, eleven, loads}

holds_1 : card1 ≡ true
unfolding row_of is_large shape_of size_in length_in offset_in holder_in mirrored start_in block_in unknown_part unknown_device size_of length_of start_of block_of vpp_low at_twelve at_five vpp_high bad_wp bad_pins most_oe bad_levels unlocked ones locked proper improper command_of data_of asks_program first_write after_erase while_erasing while_suspending while_suspended unsupplied started_of cut_by counted_off suspend_passed passed_of settle_of past_array short_residue no_command suspended_read no_identifier number_of accept_of decide_of erased residual array_after answer_of
holds_1 = refl

holds_3 : card3 ≡ true
unfolding row_of is_large shape_of size_in length_in offset_in holder_in mirrored start_in block_in unknown_part unknown_device size_of length_of start_of block_of vpp_low at_twelve at_five vpp_high bad_wp bad_pins most_oe bad_levels unlocked ones locked proper improper command_of data_of asks_program first_write after_erase while_erasing while_suspending while_suspended unsupplied started_of cut_by counted_off suspend_passed passed_of settle_of past_array short_residue no_command suspended_read no_identifier number_of accept_of decide_of erased residual array_after answer_of
holds_3 = refl

holds_4 : card4 ≡ true
unfolding row_of is_large shape_of size_in length_in offset_in holder_in mirrored start_in block_in unknown_part unknown_device size_of length_of start_of block_of vpp_low at_twelve at_five vpp_high bad_wp bad_pins most_oe bad_levels unlocked ones locked proper improper command_of data_of asks_program first_write after_erase while_erasing while_suspending while_suspended unsupplied started_of cut_by counted_off suspend_passed passed_of settle_of past_array short_residue no_command suspended_read no_identifier number_of accept_of decide_of erased residual array_after answer_of
holds_4 = refl

holds_5 : card5 ≡ true
unfolding row_of is_large shape_of size_in length_in offset_in holder_in mirrored start_in block_in unknown_part unknown_device size_of length_of start_of block_of vpp_low at_twelve at_five vpp_high bad_wp bad_pins most_oe bad_levels unlocked ones locked proper improper command_of data_of asks_program first_write after_erase while_erasing while_suspending while_suspended unsupplied started_of cut_by counted_off suspend_passed passed_of settle_of past_array short_residue no_command suspended_read no_identifier number_of accept_of decide_of erased residual array_after answer_of
holds_5 = refl

holds_6 : card6 ≡ true
unfolding row_of is_large shape_of size_in length_in offset_in holder_in mirrored start_in block_in unknown_part unknown_device size_of length_of start_of block_of vpp_low at_twelve at_five vpp_high bad_wp bad_pins most_oe bad_levels unlocked ones locked proper improper command_of data_of asks_program first_write after_erase while_erasing while_suspending while_suspended unsupplied started_of cut_by counted_off suspend_passed passed_of settle_of past_array short_residue no_command suspended_read no_identifier number_of accept_of decide_of erased residual array_after answer_of
holds_6 = refl

holds_8 : card8 ≡ true
unfolding row_of is_large shape_of size_in length_in offset_in holder_in mirrored start_in block_in unknown_part unknown_device size_of length_of start_of block_of vpp_low at_twelve at_five vpp_high bad_wp bad_pins most_oe bad_levels unlocked ones locked proper improper command_of data_of asks_program first_write after_erase while_erasing while_suspending while_suspended unsupplied started_of cut_by counted_off suspend_passed passed_of settle_of past_array short_residue no_command suspended_read no_identifier number_of accept_of decide_of erased residual array_after answer_of
holds_8 = refl

holds_9 : card9 ≡ true
unfolding row_of is_large shape_of size_in length_in offset_in holder_in mirrored start_in block_in unknown_part unknown_device size_of length_of start_of block_of vpp_low at_twelve at_five vpp_high bad_wp bad_pins most_oe bad_levels unlocked ones locked proper improper command_of data_of asks_program first_write after_erase while_erasing while_suspending while_suspended unsupplied started_of cut_by counted_off suspend_passed passed_of settle_of past_array short_residue no_command suspended_read no_identifier number_of accept_of decide_of erased residual array_after answer_of
holds_9 = refl

holds_12 : card12 ≡ true
unfolding check_of
holds_12 = refl

-- the one theorem: all twelve hold, and so do the loads alone of 10 and 11
pub all_twelve : Cards
all_twelve = record {
  one = holds_1;
  two = two;
  three = holds_3;
  four = holds_4;
  five = holds_5;
  six = holds_6;
  seven = seven;
  eight = holds_8;
  nine = holds_9;
  ten = ten;
  eleven = eleven;
  twelve = holds_12;
  loads = loads;
}
