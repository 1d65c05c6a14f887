-- The definitions computed on block 1 of bench T, so that they are seen at work.
use mathlib.Core.Path.{◌≡◌, refl}
use mathlib.Core.Bool.{true, false, not, ◌&&◌}
use mathlib.Core.List.{List, [], ◌∷◌}
use Prim.Native.Nat.{ℕ}
use lib.ListN.{get_or, replicate}
use lib.Dec.{eqb}
use Rattle.device.specs.Parts.{row_of, is_large, in_words, shape_of, size_in, length_in, unknown_part, length_of}
use Rattle.model_types.specs.Cells.{ones}
use Rattle.model_levels.specs.Levels.{vpp_low, at_twelve, at_five, vpp_high, bad_wp, bad_pins}
use Rattle.loader.specs.declared.Stage.{Stage}
use Rattle.loader.specs.declared.Stage.TheVariants.{EraseWaiting, ProgramWaiting, Verifying}
use Rattle.loader.specs.Stages.{is_ended, end_by}
use Rattle.loader_walk.specs.Walks.{rises_in, diff_from}
use Rattle.loader_moves.specs.Inner.{past}
use Rattle.loader.specs.Statuses.{both_errors, erase_end, program_end}
use Rattle.loader_moves.specs.Moves.{onward, after_reads, after_read, poll_more, erase_polled, program_polled, verify_more}
use Rattle.loader_stores.specs.Stores.{erased_well, programmed_well}
use Rattle.loader_steps.specs.Front.{barred_pins, no_block, wrong_lengths, bad_record, step_number, step_response, scratch_after}
use Rattle.loader_sheet.specs.Hand.{Hand, fed, fed_all, never_ready}

-- 5AH is wanted and then FFH, and scratch has FFH throughout
abbrev wanted : List ℕ
wanted = 0x5A ∷ replicate {A = ℕ} 511 255

abbrev at : Stage → ℕ → Hand
at stage polls = record {
  loader = record {
    part = record { number = 3; word = false };
    pins = record { rp = 1; wp = 0; vpp = 12000 };
    block = 1;
    stage = stage;
    place = 0;
    polls = polls;
    verify = false;
    high = false;
  };
  scratch = replicate {A = ℕ} 512 255;
}

-- the number of the end after one value, 255 where there is none, and the first unit of scratch
abbrev ends_at : Stage → ℕ → ℕ → ℕ
ends_at stage polls v = end_by (fed wanted (at stage polls) v).loader.stage

abbrev first_at : Stage → ℕ → ℕ
first_at stage v = get_or (fed wanted (at stage 0) v).scratch 0 0

shown : (eqb (ends_at EraseWaiting 0 0x88) 21 && eqb (ends_at EraseWaiting 0 0xB8) 21 && eqb (ends_at EraseWaiting 0 0xB0) 22 && eqb (ends_at EraseWaiting 0 0xA0) 23
    && eqb (ends_at EraseWaiting 0 0x90) 255 && eqb (ends_at EraseWaiting 65533 0x28) 255 && eqb (ends_at EraseWaiting 65534 0x28) 20
    && eqb (ends_at ProgramWaiting 0 0x98) 21 && eqb (ends_at ProgramWaiting 0 0xB0) 22 && eqb (ends_at ProgramWaiting 0 0x90) 24
    && eqb (ends_at ProgramWaiting 0 0xA0) 0 && eqb (ends_at ProgramWaiting 65534 0x7F) 20
    && eqb (first_at ProgramWaiting 0x80) 0x5A && eqb (first_at ProgramWaiting 0x90) 0xFF && eqb (first_at ProgramWaiting 0x00) 0xFF
    && eqb (ends_at Verifying 0 0x5B) 25 && eqb (first_at Verifying 0x5B) 0x5B
    && never_ready (0x7F ∷ 0x00 ∷ []) && not (never_ready (0x00 ∷ 0x80 ∷ []))
    && is_ended (fed_all wanted (at ProgramWaiting 65533) (0x00 ∷ 0x00 ∷ 0x80 ∷ [])).loader.stage
    && not (is_ended (fed_all wanted (at ProgramWaiting 65533) (0x00 ∷ [])).loader.stage)) ≡ true
unfolding row_of is_large in_words shape_of size_in length_in unknown_part length_of ones vpp_low at_twelve at_five vpp_high bad_wp bad_pins rises_in diff_from past both_errors erase_end program_end onward after_reads after_read poll_more erase_polled program_polled verify_more erased_well programmed_well barred_pins no_block wrong_lengths bad_record step_number step_response scratch_after
shown = refl
