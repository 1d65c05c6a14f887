-- The definitions computed on bench T with P 2, E 3 and S 1, so that they are seen at work.
use mathlib.Core.Path.{◌≡◌, refl}
use mathlib.Core.Bool.{true, false, not, ◌&&◌}
use mathlib.Core.List.{List, [], ◌∷◌, ◌++◌}
use Prim.Native.Nat.{ℕ}
use lib.ListN.{get_or, replicate}
use lib.Dec.{eqb}
use Rattle.device.specs.Parts.{row_of, is_large, shape_of, size_in, length_in, offset_in, holder_in, mirrored, start_in, block_in, unknown_part, unknown_device, size_of, length_of, start_of, block_of}
use Rattle.device.specs.declared.Device.{Device}
use Rattle.model_types.specs.declared.Kind.{Kind}
use Rattle.model_types.specs.declared.Kind.TheVariants.{Read, Write, Idle}
use Rattle.model_types.specs.Cells.{ones}
use Rattle.model_levels.specs.Levels.{vpp_low, at_twelve, at_five, vpp_high, bad_wp, bad_pins, most_oe, bad_levels, unlocked, locked}
use Rattle.model_states.specs.States.{proper, improper, fresh_state}
use Rattle.model_commands.specs.Commands.{command_of, asks_program, first_write, after_erase, while_erasing, while_suspending, while_suspended}
use Rattle.model_actions.specs.Performed.{data_of, unsupplied, started_of}
use Rattle.model_operation.specs.Settling.{cut_by, counted_off, suspend_passed, passed_of, settle_of}
use Rattle.model_judge.specs.Judging.{past_array, short_residue}
use Rattle.model_rules.specs.Cycles.{no_command, suspended_read, no_identifier, number_of, accept_of, decide_of}
use Rattle.model.specs.Arrays.{erased, residual, array_after, answer_of}
use Rattle.model_history.specs.History.{Bus, World, world_after}
use Rattle.model_sheet.specs.Sheet.{counted_in, clears, none_clears}

abbrev bench : Device
bench = record { part = record { number = 3; word = false }; program = 2; erase = 3; suspend = 1 }

abbrev cycle : Kind → ℕ → ℕ → Bus
cycle k a b = record { cycle = record { kind = k; pins = record { rp = 1; wp = 0; vpp = 12000 }; oe = 0; address = a; «data» = b }; residue = [] }

-- a program of 5AH: a read, a read past the array that is refused, a write that is ignored
abbrev asked : List Bus
asked = cycle Write 0x3A00 0x40 ∷ cycle Write 0x3A00 0x5A ∷ []

abbrev meanwhile : List Bus
meanwhile = cycle Read 0x3A00 0 ∷ cycle Read 0x4000 0 ∷ []

-- an erase: B0H, an idle cycle, FFH, an array read, D0H, and two idle cycles
abbrev erasing : List Bus
erasing = cycle Write 0x3A00 0x20 ∷ cycle Write 0x3A00 0xD0 ∷ []

abbrev suspended : List Bus
suspended = cycle Write 0 0xB0 ∷ cycle Idle 0 0 ∷ cycle Write 0 0xFF ∷ cycle Read 0 0 ∷ cycle Write 0 0xD0 ∷ []

abbrev filled : ℕ → World
filled x = record { state = fresh_state; bytes = replicate {A = ℕ} 16384 x }

abbrev at : World → ℕ → ℕ
at v a = get_or v.bytes a 0

-- of the program one cycle counts in two, with the byte as it was, and the write that comes then ends it
shown : (eqb (counted_in bench (world_after bench (filled 255) asked) meanwhile) 1
    && eqb (at (world_after bench (filled 255) (asked ++ meanwhile)) 0x3A00) 0xFF
    && eqb (at (world_after bench (filled 255) (asked ++ (meanwhile ++ (cycle Write 0 0xFF ∷ [])))) 0x3A00) 0x5A
    && eqb (counted_in bench (world_after bench (filled 0) erasing) suspended) 1
    && eqb (counted_in bench (world_after bench (filled 0) erasing) (suspended ++ (cycle Idle 0 0 ∷ []))) 2
    && eqb (at (world_after bench (filled 0) (erasing ++ (suspended ++ (cycle Idle 0 0 ∷ [])))) 0x3A00) 0
    && eqb (at (world_after bench (filled 0) (erasing ++ (suspended ++ (cycle Idle 0 0 ∷ cycle Idle 0 0 ∷ [])))) 0x3A00) 0xFF
    && eqb (at (world_after bench (filled 0) (erasing ++ (suspended ++ (cycle Idle 0 0 ∷ cycle Idle 0 0 ∷ [])))) 0x39FF) 0
    && clears bench (filled 255) (cycle Write 0 0x50)
    && not (clears bench (world_after bench (filled 255) (cycle Write 0x3A00 0x40 ∷ [])) (cycle Write 0x3A00 0x50))
    && none_clears bench (filled 255) (cycle Write 0x3A00 0x40 ∷ cycle Write 0x3A00 0x50 ∷ [])
    && not (none_clears bench (filled 255) (cycle Write 0 0x70 ∷ cycle Write 0 0x50 ∷ []))) ≡ true
unfolding row_of is_large shape_of size_in length_in offset_in holder_in mirrored start_in block_in unknown_part unknown_device size_of length_of start_of block_of vpp_low at_twelve at_five vpp_high bad_wp bad_pins most_oe bad_levels unlocked ones locked proper improper command_of data_of asks_program first_write after_erase while_erasing while_suspending while_suspended unsupplied started_of cut_by counted_off suspend_passed passed_of settle_of past_array short_residue no_command suspended_read no_identifier number_of accept_of decide_of erased residual array_after answer_of
shown = refl
