-- One history computed on bench T, so that the definitions are seen at work: a parameter byte is programmed, a boot byte is not where the
-- confirm is locked, and is where RP# is at V_HH at the confirm.
use mathlib.Core.Path.{◌≡◌, refl}
use mathlib.Core.Bool.{Bool, true, false, not, ◌&&◌}
use mathlib.Core.List.{List, [], ◌∷◌}
use Prim.Native.Nat.{ℕ}
use lib.ListN.{replicate}
use lib.Dec.{eqb}
use Rattle.units.specs.Units.{lent}
use Rattle.device.specs.Parts.{row_of, is_large, shape_of, size_in, length_in, offset_in, holder_in, mirrored, start_in, block_in, unknown_part, unknown_device, size_of, length_of, start_of, block_of}
use Rattle.device.specs.declared.Device.{Device}
use Rattle.model_types.specs.declared.Kind.{Kind}
use Rattle.model_types.specs.declared.Kind.TheVariants.{Write, Idle}
use Rattle.model_types.specs.Cells.{ones}
use Rattle.model_levels.specs.Levels.{vpp_low, at_twelve, at_five, vpp_high, bad_wp, bad_pins, most_oe, bad_levels, unlocked, locked}
use Rattle.model_states.specs.States.{proper, improper, fresh_state}
use Rattle.model_commands.specs.Commands.{command_of, asks_program, first_write, after_erase, while_erasing, while_suspending, while_suspended}
use Rattle.model_actions.specs.Performed.{data_of, unsupplied, started_of}
use Rattle.model_operation.specs.Settling.{cut_by, counted_off, suspend_passed, passed_of, settle_of}
use Rattle.model_judge.specs.Judging.{past_array, short_residue}
use Rattle.model_rules.specs.Cycles.{no_command, suspended_read, no_identifier, number_of, accept_of, decide_of}
use Rattle.model.specs.Arrays.{erased, residual, array_after, answer_of, bytes_after}
use Rattle.model.specs.Begun.{starts_of, begun_by}
use Rattle.model_history.specs.History.{Bus, World}
use Rattle.model_touch.specs.Touch.{by_rules, before, begun_on, among_bytes, in_block, is_on, byte_in}

abbrev bench : Device
bench = record { part = record { number = 3; word = false }; program = 1; erase = 1; suspend = 1 }

abbrev cycle : Kind → ℕ → ℕ → ℕ → Bus
cycle k rp a b = record { cycle = record { kind = k; pins = record { rp = rp; wp = 0; vpp = 12000 }; oe = 0; address = a; «data» = b }; residue = [] }

abbrev start : World
start = record { state = fresh_state; bytes = replicate {A = ℕ} 16384 255 }

abbrev cycles : List Bus
cycles =
    cycle Write 1 0x3A00 0x40 ∷ cycle Write 1 0x3A00 0x5A ∷ cycle Idle 1 0 0
    ∷ cycle Write 1 0x3C00 0x40 ∷ cycle Write 1 0x3C00 0x0F ∷ cycle Write 1 0 0x50
    ∷ cycle Write 1 0x3C00 0x40 ∷ cycle Write 2 0x3C00 0x0F ∷ cycle Idle 1 0 0
    ∷ []

-- cycle i of it begins an operation on byte x
abbrev starts : ℕ → Bus → ℕ → Bool
starts i b x = is_on bench.part (begun_on bench (before by_rules bench start cycles i) b) x

shown : (eqb (byte_in (before by_rules bench start cycles 9) 0x3A00) 0x5A
    && eqb (byte_in (before by_rules bench start cycles 7) 0x3C00) 0xFF
    && eqb (byte_in (before by_rules bench start cycles 9) 0x3C00) 0x0F
    && starts 1 (cycle Write 1 0x3A00 0x5A) 0x3A00
    && not (starts 4 (cycle Write 1 0x3C00 0x0F) 0x3C00)
    && starts 7 (cycle Write 2 0x3C00 0x0F) 0x3C00
    && in_block bench.part 0 0x3C00
    && not (in_block bench.part 0 0x3BFF)) ≡ true
unfolding row_of is_large shape_of size_in length_in offset_in holder_in mirrored start_in block_in unknown_part unknown_device size_of length_of start_of block_of vpp_low at_twelve at_five vpp_high bad_wp bad_pins most_oe bad_levels unlocked ones locked proper improper command_of data_of asks_program first_write after_erase while_erasing while_suspending while_suspended unsupplied started_of cut_by counted_off suspend_passed passed_of settle_of past_array short_residue no_command suspended_read no_identifier number_of accept_of decide_of erased residual array_after answer_of bytes_after lent starts_of begun_by among_bytes
shown = refl
