-- A whole cycle: the table of refusals, and the answer, state and effect where none applies. Addresses are those of units, and the
-- lengths of the array and the residue are counted in units.
use Rattle.std.specs.Prelude.{Bool, not, ◌&&◌, List, [], ◌∷◌, ◌++◌, ℕ, ◌/◌, eqb, ltb, if◌then◌else◌}
use Rattle.common.specs.Numbers.{Row, row, given}
use Rattle.device.specs.Parts.{is_large, block_of, code_of}
use Rattle.device.specs.declared.Part.{Part}
use Rattle.device.specs.declared.Device.{Device}
use Rattle.model_types.specs.declared.Mode.{Mode}
use Rattle.model_types.specs.declared.Mode.TheVariants.{Array, Status, Identifier}
use Rattle.model_types.specs.declared.Kind.{Kind}
use Rattle.model_types.specs.declared.Kind.TheVariants.{Read, Write, Idle}
use Rattle.model_types.specs.declared.Effect.{Effect}
use Rattle.model_types.specs.declared.Effect.TheVariants.{Nothing}
use Rattle.model_types.specs.declared.Reply.{Reply}
use Rattle.model_types.specs.declared.Reply.TheVariants.{Quiet, Gives, GivesArray, Refuses}
use Rattle.model_types.specs.declared.Settled.{Settled}
use Rattle.model_types.specs.declared.Decision.{Decision}
use Rattle.model_types.specs.declared.State.{State}
use Rattle.model_types.specs.declared.Cycle.{Cycle}
use Rattle.model_types.specs.Kinds.{is_read, is_write}
use Rattle.model_levels.specs.Levels.{rp_low}
use Rattle.model_types.specs.Phases.{is_suspended}
use Rattle.model_states.specs.States.{is_array, is_identifier}
use Rattle.model_commands.specs.Commands.{command_of, action_of, is_refuse}
use Rattle.model_actions.specs.Performed.{performed_of}
use Rattle.model_operation.specs.Settling.{settle_of}
use Rattle.model_judge.specs.Judging.{early}

-- refusal 7: a write of a byte that is no command (R-number-7)
unfoldable pub no_command : Part → State → Cycle → Bool
no_command part t c = (is_write c.kind && is_refuse (action_of part t.phase (command_of c))) && not (rp_low c.pins)

-- refusal 8: an array read in the suspended block (R-number-8, R-suspended-2)
unfoldable pub suspended_read : Part → State → Cycle → Bool
suspended_read part t c =
    (((is_read c.kind && is_suspended t.phase) && is_array t.mode) && eqb (block_of part c.address) (block_of part t.address))
    && not (rp_low c.pins)

-- devices 5 to 8 in byte mode: A-1 does not matter to an identifier read (R-read-2)
unfoldable pub skips_last : Part → Bool
skips_last part = is_large part && not part.word

-- which identifier code an address asks for, 0 or 1, any more being none (R-read-2)
unfoldable pub code_place : Part → ℕ → ℕ
code_place part a = if skips_last part then a / 2 else a

-- refusal 9: an identifier read where there is no code (R-number-9)
unfoldable pub no_identifier : Part → State → Cycle → Bool
no_identifier part t c = ((is_read c.kind && is_identifier t.mode) && ltb 1 (code_place part c.address)) && not (rp_low c.pins)

-- refusals 7 to 9, by the state that steps 2 and 3 would leave (R-order-1)
abbrev pub late : Part → State → Cycle → List Row
late part t c = row 7 (no_command part t c) ∷ row 8 (suspended_read part t c) ∷ row 9 (no_identifier part t c) ∷ []

-- the table of a cycle
abbrev pub table_of : Device → State → Cycle → ℕ → ℕ → List Row
table_of d s c array residue = early d s c array residue ++ late d.part (settle_of d.part s c.pins).state c

-- the number of a cycle: the lowest that applies, 0 where none does (R-number-0)
unfoldable pub number_of : Device → State → Cycle → ℕ → ℕ → ℕ
number_of d s c array residue = given (table_of d s c array residue)

-- the number of refusals 7 to 9 alone
unfoldable pub late_of : Part → State → Cycle → ℕ
late_of part t c = given (late part t c)

-- a decision by its parts
abbrev pub decided_as : Reply → State → Effect → Decision
decided_as r s e = record { reply = r; state = s; effect = e }

-- a refused cycle has not happened (R-cycle-8)
abbrev pub refused_by : ℕ → State → Decision
refused_by n s = decided_as (Refuses n) s Nothing

-- 89H at place 0, the part's code at 1 (R-read-1, R-read-2)
unfoldable pub identifier_of : Part → ℕ → ℕ
identifier_of part a = if eqb (code_place part a) 0 then 0x89 else code_of part

-- a read, by mode (R-read-1)
abbrev pub reply_to : Mode → Part → ℕ → ℕ → Reply
reply_to Array part a sr = GivesArray a
reply_to Status part a sr = Gives sr
reply_to Identifier part a sr = Gives (identifier_of part a)

-- step 4: the read or write itself (R-cycle-6)
abbrev pub respond_of : Kind → Device → Cycle → Settled → Decision
respond_of Read d c t = decided_as (reply_to t.state.mode d.part c.address t.state.status) t.state t.effect
respond_of Write d c t = decided_as Quiet (performed_of (action_of d.part t.state.phase (command_of c)) d c t.state) t.effect
respond_of Idle d c t = decided_as Quiet t.state t.effect

-- with RP# low the cycle ends after step 1 (R-cycle-3)
unfoldable pub accept_of : Device → Cycle → Settled → Decision
accept_of d c t = if rp_low c.pins then decided_as Quiet t.state t.effect else respond_of c.kind d c t

-- one bus cycle: refused by its number, or the four steps (R-demand-2)
unfoldable pub decide_of : Device → State → Cycle → ℕ → ℕ → Decision
decide_of d s c array residue =
    if eqb (number_of d s c array residue) 0 then accept_of d c (settle_of d.part s c.pins)
    else refused_by (number_of d s c array residue) s
