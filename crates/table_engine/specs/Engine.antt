-- One bus cycle by the second engine: what a write asks for is read off the table; the rest is the first engine's.
use Rattle.std.specs.Prelude.{List, ℕ, eqb, length, if◌then◌else◌}
use Rattle.units.specs.Units.{units, lent, back}
use Rattle.device.specs.declared.Part.{Part}
use Rattle.device.specs.declared.Device.{Device}
use Rattle.model_levels.specs.Levels.{rp_low}
use Rattle.model_types.specs.declared.Action.{Action}
use Rattle.model_types.specs.declared.Cycle.{Cycle}
use Rattle.model_types.specs.declared.Decision.{Decision}
use Rattle.model_types.specs.declared.Kind.{Kind}
use Rattle.model_types.specs.declared.Kind.TheVariants.{Read, Write, Idle}
use Rattle.model_types.specs.declared.Phase.{Phase}
use Rattle.model_types.specs.declared.Reply.TheVariants.{Quiet}
use Rattle.model_types.specs.declared.Settled.{Settled}
use Rattle.model_types.specs.declared.State.{State}
use Rattle.model_commands.specs.Commands.{command_of}
use Rattle.model_operation.specs.Settling.{settle_of}
use Rattle.model_judge.specs.Judging.{judge_of}
use Rattle.model_rules.specs.Cycles.{refused_by}
use Rattle.model_rules.specs.Inner.{settled_by, decide_read, decide_write}
use Rattle.model.specs.Arrays.{array_of, is_refusal, seen_of, reply_told}
use Rattle.model.specs.declared.Answer.{Answer}
use Rattle.command_table.specs.Actions.{row_of, action_for, entry_at}

-- the action of a write: the entry of the state and of the low byte of what the cycle carries, for the part (R-table-1)
unfoldable pub table_action : Part → Phase → Cycle → Action
table_action part ph c = action_for part (entry_at (row_of ph) (command_of c))

-- step 4, by the kind of the cycle: the table is asked for the state that steps 2 and 3 leave
abbrev pub table_kind : Kind → Device → State → Cycle → Settled → Decision
table_kind Read d s c t = decide_read t.state.mode d.part s c t
table_kind Write d s c t = decide_write (table_action d.part t.state.phase c) d s c t
table_kind Idle d s c t = settled_by Quiet t

-- a cycle that refusals 1 to 6 do not stop; with RP# low it ends after step 1
unfoldable pub table_judged : Device → State → Cycle → Decision
table_judged d s c =
    if rp_low c.pins then settled_by Quiet (settle_of d.part s c.pins) else table_kind c.kind d s c (settle_of d.part s c.pins)

-- one bus cycle: refused by 1 to 6, or the four steps; the lengths are in units
unfoldable pub table_decide : Device → State → Cycle → ℕ → ℕ → Decision
table_decide d s c array residue =
    if eqb (judge_of d s c array residue) 0 then table_judged d s c else refused_by (judge_of d s c array residue) s

-- the array's units after it
unfoldable pub table_array : Device → State → Cycle → List ℕ → List ℕ → List ℕ
table_array d s c xs rs = array_of (table_decide d s c (length xs) (length rs)).effect d.part rs xs

-- the answer, with the state and its counts of erases (R-table-2)
unfoldable pub table_answer : Device → State → Cycle → List ℕ → List ℕ → Answer
table_answer d s c xs rs =
    record {
      seen = seen_of (table_decide d s c (length xs) (length rs)).reply (table_array d s c xs rs);
      state = (table_decide d s c (length xs) (length rs)).state;
    }

-- what it tells: the refusal's number, 0 where there is none, and the data given
unfoldable pub table_told : Device → State → Cycle → List ℕ → List ℕ → ℕ × List ℕ
table_told d s c xs rs = reply_told (table_decide d s c (length xs) (length rs)).reply (table_array d s c xs rs)

-- the lent bytes after it: refused, as they are (R-table-2)
unfoldable pub table_bytes : Device → State → Cycle → List ℕ → List ℕ → List ℕ
table_bytes d s c array residue =
    let us : List ℕ = lent d.part.word array in
    let rs : List ℕ = units d.part.word residue in
    if is_refusal (table_decide d s c (length us) (length rs)).reply then array else back d.part.word (table_array d s c us rs)
