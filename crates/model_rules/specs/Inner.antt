-- The answers kind by kind, in the order in which the code asks. Not part of what a buyer must believe, and meant only for callers
-- that know refusals 1 to 6 not to apply: that the table then gives the same is proved (`passes`). Where one of them would apply,
-- what is said here is not the device's answer.
use Rattle.std.specs.Prelude.{Bool, false, not, ◌&&◌, ℕ, eqb, ltb, if◌then◌else◌}
use Rattle.device.specs.Parts.{block_of}
use Rattle.device.specs.declared.Part.{Part}
use Rattle.device.specs.declared.Device.{Device}
use Rattle.model_types.specs.declared.Mode.{Mode}
use Rattle.model_types.specs.declared.Mode.TheVariants.{Array, Status, Identifier}
use Rattle.model_types.specs.Kinds.{is_read}
use Rattle.model_levels.specs.Levels.{rp_low}
use Rattle.model_types.specs.Phases.{is_free, is_suspended}
use Rattle.model_states.specs.States.{is_array}
use Rattle.model_types.specs.declared.Kind.{Kind}
use Rattle.model_types.specs.declared.Kind.TheVariants.{Read, Write, Idle}
use Rattle.model_types.specs.declared.Reply.{Reply}
use Rattle.model_types.specs.declared.Reply.TheVariants.{Quiet, Gives, GivesArray}
use Rattle.model_types.specs.declared.Action.{Action}
use Rattle.model_types.specs.declared.Settled.{Settled}
use Rattle.model_types.specs.declared.Decision.{Decision}
use Rattle.model_types.specs.declared.State.{State}
use Rattle.model_types.specs.declared.Cycle.{Cycle}
use Rattle.model_operation.specs.Settling.{settle_of}
use Rattle.model_commands.specs.Commands.{action_of, is_refuse, command_of}
use Rattle.model_actions.specs.Performed.{performed_of}
use Rattle.model_rules.specs.Cycles.{decided_as, refused_by, identifier_of, code_place}

-- the settled state and effect under a reply
abbrev pub settled_by : Reply → Settled → Decision
settled_by r t = decided_as r t.state t.effect

-- an address in the suspended block; the blocks are looked up only where one is suspended
unfoldable pub in_suspended : Part → State → ℕ → Bool
in_suspended part u a = if is_suspended u.phase then eqb (block_of part a) (block_of part u.address) else false

-- an array read: 8, or the byte
unfoldable pub decide_array : Part → State → Cycle → Settled → Decision
decide_array part s c t = if in_suspended part t.state c.address then refused_by 8 s else settled_by (GivesArray c.address) t

-- an identifier read: 9, or the code
unfoldable pub decide_identifier : Part → State → Cycle → Settled → Decision
decide_identifier part s c t = if ltb 1 (code_place part c.address) then refused_by 9 s
    else settled_by (Gives (identifier_of part c.address)) t

-- a read, by mode
abbrev pub decide_read : Mode → Part → State → Cycle → Settled → Decision
decide_read Array part s c t = decide_array part s c t
decide_read Status part s c t = settled_by (Gives t.state.status) t
decide_read Identifier part s c t = decide_identifier part s c t

-- a write, by the action that it asks for: 7, or what comes of it
unfoldable pub decide_write : Action → Device → State → Cycle → Settled → Decision
decide_write a d s c t = if is_refuse a then refused_by 7 s else decided_as Quiet (performed_of a d c t.state) t.effect

-- step 4, by the kind of the cycle
abbrev pub decide_kind : Kind → Device → State → Cycle → Settled → Decision
decide_kind Read d s c t = decide_read t.state.mode d.part s c t
decide_kind Write d s c t = decide_write (action_of d.part t.state.phase (command_of c)) d s c t
decide_kind Idle d s c t = settled_by Quiet t

-- a cycle that refusals 1 to 6 do not stop; with RP# low it ends after step 1
unfoldable pub decide_judged : Device → State → Cycle → Decision
decide_judged d s c =
    if rp_low c.pins then settled_by Quiet (settle_of d.part s c.pins)
    else decide_kind c.kind d s c (settle_of d.part s c.pins)

-- an array read of a device with nothing awaited, running or suspended, RP# up
unfoldable pub asks_array : State → Cycle → Bool
asks_array s c = ((is_read c.kind && is_free s.phase) && is_array s.mode) && not (rp_low c.pins)
