-- In byte mode the high byte of a cycle's data is not looked at.
use mathlib.Core.Path.{◌≡◌, refl, ap, ap₂}
use mathlib.Core.Bool.{Bool, true, false}
use mathlib.Core.List.{List}
use Prim.Native.Nat.{ℕ, ◌%◌}
use native.Mathlib.Omega.{arith}
use lib.ListN.{length}
use Rattle.common.proofs.Choice.{unlike}
use Rattle.common.specs.Numbers.{given}
use Rattle.units.specs.Units.{carried}
use Rattle.device.specs.declared.Device.{Device}
use Rattle.model_types.specs.declared.Kind.{Kind}
use Rattle.model_types.specs.declared.Kind.TheVariants.{Read, Write, Idle}
use Rattle.model_types.specs.declared.Action.{Action}
use Rattle.model_types.specs.declared.Action.TheVariants.{ToArray, ToIdentifier, ToStatus, Clear, AwaitErase, AwaitData, Confirm, Store, WrongSecond, Suspend, Resume, Ignore, Refuse}
use Rattle.model_types.specs.declared.Phase.TheVariants.{Programming}
use Rattle.model_types.specs.declared.State.{State}
use Rattle.model_types.specs.declared.Cycle.{Cycle}
use Rattle.model_types.specs.declared.Settled.{Settled}
use Rattle.model_types.specs.declared.Decision.{Decision}
use Rattle.model_levels.specs.Levels.{bad_levels, locked}
use Rattle.model_commands.specs.Commands.{command_of, action_of}
use Rattle.model_actions.specs.Performed.{data_of, unsupplied, started_of, performed_of}
use Rattle.model_operation.specs.Settling.{settle_of}
use Rattle.model_judge.specs.Judging.{past_array, short_residue}
use Rattle.model_rules.specs.Cycles.{no_command, suspended_read, no_identifier, table_of, number_of, respond_of, accept_of, decide_of}
use Rattle.model.specs.Arrays.{array_of, seen_of, answer_of, array_after}
use Rattle.model.specs.Words.{narrow}

module _ (d : Device) (byte : d.part.word ≡ false) (c : Cycle) where
  command : command_of (narrow c) ≡ command_of c
  unfolding command_of
  command = let e : c.data % 256 % 256 ≡ c.data % 256 = omega arith in e

  carried_once : (w : Bool) → w ≡ false → carried w (c.data % 256) ≡ carried w c.data
  carried_once false e = let q : c.data % 256 % 256 ≡ c.data % 256 = omega arith in q
  carried_once true e = absurd (unlike e)

  load : data_of d.part (narrow c) ≡ data_of d.part c
  unfolding data_of
  load = carried_once d.part.word byte

  started : (v t b : ℕ) (s : State) → started_of d.part (narrow c) s (Programming v) t b ≡ started_of d.part c s (Programming v) t b
  unfolding started_of unsupplied locked
  started v t b s = refl

  performed : (a : Action) (s : State) → performed_of a d (narrow c) s ≡ performed_of a d c s
  unfolding started_of unsupplied locked
  performed ToArray s = refl
  performed ToIdentifier s = refl
  performed ToStatus s = refl
  performed Clear s = refl
  performed AwaitErase s = refl
  performed AwaitData s = refl
  performed Confirm s = refl
  performed Store s = ap (λ (v : ℕ). started_of d.part c s (Programming v) d.program 0x10) load
  performed WrongSecond s = refl
  performed Suspend s = refl
  performed Resume s = refl
  performed Ignore s = refl
  performed Refuse s = refl

  table : (s : State) (n r : ℕ) → table_of d s (narrow c) n r ≡ table_of d s c n r
  unfolding bad_levels past_array short_residue no_command suspended_read no_identifier
  table s n r = rw command refl

  respond : (k : Kind) (t : Settled) → respond_of k d (narrow c) t ≡ respond_of k d c t
  respond Read t = refl
  respond Write t = rw (command, performed (action_of d.part t.state.phase (command_of c)) t.state) refl
  respond Idle t = refl

  accept : (t : Settled) → accept_of d (narrow c) t ≡ accept_of d c t
  unfolding accept_of
  accept t = rw (respond c.kind t) refl

  number : (s : State) (n r : ℕ) → number_of d s (narrow c) n r ≡ number_of d s c n r
  unfolding number_of
  number s n r = ap given (table s n r)

  decide : (s : State) (n r : ℕ) → decide_of d s (narrow c) n r ≡ decide_of d s c n r
  unfolding decide_of
  decide s n r = rw (number s n r, accept (settle_of d.part s c.pins)) refl

  pub narrow_array : (s : State) (xs rs : List ℕ) → array_after d s (narrow c) xs rs ≡ array_after d s c xs rs
  unfolding array_after
  narrow_array s xs rs = ap (λ (x : Decision). array_of x.effect d.part rs xs) (decide s (length xs) (length rs))

  pub narrow_answer : (s : State) (xs rs : List ℕ) → answer_of d s (narrow c) xs rs ≡ answer_of d s c xs rs
  unfolding answer_of
  narrow_answer s xs rs = ap₂ (λ (x : Decision) (ys : List ℕ). record { seen = seen_of x.reply ys; state = x.state }) (decide s (length xs) (length rs)) (narrow_array s xs rs)
