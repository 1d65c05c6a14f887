-- What an interrupted run keeps from cycle to cycle, so that refusals 1 to 6 never apply to the cycle that is out.
use mathlib.Core.Path.{◌≡◌, refl, sym, ap, ◌∙◌, subst}
use mathlib.Core.Bool.{Bool, true, false}
use mathlib.Core.List.{List, []}
use Prim.Native.Nat.{ℕ, zero, suc, ◌<◌}
use native.Mathlib.Omega.{arith}
use lib.ListN.{length}
use Rattle.common.proofs.Choice.{if_ind}
use Rattle.device.specs.declared.Part.{Part}
use Rattle.device.specs.declared.Device.{Device}
use Rattle.device.specs.Parts.{size_of, start_of, length_of}
use Rattle.device.proofs.Claims.{blocks_end_inside}
use Rattle.model_types.specs.declared.Pins.{Pins}
use Rattle.model_types.specs.declared.Kind.{Kind}
use Rattle.model_types.specs.declared.State.{State}
use Rattle.model_levels.specs.Levels.{rp_low, vpp_low, bad_pins}
use Rattle.model_types.specs.Phases.{is_pending}
use Rattle.model_judge.specs.Judging.{short_residue, judge_of}
use Rattle.model_rules.proofs.Facts.{Proper}
use Rattle.model.specs.declared.Seen.{Seen}
use Rattle.model.specs.declared.Seen.TheVariants.{NoData, Data, Refused}
use Rattle.model.specs.Arrays.{answer_of}
use Rattle.model.proofs.Keeping.{cycle_proper}
use Rattle.model.proofs.Contents.{cycle_length}
use Rattle.loader.specs.declared.Loader.{Loader}
use Rattle.loader.specs.Stages.{is_ended}
use Rattle.loader_steps.specs.Addresses.{first_address}
use Rattle.loader_steps.specs.Outs.{cycle_at}
use Rattle.loader_steps.specs.Front.{no_block}
use Rattle.loader_steps.proofs.StartAndStep.{Kept}
use Rattle.loader_run.proofs.Judging.{unasked, unasked_high, judged, stays_calm}
use Rattle.loader_run.proofs.Sound.{Sound, sound_judged, sound_kept}
use Rattle.loader_held.specs.declared.Step.{Step}
use Rattle.loader_held.specs.declared.Step.TheVariants.{Usual, Halting, Looking, Settling, ArrayAsking, Fetching, Resuming}
use Rattle.loader_held.specs.declared.Hold.{Hold}
use Rattle.loader_held.specs.Holds.{held_cycle}
use Rattle.loader_held.proofs.HeldKept.{held_kept, ended_kept}
use Rattle.loader_held_run.specs.Inner.{ReadsInside}
use Rattle.loader_held_run.specs.HeldTurns.{HeldConfig, pair_by, out_of, held_answer, held_array, held_moved, held_turn, held_after}

-- the cycle that is out has the record's levels
levels_out : (step : Step) (l : Loader) (h : Hold) (w bs : List ℕ) → (held_cycle step l h w bs).pins ≡ l.pins
levels_out Usual l h w bs = refl
levels_out Halting l h w bs = refl
levels_out Looking l h w bs = refl
levels_out Settling l h w bs = refl
levels_out ArrayAsking l h w bs = refl
levels_out Fetching l h w bs = refl
levels_out Resuming l h w bs = refl

module _ (d : Device) (w : List ℕ) (l : Loader) (s : State) (n : ℕ) (z : Sound d w l s n) where
  -- the block's first address is in the array
  first_inside : first_address l < size_of d.part
  unfolding first_address
  first_inside =
      subst (λ (part : Part). start_of part l.block < size_of d.part) (sym z.same)
      (omega (arith, z.place, z.wanted, blocks_end_inside d.part l.block))

  -- no residue is asked for: with VPP low nothing runs
  no_residue : (kind : Kind) (a b : ℕ) → short_residue d.part s (cycle_at l kind a b) 0 ≡ false
  no_residue kind a b = go (vpp_low d.part l.pins) refl
    where
      go : (v : Bool) → vpp_low d.part l.pins ≡ v → short_residue d.part s (cycle_at l kind a b) 0 ≡ false
      go true e = unasked d.part s (cycle_at l kind a b) (z.calm e)
      go false e = unasked_high d.part s (cycle_at l kind a b) z.up e

  -- a cycle with the record's levels at an address in the array is not refused by 1 to 6
  fine : (kind : Kind) (a b : ℕ) → a < size_of d.part → judge_of d s (cycle_at l kind a b) n 0 ≡ 0
  fine kind a b i = judged d s (cycle_at l kind a b) n z.known z.sized z.proper z.levels refl i (no_residue kind a b)

  pub held_judged : (h : Hold) (bs : List ℕ) → ReadsInside d bs → is_ended l.stage ≡ false → (step : Step) → judge_of d s (held_cycle step l h w bs) n 0 ≡ 0
  held_judged h bs i e Usual = sound_judged d w l s n z e
  held_judged h bs i e Halting = fine _ _ _ first_inside
  held_judged h bs i e Looking = fine _ _ _ first_inside
  held_judged h bs i e Settling = fine _ _ _ first_inside
  held_judged h bs i e ArrayAsking = fine _ _ _ first_inside
  held_judged h bs i e Fetching = fine _ _ _ (i h.place)
  held_judged h bs i e Resuming = fine _ _ _ first_inside

-- an answer taken leaves a record of the same part, block and levels, its place in the block
pair_kept : (seen : Seen) (l : Loader) (h : Hold) (k : ℕ) (w sc ps : List ℕ) → Kept l (length w) (pair_by seen l h k w sc ps).loader
pair_kept NoData l h k w sc ps = held_kept l h k w sc ps h.step 0
pair_kept (Data v) l h k w sc ps = held_kept l h k w sc ps h.step v
pair_kept (Refused n) l h k w sc ps = ended_kept l h k w sc ps n

-- what a run keeps, of an interrupted load under way
abbrev pub HeldSound : Device → List ℕ → HeldConfig → Type 0
HeldSound d w c = Sound d w c.loader c.state (length c.bytes)

module _ (d : Device) (w bs ps : List ℕ) where
  -- a cycle keeps it
  sound_moved : (c : HeldConfig) → HeldSound d w c → HeldSound d w (held_moved d w bs ps c)
  unfolding held_answer held_array answer_of
  sound_moved c z =
      sound_kept d w c.loader (held_moved d w bs ps c).loader c.state (held_moved d w bs ps c).state (length c.bytes) (length (held_moved d w bs ps c).bytes) z
      (pair_kept (held_answer d w bs c).seen c.loader c.hold (length bs) w c.scratch ps)
      (cycle_length d c.state (out_of w bs c) c.bytes [])
      (cycle_proper d c.state (out_of w bs c) (length c.bytes) 0 z.proper)
      (λ v. stays_calm d c.state (out_of w bs c) (length c.bytes) 0
      (ap (λ (x : Pins). vpp_low d.part x) (levels_out c.hold.step c.loader c.hold w bs) ∙ v) (z.calm v))

  pub sound_next : (c c' : HeldConfig) → HeldSound d w c → c' ≡ held_moved d w bs ps c → HeldSound d w c'
  sound_next c c' z q = subst (λ (x : HeldConfig). HeldSound d w x) (sym q) (sound_moved c z)

  -- it holds however many turns are made
  pub sound_after : (j : ℕ) (c : HeldConfig) → HeldSound d w c → HeldSound d w (held_after j d w bs ps c)
  unfolding held_turn
  sound_after zero c z = z
  sound_after (suc j) c z =
      sound_after j (held_turn d w bs ps c)
      (if_ind (λ (x : HeldConfig). HeldSound d w x) (is_ended c.loader.stage) c (held_moved d w bs ps c) (λ e. z) (λ e. sound_moved c z))

  -- refusals 1 to 6 do not apply to the cycle that is out
  pub out_judged : (c : HeldConfig) → HeldSound d w c → ReadsInside d bs → is_ended c.loader.stage ≡ false → judge_of d c.state (out_of w bs c) (length c.bytes) 0 ≡ 0
  out_judged c z i e = held_judged d w c.loader c.state (length c.bytes) z c.hold bs i e c.hold.step
