-- What a run keeps from cycle to cycle, so that refusals 1 to 6 never apply to the cycle that is out.
use mathlib.Core.Path.{◌≡◌, refl, sym, ap, ◌∙◌, subst}
use mathlib.Core.Bool.{Bool, true, false}
use mathlib.Core.List.{List, []}
use Prim.Native.Nat.{ℕ, zero, suc, ◌+◌, ◌≤◌, ◌<◌}
use native.Mathlib.Omega.{arith}
use lib.ListN.{length}
use lib.Dec.{ltb}
use Rattle.common.proofs.Choice.{if_ind, or_left, or_right, unlike}
use Rattle.device.specs.declared.Part.{Part}
use Rattle.device.specs.declared.Device.{Device}
use Rattle.device.specs.Parts.{unknown_device, size_of, start_of, length_of}
use Rattle.device.proofs.Claims.{blocks_end_inside}
use Rattle.model_types.specs.declared.Pins.{Pins}
use Rattle.model_types.specs.declared.Kind.{Kind}
use Rattle.model_types.specs.declared.Phase.{Phase}
use Rattle.model_types.specs.declared.Phase.TheVariants.{Free, EraseAwaited, DataAwaited, Programming, Erasing, Suspending, Suspended}
use Rattle.model_types.specs.declared.State.{State}
use Rattle.model_types.specs.declared.Cycle.{Cycle}
use Rattle.model_levels.specs.Levels.{rp_low, vpp_low, bad_pins}
use Rattle.model_judge.specs.Judging.{short_residue, judge_of}
use Rattle.model_rules.specs.Cycles.{decide_of}
use Rattle.model_rules.proofs.Facts.{Proper}
use Rattle.model.specs.declared.Seen.{Seen}
use Rattle.model.specs.declared.Seen.TheVariants.{NoData, Data, Refused}
use Rattle.model.specs.Arrays.{answer_of}
use Rattle.model.proofs.Keeping.{cycle_proper}
use Rattle.model.proofs.Contents.{cycle_length}
use Rattle.loader.specs.declared.Stage.{Stage}
use Rattle.loader.specs.declared.Loader.{Loader}
use Rattle.loader_steps.specs.Addresses.{first_address}
use Rattle.loader_steps.specs.Inner.{here_of}
use Rattle.loader_steps.specs.Outs.{address_in, carried_in, cycle_at, cycle_at_stage, cycle_of}
use Rattle.loader_steps.specs.Inner.{reach}
use Rattle.loader_stores.specs.Stores.{store_of}
use Rattle.loader_steps.specs.Front.{barred_pins, no_block, record_of}
use Rattle.loader_steps.proofs.StartAndStep.{some_block, Kept, kept_next}
use Rattle.loader_run.specs.Turns.{Config, loader_by, answer_to, array_to, moved, turn_of, after}
use Rattle.loader.specs.Stages.{is_ended, stage_is}
use Rattle.loader_run.specs.Runs.{run_number, begin}
use Rattle.model_types.specs.Phases.{is_pending, under_way}
use Rattle.loader_run.proofs.UnrefusedRun.{Good, good}
use Rattle.loader_run.proofs.Judging.{unasked, unasked_high, judged, stays_calm}
use Rattle.loader_run.specs.declared.Job.{Job}

-- what a run keeps between two cycles; n is the array's length
pub record Sound (d : Device) (w : List ℕ) (l : Loader) (s : State) (n : ℕ) : Type 0 where
  pub known : unknown_device d ≡ false
  pub sized : n ≡ size_of d.part
  pub same : l.part ≡ d.part
  pub proper : Proper d s
  pub levels : bad_pins d.part l.pins ≡ false
  pub up : rp_low l.pins ≡ false
  pub calm : vpp_low d.part l.pins ≡ true → is_pending s.phase ≡ false
  pub block : no_block d.part l.block ≡ false
  pub wanted : length w ≡ length_of d.part l.block
  pub place : l.place < length w

-- nothing runs where nothing is under way
free_calm : (ph : Phase) → under_way ph ≡ false → is_pending ph ≡ false
free_calm Free e = refl
free_calm EraseAwaited e = refl
free_calm DataAwaited e = refl
free_calm (Programming b) e = absurd (unlike e)
free_calm Erasing e = absurd (unlike e)
free_calm (Suspending n') e = absurd (unlike e)
free_calm Suspended e = absurd (unlike e)

-- it holds at the start of a run that passed its tests
pub sound_good : (j : Job) (array sc : ℕ) (w : List ℕ) → Good j array (length w) sc
    → Sound j.device w (record_of j.work j.device.part j.pins j.block) j.state array
unfolding barred_pins
sound_good j array sc w g =
    record {
      known = g.known;
      sized = g.sized;
      same = refl;
      proper = g.proper;
      levels = or_left (bad_pins j.device.part j.pins) (rp_low j.pins) g.levels;
      up = or_right (bad_pins j.device.part j.pins) (rp_low j.pins) g.levels;
      calm = λ v. free_calm j.state.phase g.free;
      block = g.block;
      wanted = g.wanted;
      place = omega (arith, some_block j.device.part j.block g.block, g.wanted);
    }

pub sound_start : (j : Job) (xs w sc : List ℕ) → run_number j (length xs) (length w) (length sc) ≡ 0
    → Sound j.device w (record_of j.work j.device.part j.pins j.block) j.state (length xs)
sound_start j xs w sc e = sound_good j (length xs) (length sc) w (good j (length xs) (length w) (length sc) e)

-- the cycle that is out has the record's levels and OE# normal, at the block's first address or at the byte's
out_ways : (P : Cycle → Type 0) (l : Loader) (w : List ℕ) (first here n : ℕ) → first < n → here < n → ((kind : Kind) (a b : ℕ) → a < n → P (cycle_at l kind a b))
    → (stage : Stage) → P (cycle_at_stage stage first here l w)
out_ways P l w first here n f h g stage =
    let k = stage_is stage in
    g k.kind (address_in k.here first here) (carried_in k.wanted k.command l.place w) (if_ind (λ (a : ℕ). a < n) k.here here first (λ e. h) (λ e. f))

module _ (d : Device) (w : List ℕ) (l : Loader) (s : State) (n : ℕ) (z : Sound d w l s n) where
  -- the block's bytes are in the array
  in_block : (i : ℕ) → i < length w → start_of d.part l.block + i < size_of d.part
  in_block i h = omega (arith, z.wanted, blocks_end_inside d.part l.block)

  first_inside : first_address l < size_of d.part
  unfolding first_address
  first_inside =
      subst (λ (part : Part). start_of part l.block < size_of d.part) (sym z.same)
      (omega (arith, z.place, in_block l.place z.place))

  here_inside : here_of l < size_of d.part
  unfolding here_of first_address
  here_inside =
      if_ind (λ (a : ℕ). a < size_of d.part) (ltb l.place reach) _ _
      (λ e. subst (λ (part : Part). start_of part l.block + l.place < size_of d.part) (sym z.same) (in_block l.place z.place))
      (λ e. first_inside)

  -- what holds of every cycle with the record's levels at an address in the array holds of the one that is out
  out : (P : Cycle → Type 0) → ((kind : Kind) (a b : ℕ) → a < size_of d.part → P (cycle_at l kind a b)) → P (cycle_of l w)
  out P g = out_ways P l w (first_address l) (here_of l) (size_of d.part) first_inside here_inside g l.stage

  -- no residue is asked for: with VPP low nothing runs
  enough : (kind : Kind) (a b : ℕ) → short_residue d.part s (cycle_at l kind a b) 0 ≡ false
  enough kind a b = go (vpp_low d.part l.pins) refl
    where
      go : (v : Bool) → vpp_low d.part l.pins ≡ v → short_residue d.part s (cycle_at l kind a b) 0 ≡ false
      go true e = unasked d.part s (cycle_at l kind a b) (z.calm e)
      go false e = unasked_high d.part s (cycle_at l kind a b) z.up e

  out_judged : judge_of d s (cycle_of l w) n 0 ≡ 0
  out_judged =
      out (λ (c : Cycle). judge_of d s c n 0 ≡ 0)
      (λ kind a b h. judged d s (cycle_at l kind a b) n z.known z.sized z.proper z.levels refl h (enough kind a b))

  -- with VPP low nothing runs after the cycle either
  out_calm : vpp_low d.part l.pins ≡ true → is_pending (decide_of d s (cycle_of l w) n 0).state.phase ≡ false
  out_calm v =
      out (λ (c : Cycle). is_pending (decide_of d s c n 0).state.phase ≡ false)
      (λ kind a b h. stays_calm d s (cycle_at l kind a b) n 0 v (z.calm v))

-- refusals 1 to 6 do not apply to the cycle that is out
pub sound_judged : (d : Device) (w : List ℕ) (l : Loader) (s : State) (n : ℕ) → Sound d w l s n → is_ended l.stage ≡ false → judge_of d s (cycle_of l w) n 0 ≡ 0
sound_judged d w l s n z e = out_judged d w l s n z

-- an answer taken leaves a record of the same part, block and levels, its place in the block
kept_by : (seen : Seen) (l : Loader) (w sc : List ℕ) → Kept l (length w) (loader_by seen l w sc)
kept_by NoData l w sc = kept_next l w l.stage 0 (store_of l 0 w sc)
kept_by (Data b) l w sc = kept_next l w l.stage b (store_of l b w sc)
kept_by (Refused m) l w sc = record { same = refl; place = λ h. h; polls = λ (q : l.polls ≤ 65534). omega arith }

-- a kept record, a proper state that is calm with VPP low, and an array as long as before are sound again
pub sound_kept : (d : Device) (w : List ℕ) (l r : Loader) (s t : State) (n m : ℕ) → Sound d w l s n → Kept l (length w) r → m ≡ n → Proper d t
    → (vpp_low d.part l.pins ≡ true → is_pending t.phase ≡ false) → Sound d w r t m
sound_kept d w l r s t n m z k e p q =
    let part : r.part ≡ l.part = ap (λ (x : Loader). x.part) k.same in
    let pins : r.pins ≡ l.pins = ap (λ (x : Loader). x.pins) k.same in
    let block : r.block ≡ l.block = ap (λ (x : Loader). x.block) k.same in
    record {
      known = z.known;
      sized = e ∙ z.sized;
      same = part ∙ z.same;
      proper = p;
      levels = ap (λ (x : Pins). bad_pins d.part x) pins ∙ z.levels;
      up = ap (λ (x : Pins). rp_low x) pins ∙ z.up;
      calm = λ v. q (sym (ap (λ (x : Pins). vpp_low d.part x) pins) ∙ v);
      block = ap (λ (x : ℕ). no_block d.part x) block ∙ z.block;
      wanted = z.wanted ∙ sym (ap (λ (x : ℕ). length_of d.part x) block);
      place = k.place z.place;
    }

-- a turn keeps it
pub sound_turn : (d : Device) (w sc xs : List ℕ) (l : Loader) (s : State) → Sound d w l s (length xs) → is_ended l.stage ≡ false
    → Sound d w (loader_by (answer_to d w l s xs).seen l w sc) (answer_to d w l s xs).state (length (array_to d w l s xs))
unfolding answer_to array_to answer_of
sound_turn d w sc xs l s z e =
    sound_kept d w l (loader_by (answer_to d w l s xs).seen l w sc) s (answer_to d w l s xs).state (length xs) (length (array_to d w l s xs)) z
    (kept_by (answer_to d w l s xs).seen l w sc)
    (cycle_length d s (cycle_of l w) xs [])
    (cycle_proper d s (cycle_of l w) (length xs) 0 z.proper)
    (out_calm d w l s (length xs) z)

-- the same of what a cycle was seen to leave
pub sound_next : (d : Device) (w sc xs : List ℕ) (l : Loader) (s : State) → Sound d w l s (length xs) → is_ended l.stage ≡ false → (l' : Loader) (s' : State) (xs' : List ℕ)
    → l' ≡ loader_by (answer_to d w l s xs).seen l w sc → s' ≡ (answer_to d w l s xs).state → xs' ≡ array_to d w l s xs → Sound d w l' s' (length xs')
sound_next d w sc xs l s h e l' s' xs' el es ex =
    subst (λ (x : Loader). Sound d w x s' (length xs')) (sym el)
    (subst (λ (x : State). Sound d w (loader_by (answer_to d w l s xs).seen l w sc) x (length xs')) (sym es)
    (subst (λ (x : List ℕ). Sound d w (loader_by (answer_to d w l s xs).seen l w sc) (answer_to d w l s xs).state (length x)) (sym ex)
    (sound_turn d w sc xs l s h e)))

-- it holds however many turns are made
sound_after : (j : ℕ) (d : Device) (w : List ℕ) (c : Config) → Sound d w c.loader c.state (length c.bytes)
    → Sound d w (after j d w c).loader (after j d w c).state (length (after j d w c).bytes)
unfolding turn_of
sound_after zero d w c h = h
sound_after (suc j) d w c h =
    sound_after j d w (turn_of d w c)
    (if_ind (λ (x : Config). Sound d w x.loader x.state (length x.bytes)) (is_ended c.loader.stage) c (moved d w c) (λ e. h)
    (λ e. sound_turn d w c.scratch c.bytes c.loader c.state h e))

-- so a run meets none of refusals 1 to 6
pub passes_ever : (j : Job) (xs w sc : List ℕ) → run_number j (length xs) (length w) (length sc) ≡ 0 → (i : ℕ)
    → is_ended (after i j.device w (begin j.device j.state (record_of j.work j.device.part j.pins j.block) xs sc)).loader.stage ≡ false
    → judge_of j.device (after i j.device w (begin j.device j.state (record_of j.work j.device.part j.pins j.block) xs sc)).state
    (cycle_of (after i j.device w (begin j.device j.state (record_of j.work j.device.part j.pins j.block) xs sc)).loader w)
    (length (after i j.device w (begin j.device j.state (record_of j.work j.device.part j.pins j.block) xs sc)).bytes) 0
    ≡ 0
passes_ever j xs w sc z i e =
    let c : Config = begin j.device j.state (record_of j.work j.device.part j.pins j.block) xs sc in
    sound_judged j.device w (after i j.device w c).loader (after i j.device w c).state (length (after i j.device w c).bytes) (sound_after i j.device w c (sound_start j xs w sc z)) e
