-- An idle cycle does the same at every address and with any data.
use mathlib.Core.Path.{◌≡◌, refl, sym, ap, ◌∙◌}
use mathlib.Core.Bool.{not, ◌&&◌}
use mathlib.Core.List.{List, [], ◌∷◌}
use Prim.Native.Nat.{ℕ}
use lib.ListN.{length}
use lib.Dec.{leb}
use Rattle.common.proofs.Choice.{and_none}
use Rattle.common.specs.Numbers.{given}
use Rattle.device.specs.declared.Device.{Device}
use Rattle.device.specs.Parts.{size_of}
use Rattle.model_types.specs.declared.Kind.{Kind}
use Rattle.model_types.specs.declared.Kind.TheVariants.{Read, Write, Idle}
use Rattle.model_types.specs.declared.Cycle.{Cycle}
use Rattle.model_types.specs.declared.Decision.{Decision}
use Rattle.model_types.specs.declared.State.{State}
use Rattle.model_types.specs.declared.Settled.{Settled}
use Rattle.model_operation.specs.Settling.{settle_of}
use Rattle.model_levels.specs.Levels.{bad_levels, rp_low}
use Rattle.model_judge.specs.Judging.{past_array, short_residue}
use Rattle.model_rules.specs.Cycles.{no_command, suspended_read, no_identifier, table_of, number_of, accept_of, decide_of}
use Rattle.model.specs.Arrays.{array_of, seen_of, answer_of, array_after}
use Rattle.model_history.specs.History.{Bus, World, world_of, stepped, world_after, seen_on, seen_in}
use Rattle.model_sheet.specs.Sheet.{bare_of, all_bare}

module _ (d : Device) (c : Cycle) (idle : c.kind ≡ Idle) where
  abbrev o : Cycle
  o = bare_of Idle c

  table : (s : State) (n r : ℕ) → table_of d s o n r ≡ table_of d s c n r
  unfolding bad_levels past_array short_residue no_command suspended_read no_identifier
  table s n r = simp (idle, and_none (leb (size_of d.part) 0 && not (rp_low c.pins)), and_none (leb (size_of d.part) c.address && not (rp_low c.pins)))

  number : (s : State) (n r : ℕ) → number_of d s o n r ≡ number_of d s c n r
  unfolding number_of
  number s n r = ap given (table s n r)

  accept : (t : Settled) → accept_of d o t ≡ accept_of d c t
  unfolding accept_of
  accept t = rw idle refl

  decide : (s : State) (n r : ℕ) → decide_of d s o n r ≡ decide_of d s c n r
  unfolding decide_of
  decide s n r = rw (number s n r, accept (settle_of d.part s c.pins)) refl

-- one cycle
same : (d : Device) (s : State) (c : Cycle) (k : Kind) → c.kind ≡ k → (n r : ℕ) → decide_of d s (bare_of k c) n r ≡ decide_of d s c n r
same d s c Read e n r = refl
same d s c Write e n r = refl
same d s c Idle e n r = decide d c e s n r

step_same : (d : Device) (v : World) (b : Bus) → stepped d v (record { cycle = bare_of b.cycle.kind b.cycle; residue = b.residue }) ≡ stepped d v b
unfolding answer_of array_after
step_same d v b =
    ap (λ (x : Decision). world_of x.state (array_of x.effect d.part b.residue v.bytes))
    (same d v.state b.cycle b.cycle.kind refl (length v.bytes) (length b.residue))

seen_same : (d : Device) (v : World) (b : Bus) → seen_on d v (record { cycle = bare_of b.cycle.kind b.cycle; residue = b.residue }) ≡ seen_on d v b
unfolding answer_of array_after
seen_same d v b =
    ap (λ (x : Decision). seen_of x.reply (array_of x.effect d.part b.residue v.bytes))
    (same d v.state b.cycle b.cycle.kind refl (length v.bytes) (length b.residue))

-- any cycles
leads : (d : Device) (v : World) (bs : List Bus) → world_after d v (all_bare bs) ≡ world_after d v bs
leads d v [] = refl
leads d v (b ∷ bs) = ap (λ (w : World). world_after d w (all_bare bs)) (step_same d v b) ∙ leads d (stepped d v b) bs

shows : (d : Device) (v : World) (bs : List Bus) → seen_in d v (all_bare bs) ≡ seen_in d v bs
shows d v [] = refl
shows d v (b ∷ bs) =
    let rest : seen_in d (stepped d v (record { cycle = bare_of b.cycle.kind b.cycle; residue = b.residue })) (all_bare bs) ≡ seen_in d (stepped d v b) bs =
    ap (λ (w : World). seen_in d w (all_bare bs)) (step_same d v b) ∙ shows d (stepped d v b) bs in
    λ i. seen_same d v b i ∷ rest i

pub alike : (d : Device) (v : World) (bs cs : List Bus) → all_bare bs ≡ all_bare cs → (world_after d v bs ≡ world_after d v cs) × (seen_in d v bs ≡ seen_in d v cs)
alike d v bs cs e = (
  sym (leads d v bs) ∙ ap (world_after d v) e ∙ leads d v cs,
  sym (shows d v bs) ∙ ap (seen_in d v) e ∙ shows d v cs,
)
