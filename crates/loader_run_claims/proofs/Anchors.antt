-- Every block of every device has a start; and a count that passes 32 bits.
use mathlib.Core.Path.{◌≡◌, refl, sym, ap, ap₂, ◌∙◌, subst}
use mathlib.Core.Bool.{Bool, true, false}
use mathlib.Core.List.{List}
use Prim.Native.Nat.{ℕ, zero, suc, ◌+◌, ◌*◌, ◌≤◌, ◌<◌}
use native.Mathlib.Omega.{arith}
use lib.ListN.{length, get_or, replicate, length-replicate, get_or-replicate}
use lib.Dec.{eqb}
use borrow.Author.Tests.{ne_eqb}
use Rattle.common.proofs.Choice.{if_false}
use Rattle.device.specs.Parts.{row_of, in_words, shape_of, size_in, length_in, is_large, unknown_part, unknown_device, size_of, length_of}
use Rattle.std.specs.Prelude.{if◌then◌else◌}
use Rattle.device.specs.declared.Part.{Part}
use Rattle.device.specs.declared.Device.{Device}
use Rattle.units.specs.Units.{lent_in, top}
use Rattle.model_types.specs.Cells.{ones}
use Rattle.loader_walk.specs.Walks.{rises_in}
use Rattle.model_levels.specs.Levels.{vpp_low, at_twelve, at_five, vpp_high, bad_wp, bad_pins, unlocked}
use Rattle.model_states.specs.States.{proper, improper}
use Rattle.loader_steps.specs.Front.{barred_pins, no_block, wrong_lengths}
use Rattle.loader_run_claims.specs.Wear.{differing, erases_of, programs_in, formula}
use Rattle.loader_run_claims.specs.Anchors.{all_start}
use Rattle.loader_run.specs.Runs.{run_first}

pub all_start_lem : all_start ≡ true
unfolding row_of in_words shape_of size_in length_in is_large unknown_part unknown_device size_of length_of lent_in vpp_low at_twelve at_five vpp_high bad_wp bad_pins unlocked proper improper barred_pins no_block wrong_lengths run_first
all_start_lem = refl

-- n places that all differ are n
all_differ : (n i : ℕ) (w s : List ℕ) → ((j : ℕ) → j < n → get_or s (i + j) 0 ≡ get_or w (i + j) 0 → ⊥) → differing n i w s ≡ n
all_differ zero i w s h = refl
all_differ (suc n) i w s h =
    let first : get_or s i 0 ≡ get_or w i 0 → ⊥ = subst (λ (m : ℕ). get_or s m 0 ≡ get_or w m 0 → ⊥) (let q : i + 0 ≡ i = omega arith in q) (h 0 (omega arith)) in
    let more : differing n (i + 1) w s ≡ n = all_differ n (i + 1) w s (λ j l. subst (λ (m : ℕ). get_or s m 0 ≡ get_or w m 0 → ⊥) (let q : i + suc j ≡ i + 1 + j = omega arith in q) (h (suc j) (omega arith))) in
    ap (λ (x : ℕ). x + differing n (i + 1) w s) (if_false (eqb (get_or s i 0) (get_or w i 0)) 0 1 (ne_eqb (get_or s i 0) (get_or w i 0) first)) ∙ ap (λ (x : ℕ). 1 + x) more ∙ (let z : 1 + n ≡ suc n = omega arith in z)

-- n units that hold ones, to be programmed to zeros
all_programmed : (n ones : ℕ) → 0 < ones → differing n 0 (replicate n 0) (replicate n ones) ≡ n
all_programmed n ones h =
    all_differ n 0 (replicate n 0) (replicate n ones)
    (λ j l e. let z : 0 + j ≡ j = omega arith in
    let s : get_or (replicate n ones) (0 + j) 0 ≡ ones = ap (λ (m : ℕ). get_or (replicate n ones) m 0) z ∙ get_or-replicate n j ones 0 l in
    let w : get_or (replicate {A = ℕ} n 0) (0 + j) 0 ≡ 0 = ap (λ (m : ℕ). get_or (replicate {A = ℕ} n 0) m 0) z ∙ get_or-replicate n j 0 0 l in
    let y : ones ≡ 0 = sym s ∙ e ∙ w in omega arith)

some_ones : (part : Part) → 0 < ones part
unfolding ones
some_ones part = go part.word
  where
    go : (w : Bool) → 0 < top w
    go false = omega arith
    go true = omega arith

module _ (d : Device) (n : ℕ) where
  abbrev zeros : List ℕ
  zeros = replicate {A = ℕ} n 0

  abbrev blank : List ℕ
  blank = replicate n (ones d.part)

  base : (t : Bool) → (if t then replicate (length zeros) (ones d.part) else blank) ≡ blank
  base true = ap (λ (m : ℕ). replicate m (ones d.part)) (length-replicate {A = ℕ} n 0)
  base false = refl

  every : programs_in d.part zeros blank ≡ n
  every =
      ap₂ (λ (m : ℕ) (z : List ℕ). differing m 0 zeros z) (length-replicate {A = ℕ} n 0) (base (rises_in zeros blank))
      ∙ all_programmed n (ones d.part) (some_ones d.part)

  many : (p e : ℕ) → p ≡ n → d.program ≡ 65535 → 65536 ≤ n → 4294967296 < 2 * length zeros + 3 + e * (2 + d.erase) + p * (2 + d.program)
  many p e q t h =
      let z : p * (2 + d.program) ≡ n * 65537 = ap₂ (λ (x y : ℕ). x * (2 + y)) q t in
      omega arith

  -- 65,536 units or more, each programmed in 65,535 cycles: the count passes 32 bits in either mode
  pub passes_32_bits : d.program ≡ 65535 → 65536 ≤ n → 4294967296 < formula d (replicate n 0) (replicate n (ones d.part))
  passes_32_bits t h = many (programs_in d.part zeros blank) (erases_of zeros blank) every t h
