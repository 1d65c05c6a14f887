-- The array under an effect: it keeps its length, and its cells stay cells.
use mathlib.Core.Path.{◌≡◌, refl, sym, subst}
use mathlib.Core.Bool.{Bool, true, false}
use mathlib.Core.List.{List, ◌++◌}
use Prim.Native.Nat.{ℕ, ◌+◌, ◌-◌, ◌≤◌}
use native.Mathlib.Omega.{arith}
use lib.ListN.{length, get_or, take, drop, set, replicate, length-set, length-take, length-replicate, get_or-replicate, get_or-append, get_or-eq_default}
use lib.Seq.{length-take-le, get_or-append-add, get_or-take, get_or-drop, get_or-set_same, get_or-set_other, set_out}
use lib.Dec.{ltb, eqb}
use borrow.Author.Tests.{ltb-true, ltb-false, eqb-true, eqb-false}
use lib.Bits.{bit_and, bit_or, and_le_l}
use Rattle.model_types.specs.Cells.{ones, Cells}
use Rattle.common.specs.Lists.{overlaid}
use Rattle.common.proofs.Bytes.{overlaid_length}
use Rattle.device.specs.declared.Part.{Part}
use Rattle.device.specs.declared.Device.{Device}
use Rattle.device.specs.Parts.{start_of, length_of}
use Rattle.device.proofs.Claims.{blocks_end_inside}
use Rattle.model_types.specs.declared.Effect.{Effect}
use Rattle.model_types.specs.declared.Effect.TheVariants.{Nothing, Program, Erase, CutProgram, CutErase}
use Rattle.model_types.specs.declared.State.{State}
use Rattle.model_types.specs.declared.Cycle.{Cycle}
use Rattle.model_rules.specs.Cycles.{decide_of}
use Rattle.model.specs.Arrays.{erased, residual, array_of, array_after}
use Rattle.model.specs.Inner.{Within}
use Rattle.model.proofs.Reach.{within}

-- what keeps every element of a list at most m
abbrev AtMost : ℕ → List ℕ → Type 0
AtMost m xs = (i : ℕ) → get_or xs i 0 ≤ m

module _ (m : ℕ) where
  most_append : (xs ys : List ℕ) → AtMost m xs → AtMost m ys → AtMost m (xs ++ ys)
  most_append xs ys p q i = go (ltb i (length xs)) refl
    where
      go : (b : Bool) → ltb i (length xs) ≡ b → get_or (xs ++ ys) i 0 ≤ m
      go true e = rw (get_or-append xs ys 0 i (ltb-true _ _ e)) (p i)
      go false e =
          let h : length xs ≤ i = ltb-false _ _ e in
          let k : i ≡ length xs + (i - length xs) = omega arith in
          subst (λ (j : ℕ). get_or (xs ++ ys) j 0 ≤ m) (sym k) (rw (get_or-append-add xs ys (i - length xs) 0) (q (i - length xs)))

  most_take : (n : ℕ) (xs : List ℕ) → AtMost m xs → AtMost m (take n xs)
  most_take n xs p i = go (ltb i n) refl
    where
      go : (b : Bool) → ltb i n ≡ b → get_or (take n xs) i 0 ≤ m
      go true e = rw (get_or-take n xs i 0 (ltb-true _ _ e)) (p i)
      go false e =
          let h : n ≤ i = ltb-false _ _ e in
          rw (get_or-eq_default (take n xs) 0 {n = i} (rw (length-take n xs) (omega arith))) (omega arith)

  most_drop : (n : ℕ) (xs : List ℕ) → AtMost m xs → AtMost m (drop n xs)
  most_drop n xs p i = rw (get_or-drop n xs i 0) (p (n + i))

  most_replicate : (n : ℕ) → AtMost m (replicate n m)
  most_replicate n i = go (ltb i n) refl
    where
      go : (t : Bool) → ltb i n ≡ t → get_or (replicate n m) i 0 ≤ m
      go true e = rw (get_or-replicate n i m 0 (ltb-true _ _ e)) (omega arith)
      go false e = rw (get_or-eq_default (replicate n m) 0 {n = i} (rw (length-replicate n m) (ltb-false _ _ e))) (omega arith)

  most_set : (xs : List ℕ) (a v : ℕ) → AtMost m xs → v ≤ m → AtMost m (set xs a v)
  most_set xs a v p h i = go (eqb i a) refl (ltb a (length xs)) refl
    where
      go : (b : Bool) → eqb i a ≡ b → (t : Bool) → ltb a (length xs) ≡ t → get_or (set xs a v) i 0 ≤ m
      go true e true l = subst (λ (j : ℕ). get_or (set xs a v) j 0 ≤ m) (sym (eqb-true i a e)) (rw (get_or-set_same xs a v 0 (ltb-true _ _ l)) h)
      go true e false l = rw (set_out xs a v (ltb-false _ _ l)) (p i)
      go false e t l = rw (get_or-set_other xs a i v 0 (eqb-false i a e)) (p i)

  most_overlaid : (xs : List ℕ) (a : ℕ) (ys : List ℕ) → AtMost m xs → AtMost m ys → AtMost m (overlaid xs a ys)
  most_overlaid xs a ys p q =
      most_append (take a xs) (ys ++ drop (length ys) (drop a xs)) (most_take a xs p)
      (most_append ys (drop (length ys) (drop a xs)) q (most_drop (length ys) (drop a xs) (most_drop a xs p)))

pub effect_length : (e : Effect) (part : Part) (rs xs : List ℕ) → Within e part (length xs) (length rs) → length (array_of e part rs xs) ≡ length xs
unfolding erased residual
effect_length Nothing part rs xs w = refl
effect_length (Program a b) part rs xs w = length-set xs a (bit_and (get_or xs a 0) b)
effect_length (Erase k) part rs xs w =
    overlaid_length xs (start_of part k) (replicate (length_of part k) (ones part)) (rw (length-replicate (length_of part k) (ones part), w) (blocks_end_inside part k))
effect_length (CutProgram a b) part rs xs w = length-set xs a (bit_and (get_or xs a 0) (bit_or b (get_or rs 0 0)))
effect_length (CutErase k) part rs xs w =
    overlaid_length xs (start_of part k) (take (length_of part k) rs) (rw (length-take-le (length_of part k) rs w.1, w.0) (blocks_end_inside part k))

pub effect_cells : (e : Effect) (part : Part) (rs xs : List ℕ) → Cells part rs → Cells part xs → Cells part (array_of e part rs xs)
unfolding erased residual
effect_cells Nothing part rs xs r x = x
effect_cells (Program a b) part rs xs r x = most_set (ones part) xs a (bit_and (get_or xs a 0) b) x (omega (arith, and_le_l (get_or xs a 0) b, x a))
effect_cells (Erase k) part rs xs r x =
    most_overlaid (ones part) xs (start_of part k) (replicate (length_of part k) (ones part)) x (most_replicate (ones part) (length_of part k))
effect_cells (CutProgram a b) part rs xs r x =
    most_set (ones part) xs a (bit_and (get_or xs a 0) (bit_or b (get_or rs 0 0))) x (omega (arith, and_le_l (get_or xs a 0) (bit_or b (get_or rs 0 0)), x a))
effect_cells (CutErase k) part rs xs r x = most_overlaid (ones part) xs (start_of part k) (take (length_of part k) rs) x (most_take (ones part) (length_of part k) rs r)

-- whatever the cycle
pub cycle_length : (d : Device) (s : State) (c : Cycle) (xs rs : List ℕ) → length (array_after d s c xs rs) ≡ length xs
unfolding array_after
cycle_length d s c xs rs = effect_length (decide_of d s c (length xs) (length rs)).effect d.part rs xs (within d s c (length xs) (length rs))

pub cycle_cells : (d : Device) (s : State) (c : Cycle) (xs rs : List ℕ) → Cells d.part rs → Cells d.part xs → Cells d.part (array_after d s c xs rs)
unfolding array_after
cycle_cells d s c xs rs r x = effect_cells (decide_of d s c (length xs) (length rs)).effect d.part rs xs r x
