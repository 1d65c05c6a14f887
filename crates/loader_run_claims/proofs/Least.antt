-- Least wear: no uncut cycles from the same start to the same block contents begin fewer erases of the block or fewer programs
-- in it.
use mathlib.Core.Path.{◌≡◌, refl, sym, ap, ◌∙◌, subst}
use mathlib.Core.Bool.{Bool, true, false, not}
use mathlib.Core.List.{List}
use Prim.Native.Nat.{ℕ, zero, suc, ◌+◌, ◌≤◌, ◌<◌}
use native.Mathlib.Omega.{arith}
use lib.ListN.{length, get_or, drop, replicate, get_or-replicate}
use lib.Seq.{get_or-take, get_or-drop}
use lib.Bits.{bit_and, and_comm}
use lib.Dec.{eqb}
use borrow.Author.Tests.{eqb-true, eqb-false, eq-eqb, not-false}
use Rattle.model_types.specs.Cells.{ones, Cells}
use Rattle.model_types.proofs.Ones.{and_ones}
use Rattle.std.specs.Prelude.{if◌then◌else◌}
use Rattle.common.proofs.Choice.{if_true, if_false, or_both, or_left, or_right, unlike}
use Rattle.device.specs.declared.Device.{Device}
use Rattle.device.specs.Parts.{size_of, start_of, length_of, block_of}
use Rattle.device.proofs.Claims.{blocks_end_inside}
use Rattle.model_types.specs.declared.Phase.{Phase}
use Rattle.model_types.specs.declared.Phase.TheVariants.{Free, EraseAwaited, DataAwaited, Programming, Erasing, Suspending, Suspended}
use Rattle.model_types.specs.declared.Effect.{Effect}
use Rattle.model_types.specs.declared.Effect.TheVariants.{Nothing}
use Rattle.model.specs.Begun.{pending_in, pending_of}
use Rattle.loader_walk.specs.Walks.{must_rise, rises, rises_in}
use Rattle.model_types.specs.Phases.{under_way}
use Rattle.loader_run_claims.specs.Wear.{held_in, base_of, erases_of, programs_in, differing}
use Rattle.model_history.specs.History.{Bus, World, world_after, effects_in, begun_over, uncut, total_of, erase_of, program_at, program_in}
use Rattle.model_history.proofs.Wearing.{lies, byte_all, bytes_after, only_loses, unprogrammed, total_more, ended_begun}

-- no bit must rise where every byte held keeps the bits wanted
none_rises : (n i : ℕ) (w s : List ℕ) → ((j : ℕ) → i ≤ j → j < i + n → bit_and (get_or s j 0) (get_or w j 0) ≡ get_or w j 0) → rises n i w s ≡ false
none_rises zero i w s h = refl
none_rises (suc n) i w s h =
    or_both (must_rise (get_or s i 0) (get_or w i 0)) (rises n (i + 1) w s)
    (ap not (eq-eqb (bit_and (get_or s i 0) (get_or w i 0)) (get_or w i 0) (h i (omega arith) (omega arith)))) (none_rises n (i + 1) w s (λ j p q. h j (omega arith) (omega arith)))

-- a bit that must rise somewhere makes a bit of the block rise
some_rises : (n i : ℕ) (w s : List ℕ) (j : ℕ) → i ≤ j → j < i + n → rises n i w s ≡ false → must_rise (get_or s j 0) (get_or w j 0) ≡ false
some_rises zero i w s j p q e = absurd (let z : j < j = omega arith in omega arith)
some_rises (suc n) i w s j p q e = go (eqb i j) refl (some_rises n (i + 1) w s j)
  where
    go : (b : Bool) → eqb i j ≡ b → (i + 1 ≤ j → j < i + 1 + n → rises n (i + 1) w s ≡ false → must_rise (get_or s j 0) (get_or w j 0) ≡ false) → must_rise (get_or s j 0) (get_or w j 0) ≡ false
    go true b more =
        subst (λ (m : ℕ). must_rise (get_or s m 0) (get_or w m 0) ≡ false) (eqb-true i j b) (or_left (must_rise (get_or s i 0) (get_or w i 0)) (rises n (i + 1) w s) e)
    go false b more =
        let z = eqb-false i j b in
        more (omega arith) (omega arith) (or_right (must_rise (get_or s i 0) (get_or w i 0)) (rises n (i + 1) w s) e)

-- places that differ need a program each
needed : (es : List Effect) (a n i : ℕ) (w s : List ℕ) → ((j : ℕ) → i ≤ j → j < i + n → (get_or s j 0 ≡ get_or w j 0 → ⊥) → 0 < total_of (program_at (a + j)) es)
    → differing n i w s ≤ total_of (program_in (a + i) n) es
needed es a zero i w s h = omega arith
needed es a (suc n) i w s h = go (eqb (get_or s i 0) (get_or w i 0)) refl (needed es a n (i + 1) w s (λ j p q. h j (omega arith) (omega arith)))
  where
    split : total_of (program_in (a + i) (suc n)) es ≡ total_of (program_at (a + i)) es + total_of (program_in (a + (i + 1)) n) es
    split =
        ap (λ (m : ℕ). total_of (program_in (a + i) m) es) (let z : suc n ≡ n + 1 = omega arith in z) ∙ total_more es (a + i) n
        ∙ ap (λ (m : ℕ). total_of (program_at (a + i)) es + total_of (program_in m n) es) (let z : a + i + 1 ≡ a + (i + 1) = omega arith in z)

    go : (b : Bool) → eqb (get_or s i 0) (get_or w i 0) ≡ b → differing n (i + 1) w s ≤ total_of (program_in (a + (i + 1)) n) es
        → (if eqb (get_or s i 0) (get_or w i 0) then 0 else 1) + differing n (i + 1) w s ≤ total_of (program_in (a + i) (suc n)) es
    go true b more = rw (b, split) (omega arith)
    go false b more = rw (b, split) (let z = h i (omega arith) (omega arith) (eqb-false (get_or s i 0) (get_or w i 0) b) in omega arith)

-- with nothing under way nothing is pending
nothing_pending : (f : Effect → ℕ) → f Nothing ≡ 0 → (d : Device) (v : World) → under_way v.state.phase ≡ false → f (pending_of d.part v.state) ≡ 0
nothing_pending f z d v u = ap f (free v.state.phase u) ∙ z
  where
    free : (ph : Phase) → under_way ph ≡ false → pending_in ph d.part v.state.address ≡ Nothing
    free Free e = refl
    free EraseAwaited e = refl
    free DataAwaited e = refl
    free (Programming b) e = absurd (unlike e)
    free Erasing e = absurd (unlike e)
    free (Suspending n') e = absurd (unlike e)
    free Suspended e = absurd (unlike e)

module _ (d : Device) (k : ℕ) (v : World) (w : List ℕ) (bs : List Bus) (lx : length v.bytes ≡ size_of d.part) (lw : length w ≡ length_of d.part k) (bx : Cells d.part v.bytes)
    (free : under_way v.state.phase ≡ false) (clean : uncut (effects_in d v bs) ≡ true)
    (reached : held_in (start_of d.part k) (length w) (world_after d v bs).bytes ≡ w) where
  abbrev a : ℕ
  a = start_of d.part k

  abbrev ys : List ℕ
  ys = held_in (start_of d.part k) (length w) v.bytes

  abbrev es : List Effect
  es = effects_in d v bs

  held : (xs : List ℕ) (i : ℕ) → i < length w → get_or (held_in a (length w) xs) i 0 ≡ get_or xs (a + i) 0
  held xs i h = get_or-take (length w) (drop a xs) i 0 h ∙ get_or-drop a xs i 0

  -- every byte of the block came from what was held by the effects
  came : (i : ℕ) → i < length w → get_or w i 0 ≡ byte_all d.part (a + i) es (get_or ys i 0)
  came i h =
      ap (λ (z : List ℕ). get_or z i 0) (sym reached) ∙ held (world_after d v bs).bytes i h
      ∙ bytes_after bs d v (a + i) lx (omega (arith, blocks_end_inside d.part k)) clean
      ∙ ap (λ (y : ℕ). byte_all d.part (a + i) es y) (sym (held v.bytes i h))

  home : (i : ℕ) → i < length w → block_of d.part (a + i) ≡ k
  home i h = lies d.part k (a + i) (omega arith) (omega arith)

  loses : total_of (erase_of k) es ≡ 0 → (i : ℕ) → i < length w → bit_and (get_or ys i 0) (get_or w i 0) ≡ get_or w i 0
  loses z i h =
      ap (λ (y : ℕ). bit_and (get_or ys i 0) y) (came i h)
      ∙ only_loses es d.part (a + i) (get_or ys i 0) (ap (λ (j : ℕ). total_of (erase_of j) es) (home i h) ∙ z)
      ∙ sym (came i h)

  erased_once : erases_of w ys ≤ total_of (erase_of k) es
  unfolding rises_in
  erased_once = go (eqb (total_of (erase_of k) es) 0) refl
    where
      go : (b : Bool) → eqb (total_of (erase_of k) es) 0 ≡ b → erases_of w ys ≤ total_of (erase_of k) es
      go true e = rw (none_rises (length w) 0 w ys (λ j p q. loses (eqb-true _ _ e) j (omega arith))) (omega arith)
      go false e = let z = eqb-false (total_of (erase_of k) es) 0 e in some (total_of (erase_of k) es) z (rises (length w) 0 w ys)
        where
          some : (n : ℕ) → (n ≡ 0 → ⊥) → (t : Bool) → (if t then 1 else 0) ≤ n
          some zero z t = absurd (z refl)
          some (suc n) z true = omega arith
          some (suc n) z false = omega arith

  -- a byte that no program touched is as held, or all ones
  rests : (i : ℕ) → i < length w → total_of (program_at (a + i)) es ≡ 0 → get_or w i 0 ≡ (if eqb (total_of (erase_of k) es) 0 then get_or ys i 0 else (ones d.part))
  rests i h z =
      came i h ∙ unprogrammed es d.part (a + i) (get_or ys i 0) z ∙ ap (λ (j : ℕ). (if eqb (total_of (erase_of j) es) 0 then get_or ys i 0 else (ones d.part))) (home i h)

  -- a place where the base of the programs differs is programmed
  programmed : (i : ℕ) → i < length w → (get_or (base_of d.part w ys) i 0 ≡ get_or w i 0 → ⊥) → 0 < total_of (program_at (a + i)) es
  unfolding rises_in
  programmed i h ne = positive (total_of (program_at (a + i)) es) (λ z. ne (clash z (eqb (total_of (erase_of k) es) 0) refl (rises (length w) 0 w ys) refl))
    where
      positive : (n : ℕ) → (n ≡ 0 → ⊥) → 0 < n
      positive zero z = absurd (z refl)
      positive (suc n) z = omega arith

      clash : total_of (program_at (a + i)) es ≡ 0 → (b : Bool) → eqb (total_of (erase_of k) es) 0 ≡ b → (t : Bool) → rises (length w) 0 w ys ≡ t → get_or (base_of d.part w ys) i 0 ≡ get_or w i 0
      clash z true e true t = absurd (let q = none_rises (length w) 0 w ys (λ j p r. loses (eqb-true _ _ e) j (omega arith)) in unlike (sym t ∙ q))
      clash z true e false t = ap (λ (y : List ℕ). get_or y i 0) (if_false (rises (length w) 0 w ys) (replicate (length w) (ones d.part)) ys t) ∙ sym (rests i h z ∙ if_true (eqb (total_of (erase_of k) es) 0) (get_or ys i 0) (ones d.part) e)
      clash z false e true t =
          ap (λ (y : List ℕ). get_or y i 0) (if_true (rises (length w) 0 w ys) (replicate (length w) (ones d.part)) ys t) ∙ get_or-replicate (length w) i (ones d.part) 0 h
          ∙ sym (rests i h z ∙ if_false (eqb (total_of (erase_of k) es) 0) (get_or ys i 0) (ones d.part) e)
      clash z false e false t =
          let f : get_or w i 0 ≡ (ones d.part) = rests i h z ∙ if_false (eqb (total_of (erase_of k) es) 0) (get_or ys i 0) (ones d.part) e in
          let m : must_rise (get_or ys i 0) (get_or w i 0) ≡ false = some_rises (length w) 0 w ys i (omega arith) (omega arith) t in
          let c : bit_and (get_or ys i 0) (get_or w i 0) ≡ get_or w i 0 = eqb-true _ _ (not-false (eqb (bit_and (get_or ys i 0) (get_or w i 0)) (get_or w i 0)) m) in
          let y : bit_and (get_or ys i 0) (ones d.part) ≡ get_or ys i 0 = and_comm (get_or ys i 0) (ones d.part) ∙ and_ones d.part (get_or ys i 0) (small i h) in
          ap (λ (u : List ℕ). get_or u i 0) (if_false (rises (length w) 0 w ys) (replicate (length w) (ones d.part)) ys t) ∙ sym y ∙ ap (λ (x : ℕ). bit_and (get_or ys i 0) x) (sym f) ∙ c
        where
          small : (i : ℕ) → i < length w → get_or ys i 0 ≤ (ones d.part)
          small i h = subst (λ (x : ℕ). x ≤ (ones d.part)) (sym (held v.bytes i h)) (bx (a + i))

  -- both bounds at once, on what the cycles begin
  pub least : (erases_of w ys ≤ total_of (erase_of k) (begun_over d v bs)) × (programs_in d.part w ys ≤ total_of (program_in a (length w)) (begun_over d v bs))
  least =
      let e = ended_begun (erase_of k) refl bs d v clean in
      let ez = nothing_pending (erase_of k) refl d v free in
      let p = ended_begun (program_in a (length w)) refl bs d v clean in
      let pz = nothing_pending (program_in a (length w)) refl d v free in
      let n : programs_in d.part w ys ≤ total_of (program_in (a + 0) (length w)) es = needed es a (length w) 0 w (base_of d.part w ys) (λ j lo hi. programmed j (omega arith)) in
      let s : total_of (program_in (a + 0) (length w)) es ≡ total_of (program_in a (length w)) es = ap (λ (m : ℕ). total_of (program_in m (length w)) es) (let z : a + 0 ≡ a = omega arith in z) in
      let o = erased_once in
      (omega arith, omega arith)
