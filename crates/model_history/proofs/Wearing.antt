-- One byte under a list of effects, and what that costs at least.
use mathlib.Core.Path.{◌≡◌, refl, sym, ap, ◌∙◌, subst}
use mathlib.Core.Bool.{Bool, true, false, not}
use mathlib.Core.List.{List, [], ◌∷◌}
use Prim.Native.Nat.{ℕ, ◌+◌, ◌-◌, ◌*◌, ◌/◌, ◌%◌, ◌≤◌, ◌<◌, min}
use native.Mathlib.Nat.{lt_of_le_of_lt, min-le_left, mod-lt, zero-lt-suc}
use native.Mathlib.Omega.{arith}
use lib.Arith.{bin_ind}
use lib.Pow.{low}
use lib.ListN.{length, get_or, set, replicate, length-replicate, get_or-replicate}
use lib.Seq.{get_or-set_same, get_or-set_other}
use lib.Bits.{bit_and, and_self, and_step, and_shr}
use lib.Dec.{eqb, ltb}
use borrow.Author.Tests.{eqb-true, eqb-false, ne_eqb, ltb-true, ltb-false, lt-ltb, le-ltb, not-true}
use Rattle.model_types.specs.Cells.{ones}
use Rattle.std.specs.Prelude.{if◌then◌else◌}
use Rattle.common.proofs.Choice.{if_true, if_false, if_same, and_left, and_right, unlike}
use Rattle.common.specs.Lists.{overlaid}
use Rattle.common.proofs.Bytes.{overlaid_in, overlaid_before, overlaid_after}
use Rattle.device.specs.declared.Part.{Part}
use Rattle.device.specs.declared.Device.{Device}
use Rattle.device.specs.Parts.{size_of, start_of, length_of, block_of, shape_of, Holds}
use Rattle.device.proofs.Claims.{blocks_end_inside, blocks_apart, blocks_cover}
use Rattle.model_types.specs.declared.Effect.{Effect}
use Rattle.model_types.specs.declared.Effect.TheVariants.{Nothing, Program, Erase, CutProgram, CutErase}
use Rattle.model.specs.Arrays.{erased, array_of, array_after, answer_of}
use Rattle.model.specs.Inner.{Within}
use Rattle.model.specs.Begun.{operation_of, pending_of, begun_by}
use Rattle.model.proofs.Reach.{within}
use Rattle.model.proofs.Contents.{cycle_length}
use Rattle.model.proofs.Lives.{conserved}
use Rattle.model_history.specs.History.{Bus, World, stepped, world_after, effect_by, effects_in, begun_over, is_cut, uncut, total_of, erase_of, program_at, program_in}

-- what an uncut effect makes of the byte v at address x
abbrev pub byte_by : Part → ℕ → Effect → ℕ → ℕ
byte_by part x Nothing v = v
byte_by part x (Program at b) v = if eqb at x then bit_and v b else v
byte_by part x (Erase j) v = if eqb j (block_of part x) then (ones part) else v
byte_by part x (CutProgram at b) v = v
byte_by part x (CutErase j) v = v

abbrev pub byte_all : Part → ℕ → List Effect → ℕ → ℕ
byte_all part x [] v = v
byte_all part x (e ∷ es) v = byte_all part x es (byte_by part x e v)

-- an address lies in its own block, and in no other
pub lies : (part : Part) (j x : ℕ) → start_of part j ≤ x → x < start_of part j + length_of part j → block_of part x ≡ j
unfolding start_of length_of
lies part j x f t = blocks_apart part j x (record { from = f; to = t })

holds : (part : Part) (j x : ℕ) → x < size_of part → j ≡ block_of part x → (start_of part j ≤ x) × (x < start_of part j + length_of part j)
unfolding start_of length_of
holds part j x h e =
    let q : Holds (shape_of part) j x = subst (λ (i : ℕ). Holds (shape_of part) i x) (sym e) (blocks_cover part x h) in
    (q.from, q.to)

-- an erase as one byte sees it
erase_byte : (part : Part) (j x : ℕ) (xs : List ℕ) → length xs ≡ size_of part → x < size_of part → get_or (erased part j xs) x 0 ≡ (if eqb j (block_of part x) then (ones part) else get_or xs x 0)
unfolding erased
erase_byte part j x xs lx hx = go (eqb j (block_of part x)) refl
  where
    s : ℕ
    s = start_of part j

    n : ℕ
    n = length_of part j

    R : List ℕ
    R = replicate n (ones part)

    fit : s + length R ≤ length xs
    fit = omega (arith, length-replicate {A = ℕ} n (ones part), blocks_end_inside part j)

    away : eqb j (block_of part x) ≡ false → (t : Bool) → ltb x s ≡ t → get_or (overlaid xs s R) x 0 ≡ get_or xs x 0
    away e true t = overlaid_before xs s R fit x (ltb-true _ _ t)
    away e false t =
        let f : s ≤ x = ltb-false _ _ t in
        let o : s + n ≤ x = outside part j x f (eqb-false _ _ e) in
        let l = length-replicate {A = ℕ} n (ones part) in
        let q : s + (length R + (x - s - n)) ≡ x = omega arith in
        subst (λ (y : ℕ). get_or (overlaid xs s R) y 0 ≡ get_or xs y 0) q (overlaid_after xs s R fit (x - s - n))
      where
        outside : (part : Part) (j x : ℕ) → start_of part j ≤ x → (j ≡ block_of part x → ⊥) → start_of part j + length_of part j ≤ x
        outside part j x f ne = split (ltb x (start_of part j + length_of part j)) refl
          where
            split : (b : Bool) → ltb x (start_of part j + length_of part j) ≡ b → start_of part j + length_of part j ≤ x
            split true b = absurd (ne (sym (lies part j x f (ltb-true _ _ b))))
            split false b = ltb-false _ _ b

    go : (b : Bool) → eqb j (block_of part x) ≡ b → get_or (overlaid xs s R) x 0 ≡ (if eqb j (block_of part x) then (ones part) else get_or xs x 0)
    go true e =
        let h = holds part j x hx (eqb-true _ _ e) in
        let l = length-replicate {A = ℕ} n (ones part) in
        let q : s + (x - s) ≡ x = omega (arith, h.0) in
        subst (λ (y : ℕ). get_or (overlaid xs s R) y 0 ≡ (ones part)) q
        (overlaid_in xs s R fit (x - s) (omega (arith, h.0, h.1)) ∙ get_or-replicate n (x - s) (ones part) 0 (omega (arith, h.0, h.1)))
        ∙ sym (if_true (eqb j (block_of part x)) (ones part) (get_or xs x 0) e)
    go false e = away e (ltb x s) refl ∙ sym (if_false (eqb j (block_of part x)) (ones part) (get_or xs x 0) e)

-- an uncut effect as one byte sees it
effect_byte : (e : Effect) (part : Part) (rs xs : List ℕ) (x : ℕ) → length xs ≡ size_of part → x < size_of part → Within e part (length xs) (length rs) → is_cut e ≡ false
    → get_or (array_of e part rs xs) x 0 ≡ byte_by part x e (get_or xs x 0)
effect_byte Nothing part rs xs x lx hx w c = refl
effect_byte (Program at b) part rs xs x lx hx w c = go (eqb at x) refl
  where
    go : (t : Bool) → eqb at x ≡ t → get_or (set xs at (bit_and (get_or xs at 0) b)) x 0 ≡ (if eqb at x then bit_and (get_or xs x 0) b else get_or xs x 0)
    go true t =
        let q : at ≡ x = eqb-true at x t in
        subst (λ (y : ℕ). get_or (set xs at (bit_and (get_or xs at 0) b)) y 0 ≡ bit_and (get_or xs y 0) b) q (get_or-set_same xs at (bit_and (get_or xs at 0) b) 0 w)
        ∙ sym (if_true (eqb at x) (bit_and (get_or xs x 0) b) (get_or xs x 0) t)
    go false t =
        get_or-set_other xs at x (bit_and (get_or xs at 0) b) 0 (λ q. eqb-false at x t (sym q)) ∙ sym (if_false (eqb at x) (bit_and (get_or xs x 0) b) (get_or xs x 0) t)
effect_byte (Erase j) part rs xs x lx hx w c = erase_byte part j x xs lx hx
effect_byte (CutProgram at b) part rs xs x lx hx w c = absurd (unlike c)
effect_byte (CutErase j) part rs xs x lx hx w c = absurd (unlike c)

step_byte : (d : Device) (v : World) (b : Bus) (x : ℕ) → length v.bytes ≡ size_of d.part → x < size_of d.part → is_cut (effect_by d v b) ≡ false
    → get_or (stepped d v b).bytes x 0 ≡ byte_by d.part x (effect_by d v b) (get_or v.bytes x 0)
unfolding array_after
step_byte d v b x lx hx u =
    effect_byte (effect_by d v b) d.part b.residue v.bytes x lx hx (within d v.state b.cycle (length v.bytes) (length b.residue)) u

-- the array after uncut cycles, byte by byte
pub bytes_after : (bs : List Bus) (d : Device) (v : World) (x : ℕ) → length v.bytes ≡ size_of d.part → x < size_of d.part → uncut (effects_in d v bs) ≡ true
    → get_or (world_after d v bs).bytes x 0 ≡ byte_all d.part x (effects_in d v bs) (get_or v.bytes x 0)
bytes_after [] d v x lx hx u = refl
bytes_after (b ∷ bs) d v x lx hx u =
    bytes_after bs d (stepped d v b) x (cycle_length d v.state b.cycle v.bytes b.residue ∙ lx) hx (and_right (not (is_cut (effect_by d v b))) (uncut (effects_in d (stepped d v b) bs)) u)
    ∙ ap (λ (y : ℕ). byte_all d.part x (effects_in d (stepped d v b) bs) y)
    (step_byte d v b x lx hx (not-true (is_cut (effect_by d v b)) (and_left (not (is_cut (effect_by d v b))) (uncut (effects_in d (stepped d v b) bs)) u)))

-- AND on numbers: the order of three does not matter
and_low : (a b : ℕ) → bit_and a b % 2 ≡ min (a % 2) (b % 2)
and_low a b = ap (λ (x : ℕ). x % 2) (and_step a b) ∙ low (bit_and (a / 2) (b / 2)) 1 (lt_of_le_of_lt (min-le_left (a % 2) (b % 2)) (mod-lt a (zero-lt-suc 1)))

pub and_three : (a b c : ℕ) → bit_and (bit_and a b) c ≡ bit_and a (bit_and b c)
and_three = bin_ind (λ (a : ℕ). (b c : ℕ) → bit_and (bit_and a b) c ≡ bit_and a (bit_and b c)) (λ b c. refl) (λ a more b c. round a b c (more (b / 2) (c / 2)))
  where
    highs : (a b c : ℕ) → bit_and (bit_and (a / 2) (b / 2)) (c / 2) ≡ bit_and (a / 2) (bit_and (b / 2) (c / 2)) → bit_and (bit_and a b / 2) (c / 2) ≡ bit_and (a / 2) (bit_and b c / 2)
    highs a b c h = rw (and_shr a b 1, and_shr b c 1) h

    lows : (a b c : ℕ) → min (bit_and a b % 2) (c % 2) ≡ min (a % 2) (bit_and b c % 2)
    lows a b c = rw (and_low a b, and_low b c) (omega arith)

    round : (a b c : ℕ) → bit_and (bit_and (a / 2) (b / 2)) (c / 2) ≡ bit_and (a / 2) (bit_and (b / 2) (c / 2)) → bit_and (bit_and a b) c ≡ bit_and a (bit_and b c)
    round a b c h =
        and_step (bit_and a b) c
        ∙ ap (λ (x : ℕ). x * 2 + min (bit_and a b % 2) (c % 2)) (highs a b c h)
        ∙ ap (λ (x : ℕ). bit_and (a / 2) (bit_and b c / 2) * 2 + x) (lows a b c)
        ∙ sym (and_step a (bit_and b c))

-- bits that are in a part of v are in v
under : (v b f : ℕ) → bit_and (bit_and v b) f ≡ f → bit_and v f ≡ f
under v b f h =
    ap (λ (x : ℕ). bit_and v x) (sym h) ∙ sym (and_three v (bit_and v b) f) ∙ ap (λ (x : ℕ). bit_and x f) (sym (and_three v v b) ∙ ap (λ (x : ℕ). bit_and x b) (and_self v)) ∙ h

-- without an erase of its block a byte only loses bits
pub only_loses : (es : List Effect) (part : Part) (x v : ℕ) → total_of (erase_of (block_of part x)) es ≡ 0 → bit_and v (byte_all part x es v) ≡ byte_all part x es v
only_loses [] part x v z = and_self v
only_loses (Nothing ∷ es) part x v z = only_loses es part x v (omega arith)
only_loses (Program at b ∷ es) part x v z = go (eqb at x) (only_loses es part x)
  where
    go : (t : Bool) → ((u : ℕ) → total_of (erase_of (block_of part x)) es ≡ 0 → bit_and u (byte_all part x es u) ≡ byte_all part x es u)
        → bit_and v (byte_all part x es (if t then bit_and v b else v)) ≡ byte_all part x es (if t then bit_and v b else v)
    go true more = under v b (byte_all part x es (bit_and v b)) (more (bit_and v b) (omega arith))
    go false more = more v (omega arith)
only_loses (Erase j ∷ es) part x v z = go (eqb j (block_of part x)) refl (only_loses es part x v)
  where
    go : (t : Bool) → eqb j (block_of part x) ≡ t → (total_of (erase_of (block_of part x)) es ≡ 0 → bit_and v (byte_all part x es v) ≡ byte_all part x es v)
        → bit_and v (byte_all part x es (if eqb j (block_of part x) then (ones part) else v)) ≡ byte_all part x es (if eqb j (block_of part x) then (ones part) else v)
    go true t more = absurd (let q = rw t at z in omega arith)
    go false t more = rw t (more (let q = rw t at z in omega arith))
only_loses (CutProgram at b ∷ es) part x v z = only_loses es part x v (omega arith)
only_loses (CutErase j ∷ es) part x v z = only_loses es part x v (omega arith)

-- without a program on it a byte is as it was, or all ones after an erase of its block
pub unprogrammed : (es : List Effect) (part : Part) (x v : ℕ) → total_of (program_at x) es ≡ 0
    → byte_all part x es v ≡ (if eqb (total_of (erase_of (block_of part x)) es) 0 then v else (ones part))
unprogrammed [] part x v z = refl
unprogrammed (Nothing ∷ es) part x v z = unprogrammed es part x v (omega arith) ∙ ap (λ (n : ℕ). (if eqb n 0 then v else (ones part))) (let q : total_of (erase_of (block_of part x)) es ≡ 0 + total_of (erase_of (block_of part x)) es = omega arith in q)
unprogrammed (Program at b ∷ es) part x v z = go (eqb at x) refl (unprogrammed es part x v)
  where
    go : (t : Bool) → eqb at x ≡ t → (total_of (program_at x) es ≡ 0 → byte_all part x es v ≡ (if eqb (total_of (erase_of (block_of part x)) es) 0 then v else (ones part)))
        → byte_all part x es (if eqb at x then bit_and v b else v) ≡ (if eqb (0 + total_of (erase_of (block_of part x)) es) 0 then v else (ones part))
    go true t more = absurd (let q = rw t at z in omega arith)
    go false t more =
        rw t (more (let q = rw t at z in omega arith))
        ∙ ap (λ (n : ℕ). (if eqb n 0 then v else (ones part))) (let q : total_of (erase_of (block_of part x)) es ≡ 0 + total_of (erase_of (block_of part x)) es = omega arith in q)
unprogrammed (Erase j ∷ es) part x v z = go (eqb j (block_of part x)) refl (unprogrammed es part x)
  where
    go : (t : Bool) → eqb j (block_of part x) ≡ t → ((u : ℕ) → total_of (program_at x) es ≡ 0 → byte_all part x es u ≡ (if eqb (total_of (erase_of (block_of part x)) es) 0 then u else (ones part)))
        → byte_all part x es (if eqb j (block_of part x) then (ones part) else v) ≡ (if eqb ((if eqb j (block_of part x) then 1 else 0) + total_of (erase_of (block_of part x)) es) 0 then v else (ones part))
    go true t more =
        rw t
        (more (ones part) (omega arith) ∙ if_same (eqb (total_of (erase_of (block_of part x)) es) 0) (ones part)
        ∙ sym (if_false (eqb (1 + total_of (erase_of (block_of part x)) es) 0) v (ones part) (ne_eqb (1 + total_of (erase_of (block_of part x)) es) 0 (λ q. omega arith))))
    go false t more =
        rw t (more v (omega arith) ∙ ap (λ (n : ℕ). (if eqb n 0 then v else (ones part))) (let q : total_of (erase_of (block_of part x)) es ≡ 0 + total_of (erase_of (block_of part x)) es = omega arith in q))
unprogrammed (CutProgram at b ∷ es) part x v z = unprogrammed es part x v (omega arith) ∙ ap (λ (n : ℕ). (if eqb n 0 then v else (ones part))) (let q : total_of (erase_of (block_of part x)) es ≡ 0 + total_of (erase_of (block_of part x)) es = omega arith in q)
unprogrammed (CutErase j ∷ es) part x v z = unprogrammed es part x v (omega arith) ∙ ap (λ (n : ℕ). (if eqb n 0 then v else (ones part))) (let q : total_of (erase_of (block_of part x)) es ≡ 0 + total_of (erase_of (block_of part x)) es = omega arith in q)

-- one place more of a block adds the programs at that place
program_more : (a n : ℕ) (e : Effect) → program_in a (n + 1) e ≡ program_at a e + program_in (a + 1) n e
program_more a n Nothing = omega arith
program_more a n (Program at b) = go (ltb at a) (eqb at a) refl refl (ltb at (a + (n + 1))) (ltb at (a + 1 + n)) refl refl
  where
    go : (s t : Bool) → ltb at a ≡ s → eqb at a ≡ t → (u y : Bool) → ltb at (a + (n + 1)) ≡ u → ltb at (a + 1 + n) ≡ y
        → (if ltb at a then 0 else if ltb at (a + (n + 1)) then 1 else 0) ≡ (if eqb at a then 1 else 0) + (if ltb at (a + 1) then 0 else if ltb at (a + 1 + n) then 1 else 0)
    go true true p q u y i k = absurd (let h = ltb-true at a p in let g = eqb-true at a q in omega arith)
    go true false p q u y i k = rw (p, q, lt-ltb at (a + 1) (let h = ltb-true at a p in omega arith)) (omega arith)
    go false true p q u y i k =
        rw (p, q, lt-ltb at (a + 1) (let g = eqb-true at a q in omega arith), lt-ltb at (a + (n + 1)) (let g = eqb-true at a q in omega arith)) (omega arith)
    go false false p q u y i k =
        let h = ltb-false at a p in
        let g = eqb-false at a q in
        let same : ltb at (a + (n + 1)) ≡ ltb at (a + 1 + n) = ap (λ (m : ℕ). ltb at m) (let z : a + (n + 1) ≡ a + 1 + n = omega arith in z) in
        rw (p, q, le-ltb at (a + 1) (omega arith), same) (omega arith)
program_more a n (Erase j) = omega arith
program_more a n (CutProgram at b) = omega arith
program_more a n (CutErase j) = omega arith

pub total_more : (es : List Effect) (a n : ℕ) → total_of (program_in a (n + 1)) es ≡ total_of (program_at a) es + total_of (program_in (a + 1) n) es
total_more [] a n = omega arith
total_more (e ∷ es) a n = omega (arith, program_more a n e, total_more es a n)

same : (f : Effect → ℕ) (e : Effect) → is_cut e ≡ false → f (operation_of e) ≡ f e
same f Nothing c = refl
same f (Program at b) c = refl
same f (Erase j) c = refl
same f (CutProgram at b) c = absurd (unlike c)
same f (CutErase j) c = absurd (unlike c)

law : (f : Effect → ℕ) → f Nothing ≡ 0 → (d : Device) (v : World) (b : Bus)
    → f (operation_of (effect_by d v b)) + f (pending_of d.part (stepped d v b).state)
    ≡ f (begun_by d v.state b.cycle (length v.bytes) (length b.residue)) + f (pending_of d.part v.state)
unfolding answer_of
law f z d v b = conserved f z d v.state b.cycle (length v.bytes) (length b.residue)

-- what ends is begun: for cycles from a device with nothing pending
pub ended_begun : (f : Effect → ℕ) → f Nothing ≡ 0 → (bs : List Bus) (d : Device) (v : World) → uncut (effects_in d v bs) ≡ true
    → total_of f (effects_in d v bs) ≤ total_of f (begun_over d v bs) + f (pending_of d.part v.state)
ended_begun f z [] d v u = omega arith
ended_begun f z (b ∷ bs) d v u =
    let c = law f z d v b in
    let o = same f (effect_by d v b) (not-true (is_cut (effect_by d v b)) (and_left (not (is_cut (effect_by d v b))) (uncut (effects_in d (stepped d v b) bs)) u)) in
    let more = ended_begun f z bs d (stepped d v b) (and_right (not (is_cut (effect_by d v b))) (uncut (effects_in d (stepped d v b) bs)) u) in
    omega arith
