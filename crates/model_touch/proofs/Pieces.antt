-- The byte at a byte address, by the unit that it is in; and units that an effect leaves as they were.
use mathlib.Core.Path.{◌≡◌, refl, sym, ap, ap₂, subst, ◌∙◌}
use mathlib.Core.Bool.{Bool, true, false, ◌&&◌}
use mathlib.Core.List.{List, [], ◌∷◌}
use mathlib.Core.Logic.{◌⊎◌, inl, inr, ⊎_elim}
use Prim.Native.Nat.{ℕ, zero, suc, ◌+◌, ◌-◌, ◌*◌, ◌/◌, ◌%◌, ◌≤◌, ◌<◌}
use native.Mathlib.Omega.{arith}
use lib.ListN.{length, get_or, take, set, replicate, length-replicate}
use lib.Seq.{length-take-le, get_or-set_same, get_or-set_other, set_out}
use lib.Bits.{bit_and, bit_or, and_self, and_mod, and_shr}
use lib.Dec.{eqb, ltb, leb}
use borrow.Author.Tests.{eqb-true, eqb-false, ltb-true, ltb-false, lt-ltb, le-ltb, leb-true, leb-false, le-leb, lt-leb}
use Rattle.std.specs.Prelude.{if◌then◌else◌}
use Rattle.common.specs.Lists.{overlaid}
use Rattle.common.proofs.Choice.{unlike, and_left, and_right}
use Rattle.common.proofs.Bytes.{overlaid_before, overlaid_after}
use Rattle.units.specs.Units.{halves, back}
use Rattle.device.specs.declared.Part.{Part}
use Rattle.device.specs.Parts.{start_of, length_of}
use Rattle.device.proofs.Claims.{blocks_end_inside}
use Rattle.model_types.specs.Cells.{ones}
use Rattle.model_types.specs.declared.Effect.{Effect}
use Rattle.model_types.specs.declared.Effect.TheVariants.{Nothing, Program, Erase, CutProgram, CutErase}
use Rattle.model.specs.Arrays.{erased, residual, array_of}
use Rattle.model.specs.Inner.{Within}
use Rattle.model_history.proofs.Wearing.{and_three}
use Rattle.model_touch.specs.Touch.{among_bytes, is_on}

-- the unit that byte x is in, and what the byte has of its value
abbrev pub unit_at : Bool → ℕ → ℕ
unit_at false x = x
unit_at true x = x / 2

abbrev pub piece : Bool → ℕ → ℕ → ℕ
piece false x u = u
piece true x u = if eqb (x % 2) 0 then u % 256 else u / 256

in_halves : (us : List ℕ) (x : ℕ) → get_or (halves us) x 0 ≡ piece true x (get_or us (x / 2) 0)
in_halves [] x = go (eqb (x % 2) 0)
  where
    go : (t : Bool) → 0 ≡ (if t then 0 % 256 else 0 / 256)
    go true = refl
    go false = refl
in_halves (u ∷ us) zero = refl
in_halves (u ∷ us) (suc zero) = refl
in_halves (u ∷ us) (suc (suc x)) =
    let p : x % 2 ≡ suc (suc x) % 2 = omega arith in
    let q : suc (x / 2) ≡ suc (suc x) / 2 = omega arith in
    in_halves us x ∙ ap₂ (λ (m k : ℕ). if eqb m 0 then get_or (u ∷ us) k 0 % 256 else get_or (u ∷ us) k 0 / 256) p q

pub piece_at : (w : Bool) (us : List ℕ) (x : ℕ) → get_or (back w us) x 0 ≡ piece w x (get_or us (unit_at w x) 0)
piece_at false us x = refl
piece_at true us x = in_halves us x

-- a byte is among the bytes of units where its unit is among the units
pub among_units : (w : Bool) (a n x : ℕ) → among_bytes w a n x ≡ (leb a (unit_at w x) && ltb (unit_at w x) (a + n))
unfolding among_bytes
among_units false a n x = refl
among_units true a n x = ap₂ (λ (s t : Bool). s && t) (from (leb a (x / 2)) refl) (to (ltb (x / 2) (a + n)) refl)
  where
    from : (t : Bool) → leb a (x / 2) ≡ t → leb (2 * a) x ≡ leb a (x / 2)
    from true e = le-leb (2 * a) x (let h = leb-true a (x / 2) e in omega arith) ∙ sym e
    from false e = lt-leb (2 * a) x (let h = leb-false a (x / 2) e in omega arith) ∙ sym e

    to : (t : Bool) → ltb (x / 2) (a + n) ≡ t → ltb x (2 * a + 2 * n) ≡ ltb (x / 2) (a + n)
    to true e = lt-ltb x (2 * a + 2 * n) (let h = ltb-true (x / 2) (a + n) e in omega arith) ∙ sym e
    to false e = le-ltb x (2 * a + 2 * n) (let h = ltb-false (x / 2) (a + n) e in omega arith) ∙ sym e

-- what a test says of a unit
pub outside : (a n u : ℕ) → (leb a u && ltb u (a + n)) ≡ false → (a ≤ u → ⊥) ⊎ (a + n ≤ u)
outside a n u = go (leb a u) refl
  where
    go : (t : Bool) → leb a u ≡ t → (t && ltb u (a + n)) ≡ false → (a ≤ u → ⊥) ⊎ (a + n ≤ u)
    go true e h = inr (ltb-false u (a + n) h)
    go false e h = inl (λ l. let z = leb-false a u e in omega arith)

pub inside : (a n u : ℕ) → (leb a u && ltb u (a + n)) ≡ true → (a ≤ u) × (u < a + n)
inside a n u h = (leb-true a u (and_left (leb a u) (ltb u (a + n)) h), ltb-true u (a + n) (and_right (leb a u) (ltb u (a + n)) h))

-- units that lie outside are left as they were
laid_outside : (us ys : List ℕ) (a n u : ℕ) → length ys ≡ n → a + n ≤ length us → (leb a u && ltb u (a + n)) ≡ false → get_or (overlaid us a ys) u 0 ≡ get_or us u 0
laid_outside us ys a n u l h e = ⊎_elim before after (outside a n u e)
  where
    fit : a + length ys ≤ length us
    fit = omega arith

    before : (a ≤ u → ⊥) → get_or (overlaid us a ys) u 0 ≡ get_or us u 0
    before z = overlaid_before us a ys fit u (omega arith)

    after : a + n ≤ u → get_or (overlaid us a ys) u 0 ≡ get_or us u 0
    after z =
        let q : a + (length ys + (u - a - n)) ≡ u = omega arith in
        subst (λ (k : ℕ). get_or (overlaid us a ys) k 0 ≡ get_or us k 0) q (overlaid_after us a ys fit (u - a - n))

set_outside : (us : List ℕ) (a y u : ℕ) → (leb a u && ltb u (a + 1)) ≡ false → get_or (set us a y) u 0 ≡ get_or us u 0
set_outside us a y u e = get_or-set_other us a u y 0 (λ q. ⊎_elim (λ (z : a ≤ u → ⊥). z (omega arith)) (λ (z : a + 1 ≤ u). omega arith) (outside a 1 u e))

pub unit_kept : (e : Effect) (part : Part) (rs us : List ℕ) (x : ℕ) → Within e part (length us) (length rs) → is_on part e x ≡ false
    → get_or (array_of e part rs us) (unit_at part.word x) 0 ≡ get_or us (unit_at part.word x) 0
unfolding erased residual
unit_kept Nothing part rs us x h o = refl
unit_kept (Program a y) part rs us x h o =
    set_outside us a (bit_and (get_or us a 0) y) (unit_at part.word x) (sym (among_units part.word a 1 x) ∙ o)
unit_kept (Erase k) part rs us x h o =
    let s = start_of part k in
    let n = length_of part k in
    laid_outside us (replicate n (ones part)) s n (unit_at part.word x) (length-replicate n (ones part)) (rw h (blocks_end_inside part k))
    (sym (among_units part.word s n x) ∙ o)
unit_kept (CutProgram a y) part rs us x h o =
    set_outside us a (bit_and (get_or us a 0) (bit_or y (get_or rs 0 0))) (unit_at part.word x) (sym (among_units part.word a 1 x) ∙ o)
unit_kept (CutErase k) part rs us x h o =
    let s = start_of part k in
    let n = length_of part k in
    laid_outside us (take n rs) s n (unit_at part.word x) (length-take-le n rs h.1) (rw h.0 (blocks_end_inside part k))
    (sym (among_units part.word s n x) ∙ o)

-- an effect that is no erase only clears bits, of every unit ..
again : (u y : ℕ) → bit_and u (bit_and u y) ≡ bit_and u y
again u y = sym (and_three u u y) ∙ ap (λ (z : ℕ). bit_and z y) (and_self u)

set_clears : (us : List ℕ) (a y u : ℕ) → bit_and (get_or us u 0) (get_or (set us a (bit_and (get_or us a 0) y)) u 0) ≡ get_or (set us a (bit_and (get_or us a 0) y)) u 0
set_clears us a y u = go (eqb u a) refl (ltb a (length us)) refl
  where
    z : ℕ
    z = bit_and (get_or us a 0) y

    G : ℕ → Type 0
    G k = bit_and (get_or us k 0) (get_or (set us a z) k 0) ≡ get_or (set us a z) k 0

    same : (k : ℕ) → get_or (set us a z) k 0 ≡ get_or us k 0 → G k
    same k e = rw e (and_self (get_or us k 0))

    go : (b : Bool) → eqb u a ≡ b → (t : Bool) → ltb a (length us) ≡ t → G u
    go true e true l = subst G (sym (eqb-true u a e)) (rw (get_or-set_same us a z 0 (ltb-true _ _ l)) (again (get_or us a 0) y))
    go true e false l = same u (ap (λ (vs : List ℕ). get_or vs u 0) (set_out us a z (ltb-false _ _ l)))
    go false e t l = same u (get_or-set_other us a u z 0 (eqb-false u a e))

-- an effect that ends or cuts an erase
abbrev pub erases : Effect → Bool
erases Nothing = false
erases (Program a y) = false
erases (Erase k) = true
erases (CutProgram a y) = false
erases (CutErase k) = true

pub unit_clears : (e : Effect) (part : Part) (rs us : List ℕ) (u : ℕ) → erases e ≡ false → bit_and (get_or us u 0) (get_or (array_of e part rs us) u 0) ≡ get_or (array_of e part rs us) u 0
unit_clears Nothing part rs us u h = and_self (get_or us u 0)
unit_clears (Program a y) part rs us u h = set_clears us a y u
unit_clears (Erase k) part rs us u h = absurd (unlike h)
unit_clears (CutProgram a y) part rs us u h = set_clears us a (bit_or y (get_or rs 0 0)) u
unit_clears (CutErase k) part rs us u h = absurd (unlike h)

-- .. and so of every byte
pub piece_clears : (w : Bool) (x u v : ℕ) → bit_and u v ≡ v → bit_and (piece w x u) (piece w x v) ≡ piece w x v
piece_clears false x u v e = e
piece_clears true x u v e = go (eqb (x % 2) 0)
  where
    go : (t : Bool) → bit_and (if t then u % 256 else u / 256) (if t then v % 256 else v / 256) ≡ (if t then v % 256 else v / 256)
    go true = sym (and_mod u v 8) ∙ ap (λ (n : ℕ). n % 256) e
    go false = sym (and_shr u v 8) ∙ ap (λ (n : ℕ). n / 256) e
