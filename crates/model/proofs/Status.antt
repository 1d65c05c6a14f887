-- Facts of the status register under masks: one computed test over 256 values, and one law.
use mathlib.Core.Path.{◌≡◌, refl, sym, ap, ◌∙◌}
use mathlib.Core.Bool.{Bool, true, false, not, ◌&&◌, ◌||◌}
use Prim.Native.Nat.{ℕ, zero, suc, ◌/◌, ◌%◌, ◌≤◌, ◌<◌}
use native.Mathlib.Nat.{not-suc-le-zero}
use native.Mathlib.Omega.{arith}
use lib.Bits.{bit_and, bit_or}
use lib.Dec.{eqb}
use borrow.Author.Tests.{eqb-true, eqb-false, not-false}
use Rattle.common.proofs.Choice.{and_left, and_right, or_left, or_right, unlike}
use Rattle.model_types.specs.declared.Phase.{Phase}
use Rattle.model_types.specs.declared.Phase.TheVariants.{Free, EraseAwaited, DataAwaited, Programming, Erasing, Suspending, Suspended}
use Rattle.model_states.specs.Inner.{bad_status, top_bits}

-- the test holds of every number below n
abbrev pub all_below : (ℕ → Bool) → ℕ → Bool
all_below f zero = true
all_below f (suc n) = elim (f n) [ true ↦ all_below f n | false ↦ false ]

pub all_below_lem : (f : ℕ → Bool) (n : ℕ) → all_below f n ≡ true → (k : ℕ) → k < n → f k ≡ true
all_below_lem f zero e k h = absurd (not-suc-le-zero h)
all_below_lem f (suc n) e k h = go (f n) refl (all_below_lem f n)
  where
    F : Bool → Bool
    F t = elim t [ true ↦ all_below f n | false ↦ false ]

    at : eqb k n ≡ true → f n ≡ true → f k ≡ true
    at q p = ap f (eqb-true k n q) ∙ p

    go : (t : Bool) → f n ≡ t → (all_below f n ≡ true → (j : ℕ) → j < n → f j ≡ true) → f k ≡ true
    go false p rest = absurd (unlike (sym e ∙ ap F p))
    go true p rest = last (eqb k n) refl
      where
        last : (b : Bool) → eqb k n ≡ b → f k ≡ true
        last true q = at q p
        last false q = let z = eqb-false k n q in rest (sym (ap F p) ∙ e) k (omega arith)

-- SR.2-0 zero, and SR.7-6 as the number a
abbrev pub fits : ℕ → ℕ → Bool
fits a sr = eqb (sr % 8) 0 && eqb (sr / 64) a

-- a mask takes every status that fits a to one that fits b
abbrev pub keeps : (ℕ → ℕ) → ℕ → ℕ → Bool
keeps f a b = all_below (λ sr. not (fits a sr) || fits b (f sr)) 256

pub kept : (f : ℕ → ℕ) (a b : ℕ) → a ≤ 3 → keeps f a b ≡ true → (sr : ℕ) → fits a sr ≡ true → fits b (f sr) ≡ true
kept f a b l t sr e =
    let q : sr / 64 ≡ a = eqb-true (sr / 64) a (and_right (eqb (sr % 8) 0) (eqb (sr / 64) a) e) in
    imply (fits a sr) (fits b (f sr)) (all_below_lem (λ x. not (fits a x) || fits b (f x)) 256 t sr (omega arith)) e
  where
    imply : (x y : Bool) → (not x || y) ≡ true → x ≡ true → y ≡ true
    imply true y h k = h
    imply false y h k = absurd (unlike (sym k))

-- the status of a proper state fits its phase, and back
pub status_fits : (ph : Phase) (sr : ℕ) → bad_status ph sr ≡ false → fits (top_bits ph) sr ≡ true
unfolding bad_status
status_fits ph sr e =
    let a = eqb (sr % 8) 0 in
    let b = eqb (sr / 64) (top_bits ph) in
    simp (not-false a (or_left (not a) (not b) e), not-false b (or_right (not a) (not b) e))

pub fits_status : (ph : Phase) (sr : ℕ) → fits (top_bits ph) sr ≡ true → bad_status ph sr ≡ false
unfolding bad_status
fits_status ph sr e =
    let a = eqb (sr % 8) 0 in
    let b = eqb (sr / 64) (top_bits ph) in
    simp (and_left a b e, and_right a b e)

-- a status below 256
pub status_byte : (ph : Phase) (sr : ℕ) → bad_status ph sr ≡ false → sr < 256
status_byte ph sr e =
    let q : sr / 64 ≡ top_bits ph = eqb-true (sr / 64) (top_bits ph) (and_right (eqb (sr % 8) 0) (eqb (sr / 64) (top_bits ph)) (status_fits ph sr e)) in
    let l : top_bits ph ≤ 3 = top ph in
    omega arith
  where
    top : (ph : Phase) → top_bits ph ≤ 3
    top Free = omega arith
    top EraseAwaited = omega arith
    top DataAwaited = omega arith
    top (Programming b) = omega arith
    top Erasing = omega arith
    top (Suspending n) = omega arith
    top Suspended = omega arith

-- what each mask of the rules does to SR.7-6
pub finish : keeps (λ sr. bit_or sr 0x80) 0 2 ≡ true
finish = refl

pub cut_program : keeps (λ sr. bit_or (bit_and sr 0xBF) 0x98) 0 2 ≡ true
cut_program = refl

pub cut_erase : keeps (λ sr. bit_or (bit_and sr 0xBF) 0xA8) 0 2 ≡ true
cut_erase = refl

pub cut_suspended : keeps (λ sr. bit_or (bit_and sr 0xBF) 0xA8) 3 2 ≡ true
cut_suspended = refl

pub clear : keeps (λ sr. bit_and sr 0xC7) 2 2 ≡ true
clear = refl

pub start : keeps (λ sr. bit_and sr 0x7F) 2 0 ≡ true
start = refl

pub low_erase : keeps (λ sr. bit_or (bit_or sr 0x08) 0x20) 2 2 ≡ true
low_erase = refl

pub low_program : keeps (λ sr. bit_or (bit_or sr 0x08) 0x10) 2 2 ≡ true
low_program = refl

pub locked_erase : keeps (λ sr. bit_or sr 0x20) 2 2 ≡ true
locked_erase = refl

pub locked_program : keeps (λ sr. bit_or sr 0x10) 2 2 ≡ true
locked_program = refl

pub wrong_second : keeps (λ sr. bit_or sr 0x30) 2 2 ≡ true
wrong_second = refl

pub suspend : keeps (λ sr. bit_or sr 0xC0) 0 3 ≡ true
suspend = refl

pub resume : keeps (λ sr. bit_and sr 0x3F) 3 0 ≡ true
resume = refl
