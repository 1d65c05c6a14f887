-- The first unit that differs, and the first byte.
use mathlib.Core.Path.{◌≡◌, refl, sym, ap, ap₂, ◌∙◌, subst}
use mathlib.Core.Bool.{Bool, true, false, ◌&&◌}
use mathlib.Core.List.{List}
use Prim.Native.Nat.{ℕ, ◌+◌, ◌*◌, ◌/◌, ◌%◌, ◌≤◌, ◌<◌}
use native.Mathlib.Omega.{arith}
use lib.ListN.{length, get_or, drop}
use lib.Seq.{get_or-take, get_or-drop}
use lib.Dec.{eqb, ltb}
use borrow.Author.Tests.{eqb-true, eqb-false, eq-eqb, ltb-true, ltb-false}
use Rattle.std.specs.Prelude.{if◌then◌else◌}
use Rattle.common.proofs.Choice.{unlike}
use Rattle.common.specs.Lists.{Bytes}
use Rattle.units.specs.Units.{word_of, pairs, units, bytes_in}
use Rattle.units.specs.Address.{byte_of}
use Rattle.units.proofs.Words.{get_law}
use Rattle.loader_run_claims.specs.Wear.{held_in}
use Rattle.loader_verify_claims.specs.Lent.{FirstByte}

-- equal words have equal bytes
words_same : (x y u v : ℕ) → x < 256 → u < 256 → word_of x y ≡ word_of u v → (x ≡ u) × (y ≡ v)
words_same x y u v h g e = (omega arith, omega arith)

lows_same : (p q x y u v : ℕ) → x < 256 → u < 256 → p ≡ word_of x y → q ≡ word_of u v → p % 256 ≡ q % 256 → x ≡ u
lows_same p q x y u v h g e f r = omega arith

held_at : (a n : ℕ) (xs : List ℕ) (j : ℕ) → j < n → get_or (held_in a n xs) j 0 ≡ get_or xs (a + j) 0
held_at a n xs j h = get_or-take n (drop a xs) j 0 h ∙ get_or-drop a xs j 0

-- words
module _ (xs ws : List ℕ) (bx : Bytes xs) (bw : Bytes ws) (a n : ℕ) (lx : 2 * a + 2 * n ≤ length xs) (lw : length ws ≡ 2 * n) where
  abbrev H : List ℕ
  H = held_in a n (pairs xs)

  abbrev W : List ℕ
  W = pairs ws

  held : (j : ℕ) → j < n → get_or H j 0 ≡ word_of (get_or xs (2 * a + 2 * j) 0) (get_or xs (2 * a + (2 * j + 1)) 0)
  held j h =
      held_at a n (pairs xs) j h
      ∙ sym (get_law xs (a + j) (2 * a + 2 * j) (get_or xs (2 * a + 2 * j) 0) (get_or xs (2 * a + (2 * j + 1)) 0) (omega arith) (omega arith) refl
      (ap (λ (m : ℕ). get_or xs m 0) (let z : 2 * a + (2 * j + 1) ≡ 2 * a + 2 * j + 1 = omega arith in z)))

  want : (j : ℕ) → j < n → get_or W j 0 ≡ word_of (get_or ws (2 * j) 0) (get_or ws (2 * j + 1) 0)
  want j h = sym (get_law ws j (2 * j) (get_or ws (2 * j) 0) (get_or ws (2 * j + 1) 0) refl (omega arith) refl refl)

  load_verify_same : (j : ℕ) → j < n → get_or H j 0 ≡ get_or W j 0 → (get_or xs (2 * a + 2 * j) 0 ≡ get_or ws (2 * j) 0) × (get_or xs (2 * a + (2 * j + 1)) 0 ≡ get_or ws (2 * j + 1) 0)
  load_verify_same j h e = words_same _ _ _ _ (bx (2 * a + 2 * j)) (bw (2 * j)) (sym (held j h) ∙ e ∙ want j h)

  low_same : (j : ℕ) → j < n → get_or H j 0 % 256 ≡ get_or W j 0 % 256 → get_or xs (2 * a + 2 * j) 0 ≡ get_or ws (2 * j) 0
  low_same j h e = lows_same (get_or H j 0) (get_or W j 0) _ _ _ _ (bx (2 * a + 2 * j)) (bw (2 * j)) (held j h) (want j h) e

  -- the bytes of a word, by a byte's place
  byte_same : (j : ℕ) → j / 2 < n → get_or H (j / 2) 0 ≡ get_or W (j / 2) 0 → get_or xs (2 * a + j) 0 ≡ get_or ws j 0
  byte_same j h e = go (eqb (j % 2) 0) refl
    where
      go : (b : Bool) → eqb (j % 2) 0 ≡ b → get_or xs (2 * a + j) 0 ≡ get_or ws j 0
      go true q =
          let z = eqb-true (j % 2) 0 q in
          subst (λ (m : ℕ). get_or xs (2 * a + m) 0 ≡ get_or ws m 0) (let r : 2 * (j / 2) ≡ j = omega arith in r) (load_verify_same (j / 2) h e).0
      go false q =
          let z : j % 2 ≡ 0 → ⊥ = eqb-false (j % 2) 0 q in
          subst (λ (m : ℕ). get_or xs (2 * a + m) 0 ≡ get_or ws m 0) (let r : 2 * (j / 2) + 1 ≡ j = omega arith in r) (load_verify_same (j / 2) h e).1

  words_first : (u : ℕ) → u < n → (get_or H u 0 ≡ get_or W u 0 → ⊥) → ((j : ℕ) → j < u → get_or H j 0 ≡ get_or W j 0)
      → (b : Bool) → eqb (get_or H u 0 % 256) (get_or W u 0 % 256) ≡ b → FirstByte xs ws (2 * a) (2 * u + (if b then 1 else 0))
  words_first u h differs before true q =
      let low = low_same u h (eqb-true _ _ q) in
      record {
        inside = omega arith;
        differs = λ (e : get_or xs (2 * a + (2 * u + 1)) 0 ≡ get_or ws (2 * u + 1) 0). differs (held u h ∙ ap₂ (λ (x y : ℕ). word_of x y) low e ∙ sym (want u h));
        same_before = λ (j : ℕ) (g : j < 2 * u + 1). go j g (ltb (j / 2) u) refl low;
      }
    where
      go : (j : ℕ) → j < 2 * u + 1 → (t : Bool) → ltb (j / 2) u ≡ t → get_or xs (2 * a + 2 * u) 0 ≡ get_or ws (2 * u) 0 → get_or xs (2 * a + j) 0 ≡ get_or ws j 0
      go j g true r low = byte_same j (let z = ltb-true (j / 2) u r in omega arith) (before (j / 2) (ltb-true (j / 2) u r))
      go j g false r low = subst (λ (m : ℕ). get_or xs (2 * a + m) 0 ≡ get_or ws m 0) (let z = ltb-false (j / 2) u r in let y : 2 * u ≡ j = omega arith in y) low
  words_first u h differs before false q =
      record {
        inside = omega arith;
        differs = λ (e : get_or xs (2 * a + (2 * u + 0)) 0 ≡ get_or ws (2 * u + 0) 0). unlike (sym (eq-eqb _ _ (lows e)) ∙ q);
        same_before = λ (j : ℕ) (g : j < 2 * u + 0). byte_same j (omega arith) (before (j / 2) (omega arith));
      }
    where
      rest : (p q x y v r : ℕ) → x < 256 → v < 256 → p ≡ word_of x y → q ≡ word_of v r → x ≡ v → p % 256 ≡ q % 256
      rest p q x y v r i j e f g = omega arith

      lows : get_or xs (2 * a + (2 * u + 0)) 0 ≡ get_or ws (2 * u + 0) 0 → get_or H u 0 % 256 ≡ get_or W u 0 % 256
      lows e =
          let z : 2 * u + 0 ≡ 2 * u = omega arith in
          let f : get_or xs (2 * a + 2 * u) 0 ≡ get_or ws (2 * u) 0 = subst (λ (m : ℕ). get_or xs (2 * a + m) 0 ≡ get_or ws m 0) z e in
          rest _ _ _ _ _ _ (bx (2 * a + 2 * u)) (bw (2 * u)) (held u h) (want u h) f

-- at either width: the first unit that differs gives the first byte
pub first_byte : (w : Bool) (xs ws : List ℕ) → Bytes xs → Bytes ws → (a n : ℕ) → byte_of w a + bytes_in w n ≤ length xs → length ws ≡ bytes_in w n → (u : ℕ) → u < n
    → (get_or (held_in a n (units w xs)) u 0 ≡ get_or (units w ws) u 0 → ⊥) → ((j : ℕ) → j < u → get_or (held_in a n (units w xs)) j 0 ≡ get_or (units w ws) j 0)
    → FirstByte xs ws (byte_of w a) (bytes_in w u + (if w && eqb (get_or (held_in a n (units w xs)) u 0 % 256) (get_or (units w ws) u 0 % 256) then 1 else 0))
first_byte false xs ws bx bw a n lx lw u h differs before =
    record {
      inside = omega arith;
      differs = λ (e : get_or xs (a + (u + 0)) 0 ≡ get_or ws (u + 0) 0).
          differs (held_at a n xs u h ∙ subst (λ (m : ℕ). get_or xs (a + m) 0 ≡ get_or ws m 0) (let z : u + 0 ≡ u = omega arith in z) e);
      same_before = λ (j : ℕ) (g : j < u + 0). sym (held_at a n xs j (omega arith)) ∙ before j (omega arith);
    }
first_byte true xs ws bx bw a n lx lw u h differs before =
    words_first xs ws bx bw a n lx lw u h differs before (eqb (get_or (held_in a n (pairs xs)) u 0 % 256) (get_or (pairs ws) u 0 % 256)) refl
