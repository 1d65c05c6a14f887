-- Where a block lies in lent bytes, and what it holds in units.
use mathlib.Core.Path.{◌≡◌, refl, sym, ap, ◌∙◌}
use mathlib.Core.Bool.{Bool, true, false}
use mathlib.Core.List.{List, ◌++◌}
use Prim.Native.Nat.{ℕ, ◌+◌, ◌-◌, ◌*◌, ◌≤◌}
use native.Mathlib.Omega.{arith}
use lib.ListN.{length, take, drop, length-drop}
use lib.Seq.{length-take-le, take-length}
use borrow.Rule.Slice.PartMut.{put_mid, mid_of}
use Rattle.common.specs.Lists.{overlaid}
use Rattle.device.specs.declared.Part.{Part}
use Rattle.device.specs.Parts.{start_of}
use Rattle.units.specs.Units.{units, bytes_in}
use Rattle.units.specs.Address.{byte_of, byte_at}
use Rattle.units.proofs.Widths.{units_length, whole, leave_law}
use Rattle.loader_run_claims.proofs.LoadLists.{over_self}
use Rattle.loader_run_claims.proofs.Lent.{held_units_lem}
use Rattle.loader_blocks.specs.Blocks.{alike}
use Rattle.loader_blocks.proofs.Lent.{alike_if, units_few}
use Rattle.loader_quick.specs.Quick.{Placed, held_units}

-- the byte at which a unit begins is its low one
pub low_byte : (word : Bool) (x : ℕ) → byte_at word x false ≡ byte_of word x
low_byte true x = let e : 2 * x + 0 ≡ 2 * x = omega arith in e
low_byte false x = refl

pub byte_of_most : (word : Bool) (x : ℕ) → byte_of word x ≤ 2 * x
byte_of_most true x = omega arith
byte_of_most false x = omega arith

module _ (part : Part) (k : ℕ) (array wanted scratch : List ℕ) (p : Placed part k (length array) (length wanted) (length scratch)) where
  abbrev X : List ℕ
  X = units part.word array

  abbrev W : List ℕ
  W = units part.word wanted

  abbrev a : ℕ
  a = start_of part k

  abbrev Y : List ℕ
  Y = held_units part k array wanted

  pub inside : a + length W ≤ length X
  inside = omega (arith, p.fitting, units_length part.word wanted, units_length part.word array)

  pub long : length Y ≡ length W
  long = length-take-le (length W) (drop a X) (let q = length-drop a X in let h = inside in omega arith)

  pub self : overlaid X a Y ≡ X
  self = over_self X a (length W) inside

  pub few : length W ≤ 1048576
  few = omega (arith, units_few part.word wanted, p.short)

  bytes : length wanted ≡ bytes_in part.word (length W)
  bytes = whole part.word wanted p.whole

  -- the block's part of the array, from where the code finds it
  module _ (b : ℕ) (e : b ≡ byte_of part.word (start_of part k)) where
    pub room : b + length wanted ≤ length array
    room = omega (arith, e, p.inside)

    spans : b + length wanted - b ≡ length wanted
    spans = omega arith

    abbrev M : List ℕ
    M = mid_of b (b + length wanted - b) array

    pub part_long : length M ≡ length wanted
    part_long = ap (λ (n : ℕ). length (take n (drop b array))) spans ∙ length-take-le (length wanted) (drop b array) (let q = length-drop b array in let h = room in omega arith)

    pub part_units : units part.word M ≡ Y
    part_units = (λ i. units part.word (take ((spans ∙ bytes) i) (drop (e i) array))) ∙ held_units_lem part.word array a (length W)

    pub part_alike : alike part.word (length M) (length wanted) (length scratch) ≡ true
    part_alike = alike_if part.word (length M) (length wanted) (length scratch) part_long p.room (omega (arith, p.short)) p.whole

    pub put_units : (z : List ℕ) → length z ≡ length wanted → units part.word z ≡ W → units part.word (put_mid b (b + length wanted - b) array z) ≡ overlaid X a W
    put_units z l q =
        let n : b + length wanted - b ≡ length z = spans ∙ sym l in
        let f : length (units part.word z) ≡ length W = ap (λ (u : List ℕ). length u) q in
        ap (λ (m : ℕ). units part.word (take b array ++ (z ++ drop m (drop b array)))) n
        ∙ ap (λ (u : List ℕ). units part.word (overlaid array b u)) (sym (take-length z))
        ∙ leave_law part.word array z a (length W) b (length z) e (l ∙ bytes) inside (omega (arith, f))
        ∙ ap (λ (m : ℕ). overlaid X a (take m (units part.word z))) (sym f)
        ∙ ap (λ (u : List ℕ). overlaid X a u) (take-length (units part.word z) ∙ q)
