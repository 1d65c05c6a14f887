-- `tb_knot_pack` meets its contract.
use mathlib.Core.Path.{◌≡◌, sym, ap₂, ◌∙◌}
use Prim.Native.Nat.{ℕ, ◌*◌}
use Rattle.std.proofs.Common.{SFits}
use lib.IntN.{ℤ}
use lib.ListN.{length}
use mir.Syntax.{w32}
use mir.Val.{to_z, of_z}
use mir.ValLaws.{to_z-of_z}
use Rattle.common.specs.Lists.{overlaid}
use Rattle.reading_text.specs.Tables.{six_of}
use Rattle.c_words.specs.Knots.{pack_number, bits_of}
use Rattle.c_words.proofs.Packing.{packed_why, packed, unpacked}
use Rattle.c_words.proofs.tb_knot_pack.Goals as goal

-- the number, of the numbers as they came
number : (place : ℕ) (x y : ℤ) (n r : ℕ) → SFits w32 x → SFits w32 y → r ≡ pack_number place (to_z w32 (of_z w32 x)) (to_z w32 (of_z w32 y)) n → r ≡ pack_number place x y n
number place x y n r f g e = e ∙ ap₂ (λ (u v : ℤ). pack_number place u v n) (to_z-of_z w32 x f) (to_z-of_z w32 y g)

pub put_knot-requires : goal.put_knot-requires
put_knot-requires c =
    let a = c.args in
    (packed_why a.place a.microvolts a.tenths (length a.payload.now) (sym (number c.args.place c.args.microvolts c.args.tenths (length c.args.payload.now) _ c.ranges.microvolts c.ranges.tenths c.pack_number-n.ensures) ∙ c.if-n-eq0.true)).2

pub returns-then-n-eq0 : goal.returns-then-n-eq0
returns-then-n-eq0 c =
    let a = c.args in
    let f = c.ranges in
    let e = sym (number c.args.place c.args.microvolts c.args.tenths (length c.args.payload.now) _ c.ranges.microvolts c.ranges.tenths c.pack_number-n.ensures) ∙ c.if-n-eq0.true in record {
      result = sym e;
      payload_left = c.put_knot.ensures
          ∙ ap₂ (λ (x y : ℤ). overlaid a.payload.now (6 * a.place) (six_of (bits_of x) (bits_of y))) (to_z-of_z w32 a.microvolts f.microvolts) (to_z-of_z w32 a.tenths f.tenths)
          ∙ sym (packed a.place a.microvolts a.tenths a.payload.now e);
    }

pub returns : goal.returns
returns c =
    let a = c.args in
    let e = number c.args.place c.args.microvolts c.args.tenths (length c.args.payload.now) _ c.ranges.microvolts c.ranges.tenths c.pack_number-n.ensures in
    let h = c.if-n-eq0.false in
    record { result = e; payload_left = sym (unpacked a.place a.microvolts a.tenths a.payload.now (λ z. h (e ∙ z))) }
