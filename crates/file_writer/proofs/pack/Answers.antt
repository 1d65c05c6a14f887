-- `file_writer::pack` meets its contract: the blocks written and the blocks left to write make up the file.
use mathlib.Core.Path.{◌≡◌, refl, ap, ◌∙◌}
use mathlib.Core.List.{◌++◌}
use Prim.Native.Nat.{ℕ, ◌-◌, ◌+◌, ◌*◌, min}
use native.Mathlib.Omega.{arith}
use lib.ListN.{length, take, drop}
use borrow.Rule.Slice.PartMut.{mid_of}
use Rattle.file_codec.specs.Layout.{block_written}
use Rattle.file_codec.specs.File.{blocks_of}
use Rattle.file_writer.proofs.SliceParts.{packed, behind, further, all_packed}
use Rattle.file_writer.proofs.pack.Goals as goal

pub loop-i-init : goal.loop-i-init
loop-i-init c =
    let a = c.args in
    let z : a.n - 0 ≡ a.n = omega arith in
    (ap (λ (k : ℕ). blocks_of k a.letter 0 a.n a.payload.now) z, refl, omega arith)

pub loop-i-preserved : goal.loop-i-preserved
loop-i-preserved c =
    let p = c.put_block in
    let l = c.loop-i in
    let a = c.args in
    let i = l.i in
    let x = a.payload.now in
    let e = c.least-stop.result in
    let at : l.from ≡ 505 * i = omega arith in
    let s : e ≡ min (505 * i + 505) (length x) = c.least-stop.ensures ∙ ap (λ (k : ℕ). min (k + 505) (length x)) at in
    let y : p.new.out ≡ block_written a.letter i a.n (take (e - 505 * i) (drop (505 * i) x)) ++ drop 512 (mid_of (512 * i) (length l.out - 512 * i) l.out) =
    p.ensures ∙ ap (λ (k : ℕ). block_written a.letter i a.n (take (e - k) (drop k x)) ++ drop 512 (mid_of (512 * i) (length l.out - 512 * i) l.out)) at in (
      packed a.letter i a.n e x l.out p.new.out (omega arith) (omega arith) s y ∙ l.invariant.0,
      behind a.letter i a.n e x l.out p.new.out (omega arith) (omega arith) s y ∙ further i l.out a.out.now l.invariant.1,
      omega arith,
    )

pub returns : goal.returns
returns c =
    let l = c.loop-i in
    let a = c.args in
    all_packed a.letter l.i a.n a.payload.now l.out a.out.now (blocks_of a.n a.letter 0 a.n a.payload.now) (omega arith) (omega arith) l.invariant.0 l.invariant.1
