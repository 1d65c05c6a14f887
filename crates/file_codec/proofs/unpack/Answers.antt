-- `file_codec::unpack` meets its contract: what is copied so far lies in front of what was there.
use mathlib.Core.Path.{◌≡◌, refl, ap, ◌∙◌}
use mathlib.Core.List.{List, ◌++◌, append-nil}
use Prim.Native.Nat.{ℕ, ◌-◌, ◌+◌, ◌*◌, min}
use native.Mathlib.Omega.{arith}
use lib.ListN.{length, take, drop}
use borrow.Rule.Slice.PartMut.{put_mid, mid_of}
use Rattle.common.specs.Lists.{copied, overwritten}
use lib.Seq.{drop-length}
use Rattle.file_codec.specs.File.{places_of}
use Rattle.file_codec.proofs.SliceParts.{unpacked}
use Rattle.file_codec.proofs.unpack.Goals as goal

pub loop-i-init : goal.loop-i-init
loop-i-init c =
    let a = c.args in
    let z : 0 ≡ min 0 (length a.out.now) = omega arith in
    (ap (λ (k : ℕ). overwritten k (places_of a.n a.file.now) a.out.now) z, z)

pub loop-i-preserved : goal.loop-i-preserved
loop-i-preserved c =
    let p = c.copy in
    let l = c.loop-i in
    let a = c.args in
    let i = l.i in
    let n = a.n in
    let s = a.out.now in
    let f = a.file.now in
    let at : l.to ≡ 505 * i = omega arith in
    let r = c.least-end.result in
    let d = r - 505 * i in
    let P = places_of n f in
    let b : min (505 * i) (length s) ≡ 505 * i = omega arith in
    let o : l.out ≡ overwritten (505 * i) P s = l.invariant.0 ∙ ap (λ (k : ℕ). overwritten k P s) b in
    let w : 512 * i + 5 + 505 - (512 * i + 5) ≡ 505 = omega arith in
    let y : p.new.dst ≡ copied (mid_of (505 * i) d (overwritten (505 * i) P s)) (take 505 (drop (512 * i + 5) f)) =
    p.ensures
    ∙ ap (λ (k : ℕ). copied (mid_of k (r - k) l.out) (take (512 * i + 5 + 505 - (512 * i + 5)) (drop (512 * i + 5) f))) at
    ∙ ap (λ (x : List ℕ). copied (mid_of (505 * i) d x) (take (512 * i + 5 + 505 - (512 * i + 5)) (drop (512 * i + 5) f))) o
    ∙ ap (λ (k : ℕ). copied (mid_of (505 * i) d (overwritten (505 * i) P s)) (take k (drop (512 * i + 5) f))) w in
    let u : 505 * i + d ≡ min (505 * (i + 1)) (length s) = omega arith in (
      ap (λ (k : ℕ). put_mid k (r - k) l.out p.new.dst) at
          ∙ ap (λ (x : List ℕ). put_mid (505 * i) d x p.new.dst) o
          ∙ unpacked i n d f s p.new.dst (omega arith) (omega arith) (omega arith) (omega arith) (omega arith) y
          ∙ ap (λ (k : ℕ). overwritten k P s) u,
      omega arith,
    )

pub returns : goal.returns
returns c =
    let l = c.loop-i in
    let a = c.args in
    let s = a.out.now in
    let P = places_of a.n a.file.now in
    let m : min (505 * l.i) (length s) ≡ length s = omega arith in
    l.invariant.0 ∙ ap (λ (k : ℕ). overwritten k P s) m ∙ ap (λ (x : List ℕ). take (length s) P ++ x) (drop-length s) ∙ append-nil (take (length s) P)
