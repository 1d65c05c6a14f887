use Prim.Native.Nat.{◌+◌, ◌<◌}
use lib.ListN.{length}
use Rattle.units.proofs.Words.{put_law, put_past}
use borrow.Author.Rules.{rules}
use native.Mathlib.Omega.{arith}
use mathlib.Core.Path.{refl}
use Rattle.units.proofs.put_word.Goals as goal

pub bounds-s-i-then-w-s : goal.bounds-s-i-then-w-s
bounds-s-i-then-w-s c =
    let a = c.args in
    let e = c.first_byte-a.ensures in
    let k : c.first_byte-a.result.byte + 1 < length a.s.now = omega arith in
    search rules

pub returns-then-w-s : goal.returns-then-w-s
returns-then-w-s c =
    let a = c.args in
    let both = put_law a.s.now a.w.word _ a.v _ _ c.first_byte-a.ensures c.low-lo.ensures c.high-hi.ensures (omega arith) in record { s_left = both.0; s_spare = both.1 }

pub returns : goal.returns
returns c =
    let a = c.args in
    record { s_left = put_past a.s.now a.w.word a.v c.if-w-s.false; s_spare = refl }
