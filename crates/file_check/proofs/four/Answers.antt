-- `four` meets its contract.
use native.Mathlib.Omega.{arith}
use Prim.Native.Nat.{◌≤◌, ◌+◌}
use lib.ListN.{length, drop, length-drop}
use Rattle.file_check.proofs.Sums.{held_small, held_round}
use Rattle.file_check.proofs.four.Goals as goal

pub next-requires : goal.next-requires
next-requires c =
    let xs = c.args.bytes.now in
    let n : length (drop (c.args.at + 4) xs) ≤ 510 = simp length-drop (omega arith) in
    (held_small c.args.s (drop (c.args.at + 4) xs) n c.requires.2.held, c.byte_at-a.ensures.1, c.byte_at-b.ensures.1, c.byte_at-c.ensures.1, c.byte_at-d.ensures.1)

pub returns : goal.returns
returns c =
    held_round c.args.s c.args.bytes.now c.args.at c.requires.0 c.requires.1 c.requires.2
    c.byte_at-a.ensures
    c.byte_at-b.ensures
    c.byte_at-c.ensures
    c.byte_at-d.ensures
    c.next.ensures
