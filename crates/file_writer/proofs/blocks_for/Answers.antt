-- `blocks_for` meets its contract: each step keeps what is counted and what is left together.
use borrow.Author.Rules.{rules}
use Prim.Native.Nat.{◌+◌, ◌/◌}
use native.Mathlib.Omega.{arith}
use Rattle.file_codec.proofs.Shifts.{eight_times}
use Rattle.file_writer.proofs.blocks_for.Goals as goal

pub overflow_sub-left : goal.overflow_sub-left
overflow_sub-left c = let e = eight_times ((c.args.size + 504) / 512) (let p = c.requires in omega arith) in omega arith

pub counted-fours-requires : goal.counted-fours-requires
counted-fours-requires c = let e = eight_times ((c.args.size + 504) / 512) (let p = c.requires in omega arith) in search rules

pub returns : goal.returns
returns c =
    let s = (c.args.size + 504) / 512 in
    let e = eight_times s (let p = c.requires in omega arith) in
    let x = c.counted-fours.ensures.0 in
    let y = c.counted-twos.ensures.0 in
    let z = c.counted-ones.ensures.0 in
    let l = c.counted-ones.ensures.1 in
    omega arith
