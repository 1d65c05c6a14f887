-- `file_codec::judge_blocks` meets its contract: the blocks passed are right, so the rest decides.
use mathlib.Core.Path.{◌≡◌, sym, ap, ◌∙◌}
use mathlib.Core.List.{List, []}
use Prim.Native.Nat.{ℕ, ◌-◌, ◌+◌, ◌*◌, ◌<◌}
use native.Mathlib.Omega.{arith}
use lib.ListN.{length, take, drop}
use lib.Dec.{eqb}
use borrow.Author.Tests.{eq-eqb, ne_eqb}
use Rattle.std.proofs.lemmas.Result.{err_from_is_err_and}
use Rattle.common.proofs.Choice.{if_true, if_false}
use Rattle.common.specs.Numbers.{given}
use Rattle.file_check.specs.Refusal.{number_of}
use Rattle.file_check.proofs.Refusals.{number_range}
use Rattle.file_block.specs.Block.{block_rows, unsound_number}
use Rattle.file_block.proofs.Tables.{fault_given}
use Rattle.file_codec.proofs.Tables.{round, block_cut}
use Rattle.file_codec.proofs.judge_blocks.Goals as goal

-- what was found of the block is what its table gives
one_block : (F i n m : ℕ) (f : List ℕ) → i < n → length f ≡ 512 * n → m ≡ unsound_number F i n (take (512 * i + 512 - 512 * i) (drop (512 * i) f))
    → m ≡ given (block_rows F i n (take 512 (drop (512 * i) f)) [])
one_block F i n m f h l e =
    let w : 512 * i + 512 - 512 * i ≡ 512 = omega arith in
    e ∙ ap (λ (k : ℕ). unsound_number F i n (take k (drop (512 * i) f))) w ∙ fault_given F i n (take 512 (drop (512 * i) f)) (block_cut i n f h l)

pub returns-in_err-judge_block : goal.returns-in_err-judge_block
returns-in_err-judge_block c =
    let l = c.loop-i in
    let F = c.nth-first.result in
    let a = c.args in
    let x = c.in_err-judge_block.field-0.0 in
    let p = err_from_is_err_and c.from_residual.result c.from_residual.ensures.1 in
    let G = given (block_rows F l.i a.n (take 512 (drop (512 * l.i) a.file.now)) []) in
    let r : number_of x ≡ G = one_block F l.i a.n (number_of x) a.file.now (omega arith) (omega arith) c.in_err-judge_block.ensures in
    let z : G ≡ 0 → ⊥ = (λ (q : G ≡ 0). let k = number_range x in omega arith) in
    rw (p.1, p.2) (r ∙ sym (if_false (eqb G 0) _ G (ne_eqb G 0 z)) ∙ sym (round F l.i a.n a.file.now (omega arith)) ∙ l.invariant)

pub loop-i-preserved : goal.loop-i-preserved
loop-i-preserved c =
    let l = c.loop-i in
    let F = c.nth-first.result in
    let a = c.args in
    let G = given (block_rows F l.i a.n (take 512 (drop (512 * l.i) a.file.now)) []) in
    let r : 0 ≡ G = one_block F l.i a.n 0 a.file.now (omega arith) (omega arith) c.in_ok-judge_block.ensures in
    sym (if_true (eqb G 0) _ G (eq-eqb G 0 (sym r))) ∙ sym (round F l.i a.n a.file.now (omega arith)) ∙ l.invariant
