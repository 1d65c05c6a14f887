-- Laws of the reader's table: what is asked after the blocks, and one block at a time.
use mathlib.Core.Path.{◌≡◌, refl, ◌∙◌, ap}
use mathlib.Core.List.{List, [], ◌++◌}
use Prim.Native.Nat.{ℕ, zero, suc, ◌+◌, ◌*◌, ◌-◌, ◌<◌}
use native.Mathlib.Omega.{arith}
use lib.ListN.{length, take, drop, length-drop}
use lib.Seq.{drop-drop, length-take-le}
use lib.Dec.{eqb}
use Rattle.std.specs.Prelude.{if◌then◌else◌}
use Rattle.common.specs.Numbers.{Row, given, numbered}
use Rattle.common.proofs.Numbers.{given_append}
use Rattle.file_block.specs.Block.{block_rows}
use Rattle.file_block.proofs.Tables.{after_block}
use Rattle.file_codec.specs.File.{blocks_rows}

-- the rows of the blocks stand before those that are asked after them
pub blocks_append : (left first i n : ℕ) (f : List ℕ) (rest : List Row) → blocks_rows left first i n f rest ≡ blocks_rows left first i n f [] ++ rest
blocks_append zero first i n f rest = refl
blocks_append (suc left) first i n f rest = ap (block_rows first i n (take 512 f)) (blocks_append left first (i + 1) n (drop 512 f) rest)

-- none of them has the number 0
pub blocks_numbered : (left first i n : ℕ) (f : List ℕ) (rest : List Row) → numbered (blocks_rows left first i n f rest) ≡ numbered rest
blocks_numbered zero first i n f rest = refl
blocks_numbered (suc left) first i n f rest = blocks_numbered left first (i + 1) n (drop 512 f) rest

-- what is asked after the blocks counts only where nothing is wrong with them
pub after_blocks : (left first i n : ℕ) (f : List ℕ) (rest : List Row)
    → given (blocks_rows left first i n f rest) ≡ (if eqb (given (blocks_rows left first i n f [])) 0 then given rest else given (blocks_rows left first i n f []))
after_blocks left first i n f rest =
    ap given (blocks_append left first i n f rest) ∙ given_append (blocks_rows left first i n f []) rest (blocks_numbered left first i n f [])

-- block i of n is 512 bytes long
pub block_cut : (i n : ℕ) (f : List ℕ) → i < n → length f ≡ 512 * n → length (take 512 (drop (512 * i) f)) ≡ 512
block_cut i n f h e =
    let d : length (drop (512 * i) f) ≡ length f - 512 * i = length-drop (512 * i) f in
    length-take-le 512 (drop (512 * i) f) (omega arith)

-- a walk over the blocks, at block i: the rest of the walk, where this block is right
pub round : (first i n : ℕ) (f : List ℕ) → i < n
    → given (blocks_rows (n - i) first i n (drop (512 * i) f) [])
    ≡ (if eqb (given (block_rows first i n (take 512 (drop (512 * i) f)) [])) 0
    then given (blocks_rows (n - (i + 1)) first (i + 1) n (drop (512 * (i + 1)) f) [])
    else given (block_rows first i n (take 512 (drop (512 * i) f)) []))
round first i n f h =
    let B = take 512 (drop (512 * i) f) in
    let e : n - i ≡ suc (n - (i + 1)) = omega arith in
    let d : 512 * i + 512 ≡ 512 * (i + 1) = omega arith in
    ap (λ (k : ℕ). given (blocks_rows k first i n (drop (512 * i) f) [])) e
    ∙ after_block first i n B (blocks_rows (n - (i + 1)) first (i + 1) n (drop 512 (drop (512 * i) f)) [])
    ∙ ap (λ (z : List ℕ). (if eqb (given (block_rows first i n B [])) 0 then given (blocks_rows (n - (i + 1)) first (i + 1) n z []) else given (block_rows first i n B [])))
    (drop-drop 512 (512 * i) f ∙ ap (λ (k : ℕ). drop k f) d)
