-- Addresses are small: a block begins inside the array.
use Prim.Native.Nat.{ℕ, ◌≤◌, ◌<◌}
use native.Mathlib.Omega.{arith}
use Rattle.device.specs.declared.Part.{Part}
use Rattle.device.specs.Parts.{start_of, length_of}
use Rattle.device.proofs.Claims.{blocks_end_inside}
use Rattle.device.proofs.BlockAddresses.{size_small}
use lib.Dec.{ltb}
use borrow.Author.Tests.{ltb-true}
use Rattle.common.proofs.Choice.{if_ind}
use Rattle.loader.specs.declared.Loader.{Loader}
use Rattle.loader_steps.specs.Addresses.{first_address}
use Rattle.loader_steps.specs.Inner.{here_of}

pub start_small : (part : Part) (k : ℕ) → start_of part k ≤ 524288
start_small part k = omega (arith, blocks_end_inside part k, size_small part)

pub length_small : (part : Part) (k : ℕ) → length_of part k ≤ 524288
length_small part k = omega (arith, blocks_end_inside part k, size_small part)

pub here_small : (l : Loader) → here_of l < 17301504
unfolding here_of first_address
here_small l =
    if_ind (λ (a : ℕ). a < 17301504) (ltb l.place 16777216) _ _
    (λ e. omega (arith, start_small l.part l.block, ltb-true l.place 16777216 e)) (λ e. omega (arith, start_small l.part l.block))
