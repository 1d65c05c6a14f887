-- `c_functions::tb_block` meets its contract.
use mathlib.Core.Path.{◌≡◌, refl, ◌∙◌}
use mathlib.Core.Bool.{Bool, true, false}
use Prim.Native.Nat.{ℕ}
use lib.Dec.{eqb}
use Rattle.std.specs.Prelude.{if◌then◌else◌}
use Rattle.device.specs.declared.Span.{Span}
use Rattle.device.specs.Parts.{unknown_part, length_of, start_of}
use Rattle.loader_steps.specs.Front.{no_block}
use Rattle.c_records.specs.declared.BlockNumbers.{BlockNumbers}
use Rattle.c_blocks.specs.Table.{lying}
use Rattle.c_blocks.proofs.Table.{blocks_are}
use Rattle.c_functions.specs.Geometry.{part_by, block_returned}
use Rattle.c_functions.proofs.tb_block.Goals as goal

-- a span as numbers
abbrev numbers : Span → BlockNumbers
numbers s = record { first = s.first; length = s.length }

in_numbers : (u z : Bool) (a l : ℕ) → numbers (if u then lying 0 0 else if z then lying 0 0 else lying a l)
    ≡ (if u then record { first = 0; length = 0 } else if z then record { first = 0; length = 0 } else record { first = a; length = l })
in_numbers true z a l = refl
in_numbers false true a l = refl
in_numbers false false a l = refl

pub returns : goal.returns
unfolding block_returned no_block
returns c = let a = c.args in
    let e = c.block_at-span.ensures ∙ blocks_are a.part a.block in
    let p = part_by a.part in
    (λ i. numbers (e i)) ∙ in_numbers (unknown_part p) (eqb (length_of p a.block) 0) (start_of p a.block) (length_of p a.block)
