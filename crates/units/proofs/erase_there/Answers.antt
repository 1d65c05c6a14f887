use Prim.Native.Nat.{ℕ}
use mathlib.Core.List.{List}
use mathlib.Core.Path.{ap, ◌∙◌}
use Rattle.units.specs.Units.{units, spare}
use Rattle.units.proofs.Widths.{fit_by, in_law, erase_law, erase_spare}
use native.Mathlib.Omega.{arith}
use Rattle.units.proofs.erase_there.Goals as goal

pub byte_of-requires : goal.byte_of-requires
byte_of-requires c =
    let h = c.requires in
    let l = fit_by c.args.word c.args.s.now c.args.a (omega arith) in
    omega arith

pub bytes_in-requires : goal.bytes_in-requires
bytes_in-requires c =
    let h = c.requires in
    let l = fit_by c.args.word c.args.s.now c.args.n (omega arith) in
    omega arith

pub erase_part-requires : goal.erase_part-requires
erase_part-requires c =
    in_law c.args.word c.args.s.now c.args.a c.args.n _ _ c.byte_of.ensures c.bytes_in.ensures c.requires

pub returns : goal.returns
returns c =
    let p = c.byte_of.ensures in
    let q = c.bytes_in.ensures in record {
      s_left = ap (λ (t : List ℕ). units c.args.word t) c.erase_part.ensures
          ∙ erase_law c.args.word c.args.s.now c.args.a c.args.n _ _ p q c.requires;
      s_spare = ap (λ (t : List ℕ). spare c.args.word t) c.erase_part.ensures
          ∙ erase_spare c.args.word c.args.s.now c.args.a c.args.n _ _ p q c.requires;
    }
