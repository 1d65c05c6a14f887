use Prim.Native.Nat.{ℕ}
use mathlib.Core.List.{List}
use mathlib.Core.Path.{ap, ◌∙◌}
use Rattle.units.specs.Units.{units, spare}
use Rattle.units.proofs.Widths.{fit_by, in_law, one_law, leave_law, leave_spare}
use native.Mathlib.Omega.{arith}
use Rattle.units.proofs.leave_there.Goals as goal

pub byte_of-requires : goal.byte_of-requires
byte_of-requires c =
    let h = c.requires.0 in
    let l = fit_by c.args.word c.args.s.now c.args.a (omega arith) in
    omega arith

pub bytes_in-requires : goal.bytes_in-requires
bytes_in-requires c =
    let h = c.requires.0 in
    let l = fit_by c.args.word c.args.s.now c.args.n (omega arith) in
    omega arith

pub leave_part-requires : goal.leave_part-requires
leave_part-requires c = (
  in_law c.args.word c.args.s.now c.args.a c.args.n _ _ c.byte_of.ensures c.bytes_in.ensures c.requires.0,
  one_law c.args.word c.args.residue.now c.args.n _ c.bytes_in.ensures c.requires.1,
)

pub returns : goal.returns
returns c =
    let p = c.byte_of.ensures in
    let q = c.bytes_in.ensures in record {
      s_left = ap (λ (t : List ℕ). units c.args.word t) c.leave_part.ensures
          ∙ leave_law c.args.word c.args.s.now c.args.residue.now c.args.a c.args.n _ _ p q c.requires.0 c.requires.1;
      s_spare = ap (λ (t : List ℕ). spare c.args.word t) c.leave_part.ensures
          ∙ leave_spare c.args.word c.args.s.now c.args.residue.now c.args.a c.args.n _ _ p q c.requires.0 c.requires.1;
    }
