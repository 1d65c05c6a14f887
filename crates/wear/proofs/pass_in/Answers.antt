use native.Mathlib.Omega.{arith}
use Rattle.wear.proofs.Blockwise.{passed_none, passed_one}
use Rattle.wear.proofs.pass_in.Goals as goal

pub returns-then-n-le-SHEET : goal.returns-then-n-le-SHEET
returns-then-n-le-SHEET c = (passed_none _ _ c.if-n-le-SHEET.true, omega arith)

pub returns : goal.returns
returns c = (passed_one _ _ c.if-n-le-SHEET.false c.requires, omega arith)
