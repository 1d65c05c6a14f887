-- `script_run::answered` meets its contract.
use Rattle.script_run.proofs.Lines.{line_state, line_array, line_laid}
use Rattle.script_run.proofs.answered.Goals as goal

pub returns : goal.returns
returns c =
    let a = c.args in let k = c.answer_line-t in let p = c.requires.1 in
    record { result = line_state a.text.now a.x a.array.now a.residue.now k.result k.ensures.result; array_left = line_array a.text.now a.x a.array.now a.residue.now k.new.array k.ensures.array_left; out_left = line_laid a.text.now a.x a.array.now a.residue.now a.out.now k.new.out p k.ensures.out_left }
