use borrow.Author.Rules.{rules}
use Rattle.store_find.proofs.Seeking.{out_refused, out_ends, out_there}
use Rattle.store_find.proofs.seek.Goals as goal

pub returns-then-n-ne0 : goal.returns-then-n-ne0
returns-then-n-ne0 c = let a = c.args in let v = c.survey_of-s in let f = c.find_number-n in out_refused a.main.now a.letter v.result v.ensures f.result f.ensures c.if-n-ne0.true

pub overflow_mul-result : goal.overflow_mul-result
overflow_mul-result c = let a = c.args in let v = c.survey_of-s in let f = c.find_number-n in let h = out_ends a.main.now a.letter v.result v.ensures f.result f.ensures c.if-n-ne0.false in search rules

pub overflow_mul-result-2 : goal.overflow_mul-result-2
overflow_mul-result-2 c = let a = c.args in let v = c.survey_of-s in let f = c.find_number-n in let h = out_ends a.main.now a.letter v.result v.ensures f.result f.ensures c.if-n-ne0.false in search rules

pub returns : goal.returns
returns c = let a = c.args in let v = c.survey_of-s in let f = c.find_number-n in out_there a.main.now a.letter v.result v.ensures f.result f.ensures c.if-n-ne0.false
