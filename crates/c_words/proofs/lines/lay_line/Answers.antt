-- `lines::lay_line` meets its contract.
use borrow.Author.Tests.{lt-ltb, le-ltb}
use Rattle.c_words.specs.Words.{line_of}
use Rattle.c_words.proofs.lines.lay_line.Goals as goal

pub returns-then-n-lt10 : goal.returns-then-n-lt10
unfolding line_of
returns-then-n-lt10 c = simp (lt-ltb _ _ c.if-n-lt10.true) c.lay_cycle.ensures

pub returns-then-n-lt20 : goal.returns-then-n-lt20
unfolding line_of
returns-then-n-lt20 c = simp (lt-ltb _ _ c.if-n-lt20.true, le-ltb _ _ c.if-n-lt10.false) c.lay_run.ensures

pub returns-then-n-lt30 : goal.returns-then-n-lt30
unfolding line_of
returns-then-n-lt30 c = simp (lt-ltb _ _ c.if-n-lt30.true, le-ltb _ _ c.if-n-lt20.false, le-ltb _ _ c.if-n-lt10.false) c.lay_end.ensures

pub returns-then-n-lt40 : goal.returns-then-n-lt40
unfolding line_of
returns-then-n-lt40 c = simp (lt-ltb _ _ c.if-n-lt40.true, le-ltb _ _ c.if-n-lt30.false, le-ltb _ _ c.if-n-lt20.false, le-ltb _ _ c.if-n-lt10.false) c.lay_file.ensures

pub returns : goal.returns
unfolding line_of
returns c = simp (le-ltb _ _ c.if-n-lt40.false, le-ltb _ _ c.if-n-lt30.false, le-ltb _ _ c.if-n-lt20.false, le-ltb _ _ c.if-n-lt10.false) c.lay_table.ensures
