-- `c_ordinary::units_of` meets its contract.
use mathlib.Core.Path.{sym, ◌∙◌}
use borrow.Author.Tests.{eq-eqb, ne_eqb, lt-ltb, le-ltb}
use Rattle.c_ordinary.specs.Ordinary.{bytes_for, units_for}
use Rattle.c_ordinary.proofs.units_of.Goals as goal

pub returns-then-bytes_of-len : goal.returns-then-bytes_of-len
unfolding units_for
returns-then-bytes_of-len c = simp (ne_eqb (bytes_for c.args.number) c.args.len (λ e. c.if-bytes_of-len.true (c.bytes_of.ensures ∙ e)))

pub returns-then-word-eq0 : goal.returns-then-word-eq0
unfolding units_for
returns-then-word-eq0 c = simp (eq-eqb (bytes_for c.args.number) c.args.len (sym c.bytes_of.ensures ∙ c.if-bytes_of-len.false), eq-eqb c.args.word 0 c.if-word-eq0.true)

pub returns-then-word-ne1 : goal.returns-then-word-ne1
unfolding units_for
returns-then-word-ne1 c = simp (eq-eqb (bytes_for c.args.number) c.args.len (sym c.bytes_of.ensures ∙ c.if-bytes_of-len.false), ne_eqb c.args.word 0 c.if-word-eq0.false, ne_eqb c.args.word 1 c.if-word-ne1.true)

pub returns-then-number-lt5 : goal.returns-then-number-lt5
unfolding units_for
returns-then-number-lt5 c = simp (eq-eqb (bytes_for c.args.number) c.args.len (sym c.bytes_of.ensures ∙ c.if-bytes_of-len.false), ne_eqb c.args.word 0 c.if-word-eq0.false, eq-eqb c.args.word 1 c.if-word-ne1.false, lt-ltb c.args.number 5 c.if-number-lt5.true)

pub returns : goal.returns
unfolding units_for
returns c = simp (eq-eqb (bytes_for c.args.number) c.args.len (sym c.bytes_of.ensures ∙ c.if-bytes_of-len.false), ne_eqb c.args.word 0 c.if-word-eq0.false, eq-eqb c.args.word 1 c.if-word-ne1.false, le-ltb c.args.number 5 c.if-number-lt5.false)
