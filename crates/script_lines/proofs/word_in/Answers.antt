-- `script_lines::word_in` meets its contract.
use borrow.Author.Tests.{eq-eqb, ne_eqb}
use mathlib.Core.Path.{sym, ◌∙◌}
use Rattle.script_lines.specs.Words.{word_in}
use Rattle.script_lines.proofs.word_in.Goals as goal

pub returns-then-text-eq0 : goal.returns-then-text-eq0
unfolding word_in
returns-then-text-eq0 c = simp (eq-eqb _ _ c.if-text-eq0.true)

pub returns-then-left-eq0 : goal.returns-then-left-eq0
unfolding word_in
returns-then-left-eq0 c = simp (eq-eqb _ _ c.if-left-eq0.true, ne_eqb _ _ c.if-text-eq0.false)

pub returns-then-is_traced : goal.returns-then-is_traced
unfolding word_in
returns-then-is_traced c = simp (sym c.is_traced.ensures ∙ c.if-is_traced.true, ne_eqb _ _ c.if-left-eq0.false, ne_eqb _ _ c.if-text-eq0.false)

pub returns-then-is_closing : goal.returns-then-is_closing
unfolding word_in
returns-then-is_closing c = simp (sym c.is_closing.ensures ∙ c.if-is_closing.true, sym c.is_traced.ensures ∙ c.if-is_traced.false, ne_eqb _ _ c.if-left-eq0.false, ne_eqb _ _ c.if-text-eq0.false)

pub returns-then-n-eq0 : goal.returns-then-n-eq0
unfolding word_in
returns-then-n-eq0 c = simp (eq-eqb _ _ c.if-n-eq0.true, ← c.count-n.ensures, sym c.is_opening.ensures ∙ c.if-is_opening.true, sym c.is_closing.ensures ∙ c.if-is_closing.false, sym c.is_traced.ensures ∙ c.if-is_traced.false, ne_eqb _ _ c.if-left-eq0.false, ne_eqb _ _ c.if-text-eq0.false)

pub returns-then-is_opening : goal.returns-then-is_opening
unfolding word_in
returns-then-is_opening c = simp (ne_eqb _ _ c.if-n-eq0.false, ← c.count-n.ensures, sym c.is_opening.ensures ∙ c.if-is_opening.true, sym c.is_closing.ensures ∙ c.if-is_closing.false, sym c.is_traced.ensures ∙ c.if-is_traced.false, ne_eqb _ _ c.if-left-eq0.false, ne_eqb _ _ c.if-text-eq0.false)

pub returns : goal.returns
unfolding word_in
returns c = simp (sym c.is_opening.ensures ∙ c.if-is_opening.false, sym c.is_closing.ensures ∙ c.if-is_closing.false, sym c.is_traced.ensures ∙ c.if-is_traced.false, ne_eqb _ _ c.if-left-eq0.false, ne_eqb _ _ c.if-text-eq0.false)
