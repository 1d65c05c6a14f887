-- `loader_steps::front::setup_by` meets its contract.
use mathlib.Core.Path.{sym, ◌∙◌}
use borrow.Author.Tests.{eq-eqb, ne_eqb}
use Rattle.device.specs.Parts.{length_of}
use Rattle.loader_steps.specs.Front.{no_block, wrong_lengths, setup_number}
use Rattle.loader_steps.proofs.front.setup_by.Goals as goal

pub returns-then-barred_pins : goal.returns-then-barred_pins
unfolding setup_number no_block wrong_lengths
returns-then-barred_pins c = simp (sym c.barred_pins.ensures ∙ c.if-barred_pins.true)

pub returns-then-n-eq0 : goal.returns-then-n-eq0
unfolding setup_number no_block wrong_lengths
returns-then-n-eq0 c = simp (sym c.barred_pins.ensures ∙ c.if-barred_pins.false, eq-eqb (length_of c.args.part c.args.block) 0 (sym c.requires ∙ c.if-n-eq0.true))

pub returns-then-wanted-n : goal.returns-then-wanted-n
unfolding setup_number no_block wrong_lengths
returns-then-wanted-n c = simp (sym c.barred_pins.ensures ∙ c.if-barred_pins.false, ne_eqb (length_of c.args.part c.args.block) 0 (λ e. c.if-n-eq0.false (c.requires ∙ e)), ne_eqb c.args.wanted (length_of c.args.part c.args.block) (λ e. c.if-wanted-n.true (e ∙ sym c.requires)))

pub returns-then-scratch-n : goal.returns-then-scratch-n
unfolding setup_number no_block wrong_lengths
returns-then-scratch-n c = simp (sym c.barred_pins.ensures ∙ c.if-barred_pins.false, ne_eqb (length_of c.args.part c.args.block) 0 (λ e. c.if-n-eq0.false (c.requires ∙ e)), eq-eqb c.args.wanted (length_of c.args.part c.args.block) (c.if-wanted-n.false ∙ c.requires), ne_eqb c.args.scratch (length_of c.args.part c.args.block) (λ e. c.if-scratch-n.true (e ∙ sym c.requires)))

pub returns : goal.returns
unfolding setup_number no_block wrong_lengths
returns c = simp (sym c.barred_pins.ensures ∙ c.if-barred_pins.false, ne_eqb (length_of c.args.part c.args.block) 0 (λ e. c.if-n-eq0.false (c.requires ∙ e)), eq-eqb c.args.wanted (length_of c.args.part c.args.block) (c.if-wanted-n.false ∙ c.requires), eq-eqb c.args.scratch (length_of c.args.part c.args.block) (c.if-scratch-n.false ∙ c.requires))
