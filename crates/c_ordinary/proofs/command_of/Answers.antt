-- `c_ordinary::command_of` meets its contract.
use mathlib.Core.Path.{◌∙◌}
use borrow.Author.Tests.{eq-eqb, ne_eqb}
use Rattle.c_ordinary.specs.Ordinary.{commanded_of}
use Rattle.c_ordinary.proofs.command_of.Goals as goal

pub returns-then-kind-eq2 : goal.returns-then-kind-eq2
unfolding commanded_of
returns-then-kind-eq2 c = c.sets.ensures ∙ simp (eq-eqb c.args.kind 2 c.if-kind-eq2.true)

pub returns-then-kind-ne1 : goal.returns-then-kind-ne1
unfolding commanded_of
returns-then-kind-ne1 c = c.unset.ensures ∙ simp (ne_eqb c.args.kind 2 c.if-kind-eq2.false, ne_eqb c.args.kind 1 c.if-kind-ne1.true)

pub returns-then-byte-eq255 : goal.returns-then-byte-eq255
unfolding commanded_of
returns-then-byte-eq255 c = c.sets-then-byte-eq255.ensures ∙ simp (ne_eqb c.args.kind 2 c.if-kind-eq2.false, eq-eqb c.args.kind 1 c.if-kind-ne1.false, eq-eqb c.args.byte 0xFF c.if-byte-eq255.true)

pub returns-then-byte-eq144 : goal.returns-then-byte-eq144
unfolding commanded_of
returns-then-byte-eq144 c = c.sets-then-byte-eq144.ensures ∙ simp (ne_eqb c.args.kind 2 c.if-kind-eq2.false, eq-eqb c.args.kind 1 c.if-kind-ne1.false, ne_eqb c.args.byte 0xFF c.if-byte-eq255.false, eq-eqb c.args.byte 0x90 c.if-byte-eq144.true)

pub returns-then-byte-eq112 : goal.returns-then-byte-eq112
unfolding commanded_of
returns-then-byte-eq112 c = c.sets-then-byte-eq112.ensures ∙ simp (ne_eqb c.args.kind 2 c.if-kind-eq2.false, eq-eqb c.args.kind 1 c.if-kind-ne1.false, ne_eqb c.args.byte 0xFF c.if-byte-eq255.false, ne_eqb c.args.byte 0x90 c.if-byte-eq144.false, eq-eqb c.args.byte 0x70 c.if-byte-eq112.true)

pub returns-then-byte-eq80 : goal.returns-then-byte-eq80
unfolding commanded_of
returns-then-byte-eq80 c = c.sets-then-byte-eq80.ensures ∙ simp (ne_eqb c.args.kind 2 c.if-kind-eq2.false, eq-eqb c.args.kind 1 c.if-kind-ne1.false, ne_eqb c.args.byte 0xFF c.if-byte-eq255.false, ne_eqb c.args.byte 0x90 c.if-byte-eq144.false, ne_eqb c.args.byte 0x70 c.if-byte-eq112.false, eq-eqb c.args.byte 0x50 c.if-byte-eq80.true)

pub returns-then-byte-eq32 : goal.returns-then-byte-eq32
unfolding commanded_of
returns-then-byte-eq32 c = c.sets-then-byte-eq32.ensures ∙ simp (ne_eqb c.args.kind 2 c.if-kind-eq2.false, eq-eqb c.args.kind 1 c.if-kind-ne1.false, ne_eqb c.args.byte 0xFF c.if-byte-eq255.false, ne_eqb c.args.byte 0x90 c.if-byte-eq144.false, ne_eqb c.args.byte 0x70 c.if-byte-eq112.false, ne_eqb c.args.byte 0x50 c.if-byte-eq80.false, eq-eqb c.args.byte 0x20 c.if-byte-eq32.true)

pub returns-then-byte-eq64 : goal.returns-then-byte-eq64
unfolding commanded_of
returns-then-byte-eq64 c = c.sets-then-byte-eq64.ensures ∙ simp (ne_eqb c.args.kind 2 c.if-kind-eq2.false, eq-eqb c.args.kind 1 c.if-kind-ne1.false, ne_eqb c.args.byte 0xFF c.if-byte-eq255.false, ne_eqb c.args.byte 0x90 c.if-byte-eq144.false, ne_eqb c.args.byte 0x70 c.if-byte-eq112.false, ne_eqb c.args.byte 0x50 c.if-byte-eq80.false, ne_eqb c.args.byte 0x20 c.if-byte-eq32.false, eq-eqb c.args.byte 0x40 c.if-byte-eq64.true)

pub returns : goal.returns
unfolding commanded_of
returns c = c.unset-2.ensures ∙ simp (ne_eqb c.args.kind 2 c.if-kind-eq2.false, eq-eqb c.args.kind 1 c.if-kind-ne1.false, ne_eqb c.args.byte 0xFF c.if-byte-eq255.false, ne_eqb c.args.byte 0x90 c.if-byte-eq144.false, ne_eqb c.args.byte 0x70 c.if-byte-eq112.false, ne_eqb c.args.byte 0x50 c.if-byte-eq80.false, ne_eqb c.args.byte 0x20 c.if-byte-eq32.false, ne_eqb c.args.byte 0x40 c.if-byte-eq64.false)
