use borrow.Author.Tests.{lt-ltb, le-ltb}
use mathlib.Core.Path.{refl, sym, ◌∙◌}
use Rattle.units.specs.Units.{units}
use Rattle.loader_held.specs.Holds.{fetch_on, fetch_stored}
use Rattle.loader_held.proofs.Fetched.{fetch_finished, stored_finished}
use Rattle.loader_held.proofs.holds.fetch_on.Reads as reads
use Rattle.loader_held.proofs.holds.fetch_on.Lts as lts
use Rattle.loader_held.proofs.holds.finished.Reads as finished-reads
use Rattle.loader_held.proofs.holds.held_to.Reads as held-to-reads
use Rattle.loader_held.proofs.holds.hold_as.Reads as hold-as-reads
use Rattle.loader_held.proofs.holds.pair_of.Reads as pair-of-reads
use Rattle.loader_held.proofs.holds.fetch_on.Goals as goal

-- src/holds.rt:147:9
pub returns-then-i-k : goal.returns-then-i-k
unfolding fetch_on fetch_stored
returns-then-i-k c = simp (c.pair_of.ensures, c.hold_as.ensures, lt-ltb _ _ c.if-i-k.true) (record { result = refl; scratch_left = refl; scratch_spare = refl })

-- src/holds.rt:150:9
pub returns-then-suspended : goal.returns-then-suspended
unfolding fetch_on fetch_stored
returns-then-suspended c = simp (c.pair_of-then-suspended.ensures, c.held_to.ensures, c.if-suspended.true, le-ltb _ _ c.if-i-k.false) (record { result = refl; scratch_left = refl; scratch_spare = refl })

-- src/holds.rt:141:1
pub returns : goal.returns
returns c =
    let f = c.finished in
    let a = c.args in
    let u = a.l.part.word in
    let done = le-ltb a.i a.k c.if-i-k.false in
    let free = c.if-suspended.false in
    let w = units u a.wanted.now in
    let sc = units u a.scratch.now in record { result = f.ensures.result ∙ sym (fetch_finished a.l a.h a.i a.k w sc done free); scratch_left = f.ensures.scratch_left ∙ sym (stored_finished a.l a.h a.i a.k w sc done free); scratch_spare = f.ensures.scratch_spare }
