use borrow.Author.Tests.{lt-ltb, le-ltb}
use mathlib.Core.Path.{sym, ◌∙◌}
use Rattle.loader_held.specs.Holds.{after_poll}
use Rattle.loader_held.proofs.holds.after_poll.Reads as reads
use Rattle.loader_held.proofs.holds.after_poll.Lts as lts
use Rattle.loader_held.proofs.holds.hold_as.Reads as hold-as-reads
use Rattle.loader_held.proofs.holds.is_listed.Reads as is-listed-reads
use Rattle.loader_held.proofs.holds.usually.Reads as usually-reads
use Rattle.loader_held.proofs.holds.after_poll.Goals as goal

-- src/holds.rt:69:13
pub returns-then-is_listed : goal.returns-then-is_listed
unfolding after_poll
returns-then-is_listed c = simp (c.hold_as.ensures, sym c.is_listed.ensures ∙ c.if-is_listed.true, lt-ltb _ _ c.if-n-lt4294967295.true)

-- src/holds.rt:71:9
pub returns-then-n-lt4294967295 : goal.returns-then-n-lt4294967295
unfolding after_poll
returns-then-n-lt4294967295 c = simp (c.usually.ensures, sym c.is_listed.ensures ∙ c.if-is_listed.false, lt-ltb _ _ c.if-n-lt4294967295.true)

-- src/holds.rt:64:1
pub returns : goal.returns
unfolding after_poll
returns c = simp (c.usually-2.ensures, le-ltb _ _ c.if-n-lt4294967295.false)
