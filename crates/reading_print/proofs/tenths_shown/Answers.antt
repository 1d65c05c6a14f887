use Rattle.reading_print.proofs.Shown.{shown_in, shown_none}
use Rattle.reading_print.proofs.tenths_shown.Goals as goal

pub returns-then-u-lt4294967296 : goal.returns-then-u-lt4294967296
returns-then-u-lt4294967296 c = shown_in _ _ _ c.size_shown-a.ensures c.whole-u.ensures c.if-u-lt4294967296.true

pub returns : goal.returns
returns c = shown_none _ _ _ c.size_shown-a.ensures c.whole-u.ensures c.if-u-lt4294967296.false
