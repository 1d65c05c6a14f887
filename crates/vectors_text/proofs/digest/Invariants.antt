-- `vectors_text::digest` meets its contract: what was gone through gives the digest so far.
use Rattle.std.proofs.Common.{◌≡◌, ◌<◌, take, fold}
use Rattle.vectors_text.specs.Patterns.{digest_more}
use Rattle.vectors_text.proofs.digest.Given as goal

abbrev pub invariant-loop-b : goal.invariant-loop-b
invariant-loop-b l = (l.h < 65521) × (l.h ≡ fold digest_more 0 (take l.b-index l.s))
