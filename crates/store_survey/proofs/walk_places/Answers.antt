-- `store_survey::walk_places` meets its contract: what is left to tell agrees with what was to tell, place by place.
use mathlib.Core.Path.{refl, ◌∙◌, ap}
use native.Mathlib.Omega.{arith}
use lib.ListN.{length}
use Rattle.store_survey.proofs.Spots.{left_at, ended}
use Rattle.store_survey.proofs.Carried.{begun, carried, seen_long}
use Rattle.store_survey.proofs.walk_places.Goals as goal

pub loop-p-init : goal.loop-p-init
loop-p-init c = let a = c.args in (refl, refl, begun a.letter a.n a.main.now a.seen.now c.requires)

pub loop-p-preserved : goal.loop-p-preserved
loop-p-preserved c =
    let a = c.args in
    let L = c.loop-p in
    let i = L.invariant in
    let m = a.main.now in
    let spot = c.spot_at-spot in
    let again = c.twice-again in
    let noted = c.note-s in
    let marked = c.mark in (
      ap length marked.ensures ∙ seen_long L.seen spot.result ∙ i.0,
      refl,
      carried a.letter a.n m (left_at m 0) L.p L.seen marked.new.seen L.s noted.result spot.result again.result c.more.result
          c.loop-p-test.true spot.ensures again.ensures noted.ensures marked.ensures c.more.ensures.0 i.2,
    )

pub returns : goal.returns
returns c = let a = c.args in let L = c.loop-p in ended a.letter a.n a.main.now L.p L.seen L.s (omega arith) L.invariant.2
