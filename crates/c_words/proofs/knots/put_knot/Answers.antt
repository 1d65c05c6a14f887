-- `knots::put_knot` meets its contract.
use mathlib.Core.Path.{ap, ◌∙◌}
use mir.Syntax.{w32}
use mir.ValLaws.{to_z-of_z}
use Rattle.reading_text.proofs.Walks.{put_knot_over}
use Rattle.c_words.specs.Knots.{bits_of}
use Rattle.c_words.proofs.knots.put_knot.Goals as goal

pub returns : goal.returns
returns c =
    let a = c.args in
    let f = c.ranges in
    put_knot_over a.payload.now _ a.place _ _ _ _ c.put_six.ensures
    (c.bits-v.ensures ∙ ap bits_of (to_z-of_z w32 a.microvolts f.microvolts))
    (c.bits-t.ensures ∙ ap bits_of (to_z-of_z w32 a.tenths f.tenths))
