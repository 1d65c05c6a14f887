-- `recording_text::next` meets its contract.
use mathlib.Core.Path.{ap, ◌∙◌}
use Rattle.recording.specs.declared.Noted.{Noted}
use Rattle.recording_walk.specs.Inner.{went_on, bytes_on}
use Rattle.recording_text.proofs.next.Goals as goal

pub returns : goal.returns
returns c =
    let g = c.go_on in
    let e = c.record_in-r.ensures in
    let a = c.args in (
      g.ensures.0 ∙ ap (λ (r : Noted). went_on a.w r a.array.now) e,
      g.ensures.1 ∙ ap (λ (r : Noted). bytes_on a.w r a.array.now) e,
    )
