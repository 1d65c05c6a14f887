-- `load_told::loaded` meets its contract.
use mathlib.Core.Path.{ap, ◌∙◌}
use Rattle.loader_from_file.specs.Loads.{LoadLeft}
use Rattle.verify_answer.proofs.AnswerCases.{room_left}
use Rattle.load_told.specs.Tellings.{load_of}
use Rattle.load_told.proofs.AnswerCases.{load_is}
use Rattle.verify_answer.specs.Answers.{bytes_of}
use Rattle.load_told.proofs.loaded.Goals as goal

pub returns : goal.returns
returns c =
    let a = c.args in
    let b = c.block_bytes-n in
    let s = c.fresh-state in
    let q = c.pins_of-pins in
    let r = c.load in
    let W = a.wanted.now in
    let S = a.scratch.now in
    let n = bytes_of a.d.part a.block W S in
    let Z = load_of a.d a.block a.image.now W S a.file.now a.letter in
    let e = load_is a.d a.block a.image.now W S a.file.now a.letter b.result s.result q.result b.ensures s.ensures q.ensures in record { result = r.ensures.result ∙ ap (λ (z : LoadLeft). z.ran) e; image_left = r.ensures.array_left ∙ ap (λ (z : LoadLeft). z.bytes) e; wanted_left = room_left b.result n W _ Z.wanted b.ensures (r.ensures.wanted_left ∙ ap (λ (z : LoadLeft). z.wanted) e); scratch_left = room_left b.result n S _ Z.scratch b.ensures (r.ensures.scratch_left ∙ ap (λ (z : LoadLeft). z.scratch) e) }
