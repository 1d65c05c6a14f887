-- `verify_answer::verified` meets its contract.
use mathlib.Core.Path.{ap, ◌∙◌}
use Rattle.loader_from_file.specs.Loads.{LoadLeft}
use Rattle.verify_answer.specs.Answers.{verify_of, bytes_of}
use Rattle.verify_answer.proofs.AnswerCases.{verify_is, room_left}
use Rattle.verify_answer.proofs.verified.Goals as goal

pub returns : goal.returns
returns c =
    let a = c.args in
    let b = c.block_bytes-n in
    let r = c.load in
    let W = a.wanted.now in
    let S = a.scratch.now in
    let Z = verify_of a.part a.block a.image.now W S a.file.now a.letter in
    let e = verify_is a.part a.block a.image.now W S a.file.now a.letter b.result c.verify_job-j.result b.ensures c.verify_job-j.ensures in record { result = r.ensures.result ∙ ap (λ (z : LoadLeft). z.ran) e; image_left = r.ensures.array_left ∙ ap (λ (z : LoadLeft). z.bytes) e; wanted_left = room_left b.result (bytes_of a.part a.block W S) W _ Z.wanted b.ensures (r.ensures.wanted_left ∙ ap (λ (z : LoadLeft). z.wanted) e); scratch_left = room_left b.result (bytes_of a.part a.block W S) S _ Z.scratch b.ensures (r.ensures.scratch_left ∙ ap (λ (z : LoadLeft). z.scratch) e) }
