use mathlib.Core.Path.{◌≡◌, ap, ◌∙◌}
use lib.ListN.{length}
use Rattle.units.specs.Units.{lent}
use Rattle.loader_held_steps.specs.declared.HeldResponse.{HeldResponse}
use Rattle.loader_held_steps.specs.HeldFront.{step_held_response, held_scratch_left, held_room_left}
use Rattle.c_held.specs.Helds.{held_in, word_in, held_response_back, stepped_held, scratch_stepped_held, room_stepped_held}
use Rattle.c_held.proofs.tb_held_step.Goals as goal

pub returns : goal.returns
unfolding stepped_held scratch_stepped_held room_stepped_held
returns c =
    let a = c.args in
    let w = a.wanted.now in
    let sc = a.scratch.now in
    let ps = a.polls.now in
    let bs = a.addresses.now in
    let room = a.room.now in
    let q : c.held_in-pair.result ≡ held_in a.held = c.held_in-pair.ensures in
    let g : c.step_held.result ≡ step_held_response (held_in a.held).loader (held_in a.held).hold a.value (lent (word_in a.held) w) (lent (word_in a.held) sc) ps bs (length room) =
    c.step_held.ensures.result ∙ (λ i. step_held_response (q i).loader (q i).hold a.value (lent (q i).loader.part.word w) (lent (q i).loader.part.word sc) ps bs (length room)) in record { result = c.response_back.ensures ∙ ap (λ (x : HeldResponse). held_response_back a.held x) g; scratch_left = c.step_held.ensures.scratch_left ∙ (λ i. held_scratch_left (q i).loader (q i).hold a.value w sc bs (length room)); room_left = c.step_held.ensures.room_left ∙ (λ i. held_room_left (q i).loader (q i).hold a.value w sc bs room) }
