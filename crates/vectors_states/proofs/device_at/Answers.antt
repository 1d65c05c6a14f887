-- `vectors_states::device_at` meets its contract.
use Rattle.vectors_states.specs.Letters.{device_at}
use Rattle.vectors_states.proofs.device_at.Goals as goal

pub returns : goal.returns
unfolding device_at
returns c = simp (c.byte_at-suspend.ensures, c.half_at-erase.ensures, c.half_at-program.ensures, c.word_by-word.ensures, c.nth.ensures, c.byte_at-number.ensures)
