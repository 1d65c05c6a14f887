-- `vectors_states::wear_at` meets its contract.
use Rattle.vectors_states.specs.Letters.{wear_at}
use Rattle.vectors_states.proofs.wear_at.Goals as goal

pub returns : goal.returns
unfolding wear_at
returns c = simp (c.word_at-7.ensures, c.word_at-6.ensures, c.word_at-5.ensures, c.word_at-4.ensures, c.word_at-3.ensures, c.word_at-2.ensures, c.word_at.ensures)
