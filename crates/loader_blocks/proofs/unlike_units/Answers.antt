-- `loader_blocks::unlike_units` meets its contract.
use Rattle.loader_blocks.proofs.unlike_units.Goals as goal

pub unlike_words-requires : goal.unlike_words-requires
unlike_words-requires c = c.requires

pub returns-then-word : goal.returns-then-word
returns-then-word c = simp c.if-word.true c.unlike_words.ensures

pub unlike_bytes-requires : goal.unlike_bytes-requires
unlike_bytes-requires c = c.requires

pub returns : goal.returns
returns c = simp c.if-word.false c.unlike_bytes.ensures
