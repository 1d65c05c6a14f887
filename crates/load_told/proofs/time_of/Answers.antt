-- `load_told::time_of` meets its contract.
use Rattle.load_told.proofs.time_of.Goals as goal

pub returns : goal.returns
returns c = simp (c.hex_digit-d.ensures.0, c.nth-4.ensures, c.hex_digit-c.ensures.0, c.nth-3.ensures, c.hex_digit-b.ensures.0, c.nth-2.ensures, c.hex_digit-a.ensures.0, c.nth.ensures)
