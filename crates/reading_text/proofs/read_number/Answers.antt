-- `reading_text::read_number` meets its contract.
use Rattle.std.proofs.Common.{arith}
use Rattle.std.proofs.lemmas.Bool.Decides.{nat_tests}
use Rattle.std.proofs.lemmas.Int.{to_z-of_z}
use Rattle.reading_text.specs.Numbers.{number_told, values_in}
use Rattle.reading_text.proofs.Walks.{number_small}
use Rattle.reading_text.proofs.read_number.Goals as goal

pub value-requires : goal.value-requires
value-requires c = rw c.number_fed-n.ensures (number_small c.args.text.now)

pub returns-then-is_number : goal.returns-then-is_number
unfolding number_told values_in
returns-then-is_number c = record { result = grind (arith, nat_tests, to_z-of_z); told = grind (arith, nat_tests, to_z-of_z) }

pub returns-else-is_number : goal.returns-else-is_number
unfolding number_told values_in
returns-else-is_number c = record { result = grind (arith, nat_tests); told = grind (arith, nat_tests) }
