-- What a report refuses: 1 an unknown device number, 11 counts that are not seven for each trace, 47 over 65,535 traces, 48 a trace from
-- another device number.
use Rattle.std.specs.Prelude.{Bool, true, false, not, List, [], ◌∷◌, ℕ, ◌*◌, length, eqb, ltb, leb, if◌then◌else◌}
use Rattle.common.specs.Numbers.{Row, row, given}
use Rattle.device.specs.Parts.{unknown_part}
use Rattle.model_types.specs.declared.Wear.{Wear}
use Rattle.wear.specs.declared.Report.{Report}
use Rattle.wear.specs.declared.Reported.{Reported}
use Rattle.wear.specs.Reports.{no_report, added, report_from}

-- some number of the list is another
abbrev pub differ : ℕ → List ℕ → Bool
differ n [] = false
differ n (x ∷ xs) = if eqb x n then differ n xs else true

-- refusal 11: not seven counts for each trace
unfoldable pub uneven_counts : ℕ → ℕ → Bool
uneven_counts traces counts = not (eqb counts (7 * traces))

-- refusal 1: no device has the number
unfoldable pub unknown_number : ℕ → Bool
unknown_number number = unknown_part (record { number = number; word = false })

-- the tests of a report on many traces, in their order
abbrev pub report_rows : ℕ → List ℕ → ℕ → List Row
report_rows number numbers counts =
    row 1 (unknown_number number) ∷ row 11 (uneven_counts (length numbers) counts) ∷ row 47 (ltb 65535 (length numbers))
    ∷ row 48 (differ number numbers) ∷ []

-- the first refusal of these, 0 where nothing refuses
unfoldable pub report_number : ℕ → List ℕ → ℕ → ℕ
report_number number numbers counts = given (report_rows number numbers counts)

-- the report on traces, or its refusal with the report on none
unfoldable pub reported_of : ℕ → List ℕ → List ℕ → Reported
reported_of number numbers counts =
    if eqb (report_number number numbers (length counts)) 0 then record {
      number = 0;
      report = report_from (length numbers) 0 counts no_report;
    }
    else record { number = report_number number numbers (length counts); report = no_report }

-- one trace more: 47 where there are 65,535 already (R-number-47, R-number-48)
abbrev pub add_rows : ℕ → ℕ → ℕ → List Row
add_rows number from traces = row 1 (unknown_number number) ∷ row 47 (leb 65535 traces) ∷ row 48 (not (eqb from number)) ∷ []

-- the first refusal of one trace more, 0 where nothing refuses
unfoldable pub add_number : ℕ → ℕ → ℕ → ℕ
add_number number from traces = given (add_rows number from traces)

-- a report with one trace more, or its refusal with the report as it was
unfoldable pub added_to : ℕ → Report → ℕ → Wear → Reported
added_to number r from w =
    if eqb (add_number number from r.traces) 0 then record { number = 0; report = added r w }
    else record { number = add_number number from r.traces; report = r }
