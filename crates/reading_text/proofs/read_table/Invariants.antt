-- `reading_text::read_table` meets its contract: what is left to scan, from what is scanned, is the whole.
use mathlib.Core.Path.{◌≡◌}
use Prim.Native.Nat.{◌/◌, ◌≤◌}
use lib.ListN.{length, drop}
use Rattle.reading_text.specs.Tables.{scan_all, table_scanned}
use Rattle.reading_text.proofs.read_table.Given as goal

abbrev pub invariant-loop-b : goal.invariant-loop-b
invariant-loop-b l = (scan_all (drop l.b-index l.text) (record { scan = l.s; payload = l.out }) ≡ table_scanned l.text l.fn.out) × (l.s.knots ≤ length l.fn.out / 6)
