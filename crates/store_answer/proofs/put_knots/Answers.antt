-- `store_answer::put_knots` meets its contract.
use mathlib.Core.Path.{subst}
use mathlib.Core.List.{◌++◌}
use Prim.Native.Nat.{ℕ, ◌/◌}
use lib.ListN.{length}
use lib.Ieee.{binary64, of_int}
use Rattle.text.specs.Digits.{decimal_of}
use Rattle.text.specs.Writing.{bytes}
use Rattle.text.proofs.Laying.{Laid, laid_first, laid_more}
use Rattle.reading_print.specs.Texts.{temperature_text}
use Rattle.reading_table.specs.Table.{tenths_of}
use Rattle.store_answer.specs.Listing.{knots_text}
use Rattle.store_answer.proofs.put_knots.Goals as goal

pub returns : goal.returns
returns c =
    let a = c.args in
    let out = a.out.now in
    let P = a.payload.now in
    let p0 = c.put_decimal-a in
    let p1 = c.put_text-b in
    let p2 = c.put_tenths-c in
    let p3 = c.put_text-d in
    let p4 = c.put_tenths-e in
    let p5 = c.put_text in
    let f0 = laid_first out (decimal_of (length P / 6)) p0.new.out a.at p0.result p0.ensures.result p0.ensures.out_left in
    let f1 = laid_more out (decimal_of (length P / 6)) (bytes " knots, ") p0.new.out p1.new.out a.at p0.result p1.result f0 p1.ensures.result p1.ensures.out_left in
    let f2 = laid_more out ((decimal_of (length P / 6)) ++ (bytes " knots, ")) (temperature_text (of_int binary64 (tenths_of P (0)))) p1.new.out p2.new.out a.at p1.result p2.result f1 p2.ensures.result p2.ensures.out_left in
    let f3 = laid_more out (((decimal_of (length P / 6)) ++ (bytes " knots, ")) ++ (temperature_text (of_int binary64 (tenths_of P (0))))) (bytes " to ") p2.new.out p3.new.out a.at p2.result p3.result f2 p3.ensures.result p3.ensures.out_left in
    let f4 = laid_more out ((((decimal_of (length P / 6)) ++ (bytes " knots, ")) ++ (temperature_text (of_int binary64 (tenths_of P (0))))) ++ (bytes " to ")) (temperature_text (of_int binary64 (tenths_of P c.saturating_sub.result))) p3.new.out p4.new.out a.at p3.result p4.result f3 p4.ensures.result p4.ensures.out_left in
    let f5 = laid_more out (((((decimal_of (length P / 6)) ++ (bytes " knots, ")) ++ (temperature_text (of_int binary64 (tenths_of P (0))))) ++ (bytes " to ")) ++ (temperature_text (of_int binary64 (tenths_of P c.saturating_sub.result)))) (bytes "\n") p4.new.out p5.new.out a.at p4.result p5.result f4 p5.ensures.result p5.ensures.out_left in
    let g : Laid out a.at (knots_text P) p5.new.out p5.result = subst (λ (z : ℕ). Laid out a.at ((((((decimal_of (length P / 6)) ++ (bytes " knots, ")) ++ (temperature_text (of_int binary64 (tenths_of P (0))))) ++ (bytes " to ")) ++ (temperature_text (of_int binary64 (tenths_of P z)))) ++ (bytes "\n")) p5.new.out p5.result) c.saturating_sub.ensures f5 in
    record { result = g.place; out_left = g.bytes }
