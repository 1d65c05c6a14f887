-- A reading by a payload that nobody judged: what it refuses, and what it answers else.
use mathlib.Core.Path.{◌≡◌, refl, sym, ◌∙◌, subst}
use mathlib.Core.Bool.{Bool, true, false, not}
use mathlib.Core.Logic.{◌↔◌}
use mathlib.Core.List.{List}
use Prim.Native.Nat.{ℕ, ◌+◌, ◌-◌}
use native.Mathlib.Omega.{arith}
use lib.Dec.{T, eqb}
use lib.IntN.{ℤ}
use lib.Signed.{lt_z}
use lib.Ieee.{Float, binary64, of_int}
use borrow.Author.Tests.{eqb-true, eqb-false}
use Rattle.common.specs.Numbers.{Foremost, NoRow}
use Rattle.reading_pair.specs.Pairs.{interpolated}
use Rattle.reading_table.specs.Table.{knots, volts_of, rises_to, shape_wrong, rising_of, table_number}
use Rattle.reading_table.specs.Search.{seek_of}
use Rattle.reading_table.proofs.Order.{not_lt}
use Rattle.reading_table.proofs.Judged.{shape_right}
use Rattle.reading_table.proofs.Seeking.{Around, seek_brackets}
use Rattle.reading.specs.declared.Reading.{Reading}
use Rattle.reading.specs.declared.Reading.TheVariants.{Temperature, Below, Above}
use Rattle.reading.specs.declared.ReadingAnswer.TheVariants.{Read, Refused}
use Rattle.reading.specs.Readings.{heat_of, pair_at, reading_of, ends_wrong, pair_wrong, reading_rows, reading_number, reading_answer}
use Rattle.reading.proofs.WaysOut.{judged_number, refused_40, refused_ends, answers_below, answers_above, refused_pair, answers_between}
use Rattle.reading_claims.specs.Tables.{Table, Told}
use Rattle.reading_claims.specs.Answers.{degrees}
use Rattle.reading_claims.proofs.FirstRow.{by_refused, reads_by, refused_by_rows, read_by_rows}
use Rattle.reading_claims.proofs.Judged.{table_judged}
use Rattle.reading_claims.proofs.Bounds.{Plain, plain_pair, plain_heat}

module _ (p : List ℕ) (x : ℤ) where
  -- refused by a number exactly where its row is the first that holds, read exactly where none holds
  pub refused_exactly : (n : ℕ) → (n ≡ 0 → ⊥) → reading_answer p x ≡ Refused n ↔ Foremost (reading_rows p x) n
  unfolding reading_answer reading_number
  refused_exactly n z = refused_by_rows (reading_rows p x) (reading_of p x) n z

  pub read_exactly : (r : Reading) → reading_answer p x ≡ Read r ↔ (NoRow (reading_rows p x) × (r ≡ reading_of p x))
  unfolding reading_answer reading_number
  read_exactly r = read_by_rows (reading_rows p x) (reading_of p x) refl r

  -- a table is never refused
  pub table_reads : Table p → reading_answer p x ≡ Read (reading_of p x)
  unfolding reading_answer
  table_reads t = reads_by (reading_number p x) (reading_of p x) (judged_number p x (table_judged p t))

  -- each way out
  data Way : Type 0 where
    refuses : (n : ℕ) → reading_answer p x ≡ Refused n → Way
    below : reading_answer p x ≡ Read (Below (heat_of p 0)) → Way
    above : reading_answer p x ≡ Read (Above (heat_of p (knots p - 1))) → Way
    between : Around p x (knots p) (seek_of p x) (seek_of p x + 1) → rises_to p (seek_of p x) (seek_of p x + 1) ≡ true
        → reading_answer p x ≡ Read (Temperature (interpolated (pair_at p (seek_of p x)) (of_int binary64 x))) → Way

  way : Way
  way = go (shape_wrong p) refl (rises_to p 0 (knots p - 1)) refl (lt_z x (volts_of p 0)) refl (lt_z (volts_of p (knots p - 1)) x) refl (rises_to p (seek_of p x) (seek_of p x + 1)) refl
    where
      go : (s : Bool) → shape_wrong p ≡ s → (e : Bool) → rises_to p 0 (knots p - 1) ≡ e → (u : Bool) → lt_z x (volts_of p 0) ≡ u → (o : Bool) → lt_z (volts_of p (knots p - 1)) x ≡ o
          → (r : Bool) → rises_to p (seek_of p x) (seek_of p x + 1) ≡ r → Way
      go true hs e he u hu o ho r hr = refuses 40 (sym (refused_40 p x hs))
      go false hs false he u hu o ho r hr = refuses 41 (sym (refused_ends p x hs he))
      go false hs true he true hu o ho r hr = below (sym (answers_below p x hs he hu))
      go false hs true he false hu true ho r hr = above (sym (answers_above p x hs he hu ho))
      go false hs true he false hu false ho false hr = refuses 41 (sym (refused_pair p x hs he hu ho hr))
      go false hs true he false hu false ho true hr =
          between (seek_brackets p x (shape_right p hs).1 (not_lt x (volts_of p 0) hu) (not_lt (volts_of p (knots p - 1)) x ho)) hr (sym (answers_between p x hs he hu ho hr))

  -- a temperature is told by a pair of neighbouring knots, whatever the payload
  pub told : (r : Float) → reading_answer p x ≡ Read (Temperature r) → Told p x r
  told r e = go way
    where
      go : Way → Told p x r
      go (refuses n q) = absurd (let w : Refused n ≡ Read (Temperature r) = sym q ∙ e in let z : ◌≡◌ {A = ℕ} 0 1 = cc in omega arith)
      go (below q) = absurd (let w : Read (Below (heat_of p 0)) ≡ Read (Temperature r) = sym q ∙ e in let z : ◌≡◌ {A = ℕ} 0 1 = cc in omega arith)
      go (above q) = absurd (let w : Read (Above (heat_of p (knots p - 1))) ≡ Read (Temperature r) = sym q ∙ e in let z : ◌≡◌ {A = ℕ} 0 1 = cc in omega arith)
      go (between a g q) =
          let R = interpolated (pair_at p (seek_of p x)) (of_int binary64 x) in
          let w : Read (Temperature R) ≡ Read (Temperature r) = sym q ∙ e in
          let i : R ≡ r = cc in
          record { lower = seek_of p x; pair = a.within; rises = subst T (sym g) tt; from = a.from; to = a.to; is = sym i }

  -- so no answer carries a NaN, an infinity or the zero with a minus sign
  pub plain_answer : (r : Reading) → reading_answer p x ≡ Read r → Plain (degrees r)
  plain_answer r e = go way
    where
      same : (s : Reading) → reading_answer p x ≡ Read s → s ≡ r
      same s q = let w : Read s ≡ Read r = sym q ∙ e in cc

      go : Way → Plain (degrees r)
      go (refuses n q) = absurd (let w : Refused n ≡ Read r = sym q ∙ e in let z : ◌≡◌ {A = ℕ} 0 1 = cc in omega arith)
      go (below q) = subst (λ (s : Reading). Plain (degrees s)) (same (Below (heat_of p 0)) q) (plain_heat p 0)
      go (above q) = subst (λ (s : Reading). Plain (degrees s)) (same (Above (heat_of p (knots p - 1))) q) (plain_heat p (knots p - 1))
      go (between a g q) =
          subst (λ (s : Reading). Plain (degrees s)) (same (Temperature (interpolated (pair_at p (seek_of p x)) (of_int binary64 x))) q)
          (plain_pair p (seek_of p x) g x a.from a.to)

  -- what is refused, the judgement refuses, and by the same number
  shape_number : shape_wrong p ≡ true → (reading_number p x ≡ 40) × (table_number p ≡ 40)
  unfolding reading_number table_number
  shape_number h = (simp h, simp h)

  other_number : shape_wrong p ≡ false → (table_number p ≡ 0 → ⊥) → (reading_number p x ≡ 0 → ⊥) → reading_number p x ≡ table_number p
  unfolding reading_number table_number
  other_number h t r = go (ends_wrong p) refl (pair_wrong p x) refl (not (rising_of p)) refl
    where
      go : (a : Bool) → ends_wrong p ≡ a → (b : Bool) → pair_wrong p x ≡ b → (c : Bool) → not (rising_of p) ≡ c → reading_number p x ≡ table_number p
      go a e b f false g = absurd (t (simp (h, g)))
      go true e b f true g = simp (h, e, g)
      go false e true f true g = simp (h, e, f, g)
      go false e false f true g = absurd (r (simp (h, e, f)))

  pub same_number : (n : ℕ) → (n ≡ 0 → ⊥) → reading_answer p x ≡ Refused n → table_number p ≡ n
  unfolding reading_answer
  same_number n z e = go (shape_wrong p) refl (eqb (table_number p) 0) refl
    where
      number : reading_number p x ≡ n
      number = by_refused (reading_number p x) n (reading_of p x) e

      go : (s : Bool) → shape_wrong p ≡ s → (t : Bool) → eqb (table_number p) 0 ≡ t → table_number p ≡ n
      go true h t q = let b = shape_number h in b.1 ∙ sym b.0 ∙ number
      go false h true q = absurd (z (sym number ∙ judged_number p x (eqb-true _ _ q)))
      go false h false q = sym (other_number h (eqb-false _ _ q) (λ (w : reading_number p x ≡ 0). z (sym number ∙ w))) ∙ number
