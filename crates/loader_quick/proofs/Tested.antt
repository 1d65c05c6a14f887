-- The stages of a job whose tests its caller has made: where the bytes lie as a run takes them, and that they are then the run.
use mathlib.Core.Path.{◌≡◌, refl, sym, ap, ◌∙◌}
use mathlib.Core.Bool.{Bool, true, false, not, ◌&&◌}
use mathlib.Core.List.{List}
use Prim.Native.Nat.{ℕ, ◌+◌, ◌≤◌}
use native.Mathlib.Omega.{arith}
use lib.ListN.{length}
use lib.Dec.{eqb, ltb, leb}
use borrow.Author.Tests.{eq-eqb, eqb-true, le-leb, leb-true, ltb-false, le-ltb}
use Rattle.std.specs.Prelude.{if◌then◌else◌}
use Rattle.common.proofs.Choice.{if_true, if_false, and_left, and_right, unlike}
use Rattle.common.specs.Lists.{Bytes}
use Rattle.device.specs.declared.Part.{Part}
use Rattle.device.specs.Parts.{start_of}
use Rattle.units.specs.Units.{units, units_in, back, torn}
use Rattle.units.specs.Address.{byte_of}
use Rattle.units.proofs.Widths.{back_units, units_back}
use Rattle.loader.specs.declared.Work.{Work}
use Rattle.loader.specs.declared.Work.TheVariants.{Load}
use Rattle.loader_blocks.proofs.Lent.{untrue}
use Rattle.loader_run.specs.declared.Job.{Job}
use Rattle.loader_run.specs.Runs.{RunLeft, lent_number, lent_run}
use Rattle.loader_quick.specs.Quick.{Placed, load_array, must_rise, made_of, refused_ran, stages_made, stages_array, stages_scratch, is_placed, MadeLeft, tested_left, Timed}
use Rattle.loader_quick.proofs.Runs.{placed, array_whole, staged_run}

-- a block that lies inside in bytes lies inside in units
fits_in : (word : Bool) (a n m : ℕ) → byte_of word a + n ≤ m → a + units_in word n ≤ units_in word m
fits_in true a n m h = omega arith
fits_in false a n m h = h

module _ (part : Part) (k array wanted scratch : ℕ) where
  abbrev A : Bool
  A = eqb scratch wanted

  abbrev B : Bool
  B = leb (byte_of part.word (start_of part k) + wanted) array

  abbrev C : Bool
  C = not (torn part.word wanted)

  abbrev D : Bool
  D = not (torn part.word array)

  -- the test and what it tells
  parts : is_placed part k array wanted scratch ≡ true → (ltb 1048576 wanted ≡ false) × ((A && B && C && D) ≡ true)
  unfolding is_placed
  parts e = go (ltb 1048576 wanted) refl e
    where
      go : (b : Bool) → ltb 1048576 wanted ≡ b → (if b then false else (A && B && C && D)) ≡ true → (ltb 1048576 wanted ≡ false) × ((A && B && C && D) ≡ true)
      go true q h = absurd (unlike (sym h))
      go false q h = (q, h)

  pub placed_if : is_placed part k array wanted scratch ≡ true → Placed part k array wanted scratch
  placed_if e =
      let t = parts e in
      let abc = and_left (A && B && C) D t.1 in
      let ab = and_left (A && B) C abc in
      let inside : byte_of part.word (start_of part k) + wanted ≤ array = leb-true _ array (and_right A B ab) in
      record {
        inside = inside;
        fitting = fits_in part.word (start_of part k) wanted array inside;
        room = eqb-true scratch wanted (and_left A B ab);
        short = ltb-false 1048576 wanted t.0;
        whole = untrue (torn part.word wanted) (and_right (A && B) C abc);
      }

  pub whole_if : is_placed part k array wanted scratch ≡ true → (torn part.word array ≡ false) × (torn part.word scratch ≡ false)
  whole_if e =
      let p = placed_if e in
      (untrue (torn part.word array) (and_right (A && B && C) D (parts e).1), ap (λ (n : ℕ). torn part.word n) p.room ∙ p.whole)

  pub if_placed : Placed part k array wanted scratch → torn part.word array ≡ false → is_placed part k array wanted scratch ≡ true
  unfolding is_placed
  if_placed p o =
      if_false (ltb 1048576 wanted) false _ (le-ltb 1048576 wanted p.short)
      ∙ (λ i. eq-eqb scratch wanted p.room i && le-leb (byte_of part.word (start_of part k) + wanted) array p.inside i && not (p.whole i) && not (o i))

-- bytes that are whole, from their units
pub left_bytes : (w : Bool) (n : ℕ) (ys us : List ℕ) → length ys ≡ n → torn w n ≡ false → Bytes ys → units w ys ≡ us → ys ≡ back w us
left_bytes w n ys us l t b e = sym (back_units w ys (ap (λ (m : ℕ). torn w m) l ∙ t) b) ∙ ap (λ (zs : List ℕ). back w zs) e

module _ (j : Job) (array wanted scratch : List ℕ) where
  abbrev T : Bool
  T = is_placed j.device.part j.block (length array) (length wanted) (length scratch)

  abbrev did : MadeLeft
  did =
      record {
        made = stages_made j.work j array wanted;
        bytes = back j.device.part.word (stages_array j.work j array wanted);
        scratch = back j.device.part.word (stages_scratch j.work j array wanted scratch);
      }

  abbrev idle : MadeLeft
  idle = record { made = made_of (refused_ran 11 j.state) false; bytes = array; scratch = scratch }

  pub tested_is : T ≡ true → tested_left j array wanted scratch ≡ did
  unfolding tested_left
  tested_is t = if_true T did idle t

  pub tested_none : T ≡ false → tested_left j array wanted scratch ≡ idle
  unfolding tested_left
  tested_none t = if_false T did idle t

  module _ (z : lent_number j (length array) (length wanted) (length scratch) ≡ 0) where
    tested_did : tested_left j array wanted scratch ≡ did
    tested_did = tested_is (if_placed j.device.part j.block (length array) (length wanted) (length scratch) (placed j array wanted scratch z) (array_whole j array wanted scratch z))

    -- where nothing refuses a job, its stages are its run
    pub tested_run : Timed j.device → Bytes wanted → Bytes array
        → ((tested_left j array wanted scratch).made.ran ≡ (lent_run j array wanted scratch).ran)
        × (((tested_left j array wanted scratch).bytes ≡ (lent_run j array wanted scratch).bytes) × ((tested_left j array wanted scratch).scratch ≡ (lent_run j array wanted scratch).scratch))
    tested_run t bw bx =
        let q = tested_did in
        let r = staged_run j array wanted scratch z j.work t bw bx in (
          ap (λ (x : MadeLeft). x.made.ran) q ∙ sym (ap (λ (x : RunLeft). x.ran) r),
          (ap (λ (x : MadeLeft). x.bytes) q ∙ sym (ap (λ (x : RunLeft). x.bytes) r), ap (λ (x : MadeLeft). x.scratch) q ∙ sym (ap (λ (x : RunLeft). x.scratch) r)),
        )

    -- .. and a load knows whether a bit had to rise
    pub tested_rises : (verify : Bool) → j.work ≡ Load verify → (tested_left j array wanted scratch).made.rises ≡ must_rise j.device.part j.block array wanted
    tested_rises verify e = ap (λ (x : MadeLeft). x.made.rises) tested_did ∙ ap (λ (work : Work). (stages_made work j array wanted).rises) e

    -- .. and what it leaves in the array, in units
    pub tested_units : (verify : Bool) → j.work ≡ Load verify → units j.device.part.word (tested_left j array wanted scratch).bytes ≡ load_array j array wanted
    tested_units verify e =
        ap (λ (x : MadeLeft). units j.device.part.word x.bytes) tested_did
        ∙ units_back j.device.part.word (stages_array j.work j array wanted)
        ∙ ap (λ (work : Work). stages_array work j array wanted) e
