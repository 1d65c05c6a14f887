-- One call of the store, made by its run; and calls one after the other.
use mathlib.Core.Path.{◌≡◌, refl, sym, ◌∙◌, ap, subst}
use mathlib.Core.List.{List}
use mathlib.Core.Bool.{Bool, true, false, not}
use Prim.Native.Nat.{ℕ, ◌+◌, ◌-◌, ◌/◌, ◌≤◌, ◌<◌}
use native.Mathlib.Omega.{arith}
use lib.ListN.{length, get_or, take, drop}
use lib.Seq.{take_at, drop_at, length-take-le}
use lib.Dec.{eqb}
use borrow.Author.Tests.{eqb-false, eq-eqb, ne_eqb}
use Rattle.std.specs.Prelude.{if◌then◌else◌}
use Rattle.common.specs.Lists.{Bytes, overlaid}
use Rattle.common.specs.Numbers.{NoRow}
use Rattle.common.proofs.Choice.{if_true, if_false}
use Rattle.common.proofs.Bytes.{bytes_take, bytes_drop, bytes_overlaid, overlaid_length, overlaid_before, overlaid_after}
use Rattle.common.proofs.Numbers.{given_no_row}
use Rattle.device.specs.declared.Device.{Device}
use Rattle.device.specs.Parts.{is_large, length_of, start_of}
use Rattle.units.specs.Units.{units}
use Rattle.units.proofs.Widths.{lent_is}
use Rattle.model_types.specs.declared.Pins.{Pins}
use Rattle.model_types.specs.declared.State.{State}
use Rattle.model_types.specs.Cells.{Cells}
use Rattle.model_levels.specs.Levels.{vpp_high}
use Rattle.file_codec.specs.File.{limit}
use Rattle.loader_run.specs.declared.Ran.{Ran}
use Rattle.loader_run.specs.Runs.{RunLeft, run_number, lent_rows, lent_number, lent_run, as_bytes, run_first, run_left, doing}
use Rattle.loader_run.proofs.Lending.{some, units_number, lent_made}
use Rattle.loader_run_claims.specs.Wear.{held_in}
use Rattle.loader_run_claims.specs.Ends.{end_number, well_ran, fault_ran, ran_as, bytes_as, Whole as Ended}
use Rattle.loader_run_claims.specs.Mission.{Taken}
use Rattle.loader_run_claims.specs.Lent.{LentDemand3}
use Rattle.loader_run_claims.proofs.Starts.{taken_if}
use Rattle.loader_run_claims.proofs.Total.{every_end}
use Rattle.loader_run_claims.proofs.Lent.{units_cells, lent_demand_3}
use Rattle.store_places.specs.Store.{Change, adds, drops, is_proper, find_place_number, add_place_number, change_place_number, done_by, Proper}
use Rattle.store_places.proofs.Places.{join_cut}
use Rattle.store_places.proofs.Claims.{drop_proper, add_proper, add_let}
use Rattle.store_survey.specs.Survey.{reader_number}
use Rattle.store_survey.proofs.Reader.{file_reader}
use Rattle.store.specs.Stores.{main_of, ChangeLeft, change_made, change_refused, change_left, change_job}
use Rattle.store_claims.specs.Calls.{places_for, Call, number_by, call_number, change_left_by, call_left, contents_by, FileBytes, Timed}
use Rattle.store_claims.proofs.Contents.{drop_bytes, add_bytes}
use Rattle.store_claims.proofs.MainBlock.{There, there}
use Rattle.store_claims.proofs.Rows.{none_applies}
use Rattle.loader.specs.declared.Work.TheVariants.{Load}
use Rattle.loader_run.specs.declared.Job.{Job}

-- what a change returns and leaves, by its number and the new contents
left_is : (c : Change) (d : Device) (s : State) (p : Pins) (xs memory scratch : List ℕ)
    → change_left_by c d s p xs memory scratch ≡ change_left (number_by c d s p xs (length memory) (length scratch)) (done_by (reader_number limit) c (main_of d.part xs)) d s p xs memory scratch
left_is (adds ℓ b) d s p xs memory scratch = refl
left_is (drops ℓ) d s p xs memory scratch = refl

not_proper : (t : Bool) (x : ℕ) → (if not t then 44 else x) ≡ 0 → t ≡ true
not_proper true x e = refl
not_proper false x e = absurd (omega arith)

own_second : (t : Bool) (n x : ℕ) → eqb n 0 ≡ t → (if not t then n else x) ≡ 0 → x ≡ 0
own_second true n x q e = e
own_second false n x q e = absurd (eqb-false n 0 q e)

-- a change that nothing refuses found a proper store
proper_of : (c : Change) (main : List ℕ) → change_place_number (reader_number limit) c main ≡ 0 → is_proper (reader_number limit) main ≡ true
unfolding find_place_number add_place_number
proper_of (adds ℓ b) main e = not_proper (is_proper (reader_number limit) main) _ (own_second (eqb (reader_number limit ℓ b) 0) (reader_number limit ℓ b) _ refl e)
proper_of (drops ℓ) main e = not_proper (is_proper (reader_number limit) main) _ e

-- its new contents fill the block, are a proper store, and are bytes
new_proper : (N : ℕ) (c : Change) (main : List ℕ) → Proper (reader_number limit) N main → change_place_number (reader_number limit) c main ≡ 0 → Proper (reader_number limit) N (done_by (reader_number limit) c main)
new_proper N (adds ℓ b) main P e = add_proper (reader_number limit) (file_reader limit) N ℓ b main P e
new_proper N (drops ℓ) main P e = drop_proper (reader_number limit) (file_reader limit) N ℓ main P

new_bytes : (N : ℕ) (c : Change) (main : List ℕ) → Proper (reader_number limit) N main → change_place_number (reader_number limit) c main ≡ 0 → Bytes main → FileBytes c → Bytes (done_by (reader_number limit) c main)
new_bytes N (adds ℓ b) main P e B F =
    let z = (add_let (reader_number limit) (file_reader limit) N ℓ b main P e).0 in
    let n = (file_reader limit).counted ℓ b z in
    add_bytes (reader_number limit) (file_reader limit) N main P B ℓ b F (join_cut (length b / 512) b (omega arith))
new_bytes N (drops ℓ) main P e B F = drop_bytes (reader_number limit) (file_reader limit) N main P B ℓ

-- in byte mode the run on lent bytes is that of the bytes
byte_run : (j : Job) (xs w sc : List ℕ) → j.device.part.word ≡ false → lent_number j (length xs) (length w) (length sc) ≡ 0
    → lent_run (doing (Load true) j) xs w sc ≡ run_left (doing (Load true) j) xs w sc
byte_run j xs w sc e z =
    let h = some (doing (Load true) j) xs w sc z in
    let a = lent_is j.device.part.word xs h.0 in
    let b = lent_is j.device.part.word w h.1 in
    let c = lent_is j.device.part.word sc h.2 in
    lent_made (doing (Load true) j) xs w sc z
    ∙ (λ i. as_bytes j.device.part.word (run_left (doing (Load true) j) (a i) (b i) (c i)))
    ∙ ap (λ (v : Bool). as_bytes v (run_left (doing (Load true) j) (units v xs) (units v w) (units v sc))) e

-- a run that ends well leaves what is wanted, at whatever supply
ended_well : (j : Job) (xs w sc : List ℕ) → Taken j xs w sc → (run_left (doing (Load true) j) xs w sc).ran.end ≡ 0
    → (run_left (doing (Load true) j) xs w sc).bytes ≡ overlaid xs (start_of j.device.part j.block) w
unfolding ran_as bytes_as
ended_well j xs w sc t e = go (eqb N 0) refl
  where
    ys : List ℕ
    ys = held_in (start_of j.device.part j.block) (length w) xs

    N : ℕ
    N = end_number j.device j.pins j.block w (held_in (start_of j.device.part j.block) (length w) xs)

    E : Ended true j xs w sc
    E = every_end true j xs w sc t

    go : (b : Bool) → eqb N 0 ≡ b → (run_left (doing (Load true) j) xs w sc).bytes ≡ overlaid xs (start_of j.device.part j.block) w
    go true q = E.bytes ∙ if_true (eqb N 0) (overlaid xs (start_of j.device.part j.block) w) xs q
    go false q = absurd (eqb-false N 0 q (sym (ap (λ (r : Ran). r.end) (E.ran ∙ if_false (eqb N 0) (well_ran true j.device j.state j.block w ys) (fault_ran j.device j.state j.pins w ys N) q)) ∙ e))

module _ (d : Device) (xs : List ℕ) (c : Call) (T : Timed d) (B : Bytes xs) (F : FileBytes c.change) (z : call_number d xs c ≡ 0) where
  abbrev s : State
  s = c.state

  abbrev p : Pins
  p = c.pins

  abbrev main : List ℕ
  main = main_of d.part xs

  abbrev new : List ℕ
  new = contents_by d xs c

  none : (is_large d.part ≡ false) × (lent_number (change_job d s p) (length xs) (length c.memory) (length c.scratch) ≡ 0) × (change_place_number (reader_number limit) c.change main ≡ 0)
  none = none_applies d c.state c.pins xs (length c.memory) (length c.scratch) c.change z

  pub here : There d xs (length c.memory)
  here = there d c.state c.pins xs (length c.memory) (length c.scratch) none.0 none.1

  pub own_none : change_place_number (reader_number limit) c.change main ≡ 0
  own_none = none.2

  -- the store is proper, of as many places as the main block has
  pub found_proper : Proper (reader_number limit) (places_for d.part) main
  found_proper = record { size = here.long ∙ here.whole; proper = proper_of c.change main none.2 }

  pub left_proper : Proper (reader_number limit) (places_for d.part) new
  left_proper = new_proper (places_for d.part) c.change main found_proper none.2

  pub main_bytes : Bytes main
  main_bytes = bytes_take (length_of d.part 3) (drop (start_of d.part 3) xs) (bytes_drop (start_of d.part 3) xs B)

  pub wanted_bytes : Bytes new
  wanted_bytes = new_bytes (places_for d.part) c.change main found_proper none.2 main_bytes F

  pub new_long : length new ≡ length_of d.part 3
  new_long = left_proper.size ∙ sym here.whole

  -- no number of the run with the new contents applies
  pub run_number_lem : lent_number (change_job d s p) (length xs) (length new) (length c.scratch) ≡ 0
  run_number_lem = ap (λ (n : ℕ). lent_number (change_job d c.state c.pins) (length xs) n (length c.scratch)) (new_long ∙ sym here.memory_long) ∙ none.1

  run_rows : NoRow (lent_rows (change_job d s p) (length xs) (length new) (length c.scratch))
  unfolding run_first
  run_rows = given_no_row (lent_rows (change_job d c.state c.pins) (length xs) (length new) (length c.scratch)) refl run_number_lem

  -- what is returned and left is what the run with the new contents returns and leaves
  pub made_by_run : call_left d xs c ≡ change_made (lent_run (change_job d s p) xs new c.scratch) new
  unfolding change_left
  made_by_run =
      left_is c.change d c.state c.pins xs c.memory c.scratch
      ∙ if_true (eqb (call_number d xs c) 0) (change_made (lent_run (change_job d c.state c.pins) xs new c.scratch) new) (change_refused (call_number d xs c) c.state xs c.memory c.scratch) (eq-eqb (call_number d xs c) 0 z)

  -- .. in bytes
  pub of_bytes : lent_run (change_job d s p) xs new c.scratch ≡ run_left (change_job d s p) xs new c.scratch
  of_bytes = byte_run (change_job d c.state c.pins) xs new c.scratch here.small.bytes run_number_lem

  cells : (ys : List ℕ) → Bytes ys → Cells d.part ys
  cells ys b = subst (λ (v : Bool). Cells d.part (units v ys)) here.small.bytes (units_cells d.part ys b)

  pub taken : Taken (change_job d s p) xs new c.scratch
  taken =
      let n = units_number (change_job d c.state c.pins) xs new c.scratch run_number_lem in
      taken_if (change_job d c.state c.pins) xs new c.scratch
      (subst (λ (v : Bool). run_number (change_job d c.state c.pins) (length (units v xs)) (length (units v new)) (length (units v c.scratch)) ≡ 0) here.small.bytes n)
      T.programs T.erases (cells new wanted_bytes) (cells xs B)

  -- with VPP high: demand 3, every clause
  pub with_supply : vpp_high d.part p ≡ true → LentDemand3 true (change_job d s p) xs new c.scratch
  with_supply v =
      lent_demand_3 true (change_job d c.state c.pins) xs new c.scratch
      (record { accepted = run_rows; high = v; unlock = λ (e : 3 ≡ 0). absurd (omega arith); array_bytes = B; wanted_bytes = wanted_bytes; programs = T.programs; erases = T.erases })

  -- ended well, at whatever supply
  pub array_left : (call_left d xs c).ran.end ≡ 0 → (call_left d xs c).bytes ≡ overlaid xs (start_of d.part 3) new
  array_left e =
      let r = ap (λ (x : ChangeLeft). x.ran.end) made_by_run ∙ ap (λ (x : RunLeft). x.ran.end) of_bytes in
      ap (λ (x : ChangeLeft). x.bytes) made_by_run ∙ ap (λ (x : RunLeft). x.bytes) of_bytes
      ∙ ended_well (change_job d c.state c.pins) xs new c.scratch taken (sym r ∙ e)

  room : start_of d.part 3 + length new ≤ length xs
  room = omega (arith, here.inside, new_long)

  pub main_left : (call_left d xs c).ran.end ≡ 0 → main_of d.part (call_left d xs c).bytes ≡ new
  main_left e =
      ap (main_of d.part) (array_left e)
      ∙ ap (λ (y : List ℕ). take (length_of d.part 3) y) (drop_at (take (start_of d.part 3) xs) _ (start_of d.part 3) (length-take-le (start_of d.part 3) xs (omega (arith, here.inside))))
      ∙ take_at new (drop (length new) (drop (start_of d.part 3) xs)) (length_of d.part 3) new_long

  pub bytes_left : (call_left d xs c).ran.end ≡ 0 → Bytes (call_left d xs c).bytes
  bytes_left e = subst Bytes (sym (array_left e)) (bytes_overlaid xs (start_of d.part 3) new B wanted_bytes)

  pub size_left : (call_left d xs c).ran.end ≡ 0 → length (call_left d xs c).bytes ≡ length xs
  size_left e = ap (λ (ys : List ℕ). length ys) (array_left e) ∙ overlaid_length xs (start_of d.part 3) new room

  pub others_left : (call_left d xs c).ran.end ≡ 0 → (x : ℕ)
      → (x < start_of d.part 3 → get_or (call_left d xs c).bytes x 0 ≡ get_or xs x 0) × (start_of d.part 3 + length_of d.part 3 ≤ x → get_or (call_left d xs c).bytes x 0 ≡ get_or xs x 0)
  others_left e x =
      let a = start_of d.part 3 in
      let g = ap (λ (ys : List ℕ). get_or ys x 0) (array_left e) in (
        λ (h : x < a). g ∙ overlaid_before xs a new room x h,
        λ (h : a + length_of d.part 3 ≤ x).
            (let q : a + (length new + (x - a - length new)) ≡ x = omega (arith, new_long, h) in
            g ∙ subst (λ (y : ℕ). get_or (overlaid xs a new) y 0 ≡ get_or xs y 0) q (overlaid_after xs a new room (x - a - length new))),
      )

-- a call that is refused touches nothing
pub refused_left : (d : Device) (xs : List ℕ) (c : Call) → (call_number d xs c ≡ 0 → ⊥) → call_left d xs c ≡ change_refused (call_number d xs c) c.state xs c.memory c.scratch
unfolding change_left
refused_left d xs c z =
    left_is c.change d c.state c.pins xs c.memory c.scratch
    ∙ if_false (eqb (call_number d xs c) 0) (change_made (lent_run (change_job d c.state c.pins) xs (contents_by d xs c) c.scratch) (contents_by d xs c)) (change_refused (call_number d xs c) c.state xs c.memory c.scratch) (ne_eqb (call_number d xs c) 0 z)
