-- With no polls to interrupt, a start and the steps after it are those of the loader alone, one by one.
use mathlib.Core.Path.{◌≡◌, refl, sym, ap, ap₂, ◌∙◌, subst}
use mathlib.Core.Bool.{Bool, true, false, ◌||◌}
use mathlib.Core.List.{List, [], ◌∷◌, ◌++◌}
use Prim.Native.Nat.{ℕ, ◌+◌}
use native.Mathlib.Omega.{arith}
use lib.ListN.{length}
use lib.Dec.{eqb, ltb}
use borrow.Author.Tests.{eqb-true, eq-eqb, le-ltb}
use Rattle.std.specs.Prelude.{if◌then◌else◌}
use Rattle.common.specs.Lists.{Bytes}
use Rattle.common.specs.Numbers.{Row, row, given, NoRow, past, end}
use Rattle.common.proofs.Choice.{if_ind, if_true, if_false}
use Rattle.common.proofs.Numbers.{given_append, given_no_row, no_row_given}
use Rattle.device.specs.declared.Part.{Part}
use Rattle.device.specs.Parts.{unknown_part}
use Rattle.units.specs.Units.{units, spare, back, lent}
use Rattle.units.proofs.Widths.{all_bytes}
use Rattle.model_types.specs.declared.Pins.{Pins}
use Rattle.loader.specs.declared.Stage.{Stage}
use Rattle.loader.specs.declared.Stage.TheVariants.{Clearing, Opening, Reading, EraseAsking, EraseConfirming, EraseWaiting, ProgramAsking, ProgramSending, ProgramWaiting, Closing, Verifying, Ended}
use Rattle.loader.specs.declared.Loader.{Loader}
use Rattle.loader.specs.declared.Saying.{Saying}
use Rattle.loader.specs.declared.Response.{Response}
use Rattle.loader_moves.specs.Moves.{next_of}
use Rattle.loader_stores.specs.Stores.{store_of}
use Rattle.loader_steps.specs.Front.{bad_record, setup_rows, start_rows, start_number, step_rows, step_number, record_at, response_at, refused_by, start_response, step_response, scratch_after, scratch_left}
use Rattle.loader_steps.proofs.StartAndStep.{kept_next}
use Rattle.loader_held_lists.specs.Listings.{past_array, in_loaded, room_rows, room_number, held_rows, held_number}
use Rattle.loader_held.specs.declared.Hold.{Hold}
use Rattle.loader_held.specs.declared.Pair.{Pair}
use Rattle.loader_held.specs.Holds.{listed, usual, pair_of, after_poll, numbered}
use Rattle.loader_held_steps.specs.declared.HeldResponse.{HeldResponse}
use Rattle.loader_held_steps.specs.HeldFront.{bad_hold, bad_pair, used_rows, start_held_number, step_held_number, held_saying_in, held_response, held_refused, beginning, start_held_response, held_move, step_held_response, held_scratch_left, held_room_left}
use Rattle.loader_held_steps.specs.ByHand.{Still, AsOld, held_scratch_after, old_sayings, held_sayings}
use Rattle.loader.specs.declared.Work.TheVariants.{Load}

-- a table below another that gives nothing changes nothing
nothing_below : (rs ss : List Row) → given ss ≡ 0 → (if eqb (given rs) 0 then given ss else given rs) ≡ given rs
nothing_below rs ss e = go (eqb (given rs) 0) refl
  where
    go : (t : Bool) → eqb (given rs) 0 ≡ t → (if t then given ss else given rs) ≡ given rs
    go true o = e ∙ sym (eqb-true (given rs) 0 o)
    go false o = refl

or_none : (b : Bool) → (b || false) ≡ b
or_none true = refl
or_none false = refl

-- a start whose lists pass has the number of the loader's own
start_number_same : (part : Part) (p : Pins) (k w sc : ℕ) (bs : List ℕ) (room : ℕ) → held_number part k bs room ≡ 0 → start_held_number part p k w sc bs room ≡ start_number part p k w sc
unfolding start_held_number start_number held_number
start_number_same part p k w sc bs room e =
    given_append (start_rows part p k w sc) (held_rows part k bs room) refl ∙ nothing_below (start_rows part p k w sc) (held_rows part k bs room) e

module _ (verify : Bool) (part : Part) (p : Pins) (k : ℕ) (w sc bs : List ℕ) (room : ℕ) where
  -- by a number, with the lists and without
  abbrev held_by : ℕ → HeldResponse
  held_by m = if eqb m 0 then held_response (beginning part p k Clearing verify) w bs else held_refused m (beginning part p k (Ended m) verify)

  abbrev old_by : ℕ → Response
  old_by m = if eqb m 0 then response_at (record_at part p k Clearing verify) w else refused_by m (record_at part p k (Ended m) verify)

  by_number : (m : ℕ) → ((held_by m).saying ≡ (old_by m).saying) × ((held_by m).pair ≡ pair_of (old_by m).loader (usual 0))
  by_number m = go (eqb m 0)
    where
      go : (t : Bool) →
          ((if t then held_response (beginning part p k Clearing verify) w bs else held_refused m (beginning part p k (Ended m) verify)).saying
          ≡ (if t then response_at (record_at part p k Clearing verify) w else refused_by m (record_at part p k (Ended m) verify)).saying)
          × ((if t then held_response (beginning part p k Clearing verify) w bs else held_refused m (beginning part p k (Ended m) verify)).pair
          ≡ pair_of (if t then response_at (record_at part p k Clearing verify) w else refused_by m (record_at part p k (Ended m) verify)).loader (usual 0))
      go true = (refl, refl)
      go false = (refl, refl)

  pub start_same : held_number part k bs room ≡ 0
      → ((start_held_response verify part p k w sc bs room).saying ≡ (start_response (Load verify) part p k w sc).saying)
      × ((start_held_response verify part p k w sc bs room).pair ≡ pair_of (start_response (Load verify) part p k w sc).loader (usual 0))
  unfolding start_held_response start_response
  start_same e =
      let n = start_number part p k (length w) (length sc) in
      let o = start_number_same part p k (length w) (length sc) bs room e in
      (ap (λ (m : ℕ). (held_by m).saying) o ∙ (by_number n).0, ap (λ (m : ℕ). (held_by m).pair) o ∙ (by_number n).1)

-- after any move no interruption is under way
still : (st : Stage) (n : ℕ) → Still (numbered st n [])
unfolding after_poll listed
still Clearing n = record { number = n; is = refl }
still Opening n = record { number = n; is = refl }
still Reading n = record { number = n; is = refl }
still EraseAsking n = record { number = n; is = refl }
still EraseConfirming n = record { number = n; is = refl }
still EraseWaiting n = go (ltb n 4294967295)
  where
    go : (t : Bool) → Still (if t then usual (n + 1) else usual n)
    go true = record { number = n + 1; is = refl }
    go false = record { number = n; is = refl }
still ProgramAsking n = record { number = n; is = refl }
still ProgramSending n = record { number = n; is = refl }
still ProgramWaiting n = record { number = n; is = refl }
still Closing n = record { number = n; is = refl }
still Verifying n = record { number = n; is = refl }
still (Ended m) n = record { number = n; is = refl }

-- one step
module _ (l : Loader) (n : ℕ) (bs : List ℕ) (room : ℕ) (e : room_number l.part.word (length bs) room ≡ 0) where
  unused : given (used_rows l.part l.block (length bs) bs room) ≡ 0
  unfolding room_number
  unused =
      let k = length bs in
      let o = le-ltb k k (omega arith) in
      rw (o) e

  pub step_number_same : (w sc : ℕ) → step_held_number l (usual n) w sc bs room ≡ step_number l w sc
  unfolding step_held_number step_number bad_pair bad_hold
  step_number_same w sc =
      let rest = used_rows l.part l.block (length bs) bs room in
      ap (λ (b : Bool). given (row 1 (unknown_part l.part) ∷ row 3 b ∷ (setup_rows l.part l.pins l.block w sc ++ rest))) (or_none (bad_record l))
      ∙ given_append (step_rows l w sc) rest refl ∙ nothing_below (step_rows l w sc) rest unused

  module _ (v : ℕ) (w sc : List ℕ) where
    abbrev on : Loader
    on = next_of l v w (store_of l v w sc)

    -- by a number, with the lists and without
    abbrev held_step_by : ℕ → HeldResponse
    held_step_by m = if eqb m 0 then held_response (held_move l (usual n) v w sc [] bs) w bs else held_refused m (pair_of l (usual n))

    abbrev old_step_by : ℕ → Response
    old_step_by m = if eqb m 0 then response_at on w else refused_by m l

    abbrev Same : HeldResponse → Response → Type 0
    Same g o = (AsOld g o) × (o.loader.part ≡ l.part)

    step_by_number : (m : ℕ) → Same (held_step_by m) (old_step_by m)
    step_by_number m = go (eqb m 0)
      where
        go : (t : Bool) → Same (if t then held_response (held_move l (usual n) v w sc [] bs) w bs else held_refused m (pair_of l (usual n))) (if t then response_at on w else refused_by m l)
        go true =
            let s = still on.stage n in (
              record { saying = ap (λ (h : Hold). held_saying_in on h w bs) s.is; loader = refl; hold = s },
              ap (λ (x : Loader). x.part) (kept_next l w l.stage v (store_of l v w sc)).same,
            )
        go false = (record { saying = refl; loader = refl; hold = record { number = n; is = refl } }, refl)

    pub step_same : (AsOld (step_held_response l (usual n) v w sc [] bs room) (step_response l v w sc)) × ((step_response l v w sc).loader.part ≡ l.part)
    unfolding step_held_response step_response
    step_same =
        subst (λ (m : ℕ). Same (held_step_by m) (old_step_by (step_number l (length w) (length sc)))) (sym (step_number_same (length w) (length sc)))
        (step_by_number (step_number l (length w) (length sc)))

    pub scratch_same : held_scratch_after l (usual n) v w sc bs room ≡ scratch_after l v w sc
    unfolding held_scratch_after scratch_after
    scratch_same = ap (λ (m : ℕ). if eqb m 0 then store_of l v w sc else sc) (step_number_same (length w) (length sc))

-- the lent bytes: scratch as after the loader's own step, the room as it was
pub bytes_same : (l : Loader) (n v : ℕ) (xs ys bs rs : List ℕ) → room_number l.part.word (length bs) (length rs) ≡ 0 → Bytes rs
    → (held_scratch_left l (usual n) v xs ys bs (length rs) ≡ scratch_left l v xs ys) × (held_room_left l (usual n) v xs ys bs rs ≡ rs)
unfolding held_scratch_left scratch_left scratch_after held_room_left
bytes_same l n v xs ys bs rs e b =
    let u = l.part.word in
    let x = lent u xs in
    let y = lent u ys in
    let m = step_number l (length x) (length y) in (
      ap (λ (j : ℕ). if eqb j 0 then back u (store_of l v x y) else ys) (step_number_same l n bs (length rs) e (length x) (length y)) ∙ go (eqb m 0) refl,
      if_ind (λ (zs : List ℕ). zs ≡ rs) (eqb (step_held_number l (usual n) (length x) (length y) bs (length rs)) 0) (back u (units u rs) ++ spare u rs) rs (λ o. all_bytes u rs b) (λ o. refl),
    )
  where
    go : (t : Bool) → eqb (step_number l (length (lent l.part.word xs)) (length (lent l.part.word ys))) 0 ≡ t
        → (if t then back l.part.word (store_of l v (lent l.part.word xs) (lent l.part.word ys)) else ys)
        ≡ (if t then back l.part.word (scratch_after l v (lent l.part.word xs) (lent l.part.word ys)) else ys)
    go true o =
        ap (λ (zs : List ℕ). back l.part.word zs)
        (sym (if_true (eqb (step_number l (length (lent l.part.word xs)) (length (lent l.part.word ys))) 0) (store_of l v (lent l.part.word xs) (lent l.part.word ys)) (lent l.part.word ys) o))
    go false o = refl

-- any number of steps, whatever data a host hands in
pub sayings_same : (vs : List ℕ) (l : Loader) (n : ℕ) (w sc bs : List ℕ) (room : ℕ) → room_number l.part.word (length bs) room ≡ 0
    → held_sayings vs l (usual n) w sc [] bs room ≡ old_sayings vs l w sc
sayings_same [] l n w sc bs room e = refl
sayings_same (v ∷ vs) l n w sc bs room e =
    let both = step_same l n bs room e v w sc in
    let s = both.0 in
    let g = step_held_response l (usual n) v w sc [] bs room in
    let o = step_response l v w sc in
    let m = s.hold.number in
    let on : room_number o.loader.part.word (length bs) room ≡ 0 = ap (λ (x : Part). room_number x.word (length bs) room) both.1 ∙ e in
    let rest : held_sayings vs g.pair.loader g.pair.hold w (held_scratch_after l (usual n) v w sc bs room) [] bs room ≡ old_sayings vs o.loader w (scratch_after l v w sc) =
    (λ i. held_sayings vs (s.loader i) (s.hold.is i) w (scratch_same l n bs room e v w sc i) [] bs room) ∙ sayings_same vs o.loader m w (scratch_after l v w sc) bs room on in
    λ i. s.saying i ∷ rest i
