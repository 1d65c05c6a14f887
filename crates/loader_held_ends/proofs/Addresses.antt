-- Lists that no test refuses: the addresses are in other blocks, and the room has a unit for each.
use mathlib.Core.Path.{◌≡◌, refl, sym, ap, ◌∙◌, subst}
use mathlib.Core.Bool.{Bool, true, false, ◌&&◌}
use mathlib.Core.List.{List, [], ◌∷◌, ◌++◌, append-nil, append_assoc}
use Prim.Native.Nat.{ℕ, zero, suc, ◌+◌, ◌/◌, ◌%◌, ◌≤◌, ◌<◌}
use native.Mathlib.Nat.{not-suc-le-zero, le_of_suc-le-suc}
use native.Mathlib.Omega.{arith}
use lib.ListN.{length, get_or, take, drop}
use lib.Seq.{take-length}
use lib.Dec.{eqb, ltb}
use borrow.Author.Tests.{eqb-true, ltb-false, leb-false, lt-ltb, le-leb}
use Rattle.common.specs.Lists.{Bytes}
use Rattle.common.proofs.Bytes.{bytes_drop}
use Rattle.common.proofs.Choice.{or_left, or_right, unlike}
use Rattle.common.proofs.Numbers.{given_no_row, no_head, no_tail}
use Rattle.device.specs.declared.Device.{Device}
use Rattle.device.specs.declared.Part.{Part}
use Rattle.device.specs.Parts.{shape_of, size_of, start_of, length_of, block_of, Holds}
use Rattle.device.proofs.Claims.{blocks_cover}
use Rattle.units.specs.Units.{pairs, halves, units, unpaired, spare, back, units_in, bytes_in}
use Rattle.units.proofs.Pairs.{dbl, dbl_is, dropped, unpaired_dropped}
use Rattle.units.proofs.Widths.{units_length, all_bytes, fit_by}
use Rattle.loader_held_lists.specs.Listings.{some_of, past_array, in_loaded, short_room, held_rows, held_number}
use Rattle.loader_held_lists.proofs.Looking.{short_units}
use Rattle.loader_held_claims.specs.HeldMade.{Elsewhere, read_at, filled_by}
use Rattle.loader_held_steps.proofs.HeldAgain.{none_at}
use Rattle.loader_held_claims.proofs.Interrupting.{read_length}

within : (part : Part) (a : ℕ) → past_array part a ≡ false → a < size_of part
unfolding past_array
within part a e = leb-false (size_of part) a e

-- an address inside the array and outside the block's bounds is in another block
lies : (part : Part) (k a : ℕ) → a < size_of part → block_of part a ≡ k → (start_of part k ≤ a) × (a < start_of part k + length_of part k)
unfolding start_of length_of
lies part k a h e =
    let q : Holds (shape_of part) k a = subst (λ (j : ℕ). Holds (shape_of part) j a) e (blocks_cover part a h) in
    (q.from, q.to)

outside : (part : Part) (k a : ℕ) → a < size_of part → in_loaded part k a ≡ false → eqb (block_of part a) k ≡ false
unfolding in_loaded
outside part k a h e = go (eqb (block_of part a) k) refl
  where
    go : (t : Bool) → eqb (block_of part a) k ≡ t → eqb (block_of part a) k ≡ false
    go true q =
        let l = lies part k a h (eqb-true (block_of part a) k q) in
        absurd (unlike (sym ((λ i. lt-ltb a (start_of part k + length_of part k) l.1 i && le-leb (start_of part k) a l.0 i)) ∙ e))
    go false q = q

module _ (d : Device) (k : ℕ) (bs : List ℕ) where
  -- by the number of the lists' tests
  pub elsewhere : (room : ℕ) → held_number d.part k bs room ≡ 0 → Elsewhere d k bs
  unfolding held_number
  elsewhere room e =
      let r = given_no_row (held_rows d.part k bs room) refl e in
      let i : (j : ℕ) → j < length bs → get_or bs j 0 < size_of d.part = λ j h. within d.part (get_or bs j 0) (none_at (past_array d.part) bs j (no_head r) h) in
      record { inside = i; other = λ j h. outside d.part k (get_or bs j 0) (i j h) (none_at (in_loaded d.part k) bs j (no_head (no_tail r)) h) }

  pub enough : (room : List ℕ) → held_number d.part k bs (length room) ≡ 0 → length bs ≤ length (units d.part.word room)
  unfolding held_number short_room
  enough room e =
      let r = given_no_row (held_rows d.part k bs (length room)) refl e in
      let q : ltb (units_in d.part.word (length room)) (length bs) ≡ false = short_units d.part.word (length bs) (length room) ∙ no_head (no_tail (no_tail (no_tail r))) in
      omega (arith, units_length d.part.word room, ltb-false (units_in d.part.word (length room)) (length bs) q)

-- the room in bytes: units laid over its first ones leave the bytes past them
halves_joined : (us vs : List ℕ) → halves (us ++ vs) ≡ halves us ++ halves vs
halves_joined [] vs = refl
halves_joined (u ∷ us) vs = ap (λ (z : List ℕ). (u % 256) ∷ (u / 256) ∷ z) (halves_joined us vs)

laid : (w : Bool) (n : ℕ) (zs room : List ℕ) → length zs ≡ n → Bytes room → n ≤ length (units w room)
    → back w (take n zs ++ drop n (units w room)) ++ spare w room ≡ back w zs ++ drop (bytes_in w n) room
laid false n zs room e b g = append-nil (take n zs ++ drop n room) ∙ ap (λ (us : List ℕ). us ++ drop n room) (ap (λ (m : ℕ). take m zs) (sym e) ∙ take-length zs)
laid true n zs room e b g =
    (λ i. halves ((ap (λ (m : ℕ). take m zs) (sym e) ∙ take-length zs) i ++ sym (dropped room n) i) ++ sym (unpaired_dropped room n fits) i)
    ∙ ap (λ (us : List ℕ). us ++ unpaired D) (halves_joined zs (pairs D))
    ∙ append_assoc (halves zs) (halves (pairs D)) (unpaired D)
    ∙ ap (λ (us : List ℕ). halves zs ++ us) (all_bytes true D (bytes_drop (dbl n) room b))
    ∙ ap (λ (m : ℕ). halves zs ++ drop m room) (dbl_is n)
  where
    D : List ℕ
    D = drop (dbl n) room

    fits : dbl n ≤ length room
    fits = subst (λ (m : ℕ). m ≤ length room) (sym (dbl_is n)) (fit_by true room n g)

-- the room after an interruption
pub room_bytes : (w : Bool) (X bs room : List ℕ) → Bytes room → length bs ≤ length (units w room)
    → back w (filled_by X bs (units w room)) ++ spare w room ≡ back w (read_at X bs) ++ drop (bytes_in w (length bs)) room
room_bytes w X bs room b h = laid w (length bs) (read_at X bs) room (read_length X bs) b h
