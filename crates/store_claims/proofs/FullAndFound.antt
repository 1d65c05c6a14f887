-- 43 exactly; the letter found is the letter asked; what a load of one file leaves.
use mathlib.Core.Path.{◌≡◌, refl, sym, ◌∙◌, subst}
use mathlib.Core.List.{List, ◌++◌}
use mathlib.Core.Bool.{Bool, true, false}
use mathlib.Core.Logic.{◌↔◌}
use Prim.Native.Nat.{ℕ, ◌+◌, ◌*◌, ◌-◌, ◌≤◌, ◌<◌}
use native.Mathlib.Omega.{arith}
use lib.ListN.{length, get_or, replicate}
use Rattle.common.proofs.Choice.{if_false, unlike}
use Rattle.device.specs.declared.Device.{Device}
use Rattle.device.specs.Parts.{is_large}
use Rattle.model_types.specs.declared.Pins.{Pins}
use Rattle.model_types.specs.declared.State.{State}
use Rattle.file_block.specs.Block.{is_letter}
use Rattle.file_codec.specs.File.{limit}
use Rattle.loader_run.specs.Runs.{lent_number}
use Rattle.loader_from_file.specs.Loads.{wanted_of}
use Rattle.store_places.specs.Store.{adds, has_in, live_in, without, items_in, is_proper, find_place_number, find_of, Proper}
use Rattle.store_places.proofs.Claims.{no_room_lem, refused_42}
use Rattle.store_places.proofs.Divided.{loaded, found_read}
use Rattle.store_survey.specs.Survey.{reader_number}
use Rattle.store_survey.proofs.Reader.{file_reader, letter_of}
use Rattle.store.specs.Stores.{main_of, add_number, change_job}
use Rattle.store_claims.specs.Calls.{places_for, places_at}
use Rattle.store_claims.proofs.MainBlock.{there}
use Rattle.store_claims.proofs.Rows.{own_number}

pub room_43 : (d : Device) (s : State) (p : Pins) (xs : List ℕ) (memory scratch : ℕ) (b : List ℕ) (ℓ : ℕ) → is_large d.part ≡ false → lent_number (change_job d s p) (length xs) memory scratch ≡ 0
    → reader_number limit ℓ b ≡ 0 → is_proper (reader_number limit) (main_of d.part xs) ≡ true
    → (add_number d s p xs memory scratch b ℓ ≡ 43) ↔ (places_at d.part.number < live_in (without ℓ (items_in (reader_number limit) (main_of d.part xs))) + get_or b 2 0)
room_43 d s p xs memory scratch b ℓ g z f h =
    let t = there d s p xs memory scratch g z in
    let P : Proper (reader_number limit) (places_for d.part) (main_of d.part xs) = record { size = t.long ∙ t.whole; proper = h } in
    let e = own_number d s p xs memory scratch (adds ℓ b) g z in
    let n = t.places in
    let r = no_room_lem (reader_number limit) (file_reader limit) (places_for d.part) ℓ b (main_of d.part xs) P f in
    let S = live_in (without ℓ (items_in (reader_number limit) (main_of d.part xs))) + get_or b 2 0 in
    (λ (q : add_number d s p xs memory scratch b ℓ ≡ 43). subst (λ (k : ℕ). k < S) n (r.0 (sym e ∙ q)), λ (q : places_at d.part.number < S). e ∙ r.1 (subst (λ (k : ℕ). k < S) (sym n) q))

-- what is found under a letter is a file that the reader reads for that letter; it begins with it, and it is one of the eight
pub found_lettered : (N ℓ : ℕ) (main : List ℕ) → Proper (reader_number limit) N main → has_in ℓ (items_in (reader_number limit) main) ≡ true
    → (reader_number limit ℓ (find_of (reader_number limit) ℓ main) ≡ 0) × (get_or (find_of (reader_number limit) ℓ main) 0 0 ≡ ℓ) × (is_letter ℓ ≡ true)
found_lettered N ℓ main P h =
    let z = found_read (reader_number limit) (file_reader limit) N ℓ main P h in
    (z, (file_reader limit).lettered ℓ (find_of (reader_number limit) ℓ main) z, letter_of limit ℓ (find_of (reader_number limit) ℓ main) z)

-- under a letter that is none of the eight there is no file
pub no_letter_42 : (N ℓ : ℕ) (main : List ℕ) → Proper (reader_number limit) N main → is_letter ℓ ≡ false → find_place_number (reader_number limit) ℓ main ≡ 42
no_letter_42 N ℓ main P n = go (has_in ℓ (items_in (reader_number limit) main)) refl
  where
    go : (t : Bool) → has_in ℓ (items_in (reader_number limit) main) ≡ t → find_place_number (reader_number limit) ℓ main ≡ 42
    go true q = absurd (unlike (sym (found_lettered N ℓ main P q).2 ∙ n))
    go false q = refused_42 (reader_number limit) (file_reader limit) N ℓ main P ∙ if_false (has_in ℓ (items_in (reader_number limit) main)) 0 42 q

-- the file and FFH to the end, as a load of one file leaves a block
pub load_leaves : (N ℓ : ℕ) (b : List ℕ) → reader_number limit ℓ b ≡ 0 → length b ≤ 512 * N
    → Proper (reader_number limit) N (wanted_of b (512 * N)) × (find_of (reader_number limit) ℓ (wanted_of b (512 * N)) ≡ b)
load_leaves N ℓ b z h =
    let c = (file_reader limit).counted ℓ b z in
    let e : 512 * (N - get_or b 2 0) ≡ 512 * N - length b = omega arith in
    subst (λ (k : ℕ). Proper (reader_number limit) N (b ++ replicate k 255) × (find_of (reader_number limit) ℓ (b ++ replicate k 255) ≡ b)) e (loaded (reader_number limit) (file_reader limit) N ℓ b z (omega arith))
