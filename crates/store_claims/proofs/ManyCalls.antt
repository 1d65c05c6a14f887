-- Calls one after the other, each refused before a cycle or ended well: what they leave, and what a find answers then.
use mathlib.Core.Path.{◌≡◌, refl, sym, ◌∙◌, ap, subst}
use mathlib.Core.List.{List, [], ◌∷◌, ◌++◌}
use mathlib.Core.Bool.{Bool, true, false, not}
use Prim.Native.Nat.{ℕ, ◌+◌, ◌-◌, ◌≤◌, ◌<◌, min}
use native.Mathlib.Omega.{arith}
use lib.ListN.{length, get_or, drop, length-take, length-drop}
use lib.Dec.{eqb}
use borrow.Author.Tests.{eqb-true, eqb-false, eq-eqb}
use Rattle.std.specs.Prelude.{if◌then◌else◌}
use Rattle.common.specs.Lists.{Bytes}
use Rattle.common.proofs.Choice.{if_true, if_false, or_left, or_right, unlike}
use Rattle.device.specs.declared.Part.{Part}
use Rattle.device.specs.declared.Device.{Device}
use Rattle.device.specs.Parts.{size_of, length_of, start_of}
use Rattle.file_codec.specs.File.{limit, made, outcome_by}
use Rattle.model_levels.specs.Levels.{vpp_high}
use Rattle.store_places.specs.Store.{Judgement, Reader, Item, blank, dead, filed, junk, join, Change, change_place_number, done_by, changed, changed_all, is_proper, items_in, has_in, find_in, find_place_number, find_of, last_under, Proper}
use Rattle.store_places.proofs.Claims.{found_changed}
use Rattle.store_places.proofs.Divided.{found_read}
use Rattle.store_survey.specs.Survey.{reader_number}
use Rattle.store_survey.proofs.Reader.{file_reader}
use Rattle.store.specs.Stores.{main_of, no_store, seek_number, found_on, ChangeLeft}
use Rattle.store_claims.specs.Calls.{places_for, Call, call_number, call_left, Settled, array_through, AllSettled, changes_made, FileBytes, AllBytes, Timed, Kept, file_or42, AllHigh}
use Rattle.store_claims.proofs.Calls.{found_proper, left_proper, made_by_run, with_supply, main_left, bytes_left, others_left, size_left, own_none, refused_left}

-- a change that nothing refuses is done
changed_done : (c : Change) (main : List ℕ) → change_place_number (reader_number limit) c main ≡ 0 → changed (reader_number limit) c main ≡ done_by (reader_number limit) c main
unfolding changed
changed_done c main e = if_true (eqb (change_place_number (reader_number limit) c main) 0) (done_by (reader_number limit) c main) main (eq-eqb (change_place_number (reader_number limit) c main) 0 e)

module _ (d : Device) (T : Timed d) where
  abbrev part : Part
  part = d.part

  pub kept : (cs : List Call) (xs : List ℕ) → Bytes xs → AllBytes cs → AllSettled d cs xs → Kept d cs xs
  kept [] xs B F S =
      record {
        block = refl;
        found = λ (m : ℕ). refl;
        proper = λ (h : is_proper (reader_number limit) (main_of d.part xs) ≡ true). h;
        before = λ (x : ℕ) (h : x < start_of d.part 3). refl;
        behind = λ (x : ℕ) (h : start_of d.part 3 + length_of d.part 3 ≤ x). refl;
        size = refl;
        bytes = B;
      }
  kept (c ∷ cs) xs B F S = go (eqb (call_number d xs c) 0) refl (kept cs (call_left d xs c).bytes)
    where
      X : List ℕ
      X = (call_left d xs c).bytes

      main : List ℕ
      main = main_of d.part xs

      -- one step, told of what is left
      step : (t : Bool) → eqb (call_number d xs c) 0 ≡ t → main_of d.part (call_left d xs c).bytes ≡ changed_all (reader_number limit) (if t then c.change ∷ [] else []) (main_of d.part xs)
          → ((m : ℕ) → find_of (reader_number limit) m (main_of d.part (call_left d xs c).bytes) ≡ last_under m (if t then c.change ∷ [] else []) (find_of (reader_number limit) m (main_of d.part xs)))
          → (is_proper (reader_number limit) (main_of d.part xs) ≡ true → is_proper (reader_number limit) (main_of d.part (call_left d xs c).bytes) ≡ true)
          → ((x : ℕ) → (x < start_of d.part 3 → get_or (call_left d xs c).bytes x 0 ≡ get_or xs x 0) × (start_of d.part 3 + length_of d.part 3 ≤ x → get_or (call_left d xs c).bytes x 0 ≡ get_or xs x 0))
          → length (call_left d xs c).bytes ≡ length xs
          → Kept d cs (call_left d xs c).bytes → Kept d (c ∷ cs) xs
      step t q b f p o l K =
          record {
            block = K.block ∙ ap (changed_all (reader_number limit) (changes_made d cs (call_left d xs c).bytes)) b ∙ sym (done t) ∙ ap (λ (u : Bool). changed_all (reader_number limit) ((if u then c.change ∷ [] else []) ++ changes_made d cs (call_left d xs c).bytes) (main_of d.part xs)) (sym q);
            found = λ (m : ℕ). K.found m ∙ ap (last_under m (changes_made d cs (call_left d xs c).bytes)) (f m) ∙ sym (joined m t) ∙ ap (λ (u : Bool). last_under m ((if u then c.change ∷ [] else []) ++ changes_made d cs (call_left d xs c).bytes) (find_of (reader_number limit) m (main_of d.part xs))) (sym q);
            proper = λ (h : is_proper (reader_number limit) (main_of d.part xs) ≡ true). K.proper (p h);
            before = λ (x : ℕ) (h : x < start_of d.part 3). K.before x h ∙ (o x).0 h;
            behind = λ (x : ℕ) (h : start_of d.part 3 + length_of d.part 3 ≤ x). K.behind x h ∙ (o x).1 h;
            size = K.size ∙ l;
            bytes = K.bytes;
          }
        where
          done : (t : Bool) → changed_all (reader_number limit) ((if t then c.change ∷ [] else []) ++ changes_made d cs (call_left d xs c).bytes) (main_of d.part xs)
              ≡ changed_all (reader_number limit) (changes_made d cs (call_left d xs c).bytes) (changed_all (reader_number limit) (if t then c.change ∷ [] else []) (main_of d.part xs))
          done true = refl
          done false = refl

          joined : (m : ℕ) (t : Bool) → last_under m ((if t then c.change ∷ [] else []) ++ changes_made d cs (call_left d xs c).bytes) (find_of (reader_number limit) m (main_of d.part xs))
              ≡ last_under m (changes_made d cs (call_left d xs c).bytes) (last_under m (if t then c.change ∷ [] else []) (find_of (reader_number limit) m (main_of d.part xs)))
          joined m true = refl
          joined m false = refl

      go : (t : Bool) → eqb (call_number d xs c) 0 ≡ t → (Bytes (call_left d xs c).bytes → AllBytes cs → AllSettled d cs (call_left d xs c).bytes → Kept d cs (call_left d xs c).bytes) → Kept d (c ∷ cs) xs
      go true q ih =
          let z = eqb-true (call_number d xs c) 0 q in
          let e = S.0 z in
          let M = main_left d xs c T B F.0 z e in
          step true q
          (M ∙ sym (changed_done c.change main (own_none d xs c T B F.0 z)))
          (λ (m : ℕ). ap (find_of (reader_number limit) m) M ∙ found_changed (reader_number limit) (file_reader limit) (places_for d.part) m c.change main (found_proper d xs c T B F.0 z) (own_none d xs c T B F.0 z))
          (λ (h : is_proper (reader_number limit) main ≡ true). ap (is_proper (reader_number limit)) M ∙ (left_proper d xs c T B F.0 z).proper)
          (others_left d xs c T B F.0 z e)
          (size_left d xs c T B F.0 z e)
          (ih (bytes_left d xs c T B F.0 z e) F.1 S.1)
      go false q ih =
          let z = eqb-false (call_number d xs c) 0 q in
          let r : (call_left d xs c).bytes ≡ xs = ap (λ (x : ChangeLeft). x.bytes) (refused_left d xs c z) in
          step false q
          (ap (main_of d.part) r)
          (λ (m : ℕ). ap (λ (ys : List ℕ). find_of (reader_number limit) m (main_of d.part ys)) r)
          (λ (h : is_proper (reader_number limit) main ≡ true). ap (λ (ys : List ℕ). is_proper (reader_number limit) (main_of d.part ys)) r ∙ h)
          (λ (x : ℕ). (λ (h : x < start_of d.part 3). ap (λ (ys : List ℕ). get_or ys x 0) r, λ (h : start_of d.part 3 + length_of d.part 3 ≤ x). ap (λ (ys : List ℕ). get_or ys x 0) r))
          (ap (λ (ys : List ℕ). length ys) r)
          (ih (subst Bytes (sym r) B) F.1 S.1)

  -- with VPP high each call is refused before a cycle or ends well
  pub settled : (xs : List ℕ) (c : Call) → Bytes xs → FileBytes c.change → vpp_high d.part c.pins ≡ true → Settled d xs c
  settled xs c B F v z = ap (λ (x : ChangeLeft). x.ran.end) (made_by_run d xs c T B F z) ∙ (with_supply d xs c T B F z v).well

  pub all_settled : (cs : List Call) (xs : List ℕ) → Bytes xs → AllBytes cs → AllHigh d cs → AllSettled d cs xs
  all_settled [] xs B F H = tt
  all_settled (c ∷ cs) xs B F H = (settled xs c B F.0 H.0, all_settled cs (call_left d xs c).bytes (after (eqb (call_number d xs c) 0) refl) F.1 H.1)
    where
      after : (t : Bool) → eqb (call_number d xs c) 0 ≡ t → Bytes (call_left d xs c).bytes
      after true q = let z = eqb-true (call_number d xs c) 0 q in bytes_left d xs c T B F.0 z (settled xs c B F.0 H.0 z)
      after false q = subst Bytes (sym (ap (λ (x : ChangeLeft). x.bytes) (refused_left d xs c (eqb-false (call_number d xs c) 0 q)))) B

-- ---- what a find answers
module _ (fault : Judgement) (R : Reader fault) (N : ℕ) where
  none_there : (ℓ : ℕ) (is : List Item) → has_in ℓ is ≡ false → find_in ℓ is ≡ []
  none_there ℓ [] x = refl
  none_there ℓ (blank ∷ is) x = none_there ℓ is x
  none_there ℓ (dead p ∷ is) x = none_there ℓ is x
  none_there ℓ (filed k g ∷ is) x = if_false (eqb k ℓ) g (find_in ℓ is) (or_left (eqb k ℓ) (has_in ℓ is) x) ∙ none_there ℓ is (or_right (eqb k ℓ) (has_in ℓ is) x)
  none_there ℓ (junk p ∷ is) x = none_there ℓ is x

  some_bytes : (f : List ℕ) → 0 < length f → made f ≡ file_or42 f
  some_bytes [] h = absurd (omega arith)
  some_bytes (x ∷ f) h = refl

  nothing_found : (ℓ : ℕ) (main : List ℕ) → has_in ℓ (items_in fault main) ≡ false → find_of fault ℓ main ≡ []
  unfolding find_of
  nothing_found ℓ main h = ap join (none_there ℓ (items_in fault main) h)

  -- of a proper store: the file under the letter, or 42
  pub find_answers : (ℓ : ℕ) (main : List ℕ) → Proper fault N main → outcome_by (find_place_number fault ℓ main) (find_of fault ℓ main) ≡ file_or42 (find_of fault ℓ main)
  unfolding find_place_number
  find_answers ℓ main P = go (is_proper fault main) P.proper (has_in ℓ (items_in fault main)) refl
    where
      go : (a : Bool) → a ≡ true → (b : Bool) → has_in ℓ (items_in fault main) ≡ b → outcome_by (if not a then 44 else if not b then 42 else 0) (find_of fault ℓ main) ≡ file_or42 (find_of fault ℓ main)
      go false e b q = absurd (unlike (sym e))
      go true e true q =
          let z = found_read fault R N ℓ main P q in
          let n = R.counted ℓ (find_of fault ℓ main) z in
          let s = R.some ℓ (find_of fault ℓ main) z in
          some_bytes (find_of fault ℓ main) (omega arith)
      go true e false q = sym (ap file_or42 (nothing_found ℓ main q))

-- what a find of a letter answers on a part, by the store alone
pub found_by : (part : Part) (xs : List ℕ) (ℓ : ℕ) → no_store part ≡ false → length xs ≡ size_of part → found_on part xs ℓ ≡ outcome_by (find_place_number (reader_number limit) ℓ (main_of part xs)) (find_of (reader_number limit) ℓ (main_of part xs))
unfolding found_on seek_number find_place_number
found_by part xs ℓ a b = rw (a, eq-eqb (length xs) (size_of part) b) refl

-- after calls: the file last added and not dropped, or the one that stood there at first, and 42 where there is none
pub finds_last : (d : Device) → Timed d → (cs : List Call) (xs : List ℕ) → Bytes xs → AllBytes cs → AllSettled d cs xs
    → no_store d.part ≡ false → length xs ≡ size_of d.part → Proper (reader_number limit) (places_for d.part) (main_of d.part xs)
    → (m : ℕ) → found_on d.part (array_through d cs xs) m ≡ file_or42 (last_under m (changes_made d cs xs) (find_of (reader_number limit) m (main_of d.part xs)))
finds_last d T cs xs B F S g l P m =
    let K = kept d T cs xs B F S in
    let X = array_through d cs xs in
    let sized : length (main_of d.part X) ≡ length (main_of d.part xs) = same_main d.part X xs K.size in
    let Q : Proper (reader_number limit) (places_for d.part) (main_of d.part X) = record { size = sized ∙ P.size; proper = K.proper P.proper } in
    found_by d.part X m g (K.size ∙ l) ∙ find_answers (reader_number limit) (file_reader limit) (places_for d.part) m (main_of d.part X) Q ∙ ap file_or42 (K.found m)
  where
    same_main : (part : Part) (ys zs : List ℕ) → length ys ≡ length zs → length (main_of part ys) ≡ length (main_of part zs)
    same_main part ys zs e =
        length-take (length_of part 3) (drop (start_of part 3) ys)
        ∙ ap (λ (n : ℕ). min (length_of part 3) n) (length-drop (start_of part 3) ys ∙ ap (λ (n : ℕ). n - start_of part 3) e ∙ sym (length-drop (start_of part 3) zs))
        ∙ sym (length-take (length_of part 3) (drop (start_of part 3) zs))
