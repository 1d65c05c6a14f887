-- The claims about the store, of the bytes of a block of N places. Assumes the reader's laws, `Reader fault`, and nothing else.
use mathlib.Core.Path.{◌≡◌, refl, sym, ◌∙◌, ap, subst}
use mathlib.Core.List.{List, [], ◌∷◌, ◌++◌}
use mathlib.Core.Bool.{Bool, true, false, not}
use mathlib.Core.Logic.{◌↔◌}
use Prim.Native.Nat.{ℕ, zero, suc, ◌+◌, ◌*◌, ◌/◌, ◌≤◌, ◌<◌}
use native.Mathlib.Omega.{arith}
use lib.ListN.{length, get_or}
use lib.Dec.{eqb, ltb}
use borrow.Author.Tests.{eqb-true, eqb-false, eq-eqb, ne_eqb, ltb-false, ltb-true, lt-ltb, le-ltb}
use Rattle.std.specs.Prelude.{if◌then◌else◌}
use Rattle.common.proofs.Choice.{if_true, if_false}
use Rattle.store_places.specs.Store.{Judgement, Reader, cut, join, Item, items_from, places_of, proper_in, has_in, find_in, live_in, without, run_for, added_in, no_room, laid_in, slid_in, places_in, items_in, is_proper, find_of, drop_of, add_of, find_place_number, add_place_number, Change, adds, drops, change_place_number, done_by, changed, changed_all, now_under, last_under, done_in, Proper}
use Rattle.store_places.proofs.Places.{Whole, whole_cut, join_length, cut_length, join_cut, cut_join}
use Rattle.store_places.proofs.Items.{Good, good_whole, not_both, read_back, printed}
use Rattle.store_places.proofs.Changes.{without_good, without_dead, without_none, without_find, without_proper, without_size, live_without, added, added_size, run_room}
use Rattle.store_places.proofs.Falling.{Falls, Small, bytes_small, falls_on, without_falls, laid_falls}

-- a number that is given by its test
given_not : (t : Bool) (k : ℕ) (x : ℕ) → (if t then suc k else x) ≡ 0 → (t ≡ false) × (x ≡ 0)
given_not true k x e = absurd (omega arith)
given_not false k x e = (refl, e)

not-false : (b : Bool) → not b ≡ false → b ≡ true
not-false true e = refl
not-false false e = absurd (not_both refl e)

module _ (fault : Judgement) (R : Reader fault) (N : ℕ) where
  -- a block of N places as its items
  pub record Read (main : List ℕ) : Type 0 where
    pub good : Good fault (items_in fault main)
    pub once : proper_in (items_in fault main) ≡ true
    pub back : join (places_of (items_in fault main)) ≡ main
    pub size : length (places_of (items_in fault main)) ≡ N
    pub places : length main / 512 ≡ N

  pub proper_read : (main : List ℕ) → Proper fault N main → Read main
  unfolding items_in is_proper
  proper_read main P =
      let l = P.size in
      let n : length main / 512 ≡ N = omega arith in
      let e : length main ≡ 512 * (length main / 512) = omega arith in
      let s = places_in main in
      let p = printed fault R s 0 (omega arith) (whole_cut (length main / 512) main e) P.proper in
      record {
        good = p.0;
        once = P.proper;
        back = ap join p.1 ∙ join_cut (length main / 512) main e;
        size = ap (λ (x : List (List ℕ)). length x) p.1 ∙ cut_length (length main / 512) main ∙ n;
        places = n;
      }

  -- good items that fill the block are a block that is read as these items
  pub rebuilt : (js : List Item) → Good fault js → length (places_of js) ≡ N → (length (join (places_of js)) ≡ 512 * N) × (items_in fault (join (places_of js)) ≡ js)
  unfolding items_in
  rebuilt js g e =
      let w = good_whole fault js g in
      let l : length (join (places_of js)) ≡ 512 * length (places_of js) = join_length (places_of js) w in
      let n : length (join (places_of js)) / 512 ≡ length (places_of js) = omega arith in (
        omega arith,
        ap (λ (k : ℕ). items_from fault 0 (cut k (join (places_of js)))) n ∙ ap (items_from fault 0) (cut_join (places_of js) w) ∙ read_back fault R js g,
      )

  -- the file that is added, as places
  new_right : (ℓ : ℕ) (b : List ℕ) → fault ℓ b ≡ 0 → (Whole (places_in b) × (fault ℓ (join (places_in b)) ≡ 0)) × (join (places_in b) ≡ b) × (length (places_in b) ≡ get_or b 2 0)
  new_right ℓ b z =
      let c = R.counted ℓ b z in
      let e : length b ≡ 512 * (length b / 512) = omega arith in
      let j = join_cut (length b / 512) b e in
      ((whole_cut (length b / 512) b e, ap (fault ℓ) j ∙ z), j, cut_length (length b / 512) b ∙ (let q : length b / 512 ≡ get_or b 2 0 = omega arith in q))

  -- ---- the items after a drop and after an add
  pub drop_items : (ℓ : ℕ) (main : List ℕ) → Proper fault N main → (length (drop_of fault ℓ main) ≡ 512 * N) × (items_in fault (drop_of fault ℓ main) ≡ without ℓ (items_in fault main))
  unfolding drop_of
  drop_items ℓ main P =
      let r = proper_read main P in
      rebuilt (without ℓ (items_in fault main)) (without_good fault ℓ (items_in fault main) r.good) (without_size ℓ (items_in fault main) ∙ r.size)

  pub add_items : (ℓ : ℕ) (b main : List ℕ) → Proper fault N main → fault ℓ b ≡ 0 → no_room N ℓ (places_in b) (items_in fault main) ≡ false
      → (length (add_of fault ℓ b main) ≡ 512 * N) × (items_in fault (add_of fault ℓ b main) ≡ added_in N ℓ (places_in b) (items_in fault main))
  unfolding add_of
  add_items ℓ b main P z h =
      let r = proper_read main P in
      let I = items_in fault main in
      let A = added_in N ℓ (places_in b) I in
      let o = rebuilt A ((added N ℓ (places_in b) I).good fault (without_good fault ℓ I r.good) (new_right ℓ b z).0) (added_size N ℓ (places_in b) I r.size h) in
      subst (λ (n : ℕ). (length (join (places_of (added_in n ℓ (places_in b) I))) ≡ 512 * N) × (items_in fault (join (places_of (added_in n ℓ (places_in b) I))) ≡ A)) (sym r.places) o

  -- ---- a drop and an add keep the store proper
  pub drop_proper : (ℓ : ℕ) (main : List ℕ) → Proper fault N main → Proper fault N (drop_of fault ℓ main)
  unfolding is_proper
  drop_proper ℓ main P =
      let o = drop_items ℓ main P in
      record { size = o.0; proper = ap proper_in o.1 ∙ without_proper ℓ (items_in fault main) P.proper }

  -- what an add that is not refused found
  pub add_let : (ℓ : ℕ) (b main : List ℕ) → Proper fault N main → add_place_number fault ℓ b main ≡ 0 → (fault ℓ b ≡ 0) × (no_room N ℓ (places_in b) (items_in fault main) ≡ false)
  unfolding add_place_number
  add_let ℓ b main P e =
      let I = items_in fault main in
      let X : ℕ = (if not (is_proper fault main) then 44 else if no_room (length main / 512) ℓ (places_in b) I then 43 else 0) in
      let a : (fault ℓ b ≡ 0) × (X ≡ 0) = go (fault ℓ b) X refl e in
      let c = given_not (not (is_proper fault main)) 43 (if no_room (length main / 512) ℓ (places_in b) I then 43 else 0) a.1 in
      let d = given_not (no_room (length main / 512) ℓ (places_in b) I) 42 0 c.1 in
      (a.0, ap (λ (n : ℕ). no_room n ℓ (places_in b) I) (sym (proper_read main P).places) ∙ d.0)
    where
      go : (n x : ℕ) → fault ℓ b ≡ n → (if not (eqb n 0) then n else x) ≡ 0 → (fault ℓ b ≡ 0) × (x ≡ 0)
      go zero x q e = (q, e)
      go (suc n) x q e = absurd (let y : suc n ≡ 0 = sym (if_true (not (eqb (suc n) 0)) (suc n) x (ap not (ne_eqb (suc n) 0 (λ (w : suc n ≡ 0). omega arith)))) ∙ e in omega arith)

  pub add_proper : (ℓ : ℕ) (b main : List ℕ) → Proper fault N main → add_place_number fault ℓ b main ≡ 0 → Proper fault N (add_of fault ℓ b main)
  unfolding is_proper
  add_proper ℓ b main P e =
      let f = add_let ℓ b main P e in
      let o = add_items ℓ b main P f.0 f.1 in
      record { size = o.0; proper = ap proper_in o.1 ∙ (added N ℓ (places_in b) (items_in fault main)).proper (without_proper ℓ (items_in fault main) P.proper) }

  -- ---- what is found afterwards
  pub found_added : (ℓ : ℕ) (b main : List ℕ) → Proper fault N main → add_place_number fault ℓ b main ≡ 0 → find_of fault ℓ (add_of fault ℓ b main) ≡ b
  unfolding find_of
  found_added ℓ b main P e =
      let f = add_let ℓ b main P e in
      let o = add_items ℓ b main P f.0 f.1 in
      let I = items_in fault main in
      ap (λ (x : List Item). join (find_in ℓ x)) o.1
      ∙ ap join ((added N ℓ (places_in b) I).find ℓ ∙ if_true (eqb ℓ ℓ) (places_in b) _ (eq-eqb ℓ ℓ refl))
      ∙ (new_right ℓ b f.0).1

  pub found_beside : (ℓ m : ℕ) (b main : List ℕ) → Proper fault N main → add_place_number fault ℓ b main ≡ 0 → (ℓ ≡ m → ⊥) → find_of fault m (add_of fault ℓ b main) ≡ find_of fault m main
  unfolding find_of
  found_beside ℓ m b main P e n =
      let f = add_let ℓ b main P e in
      let o = add_items ℓ b main P f.0 f.1 in
      let I = items_in fault main in
      let q : eqb ℓ m ≡ false = ne_eqb ℓ m n in
      ap (λ (x : List Item). join (find_in m x)) o.1
      ∙ ap join ((added N ℓ (places_in b) I).find m ∙ if_false (eqb ℓ m) (places_in b) _ q ∙ without_find ℓ m I q)

  pub found_dropped : (ℓ : ℕ) (main : List ℕ) → Proper fault N main → find_of fault ℓ (drop_of fault ℓ main) ≡ []
  unfolding find_of
  found_dropped ℓ main P = ap (λ (x : List Item). join (find_in ℓ x)) (drop_items ℓ main P).1 ∙ ap join (without_none ℓ (items_in fault main))

  pub found_kept : (ℓ m : ℕ) (main : List ℕ) → Proper fault N main → (ℓ ≡ m → ⊥) → find_of fault m (drop_of fault ℓ main) ≡ find_of fault m main
  unfolding find_of
  found_kept ℓ m main P n = ap (λ (x : List Item). join (find_in m x)) (drop_items ℓ main P).1 ∙ ap join (without_find ℓ m (items_in fault main) (ne_eqb ℓ m n))

  -- and the numbers: 42 exactly when the letter is not there, in a proper store
  pub refused_42 : (ℓ : ℕ) (main : List ℕ) → Proper fault N main → find_place_number fault ℓ main ≡ (if has_in ℓ (items_in fault main) then 0 else 42)
  unfolding find_place_number
  refused_42 ℓ main P = if_false (not (is_proper fault main)) 44 _ (ap not P.proper) ∙ turned (has_in ℓ (items_in fault main))
    where
      turned : (t : Bool) → (if not t then 42 else 0) ≡ if◌then◌else◌ {A = ℕ} t 0 42
      turned true = refl
      turned false = refl

  pub dropped_42 : (ℓ : ℕ) (main : List ℕ) → Proper fault N main → find_place_number fault ℓ (drop_of fault ℓ main) ≡ 42
  dropped_42 ℓ main P =
      refused_42 ℓ (drop_of fault ℓ main) (drop_proper ℓ main P)
      ∙ if_false (has_in ℓ (items_in fault (drop_of fault ℓ main))) 0 42 (ap (has_in ℓ) (drop_items ℓ main P).1 ∙ without_dead ℓ (items_in fault main))

  -- ---- any list of changes
  pub changed_proper : (c : Change) (main : List ℕ) → Proper fault N main → Proper fault N (changed fault c main)
  unfolding changed
  changed_proper c main P = go c (eqb (change_place_number fault c main) 0) refl
    where
      go : (c : Change) (t : Bool) → eqb (change_place_number fault c main) 0 ≡ t → Proper fault N (if t then done_by fault c main else main)
      go (adds ℓ b) true q = add_proper ℓ b main P (eqb-true _ 0 q)
      go (drops ℓ) true q = drop_proper ℓ main P
      go c false q = P

  pub found_changed : (m : ℕ) (c : Change) (main : List ℕ) → Proper fault N main → change_place_number fault c main ≡ 0 → find_of fault m (done_by fault c main) ≡ now_under m c (find_of fault m main)
  found_changed m (adds ℓ b) main P e = go (eqb ℓ m) refl
    where
      go : (t : Bool) → eqb ℓ m ≡ t → find_of fault m (add_of fault ℓ b main) ≡ (if eqb ℓ m then b else find_of fault m main)
      go true q = ap (λ (x : ℕ). find_of fault x (add_of fault ℓ b main)) (sym (eqb-true ℓ m q)) ∙ found_added ℓ b main P e ∙ sym (if_true (eqb ℓ m) b (find_of fault m main) q)
      go false q = found_beside ℓ m b main P e (eqb-false ℓ m q) ∙ sym (if_false (eqb ℓ m) b (find_of fault m main) q)
  found_changed m (drops ℓ) main P e = go (eqb ℓ m) refl
    where
      go : (t : Bool) → eqb ℓ m ≡ t → find_of fault m (drop_of fault ℓ main) ≡ (if eqb ℓ m then [] else find_of fault m main)
      go true q = ap (λ (x : ℕ). find_of fault x (drop_of fault ℓ main)) (sym (eqb-true ℓ m q)) ∙ found_dropped ℓ main P ∙ sym (if_true (eqb ℓ m) [] (find_of fault m main) q)
      go false q = found_kept ℓ m main P (eqb-false ℓ m q) ∙ sym (if_false (eqb ℓ m) [] (find_of fault m main) q)

  last_append : (m : ℕ) (cs ds : List Change) (was : List ℕ) → last_under m (cs ++ ds) was ≡ last_under m ds (last_under m cs was)
  last_append m [] ds was = refl
  last_append m (c ∷ cs) ds was = last_append m cs ds (now_under m c was)

  one_changed : (m : ℕ) (c : Change) (main : List ℕ) → Proper fault N main → find_of fault m (changed fault c main) ≡ last_under m (if eqb (change_place_number fault c main) 0 then c ∷ [] else []) (find_of fault m main)
  unfolding changed
  one_changed m c main P = go (eqb (change_place_number fault c main) 0) refl
    where
      go : (t : Bool) → eqb (change_place_number fault c main) 0 ≡ t → find_of fault m (if t then done_by fault c main else main) ≡ last_under m (if t then c ∷ [] else []) (find_of fault m main)
      go true q = found_changed m c main P (eqb-true _ 0 q)
      go false q = refl

  pub found_last : (m : ℕ) (cs : List Change) (main : List ℕ) → Proper fault N main
      → find_of fault m (changed_all fault cs main) ≡ last_under m (done_in fault cs main) (find_of fault m main)
  found_last m [] main P = refl
  found_last m (c ∷ cs) main P =
      let D = (if eqb (change_place_number fault c main) 0 then c ∷ [] else []) in
      found_last m cs (changed fault c main) (changed_proper c main P)
      ∙ ap (last_under m (done_in fault cs (changed fault c main))) (one_changed m c main P)
      ∙ sym (last_append m D (done_in fault cs (changed fault c main)) (find_of fault m main))

  pub all_proper : (cs : List Change) (main : List ℕ) → Proper fault N main → Proper fault N (changed_all fault cs main)
  all_proper [] main P = P
  all_proper (c ∷ cs) main P = all_proper cs (changed fault c main) (changed_proper c main P)

  -- ---- no room exactly when the live blocks without the replaced file and the new ones exceed N
  pub room_number_lem : (ℓ : ℕ) (b main : List ℕ) → Proper fault N main → fault ℓ b ≡ 0
      → add_place_number fault ℓ b main ≡ (if ltb N (live_in (without ℓ (items_in fault main)) + get_or b 2 0) then 43 else 0)
  unfolding add_place_number no_room
  room_number_lem ℓ b main P z =
      let I = items_in fault main in
      let n = (proper_read main P).places in
      let k = (new_right ℓ b z).2 in
      if_false (not (eqb (fault ℓ b) 0)) (fault ℓ b) _ (ap not (eq-eqb (fault ℓ b) 0 z))
      ∙ if_false (not (is_proper fault main)) 44 _ (ap not P.proper)
      ∙ ap (λ (x : ℕ). (if ltb x (live_in (without ℓ I) + length (places_in b)) then 43 else 0)) n
      ∙ ap (λ (x : ℕ). (if ltb N (live_in (without ℓ I) + x) then 43 else 0)) k

  pub no_room_lem : (ℓ : ℕ) (b main : List ℕ) → Proper fault N main → fault ℓ b ≡ 0 → add_place_number fault ℓ b main ≡ 43 ↔ (N < live_in (without ℓ (items_in fault main)) + get_or b 2 0)
  no_room_lem ℓ b main P z = (λ (e : add_place_number fault ℓ b main ≡ 43). go (ltb N S) refl (sym (room_number_lem ℓ b main P z) ∙ e), λ (h : N < S). room_number_lem ℓ b main P z ∙ if_true (ltb N S) 43 0 (lt-ltb N S h))
    where
      S : ℕ
      S = live_in (without ℓ (items_in fault main)) + get_or b 2 0

      go : (t : Bool) → ltb N S ≡ t → if◌then◌else◌ {A = ℕ} t 43 0 ≡ 43 → N < S
      go true q e = ltb-true N S q
      go false q e = absurd (omega arith)

  pub room : (ℓ : ℕ) (b main : List ℕ) → Proper fault N main → fault ℓ b ≡ 0 → add_place_number fault ℓ b main ≡ 0 ↔ (live_in (without ℓ (items_in fault main)) + get_or b 2 0 ≤ N)
  room ℓ b main P z = (λ (e : add_place_number fault ℓ b main ≡ 0). go (ltb N S) refl (sym (room_number_lem ℓ b main P z) ∙ e), λ (h : S ≤ N). room_number_lem ℓ b main P z ∙ if_false (ltb N S) 43 0 (le-ltb N S h))
    where
      S : ℕ
      S = live_in (without ℓ (items_in fault main)) + get_or b 2 0

      go : (t : Bool) → ltb N S ≡ t → if◌then◌else◌ {A = ℕ} t 43 0 ≡ 0 → S ≤ N
      go true q e = absurd (omega arith)
      go false q e = ltb-false N S q

  -- the sum in other words: all live blocks, less those of the replaced file
  pub live_less : (ℓ : ℕ) (main : List ℕ) → Proper fault N main → live_in (without ℓ (items_in fault main)) + length (find_in ℓ (items_in fault main)) ≡ live_in (items_in fault main)
  unfolding is_proper
  live_less ℓ main P = live_without ℓ (items_in fault main) P.proper

  -- a run long enough is never there without room: the order of the two questions does not matter
  pub run_fits : (ℓ : ℕ) (b main : List ℕ) → Proper fault N main → fault ℓ b ≡ 0 → run_for ℓ (places_in b) (items_in fault main) ≡ true → add_place_number fault ℓ b main ≡ 0
  run_fits ℓ b main P z h =
      let I = items_in fault main in
      let r = run_room ℓ (places_in b) (without ℓ I) (without_dead ℓ I) h in
      let s = without_size ℓ I in let t = (proper_read main P).size in let k = (new_right ℓ b z).2 in
      (room ℓ b main P z).1 (omega arith)

  -- ---- no bit rises in a drop, nor in an add without slide
  pub drop_falls : (ℓ : ℕ) (main : List ℕ) → Proper fault N main → Falls main (drop_of fault ℓ main)
  unfolding drop_of
  drop_falls ℓ main P = subst (λ (x : List ℕ). Falls x (join (places_of (without ℓ (items_in fault main))))) (proper_read main P).back (without_falls ℓ (items_in fault main))

  pub add_falls : (ℓ : ℕ) (b main : List ℕ) → Proper fault N main → fault ℓ b ≡ 0 → ((k : ℕ) → get_or b k 0 < 256)
      → run_for ℓ (places_in b) (items_in fault main) ≡ true → Falls main (add_of fault ℓ b main)
  unfolding add_of added_in
  add_falls ℓ b main P z bytes h =
      let I = items_in fault main in
      let n = new_right ℓ b z in
      let L = laid_in ℓ (places_in b) (without ℓ I) in
      let s : Small (join (places_in b)) = subst Small (sym n.1) (bytes_small b bytes) in
      let f : Falls (join (places_of I)) (join (places_of L)) =
      falls_on (join (places_of I)) (join (places_of (without ℓ I))) (join (places_of L)) (without_falls ℓ I) (laid_falls ℓ (places_in b) (without ℓ I) n.0.0 s h) in
      let g : Falls main (join (places_of L)) = subst (λ (x : List ℕ). Falls x (join (places_of L))) (proper_read main P).back f in
      subst (λ (x : List Item). Falls main (join (places_of x))) (sym (if_true (run_for ℓ (places_in b) I) L (slid_in (length main / 512) ℓ (places_in b) (without ℓ I)) h)) g
