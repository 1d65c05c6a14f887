-- The records that pass and the first at fault, told by the list.
use mathlib.Core.Path.{◌≡◌, refl, sym, ap, subst, ◌∙◌}
use mathlib.Core.Bool.{Bool, true, false}
use mathlib.Core.List.{List, [], ◌∷◌, ◌++◌}
use Prim.Native.Nat.{ℕ, suc, ◌<◌}
use native.Mathlib.Omega.{arith}
use lib.ListN.{length}
use Rattle.common.proofs.Choice.{if_true, if_false}
use Rattle.device.specs.declared.Device.{Device}
use Rattle.recording.specs.declared.Noted.{Noted}
use Rattle.recording.specs.Recordings.{faulty}
use Rattle.recording_walk.specs.Lists.{Held, onward, left_by, passed_by}
use Rattle.recording_claims.specs.Accepting.{Faultless, FirstFault}

-- the parts of a list that begins with a record
abbrev first_or : Noted → List Noted → Noted
first_or x [] = x
first_or x (y ∷ ys) = y

abbrev rest : List Noted → List Noted
rest [] = []
rest (y ∷ ys) = ys

module _ (d : Device) where
  abbrev at_fault : Held → Noted → Bool
  at_fault v r = faulty d v.state r v.bytes

  -- without fault: of nothing, of one record more in front, and back
  pub none_faulty : (v : Held) → Faultless d v []
  none_faulty v [] r q e = absurd (let z : ◌≡◌ {A = ℕ} 0 (suc (length q)) = ap (λ (xs : List Noted). length xs) e in omega (arith, z))
  none_faulty v (y ∷ p) r q e = absurd (let z : ◌≡◌ {A = ℕ} 0 (suc (length (p ++ (r ∷ q)))) = ap (λ (xs : List Noted). length xs) e in omega (arith, z))

  pub head_fine : (v : Held) (r : Noted) (rs : List Noted) → Faultless d v (r ∷ rs) → at_fault v r ≡ false
  head_fine v r rs f = f [] r rs refl

  pub tail_fine : (v : Held) (r : Noted) (rs : List Noted) → Faultless d v (r ∷ rs) → Faultless d (onward d v r) rs
  tail_fine v r rs f p x q e = f (r ∷ p) x q (ap (λ (xs : List Noted). r ∷ xs) e)

  pub both_fine : (v : Held) (r : Noted) (rs : List Noted) → at_fault v r ≡ false → Faultless d (onward d v r) rs → Faultless d v (r ∷ rs)
  both_fine v r rs h f [] x q e = subst (λ (y : Noted). at_fault v y ≡ false) (ap (first_or r) e) h
  both_fine v r rs h f (y ∷ p) x q e =
      subst (λ (z : Noted). at_fault (left_by d (onward d v z) p) x ≡ false) (ap (first_or r) e) (f p x q (ap rest e))

  -- one record more in front
  passed_fault : (v : Held) (r : Noted) (rs : List Noted) → at_fault v r ≡ true → passed_by d v (r ∷ rs) ≡ 0
  passed_fault v r rs e = if_true (at_fault v r) _ _ e

  passed_more : (v : Held) (r : Noted) (rs : List Noted) → at_fault v r ≡ false → passed_by d v (r ∷ rs) ≡ suc (passed_by d (onward d v r) rs)
  passed_more v r rs e = if_false (at_fault v r) _ _ e

  -- all pass exactly where none is at fault
  pub all_passed : (v : Held) (rs : List Noted) → passed_by d v rs ≡ length rs → Faultless d v rs
  all_passed v [] h = none_faulty v
  all_passed v (r ∷ rs) h = go (at_fault v r) refl (all_passed (onward d v r) rs)
    where
      go : (b : Bool) → at_fault v r ≡ b → (passed_by d (onward d v r) rs ≡ length rs → Faultless d (onward d v r) rs) → Faultless d v (r ∷ rs)
      go true e more = absurd (let z : 0 ≡ suc (length rs) = sym (passed_fault v r rs e) ∙ h in omega (arith, z))
      go false e more = both_fine v r rs e (more (let z : suc (passed_by d (onward d v r) rs) ≡ suc (length rs) = sym (passed_more v r rs e) ∙ h in omega (arith, z)))

  pub none_at_fault : (v : Held) (rs : List Noted) → Faultless d v rs → passed_by d v rs ≡ length rs
  none_at_fault v [] f = refl
  none_at_fault v (r ∷ rs) f = passed_more v r rs (head_fine v r rs f) ∙ ap suc (none_at_fault (onward d v r) rs (tail_fine v r rs f))

  -- fewer pass exactly where one is at fault, and that many
  pub first_there : (v : Held) (rs : List Noted) → passed_by d v rs < length rs → FirstFault d v rs (passed_by d v rs)
  first_there v [] h = absurd (let z : ◌<◌ 0 0 = h in omega (arith, z))
  first_there v (r ∷ rs) h = go (at_fault v r) refl (first_there (onward d v r) rs)
    where
      go : (b : Bool) → at_fault v r ≡ b → (passed_by d (onward d v r) rs < length rs → FirstFault d (onward d v r) rs (passed_by d (onward d v r) rs))
          → FirstFault d v (r ∷ rs) (passed_by d v (r ∷ rs))
      go true e more =
          record { before = []; here = r; after = rs; list = refl; place = sym (passed_fault v r rs e); faultless = none_faulty v; at_fault = e }
      go false e more =
          let k = passed_by d (onward d v r) rs in
          let z : suc k < suc (length rs) = subst (λ (j : ℕ). j < suc (length rs)) (passed_more v r rs e) h in
          let m = more (omega (arith, z)) in
          record {
            before = r ∷ m.before;
            here = m.here;
            after = m.after;
            list = ap (λ (xs : List Noted). r ∷ xs) m.list;
            place = ap suc m.place ∙ sym (passed_more v r rs e);
            faultless = both_fine v r m.before e m.faultless;
            at_fault = m.at_fault;
          }

  passed_up_to : (v : Held) (p : List Noted) (r : Noted) (q : List Noted) → Faultless d v p → at_fault (left_by d v p) r ≡ true → passed_by d v (p ++ (r ∷ q)) ≡ length p
  passed_up_to v [] r q f e = passed_fault v r q e
  passed_up_to v (y ∷ p) r q f e =
      passed_more v y (p ++ (r ∷ q)) (head_fine v y p f) ∙ ap suc (passed_up_to (onward d v y) p r q (tail_fine v y p f) e)

  pub first_is : (v : Held) (rs : List Noted) (i : ℕ) → FirstFault d v rs i → passed_by d v rs ≡ i
  first_is v rs i f = ap (passed_by d v) f.list ∙ passed_up_to v f.before f.here f.after f.faultless f.at_fault ∙ f.place

  -- the first at fault is in the list
  inside : (p : List Noted) (r : Noted) (q : List Noted) → length p < length (p ++ (r ∷ q))
  inside [] r q = omega arith
  inside (y ∷ p) r q = let h = inside p r q in omega arith

  pub first_inside : (v : Held) (rs : List Noted) (i : ℕ) → FirstFault d v rs i → i < length rs
  first_inside v rs i f =
      let l = inside f.before f.here f.after in
      let e : length rs ≡ length (f.before ++ (f.here ∷ f.after)) = ap (λ (xs : List Noted). length xs) f.list in
      let k = f.place in
      omega arith
