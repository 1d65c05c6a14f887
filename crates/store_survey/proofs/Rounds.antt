-- One round of the walk: what is left to tell agrees with what was to tell.
use mathlib.Core.Path.{◌≡◌, refl, sym, ◌∙◌, ap}
use mathlib.Core.List.{List, ◌∷◌}
use mathlib.Core.Bool.{Bool, true, false, not, ◌&&◌, ◌||◌}
use Prim.Native.Nat.{ℕ, ◌+◌, ◌-◌, ◌≤◌, ◌<◌}
use native.Mathlib.Omega.{arith}
use lib.ListN.{length, get_or, set, replicate}
use lib.Dec.{eqb}
use borrow.Author.Tests.{ne_eqb}
use Rattle.std.specs.Prelude.{if◌then◌else◌}
use Rattle.common.proofs.Choice.{if_true, if_false}
use Rattle.store_places.specs.Store.{Item, blank, dead, filed, junk, find_in, live_in}
use Rattle.store_places.proofs.Items.{not_both}
use Rattle.store_survey.specs.Survey.{spot_by, place_in, end_run}
use Rattle.store_survey.specs.Inner.{more_by, twice_of, seen_by, blank_by, file_by, note_of}
use Rattle.store_survey.specs.declared.Survey.{Survey}
use Rattle.store_survey.proofs.Walking.{proper_with, Lettered, fits_with, start_with}

-- at place p, with the survey s so far and the items I to go: what follows from them is what the items I₀ of the whole block give
pub record Walked (ℓ n : ℕ) (I₀ : List Item) (p : ℕ) (seen : List ℕ) (s : Survey) (I : List Item) : Type 0 where
  pub w_good : (s.good && proper_with seen I) ≡ proper_with (replicate 256 0) I₀
  pub w_live : s.live + live_in I ≡ live_in I₀
  pub w_blocks : (if eqb s.blocks 0 then length (find_in ℓ I) else s.blocks) ≡ length (find_in ℓ I₀)
  pub w_place : (if eqb s.blocks 0 then place_in ℓ p I else s.place) ≡ place_in ℓ 0 I₀
  pub w_unmet : s.blocks ≡ 0 → s.place ≡ 0
  pub w_run : end_run s.run I ≡ end_run 0 I₀
  pub w_fits : (s.fits || fits_with n s.run I) ≡ fits_with n 0 I₀
  pub w_start : (if s.fits then s.start else start_with n p s.run I) ≡ start_with n 0 0 I₀
  pub w_unset : s.fits ≡ false → s.start ≡ 0
  pub plain : Lettered I
  pub low_live : s.live ≤ p
  pub low_run : s.run ≤ p

-- two tests, one inside the other
met : {A : Type 0} (a b : Bool) → (a && b) ≡ true → (F : A → ℕ) (x y : A) (z : ℕ) → (if b then F (if a then x else y) else z) ≡ F x
met true true h F x y z = refl
met true false h F x y z = absurd (not_both h refl)
met false b h F x y z = absurd (not_both h refl)

unmet : {A : Type 0} (a b : Bool) → (a && b) ≡ false → (F : A → ℕ) (x y : A) (z : ℕ) → (if b then F (if a then x else y) else z) ≡ (if b then F y else z)
unmet true true h F x y z = absurd (not_both refl h)
unmet true false h F x y z = refl
unmet false true h F x y z = refl
unmet false false h F x y z = refl

module _ (ℓ n : ℕ) (I₀ : List Item) where
  -- past a blank place, by what is then told of the run
  blank_on : (p : ℕ) (seen : List ℕ) (s : Survey) (is : List Item) → Walked ℓ n I₀ p seen s (blank ∷ is) → (start : ℕ) (fits : Bool) → (fits || fits_with n (s.run + 1) is) ≡ fits_with n 0 I₀
      → (if fits then start else start_with n (p + 1 + 0) (s.run + 1) is) ≡ start_with n 0 0 I₀ → (fits ≡ false → start ≡ 0)
      → Walked ℓ n I₀ (p + 1 + 0) seen (record { live = s.live; place = s.place; blocks = s.blocks; run = s.run + 1; start = start; good = s.good; fits = fits }) is
  blank_on p seen s is o start fits a b c =
      record {
        w_good = o.w_good;
        w_live = o.w_live;
        w_blocks = o.w_blocks;
        w_place = o.w_place;
        w_unmet = o.w_unmet;
        w_run = o.w_run;
        w_fits = a;
        w_start = b;
        w_unset = c;
        plain = o.plain;
        low_live = (let a = o.low_live in omega arith);
        low_run = (let a = o.low_run in omega arith);
      }

  at_blank : (p : ℕ) (seen : List ℕ) (s : Survey) (is : List Item) → Walked ℓ n I₀ p seen s (blank ∷ is) → Walked ℓ n I₀ (p + 1 + 0) seen (blank_by s p n) is
  unfolding blank_by
  at_blank p seen s is o = go s.fits refl (eqb (s.run + 1) n) refl
    where
      -- no run before this place
      fits : (u : Bool) → s.fits ≡ false → eqb (s.run + 1) n ≡ u → (u || fits_with n (s.run + 1) is) ≡ fits_with n 0 I₀
      fits u x y = sym (ap (λ (z : Bool). z || (eqb (s.run + 1) n || fits_with n (s.run + 1) is)) x ∙ ap (λ (z : Bool). z || fits_with n (s.run + 1) is) y) ∙ o.w_fits

      start : (u : Bool) → s.fits ≡ false → eqb (s.run + 1) n ≡ u → (if u then p - s.run else start_with n (p + 1 + 0) (s.run + 1) is) ≡ start_with n 0 0 I₀
      start u x y =
          sym (if_false s.fits s.start (start_with n p s.run (blank ∷ is)) x ∙ ap (λ (z : Bool). if z then p - s.run else start_with n (p + 1 + 0) (s.run + 1) is) y) ∙ o.w_start

      go : (t : Bool) → s.fits ≡ t → (u : Bool) → eqb (s.run + 1) n ≡ u
          → Walked ℓ n I₀ (p + 1 + 0) seen
          (if t then record { live = s.live; place = s.place; blocks = s.blocks; run = s.run + 1; start = s.start; good = s.good; fits = true }
          else if u then record { live = s.live; place = s.place; blocks = s.blocks; run = s.run + 1; start = p - s.run; good = s.good; fits = true }
          else record { live = s.live; place = s.place; blocks = s.blocks; run = s.run + 1; start = s.start; good = s.good; fits = false }) is
      go true x u y =
          blank_on p seen s is o s.start true (sym (ap (λ (z : Bool). z || fits_with n s.run (blank ∷ is)) x) ∙ o.w_fits)
          (sym (if_true s.fits s.start (start_with n p s.run (blank ∷ is)) x) ∙ o.w_start) (λ (h : true ≡ false). absurd (not_both refl h))
      go false x true y = blank_on p seen s is o (p - s.run) true (fits true x y) (start true x y) (λ (h : true ≡ false). absurd (not_both refl h))
      go false x false y = blank_on p seen s is o s.start false (fits false x y) (start false x y) (λ (h : false ≡ false). o.w_unset x)

  again_good : (g x w : Bool) → ((g && not (not x)) && w) ≡ (g && (x && w))
  again_good true true w = refl
  again_good true false w = refl
  again_good false x w = refl

  at_file : (p : ℕ) (seen : List ℕ) (s : Survey) (m : ℕ) (f : List (List ℕ)) (is : List Item) → Walked ℓ n I₀ p seen s (filed m f ∷ is)
      → Walked ℓ n I₀ (p + 1 + (length f - 1)) (set seen m 1) (file_by s p m (length f) (not (eqb (get_or seen m 0) 0)) ℓ) is
  unfolding file_by
  at_file p seen s m f is o = go (eqb m ℓ && eqb s.blocks 0) refl
    where
      some : 0 < length f
      some = o.plain.0.1

      full : eqb (length f) 0 ≡ false
      full = ne_eqb (length f) 0 (λ (e : length f ≡ 0). (let a = some in omega arith))

      good : ((s.good && not (not (eqb (get_or seen m 0) 0))) && proper_with (set seen m 1) is) ≡ proper_with (replicate 256 0) I₀
      good = again_good s.good (eqb (get_or seen m 0) 0) (proper_with (set seen m 1) is) ∙ o.w_good

      go : (t : Bool) → (eqb m ℓ && eqb s.blocks 0) ≡ t
          → Walked ℓ n I₀ (p + 1 + (length f - 1)) (set seen m 1)
          (if t then record { live = s.live + length f; place = p; blocks = length f; run = 0; start = s.start; good = s.good && not (not (eqb (get_or seen m 0) 0)); fits = s.fits }
          else record { live = s.live + length f; place = s.place; blocks = s.blocks; run = 0; start = s.start; good = s.good && not (not (eqb (get_or seen m 0) 0)); fits = s.fits }) is
      go true x =
          record {
            w_good = good;
            w_live = (let a = o.w_live in omega arith);
            w_blocks = if_false (eqb (length f) 0) (length (find_in ℓ is)) (length f) full
                ∙ sym (met (eqb m ℓ) (eqb s.blocks 0) x (λ (z : List (List ℕ)). length z) f (find_in ℓ is) s.blocks) ∙ o.w_blocks;
            w_place = if_false (eqb (length f) 0) (place_in ℓ (p + 1 + (length f - 1)) is) p full
                ∙ sym (met (eqb m ℓ) (eqb s.blocks 0) x (λ (z : ℕ). z) p (place_in ℓ (p + 1 + (length f - 1)) is) s.place) ∙ o.w_place;
            w_unmet = λ (e : length f ≡ 0). absurd (let a = some in omega arith);
            w_run = o.w_run;
            w_fits = o.w_fits;
            w_start = o.w_start;
            w_unset = o.w_unset;
            plain = o.plain.1;
            low_live = (let a = o.low_live in omega arith);
            low_run = omega arith;
          }
      go false x =
          record {
            w_good = good;
            w_live = (let a = o.w_live in omega arith);
            w_blocks = sym (unmet (eqb m ℓ) (eqb s.blocks 0) x (λ (z : List (List ℕ)). length z) f (find_in ℓ is) s.blocks) ∙ o.w_blocks;
            w_place = sym (unmet (eqb m ℓ) (eqb s.blocks 0) x (λ (z : ℕ). z) p (place_in ℓ (p + 1 + (length f - 1)) is) s.place) ∙ o.w_place;
            w_unmet = o.w_unmet;
            w_run = o.w_run;
            w_fits = o.w_fits;
            w_start = o.w_start;
            w_unset = o.w_unset;
            plain = o.plain.1;
            low_live = (let a = o.low_live in omega arith);
            low_run = omega arith;
          }

  no_good : (g w : Bool) → (false && w) ≡ (g && false)
  no_good true w = refl
  no_good false w = refl

  pub round : (p : ℕ) (seen : List ℕ) (s : Survey) (i : Item) (is : List Item) → Walked ℓ n I₀ p seen s (i ∷ is)
      → Walked ℓ n I₀ (p + 1 + more_by (spot_by i)) (seen_by seen (spot_by i)) (note_of s (spot_by i) p (twice_of seen (spot_by i)) ℓ n) is
  round p seen s blank is o = at_blank p seen s is o
  round p seen s (dead q) is o =
      record {
        w_good = o.w_good;
        w_live = o.w_live;
        w_blocks = o.w_blocks;
        w_place = o.w_place;
        w_unmet = o.w_unmet;
        w_run = o.w_run;
        w_fits = o.w_fits;
        w_start = o.w_start;
        w_unset = o.w_unset;
        plain = o.plain;
        low_live = (let a = o.low_live in omega arith);
        low_run = omega arith;
      }
  round p seen s (filed m f) is o = at_file p seen s m f is o
  round p seen s (junk q) is o =
      record {
        w_good = no_good s.good (proper_with seen is) ∙ o.w_good;
        w_live = o.w_live;
        w_blocks = o.w_blocks;
        w_place = o.w_place;
        w_unmet = o.w_unmet;
        w_run = o.w_run;
        w_fits = o.w_fits;
        w_start = o.w_start;
        w_unset = o.w_unset;
        plain = o.plain;
        low_live = (let a = o.low_live in omega arith);
        low_run = omega arith;
      }
