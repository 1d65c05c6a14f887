-- One round of the code's loop over the places, and its start.
use mathlib.Core.Path.{◌≡◌, refl, sym, ◌∙◌, ap, subst}
use mathlib.Core.List.{List}
use mathlib.Core.Bool.{Bool, true, false}
use Prim.Native.Nat.{ℕ, ◌+◌, ◌/◌, ◌<◌}
use native.Mathlib.Omega.{arith}
use lib.ListN.{length, replicate}
use Rattle.store_places.specs.Store.{Item}
use Rattle.store_survey.specs.Survey.{spot_by, spot_in}
use Rattle.store_survey.specs.Inner.{more_by, twice_of, seen_by, note_of}
use Rattle.store_survey.specs.declared.Spot.{Spot}
use Rattle.store_survey.specs.declared.Spot.TheVariants.{Blank, Dead, File, Junk}
use Rattle.store_survey.specs.declared.Survey.{Survey}
use Rattle.store_survey.proofs.Walking.{proper_with, set_long}
use Rattle.store_survey.proofs.Rounds.{Walked, round}
use Rattle.store_survey.proofs.Spots.{left_at, left_next, all_lettered}

pub begun : (ℓ n : ℕ) (main : List ℕ) (seen : List ℕ) → seen ≡ replicate 256 0
    → Walked ℓ n (left_at main 0) 0 seen (record { live = 0; place = 0; blocks = 0; run = 0; start = 0; good = true; fits = false }) (left_at main 0)
begun ℓ n main seen e =
    record {
      w_good = ap (λ (x : List ℕ). proper_with x (left_at main 0)) e;
      w_live = omega arith;
      w_blocks = refl;
      w_place = refl;
      w_unmet = λ (z : ◌≡◌ {A = ℕ} 0 0). refl;
      w_run = refl;
      w_fits = refl;
      w_start = refl;
      w_unset = λ (z : false ≡ false). refl;
      plain = all_lettered main;
      low_live = omega arith;
      low_run = omega arith;
    }

pub seen_long : (seen : List ℕ) (spot : Spot) → length (seen_by seen spot) ≡ length seen
seen_long seen Blank = refl
seen_long seen Dead = refl
seen_long seen (File m k) = set_long seen m
seen_long seen Junk = refl

pub carried : (ℓ n : ℕ) (main : List ℕ) (I₀ : List Item) (p : ℕ) (seen seen' : List ℕ) (s s' : Survey) (spot : Spot) (again : Bool) (r : ℕ)
    → p < length main / 512 → spot ≡ spot_in main p → again ≡ twice_of seen spot → s' ≡ note_of s spot p again ℓ n
    → seen' ≡ seen_by seen spot → r ≡ more_by spot → Walked ℓ n I₀ p seen s (left_at main p) → Walked ℓ n I₀ (p + 1 + r) seen' s' (left_at main (p + 1 + r))
carried ℓ n main I₀ p seen seen' s s' spot again r h es ea ed em er w =
    let x = left_next main p h in
    let q : spot_by x.0 ≡ spot = x.2 ∙ sym es in
    let v = subst (λ (I : List Item). Walked ℓ n I₀ p seen s I) x.1 w in
    let u = round ℓ n I₀ p seen s x.0 (left_at main (p + 1 + more_by (spot_by x.0))) v in
    let a : Walked ℓ n I₀ (p + 1 + more_by spot) (seen_by seen spot) (note_of s spot p (twice_of seen spot) ℓ n) (left_at main (p + 1 + more_by spot)) =
    subst (λ (z : Spot). Walked ℓ n I₀ (p + 1 + more_by z) (seen_by seen z) (note_of s z p (twice_of seen z) ℓ n) (left_at main (p + 1 + more_by z))) q u in
    let b = subst (λ (z : Bool). Walked ℓ n I₀ (p + 1 + more_by spot) (seen_by seen spot) (note_of s spot p z ℓ n) (left_at main (p + 1 + more_by spot))) (sym ea) a in
    let c = subst (λ (z : Survey). Walked ℓ n I₀ (p + 1 + more_by spot) (seen_by seen spot) z (left_at main (p + 1 + more_by spot))) (sym ed) b in
    let d = subst (λ (z : List ℕ). Walked ℓ n I₀ (p + 1 + more_by spot) z s' (left_at main (p + 1 + more_by spot))) (sym em) c in
    subst (λ (z : ℕ). Walked ℓ n I₀ (p + 1 + z) seen' s' (left_at main (p + 1 + z))) (sym er) d
