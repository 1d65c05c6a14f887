-- What a change returns and leaves, by its number, and from what its two parts leave.
use mathlib.Core.Path.{◌≡◌, refl, sym, ◌∙◌, ap}
use mathlib.Core.Bool.{Bool, true, false}
use mathlib.Core.List.{List}
use Prim.Native.Nat.{ℕ}
use lib.Dec.{eqb}
use borrow.Author.Tests.{eqb-true, eqb-false, eq-eqb, ne_eqb}
use Rattle.common.proofs.Choice.{if_true, if_false}
use Rattle.device.specs.declared.Device.{Device}
use Rattle.model_types.specs.declared.Pins.{Pins}
use Rattle.model_types.specs.declared.State.{State}
use Rattle.loader_run.specs.declared.Ran.{Ran}
use Rattle.loader_run.specs.Runs.{lent_run}
use Rattle.store_contents.specs.Contents.{memory_by}
use Rattle.store_contents.proofs.Numbers.{memory_new, memory_was}
use Rattle.store.specs.Stores.{ChangeLeft, change_made, change_refused, change_left, change_job}

-- made with what was put into memory, or refused with what was lent
pub made : (n : ℕ) (new : List ℕ) (d : Device) (s : State) (p : Pins) (xs memory scratch : List ℕ) → n ≡ 0 → change_left n new d s p xs memory scratch ≡ change_made (lent_run (change_job d s p) xs new scratch) new
unfolding change_left
made n new d s p xs memory scratch z = if_true (eqb n 0) (change_made (lent_run (change_job d s p) xs new scratch) new) (change_refused n s xs memory scratch) (eq-eqb n 0 z)

pub refused : (n : ℕ) (new : List ℕ) (d : Device) (s : State) (p : Pins) (xs memory scratch : List ℕ) → (n ≡ 0 → ⊥) → change_left n new d s p xs memory scratch ≡ change_refused n s xs memory scratch
unfolding change_left
refused n new d s p xs memory scratch z = if_false (eqb n 0) (change_made (lent_run (change_job d s p) xs new scratch) new) (change_refused n s xs memory scratch) (ne_eqb n 0 z)

module _ (n : ℕ) (new : List ℕ) (d : Device) (s : State) (p : Pins) (xs memory scratch : List ℕ) where
  -- one change among equals, from its memory on
  like : (m : List ℕ) → m ≡ memory_by n new memory → (change_left n m d s p xs m scratch ≡ change_left n new d s p xs memory scratch) × (m ≡ (change_left n new d s p xs memory scratch).memory)
  like m e = go (eqb n 0) refl
    where
      go : (t : Bool) → eqb n 0 ≡ t → (change_left n m d s p xs m scratch ≡ change_left n new d s p xs memory scratch) × (m ≡ (change_left n new d s p xs memory scratch).memory)
      go true q =
          let z = eqb-true n 0 q in
          let h : m ≡ new = e ∙ memory_new n new memory z in
          let b = made n new d s p xs memory scratch z in (
            made n m d s p xs m scratch z ∙ ap (λ (x : List ℕ). change_made (lent_run (change_job d s p) xs x scratch) x) h ∙ sym b,
            h ∙ sym (ap (λ (x : ChangeLeft). x.memory) b),
          )
      go false q =
          let z = eqb-false n 0 q in
          let h : m ≡ memory = e ∙ memory_was n new memory z in
          let b = refused n new d s p xs memory scratch z in (
            refused n m d s p xs m scratch z ∙ ap (λ (x : List ℕ). change_refused n s xs x scratch) h ∙ sym b,
            h ∙ sym (ap (λ (x : ChangeLeft). x.memory) b),
          )

  -- what the two parts leave is what the change leaves
  pub change_told : (m : List ℕ) → m ≡ memory_by n new memory → {k : ℕ} (r : Ran) (x u : List ℕ) → r ≡ (change_left k m d s p xs m scratch).ran
      → x ≡ (change_left k m d s p xs m scratch).bytes → u ≡ (change_left k m d s p xs m scratch).scratch → k ≡ n
      → (r ≡ (change_left n new d s p xs memory scratch).ran)
      × ((x ≡ (change_left n new d s p xs memory scratch).bytes) × ((m ≡ (change_left n new d s p xs memory scratch).memory) × (u ≡ (change_left n new d s p xs memory scratch).scratch)))
  change_told m em {k} r x u a b c ek =
      let o = like m em in
      let q : change_left k m d s p xs m scratch ≡ change_left n new d s p xs memory scratch = ap (λ (j : ℕ). change_left j m d s p xs m scratch) ek ∙ o.0 in
      (a ∙ ap (λ (y : ChangeLeft). y.ran) q, (b ∙ ap (λ (y : ChangeLeft). y.bytes) q, (o.1, c ∙ ap (λ (y : ChangeLeft). y.scratch) q)))
