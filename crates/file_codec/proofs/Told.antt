-- An answer and its outcome: what both promises of an answer say where the outcome is known, and the outcome where they are known.
use Rattle.std.proofs.Common.{◌≡◌, refl, sym, ap, ◌∙◌, ℕ, List, length, get_or, take, drop, ◌++◌, ◌+◌, ◌-◌, ◌≤◌, Ok, Err, arith, length-append}
use lib.Seq.{take_at}
use Rattle.file_check.specs.Refusal.{number_of}
use Rattle.file_check.specs.declared.refusal.FileRefusal.{FileRefusal}
use Rattle.file_check.proofs.Refusals.{refusal_back}
use Rattle.file_codec.specs.File.{Outcome, refused, made, answered_as, answered_told, told_by, left_in}

-- a refusal is answered where the outcome is refused by its number
pub refused_too : (r : FileRefusal) (o : Outcome) → o ≡ refused (number_of r) → (Err r ≡ answered_as o) × (answered_told (Err r) ≡ told_by o)
refused_too r o e = (sym (ap answered_as e ∙ ap Err (refusal_back r)), sym (ap told_by e))

-- and a number of bytes where so many come of it
pub made_too : (k : ℕ) (bytes : List ℕ) (o : Outcome) → o ≡ made bytes → length bytes ≡ k → (Ok k ≡ answered_as o) × (answered_told (Ok k) ≡ told_by o)
made_too k bytes o e l = (sym (ap answered_as e ∙ ap Ok l), sym (ap told_by e ∙ ap (λ (m : ℕ). answered_told (Ok m)) l))

-- and back: what an answer tells says which outcome it was
pub told_refused : (r : FileRefusal) (o : Outcome) → answered_told (Err r) ≡ told_by o → o ≡ refused (number_of r)
told_refused r (refused n) e = ap refused (sym (ap (λ (p : ℕ × List ℕ). p.0) e))
told_refused r (made bytes) e = absurd (let z : ◌≡◌ {A = ℕ} 0 1 = ap (λ (p : ℕ × List ℕ). length p.1) e in omega arith)

pub told_made : (k : ℕ) (o : Outcome) → answered_told (Ok k) ≡ told_by o → (bytes : List ℕ) × (o ≡ made bytes) × (length bytes ≡ k)
told_made k (refused n) e = absurd (let z : ◌≡◌ {A = ℕ} 1 0 = ap (λ (p : ℕ × List ℕ). length p.1) e in omega arith)
told_made k (made bytes) e = (bytes, refl, sym (ap (λ (p : ℕ × List ℕ). get_or p.1 0 0) e))

-- bytes given back into a room: what the outcome was, and that they are the front of what is left there
pub record GivenBack (o : Outcome) (k : ℕ) (left : List ℕ) : Type 0 where
  pub bytes : List ℕ
  pub outcome : o ≡ made bytes
  pub front : take (k - 0) (drop 0 left) ≡ bytes
  pub fits : k ≤ length left

pub given_back : (room : List ℕ) (o : Outcome) (k : ℕ) (left : List ℕ) → answered_told (Ok k) ≡ told_by o → left ≡ left_in room o → GivenBack o k left
given_back room o k left e l =
    let t = told_made k o e in
    let p = t.0 in
    let w : left ≡ p ++ drop (length p) room = l ∙ ap (left_in room) t.1 in
    let n : k - 0 ≡ length p = omega (arith, t.2) in
    let m : length left ≡ length p + length (drop (length p) room) = ap length w ∙ length-append p (drop (length p) room) in
    record {
      bytes = p;
      outcome = t.1;
      front = ap (λ (z : ℕ). take z left) n ∙ ap (take (length p)) w ∙ take_at p (drop (length p) room) (length p) refl;
      fits = omega (arith, t.2);
    }
