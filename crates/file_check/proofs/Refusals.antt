-- Refusals and their numbers: each has its own, from 30 to 38, and none has 0.
use Rattle.std.proofs.Common.{◌≡◌, refl, sym, ap, ◌∙◌, ℕ, ◌≤◌, Result, Ok, Err, arith}
use Rattle.file_check.specs.declared.refusal.FileRefusal.{FileRefusal}
use Rattle.file_check.specs.declared.refusal.FileRefusal.TheVariants.{Length, Damaged, Letter, Place, Padding, OtherLetter, Payload, Room, Blank}
use Rattle.file_check.specs.Refusal.{number_of, refusal_of, found_number}

-- the refusal of a refusal's number is that refusal
pub refusal_back : (r : FileRefusal) → refusal_of (number_of r) ≡ r
unfolding refusal_of
refusal_back Length = refl
refusal_back Damaged = refl
refusal_back Letter = refl
refusal_back Place = refl
refusal_back Padding = refl
refusal_back OtherLetter = refl
refusal_back Payload = refl
refusal_back Room = refl
refusal_back Blank = refl

-- and the number of the refusal of a number from 30 to 38 is that number
pub number_back : (n : ℕ) → 30 ≤ n → n ≤ 38 → number_of (refusal_of n) ≡ n
unfolding refusal_of
number_back n l h = grind arith

-- a refusal's number is none but those nine
pub number_range : (r : FileRefusal) → (30 ≤ number_of r) × (number_of r ≤ 38)
number_range Length = (omega arith, omega arith)
number_range Damaged = (omega arith, omega arith)
number_range Letter = (omega arith, omega arith)
number_range Place = (omega arith, omega arith)
number_range Padding = (omega arith, omega arith)
number_range OtherLetter = (omega arith, omega arith)
number_range Payload = (omega arith, omega arith)
number_range Room = (omega arith, omega arith)
number_range Blank = (omega arith, omega arith)

-- two refusals of one number are one
pub number_once : (r q : FileRefusal) → number_of r ≡ number_of q → r ≡ q
number_once r q e = sym (refusal_back r) ∙ ap refusal_of e ∙ refusal_back q

-- and so are two results of one test
pub found_once : (r q : Result (Unit {0}) FileRefusal) → found_number r ≡ found_number q → r ≡ q
found_once (Ok x) (Ok y) e = refl
found_once (Ok x) (Err q) e = absurd (let l = number_range q in omega arith)
found_once (Err r) (Ok y) e = absurd (let l = number_range r in omega arith)
found_once (Err r) (Err q) e = ap Err (number_once r q e)
