-- A search for a number in a list, and one round of it; a block's end as an address; the room in bytes and in units.
use mathlib.Core.Path.{◌≡◌, refl, sym, ap, ◌∙◌}
use mathlib.Core.Bool.{Bool, true, false, ◌||◌}
use mathlib.Core.List.{List, [], ◌∷◌}
use Rattle.std.specs.List.{list_any}
use Prim.Native.Nat.{ℕ, ◌+◌, ◌*◌, ◌/◌, ◌≤◌, ◌<◌}
use native.Mathlib.Omega.{arith}
use native.Mathlib.Numerals.{add-one}
use lib.ListN.{length, get_or, drop}
use lib.Seq.{drop-cons, drop-length}
use lib.Dec.{ltb}
use borrow.Author.Tests.{lt-ltb, le-ltb, ltb-true, ltb-false}
use Rattle.units.specs.Units.{units_in, bytes_in}
use Rattle.device.specs.declared.Part.{Part}
use Rattle.device.specs.Parts.{start_of, length_of}
use Rattle.device.proofs.Claims.{blocks_end_inside}
use Rattle.device.proofs.BlockAddresses.{size_small}
use Rattle.loader_held_lists.specs.Listings.{some_of}

-- a search among all numbers says it
pub some_any : (f : ℕ → Bool) (xs : List ℕ) → list_any f xs ≡ some_of f xs
some_any f [] = refl
some_any f (x ∷ xs) = ap (λ (b : Bool). f x || b) (some_any f xs)

-- what is left to look at, from place i on: the number there, then the rest
pub some_round : (f : ℕ → Bool) (xs : List ℕ) (i : ℕ) → i < length xs → some_of f (drop i xs) ≡ (f (get_or xs i 0) || some_of f (drop (i + 1) xs))
some_round f xs i h = rw (add-one i) (ap (some_of f) (drop-cons xs i 0 h))

-- .. not there, so in the rest
pub some_later : (f : ℕ → Bool) (xs : List ℕ) (i : ℕ) → i < length xs → f (get_or xs i 0) ≡ false → some_of f (drop i xs) ≡ some_of f (drop (i + 1) xs)
some_later f xs i h e = some_round f xs i h ∙ ap (λ (b : Bool). b || some_of f (drop (i + 1) xs)) e

-- .. nothing is left
pub some_over : (f : ℕ → Bool) (xs : List ℕ) (i : ℕ) → i ≡ length xs → some_of f (drop i xs) ≡ false
some_over f xs i e = ap (λ (j : ℕ). some_of f (drop j xs)) e ∙ ap (some_of f) (drop-length xs)

-- a block ends below a million
pub end_small : (part : Part) (k : ℕ) → start_of part k + length_of part k ≤ 524288
end_small part k = let a = blocks_end_inside part k in let b = size_small part in omega arith

-- a room of so many bytes has fewer than n units exactly when it has fewer bytes than n units have
pub short_units : (w : Bool) (n room : ℕ) → ltb (units_in w room) n ≡ ltb room (bytes_in w n)
short_units false n room = refl
short_units true n room = go (ltb (room / 2) n) refl
  where
    go : (t : Bool) → ltb (room / 2) n ≡ t → ltb (room / 2) n ≡ ltb room (2 * n)
    go true e = let h : room / 2 < n = ltb-true (room / 2) n e in e ∙ sym (lt-ltb room (2 * n) (omega arith))
    go false e = let h : n ≤ room / 2 = ltb-false (room / 2) n e in e ∙ sym (le-ltb room (2 * n) (omega arith))
