-- Reader and writer by their own answers: what they say and leave tells what they made.
use mathlib.Core.Path.{◌≡◌, refl, sym, ◌∙◌, ap}
use mathlib.Core.List.{List, ◌++◌}
use mathlib.Core.Bool.{Bool, true, false}
use mathlib.Core.Logic.{◌↔◌}
use Prim.Native.Nat.{ℕ, ◌≤◌}
use native.Mathlib.Omega.{arith}
use lib.ListN.{length, take, drop}
use lib.Seq.{take_at}
use lib.Dec.{ltb}
use borrow.Author.Tests.{ltb-false}
use Rattle.common.specs.Lists.{Bytes}
use Rattle.common.proofs.Choice.{if_true, if_false}
use Rattle.std.specs.Prelude.{Ok}
use Rattle.file_codec.specs.File.{Outcome, refused, made, limit, in_room, left_in, reader_of, writer_of, answered_as}
use Rattle.file_codec.proofs.Outcomes.{room_made}
use Rattle.file_claims.specs.Roomy.{ReadsInto, WritesInto, WritesGivenRoom}
use Rattle.file_claims.proofs.Written.{written_read}
use Rattle.file_claims.proofs.Reading.{read_written}

-- two lists of one length that stand before the same rest are one
same_front : (b p x y : List ℕ) → length b ≡ length p → b ++ x ≡ p ++ y → b ≡ p
same_front b p x y l e = sym (take_at b x (length b) refl) ∙ ap (take (length b)) e ∙ take_at p y (length b) (sym l)

-- bytes that came through had room
through : (room : ℕ) (o : Outcome) (b : List ℕ) → in_room room o ≡ made b → (o ≡ made b) × (length b ≤ room)
through room (refused n) b e = absurd (let z : ◌≡◌ {A = ℕ} 0 1 = cc in omega arith)
through room (made c) b e = go (ltb room (length c)) refl
  where
    go : (t : Bool) → ltb room (length c) ≡ t → (made c ≡ made b) × (length b ≤ room)
    go true q =
        let w : refused 37 ≡ made b = sym (if_true (ltb room (length c)) (refused 37) (made c) q) ∙ e in
        absurd (let z : ◌≡◌ {A = ℕ} 0 1 = cc in omega arith)
    go false q =
        let w : made c ≡ made b = sym (if_false (ltb room (length c)) (refused 37) (made c) q) ∙ e in
        let s : c ≡ b = cc in
        let l : length c ≤ room = ltb-false room (length c) q in
        let k : length c ≡ length b = ap length s in
        (w, (omega arith))

-- an answer that is a length tells of bytes of that length
answered_made : (o : Outcome) (k : ℕ) → answered_as o ≡ Ok k → (b : List ℕ) × (o ≡ made b) × (length b ≡ k)
answered_made (refused n) k e = absurd (let z : ◌≡◌ {A = ℕ} 0 1 = cc in omega arith)
answered_made (made b) k e = (b, refl, (cc))

-- and what is left at the front tells which
which : (room : ℕ) (o : Outcome) (out b p : List ℕ) → in_room room o ≡ made b → length b ≡ length p → left_in out (in_room room o) ≡ p ++ drop (length p) out → (o ≡ made p) × (length p ≤ room)
which room o out b p e l h =
    let s : b ≡ p = same_front b p (drop (length b) out) (drop (length p) out) l (sym (ap (left_in out) e) ∙ h) in
    through room o p (e ∙ ap made s)

pub read_made : (f : List ℕ) (asked : ℕ) (out p : List ℕ) → ReadsInto f asked out p → (reader_of limit f asked ≡ made p) × (length p ≤ length out)
read_made f asked out p h =
    let g = answered_made (in_room (length out) (reader_of limit f asked)) (length p) h.0 in
    which (length out) (reader_of limit f asked) out g.0 p g.1 g.2 h.1

pub write_made : (ℓ : ℕ) (p out f : List ℕ) → WritesInto ℓ p out f → (writer_of limit ℓ p ≡ made f) × (length f ≤ length out)
write_made ℓ p out f h =
    let g = answered_made (in_room (length out) (writer_of limit ℓ p)) (length f) h.0 in
    which (length out) (writer_of limit ℓ p) out g.0 f g.1 g.2 h.1

-- the other way round, where there is room
pub made_read : (f : List ℕ) (asked : ℕ) (out p : List ℕ) → reader_of limit f asked ≡ made p → length p ≤ length out → ReadsInto f asked out p
made_read f asked out p e h =
    let q : in_room (length out) (reader_of limit f asked) ≡ made p = ap (in_room (length out)) e ∙ room_made (length out) p h in
    (ap answered_as q, ap (left_in out) q)

pub made_write : (ℓ : ℕ) (p out f : List ℕ) → writer_of limit ℓ p ≡ made f → length f ≤ length out → WritesInto ℓ p out f
made_write ℓ p out f e h =
    let q : in_room (length out) (writer_of limit ℓ p) ≡ made f = ap (in_room (length out)) e ∙ room_made (length out) f h in
    (ap answered_as q, ap (left_in out) q)

-- bytes are read into a buffer exactly when they have room there and the writer, given room, makes that file of them
pub given_room : (f : List ℕ) (ℓ : ℕ) (out p : List ℕ) → Bytes f → ReadsInto f ℓ out p ↔ ((length p ≤ length out) × WritesGivenRoom ℓ p f)
given_room f ℓ out p bytes = (
  λ (h : ReadsInto f ℓ out p).
      let m = read_made f ℓ out p h in
      (m.1, λ (room : List ℕ) (l : length f ≤ length room). made_write ℓ p room f (read_written limit ℓ f p bytes m.0) l),
  λ (h : (length p ≤ length out) × WritesGivenRoom ℓ p f).
      made_read f ℓ out p (written_read limit ℓ p f (write_made ℓ p f f (h.1 f (omega arith))).0) h.0,
)
