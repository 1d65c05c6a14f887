-- `store_answer::put_file` meets its contract.
use mathlib.Core.Path.{◌≡◌, sym, ap, ◌∙◌}
use mathlib.Core.List.{List}
use Prim.Native.Nat.{ℕ, ◌-◌, ◌<◌}
use native.Mathlib.Omega.{arith}
use lib.ListN.{length, take, drop, length-take}
use Rattle.text.specs.Writing.{laid_at, behind}
use Rattle.file_codec.specs.File.{limit, in_room, reader_of}
use Rattle.file_codec.proofs.Told.{told_refused, given_back}
use Rattle.store_answer.specs.Listing.{payload_text, file_text}
use Rattle.store_answer.proofs.put_file.Goals as goal

-- the payload is no longer than the room
short : (k : ℕ) (left : List ℕ) → length left ≡ 113120 → length (take (k - 0) (drop 0 left)) < 1000000
short k left e = let t = length-take (k - 0) left in omega (arith, t, e)

pub slice_bounds-put_payload-end : goal.slice_bounds-put_payload-end
slice_bounds-put_payload-end c =
    let a = c.args in (given_back a.room.now (in_room (length a.room.now) (reader_of limit a.file.now a.letter)) _ _ c.in-Ok.ensures.told c.in-Ok.ensures.out_left).fits

pub put_payload-requires : goal.put_payload-requires
put_payload-requires c =
    short c.in-Ok.size c.read.new.out (c.read.auto.out ∙ c.requires)

pub returns-in-Err : goal.returns-in-Err
returns-in-Err c =
    let a = c.args in
    let p = c.put_text in
    let o = in_room (length a.room.now) (reader_of limit a.file.now a.letter) in
    let q = sym (ap file_text (told_refused _ o c.in-Err.ensures.told)) ∙ ap (λ (n : ℕ). file_text (in_room n (reader_of limit a.file.now a.letter))) c.requires in
    record { result = p.ensures.result ∙ ap (λ (z : List ℕ). behind a.out.now a.at z) q; out_left = p.ensures.out_left ∙ ap (λ (z : List ℕ). laid_at a.out.now a.at z) q }

pub returns-in-Ok : goal.returns-in-Ok
returns-in-Ok c =
    let a = c.args in
    let p = c.put_payload in
    let o = in_room (length a.room.now) (reader_of limit a.file.now a.letter) in
    let g = given_back a.room.now o _ _ c.in-Ok.ensures.told c.in-Ok.ensures.out_left in
    let q = ap payload_text g.front ∙ sym (ap file_text g.outcome) ∙ ap (λ (n : ℕ). file_text (in_room n (reader_of limit a.file.now a.letter))) c.requires in
    record { result = p.ensures.result ∙ ap (λ (z : List ℕ). behind a.out.now a.at z) q; out_left = p.ensures.out_left ∙ ap (λ (z : List ℕ). laid_at a.out.now a.at z) q }
