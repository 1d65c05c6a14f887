-- `file_codec::read` meets its contract: the judgement, the room, and the payload in the front of the buffer.
use mathlib.Core.Path.{◌≡◌, sym, ap, ◌∙◌}
use Prim.Native.Nat.{ℕ, ◌/◌}
use native.Mathlib.Omega.{arith}
use lib.ListN.{length, take}
use Rattle.std.proofs.lemmas.Result.{err_from_is_err_and}
use Rattle.file_check.specs.Refusal.{number_of}
use Rattle.file_check.specs.declared.refusal.FileRefusal.TheVariants.{Room}
use Rattle.file_codec.specs.File.{limit, refused, in_room, left_in, places_of, reader_of}
use Rattle.file_codec.proofs.Told.{refused_too, made_too, told_refused}
use Rattle.file_codec.proofs.Answers.{held, too_short, long_enough, front_of, cut}
use Rattle.file_codec.proofs.read.Goals as goal

pub returns-then-out-size : goal.returns-then-out-size
returns-then-out-size c =
    let a = c.args in
    let f = a.file.now in
    let out = a.out.now in
    let h = held limit f a.asked _ c.in_ok-size.ensures.told in
    let q = too_short (length out) h c.if-out-size.true in
    let both = refused_too Room (in_room (length out) (reader_of limit f a.asked)) q in record { result = both.0; told = both.1; out_left = sym (ap (left_in out) q) }

pub unpack-requires : goal.unpack-requires
unpack-requires c =
    let a = c.args in
    let f = a.file.now in
    let h = held limit f a.asked _ c.in_ok-size.ensures.told in
    let l = cut a.out.now _ c.if-out-size.false in
    (h.whole, omega (arith, l, h.upper), omega (arith, l, h.lower))

pub returns-in_err-size : goal.returns-in_err-size
returns-in_err-size c =
    let a = c.args in
    let out = a.out.now in
    let p = err_from_is_err_and c.from_residual.result c.from_residual.ensures.1 in
    let x = c.in_err-size.field-0.0 in
    let o : reader_of limit a.file.now a.asked ≡ refused (number_of x) = told_refused x (reader_of limit a.file.now a.asked) c.in_err-size.ensures.told in
    let q : in_room (length out) (reader_of limit a.file.now a.asked) ≡ refused (number_of x) = ap (in_room (length out)) o in
    let both = refused_too x (in_room (length out) (reader_of limit a.file.now a.asked)) q in
    rw (p.1, p.2) (record { result = both.0; told = both.1; out_left = sym (ap (left_in out) q) })

pub returns : goal.returns
returns c =
    let u = c.unpack in
    let a = c.args in
    let f = a.file.now in
    let out = a.out.now in
    let h = held limit f a.asked _ c.in_ok-size.ensures.told in
    let k = c.if-out-size.false in
    let q = long_enough (length out) h k in
    let w = u.ensures ∙ ap (λ (m : ℕ). take m (places_of (length f / 512) f)) (cut out _ k) in
    let both = made_too _ _ (in_room (length out) (reader_of limit f a.asked)) q h.size in
    record { result = both.0; told = both.1; out_left = front_of out u.new.out _ _ _ q h.size w }
