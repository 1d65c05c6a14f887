-- `file_writer::write` meets its contract, by one law for each way out.
use mathlib.Core.Path.{◌≡◌, sym, ap, ◌∙◌}
use mathlib.Core.List.{◌++◌}
use Prim.Native.Nat.{ℕ, ◌*◌}
use native.Mathlib.Omega.{arith}
use lib.ListN.{length, drop}
use Rattle.file_check.specs.declared.refusal.FileRefusal.TheVariants.{Letter, Payload, Room}
use Rattle.file_codec.specs.File.{limit, refused, made, in_room, left_in, count_of, blocks_of, file_of, writer_of}
use Rattle.file_codec.proofs.Sizes.{blocks_length}
use Rattle.file_codec.proofs.Told.{refused_too, made_too}
use Rattle.file_codec.proofs.Outcomes.{payload_right, writer_32, writer_36, writer_made, room_37, room_made}
use Rattle.file_writer.proofs.write.Goals as goal

pub returns-then-not-is_letter : goal.returns-then-not-is_letter
returns-then-not-is_letter c =
    let a = c.args in
    let out = a.out.now in
    let q : in_room (length out) (writer_of limit a.letter a.payload.now) ≡ refused 32 =
    ap (in_room (length out)) (writer_32 limit a.letter a.payload.now (sym c.is_letter.ensures ∙ c.if-not-is_letter.true)) in
    let both = refused_too Letter (in_room (length out) (writer_of limit a.letter a.payload.now)) q in record { result = both.0; told = both.1; out_left = sym (ap (left_in out) q) }

pub returns-then-payload_wrong : goal.returns-then-payload_wrong
returns-then-payload_wrong c =
    let a = c.args in
    let out = a.out.now in
    let q : in_room (length out) (writer_of limit a.letter a.payload.now) ≡ refused 36 =
    ap (in_room (length out))
    (writer_36 limit a.letter a.payload.now (sym c.is_letter.ensures ∙ c.if-not-is_letter.false) (sym c.payload_wrong.ensures ∙ c.if-payload_wrong.true)) in
    let both = refused_too Payload (in_room (length out) (writer_of limit a.letter a.payload.now)) q in record { result = both.0; told = both.1; out_left = sym (ap (left_in out) q) }

pub blocks_for-n-requires : goal.blocks_for-n-requires
blocks_for-n-requires c =
    (payload_right limit (length c.args.payload.now) (sym c.payload_wrong.ensures ∙ c.if-payload_wrong.false)).1

pub returns-then-out-whole : goal.returns-then-out-whole
returns-then-out-whole c =
    let a = c.args in
    let out = a.out.now in
    let n = count_of (length a.payload.now) in
    let k : c.blocks_for-n.result ≡ n = c.blocks_for-n.ensures in
    let l : length (file_of a.letter a.payload.now) ≡ 512 * n = blocks_length n a.letter 0 n a.payload.now in
    let q : in_room (length out) (writer_of limit a.letter a.payload.now) ≡ refused 37 =
    ap (in_room (length out))
    (writer_made limit a.letter a.payload.now (sym c.is_letter.ensures ∙ c.if-not-is_letter.false) (sym c.payload_wrong.ensures ∙ c.if-payload_wrong.false))
    ∙ room_37 (length out) (file_of a.letter a.payload.now) (omega (arith, c.if-out-whole.true)) in
    let both = refused_too Room (in_room (length out) (writer_of limit a.letter a.payload.now)) q in record { result = both.0; told = both.1; out_left = sym (ap (left_in out) q) }

pub pack-requires : goal.pack-requires
pack-requires c =
    let a = c.args in
    let s = length a.payload.now in
    let k : c.blocks_for-n.result ≡ count_of s = c.blocks_for-n.ensures in
    let r = payload_right limit s (sym c.payload_wrong.ensures ∙ c.if-payload_wrong.false) in
    (c.if-out-whole.false, omega arith, omega arith, omega arith)

pub returns : goal.returns
returns c =
    let u = c.pack in
    let a = c.args in
    let out = a.out.now in
    let n = count_of (length a.payload.now) in
    let k : c.blocks_for-n.result ≡ n = c.blocks_for-n.ensures in
    let l : length (file_of a.letter a.payload.now) ≡ 512 * n = blocks_length n a.letter 0 n a.payload.now in
    let w : length (file_of a.letter a.payload.now) ≡ 512 * c.blocks_for-n.result = omega arith in
    let q : in_room (length out) (writer_of limit a.letter a.payload.now) ≡ made (file_of a.letter a.payload.now) =
    ap (in_room (length out))
    (writer_made limit a.letter a.payload.now (sym c.is_letter.ensures ∙ c.if-not-is_letter.false) (sym c.payload_wrong.ensures ∙ c.if-payload_wrong.false))
    ∙ room_made (length out) (file_of a.letter a.payload.now) (omega (arith, c.if-out-whole.false)) in
    let both = made_too (512 * c.blocks_for-n.result) (file_of a.letter a.payload.now) (in_room (length out) (writer_of limit a.letter a.payload.now)) q w in
    record {
      result = both.0;
      told = both.1;
      out_left = u.ensures
          ∙ ap (λ (j : ℕ). blocks_of j a.letter 0 j a.payload.now ++ drop (512 * c.blocks_for-n.result) out) k
          ∙ ap (λ (j : ℕ). file_of a.letter a.payload.now ++ drop j out) (sym w)
          ∙ sym (ap (left_in out) q);
    }
