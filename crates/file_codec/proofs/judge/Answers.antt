-- `file_codec::judge` meets its contract, by one law for each way out.
use mathlib.Core.Path.{◌≡◌, sym, ◌∙◌}
use mathlib.Core.List.{[]}
use mathlib.Core.Bool.{false}
use Prim.Native.Nat.{◌+◌}
use native.Mathlib.Omega.{arith}
use lib.ListN.{length, get_or}
use Rattle.std.proofs.lemmas.Result.{err_from_is_err_and}
use Rattle.common.specs.Numbers.{given}
use Rattle.file_check.specs.Refusal.{number_of}
use Rattle.file_check.specs.declared.refusal.FileRefusal.TheVariants.{Length, OtherLetter}
use Rattle.file_check.proofs.Refusals.{number_range}
use Rattle.file_codec.specs.File.{limit, length_wrong, blocks_rows, blocks_in, payload_of, reader_of}
use Rattle.file_codec.proofs.Sizes.{sized}
use Rattle.file_codec.proofs.Told.{refused_too, made_too}
use Rattle.file_codec.proofs.Outcomes.{length_right, reader_30, reader_block, reader_35, reader_made}
use Rattle.file_codec.proofs.judge.Goals as goal

pub returns-then-length_wrong : goal.returns-then-length_wrong
returns-then-length_wrong c =
    let a = c.args in
    let both = refused_too Length (reader_of limit a.file.now a.asked) (reader_30 limit a.file.now a.asked (sym c.length_wrong.ensures ∙ c.if-length_wrong.true)) in
    record { result = both.0; told = both.1 }

pub judge_blocks-requires : goal.judge_blocks-requires
judge_blocks-requires c =
    let f = c.args.file.now in
    (length_right limit (length f) (sym c.length_wrong.ensures ∙ c.if-length_wrong.false)).0

pub returns-in_err-judge_blocks : goal.returns-in_err-judge_blocks
returns-in_err-judge_blocks c =
    let a = c.args in
    let p = err_from_is_err_and c.from_residual.result c.from_residual.ensures.1 in
    let x = c.in_err-judge_blocks.field-0.0 in
    let w : length_wrong limit (length a.file.now) ≡ false = sym c.length_wrong.ensures ∙ c.if-length_wrong.false in
    let z : number_of x ≡ 0 → ⊥ = (λ (q : number_of x ≡ 0). let l = number_range x in omega arith) in
    let both = refused_too x (reader_of limit a.file.now a.asked) (reader_block limit a.file.now a.asked w (number_of x) c.in_err-judge_blocks.ensures z) in
    rw (p.1, p.2) (record { result = both.0; told = both.1 })

pub returns-then-first-asked : goal.returns-then-first-asked
returns-then-first-asked c =
    let a = c.args in
    let both = refused_too OtherLetter (reader_of limit a.file.now a.asked)
    (reader_35 limit a.file.now a.asked
    (sym c.length_wrong.ensures ∙ c.if-length_wrong.false)
    (sym c.in_ok-judge_blocks.ensures)
    (λ (q : get_or a.file.now 0 0 ≡ a.asked). c.if-first-asked.true (c.nth-first.ensures ∙ q))) in record { result = both.0; told = both.1 }

pub payload_size-requires : goal.payload_size-requires
payload_size-requires c =
    let a = c.args in
    let r = length_right limit (length a.file.now) (sym c.length_wrong.ensures ∙ c.if-length_wrong.false) in
    (r.1, r.0)

pub returns : goal.returns
returns c =
    let a = c.args in
    let f = a.file.now in
    let w : length_wrong limit (length f) ≡ false = sym c.length_wrong.ensures ∙ c.if-length_wrong.false in
    let r = length_right limit (length f) w in
    let g : given (blocks_rows (blocks_in f) (get_or f 0 0) 0 (blocks_in f) f []) ≡ 0 = sym c.in_ok-judge_blocks.ensures in
    let s = sized (blocks_in f) (get_or f 0 0) 0 (blocks_in f) f r.1 (let q : 0 + blocks_in f ≡ blocks_in f = omega arith in q) r.0 g in
    let both = made_too c.payload_size.result (payload_of (blocks_in f) f) (reader_of limit f a.asked)
    (reader_made limit f a.asked w g (sym c.nth-first.ensures ∙ c.if-first-asked.false))
    (sym (c.payload_size.ensures ∙ sym s.size)) in record { result = both.0; told = both.1 }
