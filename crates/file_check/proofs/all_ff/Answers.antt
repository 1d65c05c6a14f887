-- `file_check::all_ff` meets its contract: the bits that all bytes have are 255 where each of them is.
use Rattle.std.proofs.Common.{◌≡◌, ◌∙◌, ap, ℕ, eqb, bit_and, arith, rules, tests}
use Rattle.std.specs.List.{fold}
use Rattle.std.proofs.lemmas.Iterator.{YieldsList-from_slice}
use Rattle.std.proofs.lemmas.Iterator.Consumers.{fold_from_yields_List}
use Rattle.file_check.proofs.Walks.{gathered}
use Rattle.file_check.proofs.all_ff.Goals as goal

pub returns : goal.returns
returns c =
    let s = c.args.s.now in
    let e : c.fold.result ≡ fold (λ a x. bit_and a x) 255 s =
    fold_from_yields_List _ (λ a x. bit_and a x) _ _ c.fold.ensures.ran (YieldsList-from_slice s cc) (λ a x b q k. search (rules, tests)) in
    ap (λ (k : ℕ). eqb k 255) e ∙ gathered s 255 (omega arith) (λ (i : ℕ). let h = c.type_inv.s i in let f = h.fits in omega arith)
