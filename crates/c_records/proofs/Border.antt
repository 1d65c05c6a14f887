-- A loader's record and its numbers: there and back, and what becomes of numbers that stand for none.
use mathlib.Core.Path.{◌≡◌, refl, sym, ap, ◌∙◌}
use mathlib.Core.Bool.{Bool, true, false, not, ◌&&◌, ◌||◌}
use Prim.Native.Nat.{ℕ, zero, suc, ◌≤◌}
use native.Mathlib.Omega.{arith}
use lib.Dec.{eqb, ltb}
use borrow.Author.Tests.{ltb-false}
use Rattle.common.proofs.Choice.{if_false, if_ind, or_left, or_right, or_both, and_none}
use Rattle.device.specs.Parts.{unknown_part}
use Rattle.loader.specs.declared.Stage.{Stage}
use Rattle.loader.specs.declared.Stage.TheVariants.{Clearing, Opening, Reading, EraseAsking, EraseConfirming, EraseWaiting, ProgramAsking, ProgramSending, ProgramWaiting, Closing, Verifying, Ended}
use Rattle.loader.specs.declared.Loader.{Loader}
use Rattle.loader_steps.specs.Front.{bad_record}
use Rattle.c_records.specs.Records.{stage_in, stage_out, end_out, no_record, polls_in, loader_in, loader_out, loader_back}
use Rattle.c_records.specs.declared.LoaderNumbers.{LoaderNumbers}
use Rattle.c_cycle.proofs.Border.{plain_number, flag_back, flag_low, flag_number, number_in_lem, part_back, no_mode_unknown}

-- a test beside one that holds
or_yes : (a : Bool) → (a || true) ≡ true
or_yes true = refl
or_yes false = refl

stage_back : (s : Stage) → stage_in (stage_out s) (end_out s) ≡ s
unfolding stage_in
stage_back Clearing = refl
stage_back Opening = refl
stage_back Reading = refl
stage_back EraseAsking = refl
stage_back EraseConfirming = refl
stage_back EraseWaiting = refl
stage_back ProgramAsking = refl
stage_back ProgramSending = refl
stage_back ProgramWaiting = refl
stage_back Closing = refl
stage_back Verifying = refl
stage_back (Ended n) = refl

pub out_record : (l : Loader) → no_record (loader_out l) ≡ false
unfolding no_record
out_record l = or_both _ _ (or_both _ _ (or_both _ _ (by-stage l.stage) (flag_low l.verify)) (flag_low l.part.word)) (flag_low l.high)
  where
    by-stage : (s : Stage) → (ltb 11 (stage_out s) || (not (eqb (end_out s) 0) && not (eqb (stage_out s) 11))) ≡ false
    by-stage Clearing = refl
    by-stage Opening = refl
    by-stage Reading = refl
    by-stage EraseAsking = refl
    by-stage EraseConfirming = refl
    by-stage EraseWaiting = refl
    by-stage ProgramAsking = refl
    by-stage ProgramSending = refl
    by-stage ProgramWaiting = refl
    by-stage Closing = refl
    by-stage Verifying = refl
    by-stage (Ended n) = and_none (not (eqb n 0))

pub record_back : (l : Loader) → loader_in (loader_out l) ≡ l
unfolding polls_in
record_back l =
    let p = part_back l.part in
    let s = stage_back l.stage in
    let n : polls_in (loader_out l) ≡ l.polls = if_false (no_record (loader_out l)) 65535 l.polls (out_record l) in
    λ i. record { part = p i; pins = l.pins; block = l.block; stage = s i; place = l.place; polls = n i; verify = flag_back l.verify i; high = flag_back l.high i }

stage_number : (n end : ℕ) → n ≤ 11 → stage_out (stage_in n end) ≡ n
unfolding stage_in
stage_number zero end h = refl
stage_number (suc zero) end h = refl
stage_number (suc (suc zero)) end h = refl
stage_number (suc (suc (suc zero))) end h = refl
stage_number (suc (suc (suc (suc zero)))) end h = refl
stage_number (suc (suc (suc (suc (suc zero))))) end h = refl
stage_number (suc (suc (suc (suc (suc (suc zero)))))) end h = refl
stage_number (suc (suc (suc (suc (suc (suc (suc zero))))))) end h = refl
stage_number (suc (suc (suc (suc (suc (suc (suc (suc zero)))))))) end h = refl
stage_number (suc (suc (suc (suc (suc (suc (suc (suc (suc zero))))))))) end h = refl
stage_number (suc (suc (suc (suc (suc (suc (suc (suc (suc (suc zero)))))))))) end h = refl
stage_number (suc (suc (suc (suc (suc (suc (suc (suc (suc (suc (suc zero))))))))))) end h = refl
stage_number (suc (suc (suc (suc (suc (suc (suc (suc (suc (suc (suc (suc k)))))))))))) end h = absurd (omega arith)

end_number : (n end : ℕ) → n ≤ 11 → (not (eqb end 0) && not (eqb n 11)) ≡ false → end_out (stage_in n end) ≡ end
unfolding stage_in
end_number zero end h e = sym (plain_number end e)
end_number (suc zero) end h e = sym (plain_number end e)
end_number (suc (suc zero)) end h e = sym (plain_number end e)
end_number (suc (suc (suc zero))) end h e = sym (plain_number end e)
end_number (suc (suc (suc (suc zero)))) end h e = sym (plain_number end e)
end_number (suc (suc (suc (suc (suc zero))))) end h e = sym (plain_number end e)
end_number (suc (suc (suc (suc (suc (suc zero)))))) end h e = sym (plain_number end e)
end_number (suc (suc (suc (suc (suc (suc (suc zero))))))) end h e = sym (plain_number end e)
end_number (suc (suc (suc (suc (suc (suc (suc (suc zero)))))))) end h e = sym (plain_number end e)
end_number (suc (suc (suc (suc (suc (suc (suc (suc (suc zero))))))))) end h e = sym (plain_number end e)
end_number (suc (suc (suc (suc (suc (suc (suc (suc (suc (suc zero)))))))))) end h e = sym (plain_number end e)
end_number (suc (suc (suc (suc (suc (suc (suc (suc (suc (suc (suc zero))))))))))) end h e = refl
end_number (suc (suc (suc (suc (suc (suc (suc (suc (suc (suc (suc (suc k)))))))))))) end h e = absurd (omega arith)

pub record_numbers : (n : LoaderNumbers) → no_record n ≡ false → loader_out (loader_in n) ≡ n
unfolding polls_in no_record
record_numbers n e =
    let staged : Bool = ltb 11 n.stage || (not (eqb n.end 0) && not (eqb n.stage 11)) in
    let g = or_left ((staged || ltb 1 n.verify) || ltb 1 n.word) (ltb 1 n.high) e in
    let h = flag_number n.high (or_right ((staged || ltb 1 n.verify) || ltb 1 n.word) (ltb 1 n.high) e) in
    let mode = or_right (staged || ltb 1 n.verify) (ltb 1 n.word) g in
    let w = flag_number n.word mode in
    let a = number_in_lem n.part n.word mode in
    let before = or_left (staged || ltb 1 n.verify) (ltb 1 n.word) g in
    let f = or_left staged (ltb 1 n.verify) before in
    let v = flag_number n.verify (or_right staged (ltb 1 n.verify) before) in
    let low : n.stage ≤ 11 = ltb-false 11 n.stage (or_left (ltb 11 n.stage) _ f) in
    let s = stage_number n.stage n.end low in
    let z = end_number n.stage n.end low (or_right (ltb 11 n.stage) _ f) in
    let q : polls_in n ≡ n.polls = if_false (no_record n) 65535 n.polls e in
    λ i. record { part = a i; word = w i; rp = n.rp; wp = n.wp; block = n.block; stage = s i; end = z i; verify = v i; high = h i; vpp = n.vpp; polls = q i; place = n.place }

-- a mode that is none makes no part, whatever else the record says
pub no_mode_part : (n : LoaderNumbers) → ltb 1 n.word ≡ true → unknown_part (loader_in n).part ≡ true
no_mode_part n e = no_mode_unknown n.part n.word e

-- .. and such numbers stand for no record
pub no_mode_record : (n : LoaderNumbers) → ltb 1 n.word ≡ true → no_record n ≡ true
unfolding no_record
no_mode_record n e = ap (λ (t : Bool). (((ltb 11 n.stage || (not (eqb n.end 0) && not (eqb n.stage 11))) || ltb 1 n.verify) || t) || ltb 1 n.high) e
    ∙ ap (λ (t : Bool). t || ltb 1 n.high) (or_yes ((ltb 11 n.stage || (not (eqb n.end 0) && not (eqb n.stage 11))) || ltb 1 n.verify))

-- numbers that stand for no record are a bad record
pub no_record_bad : (n : LoaderNumbers) → no_record n ≡ true → bad_record (loader_in n) ≡ true
unfolding bad_record polls_in
no_record_bad n e = rw e refl

pub record_same : (n : LoaderNumbers) → loader_back n (loader_in n) ≡ n
unfolding loader_back
record_same n = if_ind (λ (x : LoaderNumbers). x ≡ n) (no_record n) n (loader_out (loader_in n)) (λ _. refl) (λ e. record_numbers n e)
