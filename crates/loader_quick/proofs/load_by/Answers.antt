-- `loader_quick::load_by` meets its contract.
use mathlib.Core.Path.{◌≡◌, sym, ap, ◌∙◌, subst}
use mathlib.Core.Bool.{Bool, true, false}
use mathlib.Core.List.{List}
use Prim.Native.Nat.{ℕ, ◌+◌}
use native.Mathlib.Omega.{arith}
use lib.ListN.{length}
use Rattle.common.specs.Lists.{overlaid, overwritten}
use Rattle.device.specs.Parts.{start_of}
use Rattle.units.specs.Units.{units}
use Rattle.loader_run.specs.declared.Ran.{Ran}
use Rattle.loader_run_claims.specs.Wear.{held_in, formula}
use Rattle.loader_run_claims.specs.Ends.{ran_as}
use Rattle.loader_verify_claims.specs.Verified.{units_read}
use Rattle.loader_quick.specs.declared.Made.{Made}
use Rattle.loader_quick.specs.Quick.{Placed, held_units, made_of, load_made}
use Rattle.loader_quick.proofs.Places.{inside, few}
use Rattle.loader_quick.proofs.Loading.{formula_most}
use Rattle.loader_quick.proofs.Comparing.{held_over, same_read, over_made, ends_none, well_ran_lem, well_bytes, well_scratch, load_verify_ran}
use Rattle.loader_quick.proofs.load_by.Goals as goal

pub returns-then-end-ne0 : goal.returns-then-end-ne0
returns-then-end-ne0 c =
    let a = c.args in
    let l = c.loaded-m in
    let not_well : l.result.ran.end ≡ 0 → ⊥ = (λ (e : l.result.ran.end ≡ 0). let u = c.if-end-ne0.true in omega (arith, e, u)) in
    record { result = over_made a.j a.array.now a.wanted.now a.verify l.result l.ensures.result not_well; array_left = l.ensures.array_left; scratch_left = l.ensures.scratch_left; timed = l.ensures.timed }

pub returns-then-not-verify : goal.returns-then-not-verify
returns-then-not-verify c =
    let a = c.args in
    let l = c.loaded-m in
    record { result = l.ensures.result ∙ ap (λ (b : Bool). load_made b a.j a.array.now a.wanted.now) (sym c.if-not-verify.true); array_left = l.ensures.array_left; scratch_left = l.ensures.scratch_left; timed = l.ensures.timed }

pub verified-v-requires : goal.verified-v-requires
verified-v-requires c =
    let a = c.args in
    let l = c.loaded-m in
    subst (λ (n : ℕ). Placed a.j.device.part a.j.block n (length a.wanted.now) (length l.new.scratch)) (sym l.auto.array)
    (subst (λ (n : ℕ). Placed a.j.device.part a.j.block (length a.array.now) (length a.wanted.now) n) (sym l.auto.scratch) c.requires)

pub overflow_add-ran : goal.overflow_add-ran
overflow_add-ran c =
    let a = c.args in
    let z = c.requires in
    let part = a.j.device.part in
    let k = a.j.block in
    let xs = a.array.now in
    let w = a.wanted.now in
    let sc = a.scratch.now in
    let X : List ℕ = units part.word xs in
    let W : List ℕ = units part.word w in
    let Y : List ℕ = held_units part k xs w in
    let l = c.loaded-m in
    let v = c.verified-v in
    let ran : l.result.ran ≡ ran_as false a.j W Y = ap (λ (m : Made). m.ran) l.ensures.result in
    let well : l.result.ran.end ≡ 0 = (let u = c.if-end-ne0.false in omega (arith, u)) in
    let none = ends_none a.j W Y (sym (ap (λ (r : Ran). r.end) ran) ∙ well) in
    let X' : units part.word l.new.array ≡ overlaid X (start_of part k) W = l.ensures.array_left ∙ well_bytes a.j W Y none (start_of part k) X in
    let H : List ℕ = held_units part k l.new.array w in
    let h : H ≡ W = ap (λ (x : List ℕ). held_in (start_of part k) (length W) x) X' ∙ held_over X (start_of part k) W (omega (arith, inside part k xs w sc z)) in
    let e : l.result.ran.count + v.result.count ≡ formula a.j.device W Y =
    ap (λ (r : Ran). r.count) (load_verify_ran a.j W Y none (start_of part k) l.result.ran v.result H ran v.ensures.result h ∙ well_ran_lem a.j W Y none true) in
    record { fits = omega (arith, e, formula_most a.j.device W Y l.ensures.timed (few part k xs w sc z)) }

pub returns : goal.returns
returns c =
    let a = c.args in
    let z = c.requires in
    let part = a.j.device.part in
    let k = a.j.block in
    let xs = a.array.now in
    let w = a.wanted.now in
    let sc = a.scratch.now in
    let X : List ℕ = units part.word xs in
    let W : List ℕ = units part.word w in
    let Y : List ℕ = held_units part k xs w in
    let l = c.loaded-m in
    let v = c.verified-v in
    let ran : l.result.ran ≡ ran_as false a.j W Y = ap (λ (m : Made). m.ran) l.ensures.result in
    let well : l.result.ran.end ≡ 0 = (let u = c.if-end-ne0.false in omega (arith, u)) in
    let none = ends_none a.j W Y (sym (ap (λ (r : Ran). r.end) ran) ∙ well) in
    let X' : units part.word l.new.array ≡ overlaid X (start_of part k) W = l.ensures.array_left ∙ well_bytes a.j W Y none (start_of part k) X in
    let S' : units part.word l.new.scratch ≡ W = l.ensures.scratch_left ∙ well_scratch a.j W Y none in
    let H : List ℕ = held_units part k l.new.array w in
    let h : H ≡ W = ap (λ (x : List ℕ). held_in (start_of part k) (length W) x) X' ∙ held_over X (start_of part k) W (omega (arith, inside part k xs w sc z)) in
    let both = load_verify_ran a.j W Y none (start_of part k) l.result.ran v.result H ran v.ensures.result h ∙ ap (λ (b : Bool). ran_as b a.j W Y) (sym (c.if-not-verify.false)) in record { result = (λ i. made_of (both i) (l.ensures.result i).rises); array_left = l.ensures.array_left; scratch_left = v.ensures.scratch_left ∙ (λ i. overwritten (units_read W (h i)) (h i) (S' i)) ∙ same_read W ∙ sym (well_scratch a.j W Y none); timed = l.ensures.timed }
