-- `c_steps::typed` meets its contract.
use mathlib.Core.Path.{◌≡◌, ap, ◌∙◌}
use Rattle.units.specs.Units.{lent}
use Rattle.loader.specs.declared.Loader.{Loader}
use Rattle.loader.specs.declared.Response.{Response}
use Rattle.loader_steps.specs.Front.{step_response, scratch_left}
use Rattle.c_records.specs.Records.{loader_in, saying_out, loader_back}
use Rattle.c_steps.specs.Steps.{stepped_of, scratch_stepped}
use Rattle.c_steps.proofs.typed.Goals as goal

pub returns : goal.returns
unfolding stepped_of scratch_stepped
returns c =
    let a = c.args in
    let w = a.wanted.now in
    let sc = a.scratch.now in
    let e : c.loader_in.result ≡ loader_in a.l = c.loader_in.ensures in
    let g : c.step-g.result ≡ step_response (loader_in a.l) a.value (lent (loader_in a.l).part.word w) (lent (loader_in a.l).part.word sc) =
    c.step-g.ensures.result ∙ ap (λ (l : Loader). step_response l a.value (lent l.part.word w) (lent l.part.word sc)) e in
    let saying = c.saying_out.ensures ∙ ap (λ (x : Response). saying_out x.saying) g in
    let loader = c.loader_back.ensures ∙ ap (λ (x : Response). loader_back a.l x.loader) g in (
      λ i. record { turn = saying i; loader = loader i },
      c.step-g.ensures.scratch_left ∙ ap (λ (l : Loader). scratch_left l a.value w sc) e,
    )
