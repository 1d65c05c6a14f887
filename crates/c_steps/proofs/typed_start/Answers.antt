-- `c_steps::typed_start` meets its contract.
use mathlib.Core.Path.{◌≡◌, ap, ◌∙◌}
use lib.Dec.{eqb}
use Rattle.units.specs.Units.{lent}
use Rattle.loader.specs.declared.Response.{Response}
use Rattle.loader_steps.specs.Front.{start_response}
use Rattle.c_cycle.specs.Values.{part_in, pins_in}
use Rattle.c_records.specs.Records.{loader_out, saying_out}
use Rattle.c_steps.specs.Steps.{started_of}
use Rattle.c_steps.proofs.typed_start.Goals as goal

pub returns : goal.returns
unfolding started_of
returns c =
    let a = c.args in
    let w = a.wanted.now in
    let sc = a.scratch.now in
    let p = c.part_in-known.ensures in
    let g : c.start-g.result ≡ start_response a.work (part_in a.part a.word) (pins_in a.rp a.wp a.vpp) a.block (lent (eqb a.word 1) w) (lent (eqb a.word 1) sc) =
    c.start-g.ensures.result ∙ (λ i. start_response a.work (p i) (c.pins_in-p.ensures i) a.block (lent (p i).word w) (lent (p i).word sc)) in
    let saying = c.saying_out.ensures ∙ ap (λ (x : Response). saying_out x.saying) g in
    let loader = c.loader_out.ensures ∙ ap (λ (x : Response). loader_out x.loader) g in
    λ i. record { turn = saying i; loader = loader i }
