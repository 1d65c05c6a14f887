use mathlib.Core.Path.{refl, sym, ap, ◌∙◌}
use Rattle.units.specs.Units.{units}
use Rattle.model.specs.declared.Seen.{Seen}
use Rattle.loader_held_run.specs.HeldTurns.{pair_by, scratch_held, room_by}
use Rattle.loader_held_run.proofs.held_taken.Goals as goal

-- src/lib.rt:77:1
pub returns-in-NoData : goal.returns-in-NoData
returns-in-NoData c =
    let a = c.args in
    let u = units a.l.part.word in
    let g = c.data_taken in record { result = g.ensures.result ∙ sym (ap (λ (t : Seen). pair_by t a.l a.h a.k (u a.wanted.now) (u a.scratch.now) a.polls.now) c.in-NoData.is); scratch_left = g.ensures.scratch_left ∙ sym (ap (λ (t : Seen). scratch_held t a.l a.h a.k (u a.wanted.now) (u a.scratch.now)) c.in-NoData.is); room_left = g.ensures.room_left ∙ sym (ap (λ (t : Seen). room_by t a.l.part.word a.h (u a.room.now)) c.in-NoData.is); room_spare = g.ensures.room_spare }

-- src/lib.rt:77:1
pub returns-in-Data : goal.returns-in-Data
returns-in-Data c =
    let a = c.args in
    let u = units a.l.part.word in
    let g = c.data_taken-in-Data in record { result = g.ensures.result ∙ sym (ap (λ (t : Seen). pair_by t a.l a.h a.k (u a.wanted.now) (u a.scratch.now) a.polls.now) c.in-Data.is); scratch_left = g.ensures.scratch_left ∙ sym (ap (λ (t : Seen). scratch_held t a.l a.h a.k (u a.wanted.now) (u a.scratch.now)) c.in-Data.is); room_left = g.ensures.room_left ∙ sym (ap (λ (t : Seen). room_by t a.l.part.word a.h (u a.room.now)) c.in-Data.is); room_spare = g.ensures.room_spare }

-- src/lib.rt:77:1
pub returns-in-Refused : goal.returns-in-Refused
returns-in-Refused c =
    let a = c.args in
    let u = units a.l.part.word in
    let g = c.stop in record { result = g.ensures ∙ sym (ap (λ (t : Seen). pair_by t a.l a.h a.k (u a.wanted.now) (u a.scratch.now) a.polls.now) c.in-Refused.is); scratch_left = sym (ap (λ (t : Seen). scratch_held t a.l a.h a.k (u a.wanted.now) (u a.scratch.now)) c.in-Refused.is); room_left = sym (ap (λ (t : Seen). room_by t a.l.part.word a.h (u a.room.now)) c.in-Refused.is); room_spare = refl }
