use Rattle.recording.proofs.why_seen.Goals as goal

pub returns-in-NoData : goal.returns-in-NoData
returns-in-NoData c = simp c.in-NoData.is

pub returns-in-Data : goal.returns-in-Data
returns-in-Data c = simp c.in-Data.is

pub returns-in-Refused : goal.returns-in-Refused
returns-in-Refused c = simp c.in-Refused.is
