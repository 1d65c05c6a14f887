use borrow.Author.Tests.{ne_eqb}
use Rattle.c_records.specs.Records.{stage_in}
use Rattle.c_records.proofs.records.stage_in.Goals as goal

pub returns-in-0 : goal.returns-in-0
unfolding stage_in
returns-in-0 c = simp c.in-0.is

pub returns-in-1 : goal.returns-in-1
unfolding stage_in
returns-in-1 c = simp c.in-1.is

pub returns-in-2 : goal.returns-in-2
unfolding stage_in
returns-in-2 c = simp c.in-2.is

pub returns-in-3 : goal.returns-in-3
unfolding stage_in
returns-in-3 c = simp c.in-3.is

pub returns-in-4 : goal.returns-in-4
unfolding stage_in
returns-in-4 c = simp c.in-4.is

pub returns-in-5 : goal.returns-in-5
unfolding stage_in
returns-in-5 c = simp c.in-5.is

pub returns-in-6 : goal.returns-in-6
unfolding stage_in
returns-in-6 c = simp c.in-6.is

pub returns-in-7 : goal.returns-in-7
unfolding stage_in
returns-in-7 c = simp c.in-7.is

pub returns-in-8 : goal.returns-in-8
unfolding stage_in
returns-in-8 c = simp c.in-8.is

pub returns-in-9 : goal.returns-in-9
unfolding stage_in
returns-in-9 c = simp c.in-9.is

pub returns-in-10 : goal.returns-in-10
unfolding stage_in
returns-in-10 c = simp c.in-10.is

pub returns-in_default : goal.returns-in_default
unfolding stage_in
returns-in_default c =
    simp (
      ne_eqb _ _ c.in_default.in_default-own.rest.1,
      ne_eqb _ _ c.in_default.in_default-own.rest.0.1,
      ne_eqb _ _ c.in_default.in_default-own.rest.0.0.1,
      ne_eqb _ _ c.in_default.in_default-own.rest.0.0.0.1,
      ne_eqb _ _ c.in_default.in_default-own.rest.0.0.0.0.1,
      ne_eqb _ _ c.in_default.in_default-own.rest.0.0.0.0.0.1,
      ne_eqb _ _ c.in_default.in_default-own.rest.0.0.0.0.0.0.1,
      ne_eqb _ _ c.in_default.in_default-own.rest.0.0.0.0.0.0.0.1,
      ne_eqb _ _ c.in_default.in_default-own.rest.0.0.0.0.0.0.0.0.1,
      ne_eqb _ _ c.in_default.in_default-own.rest.0.0.0.0.0.0.0.0.0.1,
      ne_eqb _ _ c.in_default.in_default-own.rest.0.0.0.0.0.0.0.0.0.0.1,
    )
