use mathlib.Core.Path.{refl, ◌∙◌}
use native.Mathlib.Omega.{arith}
use Rattle.gate_rows.proofs.Rows.{by, by-3, by-5, past-table}
use Rattle.gate_rows.proofs.row.work.Goals as goal

pub returns-in-0 : goal.returns-in-0
returns-in-0 c = by 0 c.in-0.is (c.with_address.ensures _) refl

pub returns-in-1 : goal.returns-in-1
returns-in-1 c =
    by 1 c.in-1.is
    (c.read_instruction.ensures _ ∙ rw c.load.ensures) refl

pub returns-in-2 : goal.returns-in-2
returns-in-2 c = by 2 c.in-2.is (c.moved.ensures _ ∙ rw c.step_pc.ensures) refl

pub returns-in-3 : goal.returns-in-3
returns-in-3 c = by-3 c.in-3.is c.operand_a.ensures c.prepare.ensures

pub returns-in-4 : goal.returns-in-4
returns-in-4 c =
    by 4 c.in-4.is
    (c.with_a.ensures _ ∙ rw c.load-in-4.ensures) refl

pub returns-in-5 : goal.returns-in-5
returns-in-5 c = by-5 c.in-5.is c.operand_b.ensures c.prepare-in-5.ensures

pub returns-in-6 : goal.returns-in-6
returns-in-6 c =
    by 6 c.in-6.is
    (c.with_b.ensures _ ∙ rw c.load-in-6.ensures) refl

pub returns-in-7 : goal.returns-in-7
returns-in-7 c = by 7 c.in-7.is (c.compute.ensures _) refl

pub returns-in-8 : goal.returns-in-8
returns-in-8 c =
    by 8 c.in-8.is
    (c.moved-in-8.ensures _ ∙ rw (c.set_register.ensures, c.operand_b-in-8.ensures)) refl

pub returns-in-9 : goal.returns-in-9
returns-in-9 c =
    by 9 c.in-9.is (c.moved-in-9.ensures _)
    c.store_above.ensures.words

pub returns-in-10 : goal.returns-in-10
returns-in-10 c =
    by 10 c.in-10.is
    (c.moved-in-10.ensures _ ∙ rw (c.step_up.ensures, c.operand_a-in-10.ensures)) refl

pub returns-in-11 : goal.returns-in-11
returns-in-11 c =
    by 11 c.in-11.is
    (c.moved-in-11.ensures _ ∙ rw (c.step_up-in-11.ensures, c.operand_b-in-11.ensures)) refl

pub returns-in-12 : goal.returns-in-12
returns-in-12 c = by 12 c.in-12.is (c.moved-in-12.ensures _) refl

pub returns-in_default : goal.returns-in_default
returns-in_default c = past-table (omega arith)
