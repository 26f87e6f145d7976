use Rattle.std.proofs.Common.{◌≡◌, ℕ, Bool, ◌%◌, sym, ◌∙◌, subst}
use Rattle.arithmetic.specs.declared.AluOut.{AluOut}
use Rattle.arithmetic.specs.Alu.{answers, alu_of, alu_at}
use Rattle.arithmetic.proofs.Operations.{moved}
use Rattle.arithmetic.proofs.word.by_operation.Goals as goal

-- the answer by the number that the match found
by_number : (operation m a b : ℕ) (carry : Bool) {r : AluOut} → operation % 16 ≡ m → r ≡ alu_at 31 m a b carry → r ≡ alu_of operation a b carry
unfolding alu_of
by_number operation m a b carry {r} e h = subst (λ (x : ℕ). r ≡ alu_at 31 x a b carry) (sym e) h

pub returns-in-1 : goal.returns-in-1
unfolding alu_at answers
returns-in-1 c = by_number c.args.operation 1 c.args.a c.args.b c.args.carry c.in-1.is c.sum.ensures

pub returns-in-2 : goal.returns-in-2
unfolding alu_at answers
returns-in-2 c = by_number c.args.operation 2 c.args.a c.args.b c.args.carry c.in-2.is c.sum-in-2.ensures

pub returns-in-3 : goal.returns-in-3
unfolding alu_at answers
returns-in-3 c = by_number c.args.operation 3 c.args.a c.args.b c.args.carry c.in-3.is c.sum-in-3.ensures

pub returns-in-4 : goal.returns-in-4
unfolding alu_at answers
returns-in-4 c = by_number c.args.operation 4 c.args.a c.args.b c.args.carry c.in-4.is c.difference.ensures

pub returns-in-5 : goal.returns-in-5
unfolding alu_at answers
returns-in-5 c = by_number c.args.operation 5 c.args.a c.args.b c.args.carry c.in-5.is c.difference-in-5.ensures

pub returns-in-6 : goal.returns-in-6
unfolding alu_at answers
returns-in-6 c = by_number c.args.operation 6 c.args.a c.args.b c.args.carry c.in-6.is c.difference-in-6.ensures

pub returns-in-7 : goal.returns-in-7
unfolding alu_at answers
returns-in-7 c = by_number c.args.operation 7 c.args.a c.args.b c.args.carry c.in-7.is c.difference-in-7.ensures

pub returns-in-8 : goal.returns-in-8
unfolding alu_at answers
returns-in-8 c = by_number c.args.operation 8 c.args.a c.args.b c.args.carry c.in-8.is c.halved.ensures

pub returns-in-9 : goal.returns-in-9
unfolding alu_at answers
returns-in-9 c = by_number c.args.operation 9 c.args.a c.args.b c.args.carry c.in-9.is c.halved-in-9.ensures

pub returns-in-10 : goal.returns-in-10
unfolding alu_at answers
returns-in-10 c = by_number c.args.operation 10 c.args.a c.args.b c.args.carry c.in-10.is c.halved-in-10.ensures

pub returns-in-11 : goal.returns-in-11
unfolding alu_at answers
returns-in-11 c = by_number c.args.operation 11 c.args.a c.args.b c.args.carry c.in-11.is c.plain.ensures

pub returns-in-12 : goal.returns-in-12
unfolding alu_at answers
returns-in-12 c = by_number c.args.operation 12 c.args.a c.args.b c.args.carry c.in-12.is c.plain-in-12.ensures

pub returns-in-13 : goal.returns-in-13
unfolding alu_at answers
returns-in-13 c = by_number c.args.operation 13 c.args.a c.args.b c.args.carry c.in-13.is c.plain-in-13.ensures

pub returns-in-14 : goal.returns-in-14
unfolding alu_at answers
returns-in-14 c = by_number c.args.operation 14 c.args.a c.args.b c.args.carry c.in-14.is c.plain-in-14.ensures

pub returns-in_default : goal.returns-in_default
unfolding alu_of
returns-in_default c =
    let r = c.args in
    c.plain-in_default.ensures ∙ sym (moved 31 (r.operation % 16) r.a r.b r.carry c.in_default.in_default-own.rest)
