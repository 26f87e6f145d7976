use Rattle.std.proofs.Common.{rules, ◌≡◌, ◌∙◌}
use Rattle.model.specs.Words.{inc}
use Rattle.model.specs.Operands.{stepped}
use Rattle.model.proofs.Operands.{restored, restored-pc}
use Rattle.step.proofs.Steps.{took-down, took-back}
use Rattle.step.proofs.fetch.fetch.Goals as goal

pub returns-in_default-take-2 : goal.returns-in_default-take-2
returns-in_default-take-2 c =
    let same : c.set_register.new.regs ≡ stepped inc 0 c.args.regs.now =
    restored _ c.register_word-old_a.ensures (took-back c.take-2.ensures c.in_default-take-2.is ∙ took-down c.take.ensures c.in-Some-take.is) c.set_register.ensures
    ∙ c.step_pc.ensures in
    let back = restored-pc c.args.regs.now same in
    search rules
