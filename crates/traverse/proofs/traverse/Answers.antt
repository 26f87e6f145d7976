use mathlib.Core.Path.{sym, ◌∙◌}
use Rattle.traverse.proofs.Answers.{refused}
use Rattle.traverse.proofs.traverse.Goals as goal

pub carry_out-requires : goal.carry_out-requires
carry_out-requires c = sym c.traverse_verdict.ensures ∙ c.in-Ok.is

pub returns-in-Err : goal.returns-in-Err
returns-in-Err c = refused c.traverse_verdict.ensures c.in-Err.is
