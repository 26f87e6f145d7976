-- Where a run begins in the wait list, and the clocks of one instruction, from its operands and whether its result was stored: its cost and
-- its waits. Document 01, "Clocks"; CR 7.
use Rattle.std.specs.Prelude.{ℕ, ◌+◌, Bool, cond, List}
use Rattle.model.specs.declared.Operand.{Operand}
use Rattle.model.specs.Operands.{in_memory}
use Rattle.model.specs.Waits.{wait_at, next_position, position_fits, wait_sum, position_after}
use Rattle.model.specs.Interpreter.{cost_of, accesses_of}
use Rattle.engine.specs.declared.clocks.Spent.{Spent}

-- CR 7: where a run begins in the list: at the position that is given, where that fits, else at 0, which no accepted run comes to
abbrev pub begins_at : List ℕ → (from : ℕ) → ℕ
begins_at waits from = cond (position_fits waits from) from 0

-- one access more, and n accesses from position p after c clocks
abbrev pub more_of : List ℕ → Spent → Spent
more_of waits w = record { clocks = w.clocks + wait_at waits w.position; position = next_position waits w.position }

abbrev pub walked_of : List ℕ → (c p n : ℕ) → Spent
walked_of waits c p n = record { clocks = c + wait_sum waits p n; position = position_after waits p n }

-- one instruction more
abbrev pub spent_of : List ℕ → Spent → (oa ob : Operand) → Bool → Spent
spent_of waits w oa ob stored =
    let mem_a = in_memory oa in
    let mem_b = in_memory ob in
    walked_of waits (w.clocks + cost_of mem_a mem_b stored) w.position (accesses_of mem_a mem_b stored)
