-- What an instruction has the arithmetic unit do, the flags and the storing condition. Document 01, "Machine and instruction word", move
-- bit 0 and move bit 1. The unit's answers are of the crate arithmetic.
use Rattle.std.specs.Prelude.{ℕ, Bool, true, not, cond, List, [], ◌∷◌, get_or}
use Rattle.arithmetic.specs.declared.AluOut.{AluOut}
use Rattle.arithmetic.specs.Alu.{alu_of}
use Rattle.model.specs.declared.Flags.{Flags}
use Rattle.model.specs.Words.{field, bit}

-- bit 15, the move bit, and bits 16 to 19, the operation
unfoldable pub is_move : ℕ → Bool
is_move w = bit w 15

unfoldable pub operation : ℕ → ℕ
operation w = field w 16 4

-- what the unit gives for instruction w; a move is operation 0
unfoldable pub alu : ℕ → Flags → ℕ → ℕ → AluOut
alu w flags a b = alu_of (cond (is_move w) 0 (operation w)) a b flags.carry

-- the flags that instruction w permits are taken from the unit, the others stay
unfoldable pub flags_after : ℕ → Flags → AluOut → Flags
flags_after w flags out =
    record {
      carry = cond (bit w 13) out.carry flags.carry;
      overflow = cond (bit w 12) out.overflow flags.overflow;
      negative = cond (bit w 11) out.negative flags.negative;
      zero = cond (bit w 10) out.zero flags.zero;
    }

-- a move's condition by operation number, on the flags before the instruction; 8 to 15 is always (CR 4: `Conditions` has it line by line)
abbrev pub conditions : Flags → List Bool
conditions flags =
    not flags.carry  -- 0: no C
    ∷ flags.carry  -- 1: C
    ∷ not flags.overflow  -- 2: no V
    ∷ flags.overflow  -- 3: V
    ∷ not flags.zero  -- 4: no Z
    ∷ flags.zero  -- 5: Z
    ∷ not flags.negative  -- 6: no N
    ∷ flags.negative  -- 7: N
    ∷ []

abbrev pub condition : ℕ → Flags → Bool
condition op flags = get_or (conditions flags) op true

-- whether the result is stored: of a move by its condition, of any other instruction always
unfoldable pub stores : ℕ → Flags → Bool
stores w flags = cond (is_move w) (condition (operation w) flags) true
