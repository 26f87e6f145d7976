-- The four flags as four numbers, and as the bits of one number in the order in which an instruction word permits them: Z, N, V, C from bit
-- 0. What a gate state has beside registers and flags, as numbers. Document 01, "Machine and instruction word" and "Clocks".
use Rattle.std.specs.Prelude.{ℕ, false, List, [], ◌∷◌}
use Rattle.arithmetic.specs.Words.{as_number, nibble}
use Rattle.model.specs.declared.Flags.{Flags}
use Rattle.model.specs.declared.Machine.{Machine}
use Rattle.model.specs.declared.GateState.{GateState}
use Rattle.model.specs.Words.{bit}
use Rattle.model.specs.Interpreter.{machine_with}

abbrev pub no_flags : Flags
no_flags = record { carry = false; overflow = false; negative = false; zero = false }

-- C, V, N, Z, each as 0 or 1
abbrev pub flag_numbers : Flags → List ℕ
flag_numbers f = as_number f.carry ∷ as_number f.overflow ∷ as_number f.negative ∷ as_number f.zero ∷ []

unfoldable pub packed_of : Flags → ℕ
packed_of f = nibble f.carry f.overflow f.negative f.zero

-- the flags that a number's low four bits stand for
unfoldable pub flags_of : ℕ → Flags
flags_of n = record { carry = bit n 3; overflow = bit n 2; negative = bit n 1; zero = bit n 0 }

-- a machine of registers and packed flags
abbrev pub packed_machine : (regs : List ℕ) → (flags : ℕ) → Machine
packed_machine regs flags = machine_with regs (flags_of flags)

-- what a gate state has beside registers and flags, as nine numbers
unfoldable pub latch_words : GateState → List ℕ
latch_words s =
    s.row
    ∷ s.instruction
    ∷ s.address
    ∷ s.a
    ∷ s.b
    ∷ s.result
    ∷ s.position
    ∷ as_number s.begun
    ∷ s.left
    ∷ []
