-- Operands: decoding, the register's step before and after the access, the operand's address and value, the store into B. Document 01,
-- "Machine and instruction word", modes and (ii) to (vi); CR 6.
use Rattle.std.specs.Prelude.{ℕ, ◌%◌, Bool, true, false, not, cond, ◌||◌, List, [], ◌∷◌, get_or, set}
use Rattle.model.specs.declared.Operand.{Operand}
use Rattle.model.specs.declared.Operand.TheVariants.{Direct, Indirect, Before, After}
use Rattle.model.specs.Words.{inc, dec, field, word_at, present, store_above}

-- the modes: 0 direct, 1 indirect, 2 indirect after decrement (the register steps down before), 3 indirect then increment (it steps up
-- after)
abbrev pub operand : (mode register : ℕ) → Operand
operand mode register =
    get_or (Direct register ∷ Indirect register ∷ Before register ∷ []) mode (After register)

unfoldable pub operand_a : ℕ → Operand
operand_a w = operand (field w 3 2) (field w 0 3)

unfoldable pub operand_b : ℕ → Operand
operand_b w = operand (field w 8 2) (field w 5 3)

-- the register that an operand carries; there are eight, so only the low three bits of its number count
abbrev pub register_of : Operand → ℕ
register_of (Direct r) = r % 8
register_of (Indirect r) = r % 8
register_of (Before r) = r % 8
register_of (After r) = r % 8

abbrev pub in_memory : Operand → Bool
in_memory (Direct r) = false
in_memory (Indirect r) = true
in_memory (Before r) = true
in_memory (After r) = true

-- register r, stepped by f
abbrev pub stepped : (ℕ → ℕ) → ℕ → List ℕ → List ℕ
stepped f r regs = set regs r (f (word_at regs r))

-- the step down of mode 2, and the step up of mode 3
abbrev pub step_down : Operand → List ℕ → List ℕ
step_down (Direct r) regs = regs
step_down (Indirect r) regs = regs
step_down (Before r) regs = stepped dec (r % 8) regs
step_down (After r) regs = regs

abbrev pub step_up : Operand → List ℕ → List ℕ
step_up (Direct r) regs = regs
step_up (Indirect r) regs = regs
step_up (Before r) regs = regs
step_up (After r) regs = stepped inc (r % 8) regs

-- a word put into the operand's register
abbrev pub set_register : Operand → ℕ → List ℕ → List ℕ
set_register o x regs = set regs (register_of o) x

-- ---- with the registers as stepped down for the operand

-- the register's word: the operand, or the address of an operand in memory
abbrev pub register_word : Operand → List ℕ → ℕ
register_word o regs = word_at regs (register_of o)

abbrev pub operand_present : Operand → List ℕ → List ℕ → Bool
operand_present o regs memory = not (in_memory o) || present memory (register_word o regs)

abbrev pub operand_value : Operand → List ℕ → List ℕ → ℕ
operand_value o regs memory = cond (in_memory o) (word_at memory (register_word o regs)) (register_word o regs)

-- a store into the operand: the registers, and the memory, after it
abbrev pub store_in_register : Operand → ℕ → List ℕ → List ℕ
store_in_register o x regs = cond (in_memory o) regs (set_register o x regs)

abbrev pub store_in_memory : (bottom : ℕ) → Operand → ℕ → List ℕ → List ℕ → List ℕ
store_in_memory bottom o x regs memory = cond (in_memory o) (store_above bottom memory (register_word o regs) x) memory
