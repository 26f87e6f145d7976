-- CR 4: table 5-1 of report 48, line by line: whether an instruction stores its result, by its operation number and its move bit. `stores` is
-- document 01's sentence; that it says what the table does is one theorem over the sixteen lines.
use Rattle.std.specs.Prelude.{ℕ, ◌≡◌, Bool, true, not, cond, List, [], ◌∷◌, get_or}
use Rattle.model.specs.declared.Flags.{Flags}
use Rattle.model.specs.Alu.{is_move, operation, stores}

-- ---- conditions on the flags before the instruction: `no carry` is the report's (~c), `carry` its (c)

abbrev pub always : Flags → Bool
always flags = true

abbrev pub carry : Flags → Bool
carry flags = flags.carry

abbrev pub overflow : Flags → Bool
overflow flags = flags.overflow

abbrev pub zero : Flags → Bool
zero flags = flags.zero

abbrev pub negative : Flags → Bool
negative flags = flags.negative

abbrev pub no : (Flags → Bool) → Flags → Bool
no condition flags = not (condition flags)

-- ---- the table

-- an operation: its number, and whether its result is stored with move bit 0 and with move bit 1
pub record StoreLine : Type 0 where
  pub number : ℕ
  pub computed : Flags → Bool
  pub moved : Flags → Bool

abbrev pub store_line : ℕ → (computed moved : Flags → Bool) → StoreLine
store_line number computed moved = record { number = number; computed = computed; moved = moved }

-- behind each line the report's op-code and its description with move bit 0 and with move bit 1
unfoldable pub store_table : List StoreLine
store_table =
    store_line 0 always (no carry)  -- 0000: Move; Move if no carry
    ∷ store_line 1 always carry  -- 0001: Increment; Move if carry
    ∷ store_line 2 always (no overflow)  -- 0010: Add with carry; Move if no overflow
    ∷ store_line 3 always overflow  -- 0011: Add; Move if overflow
    ∷ store_line 4 always (no zero)  -- 0100: Negation; Move if not zero
    ∷ store_line 5 always zero  -- 0101: Decrement; Move if zero
    ∷ store_line 6 always (no negative)  -- 0110: Subtract with borrow; Move if not negative
    ∷ store_line 7 always negative  -- 0111: Subtract; Move if negative
    ∷ store_line 8 always always  -- 1000: Rotate right, shifted through carry; Move
    ∷ store_line 9 always always  -- 1001: Arithmetic shift right, top bit duplicated; Move
    ∷ store_line 10 always always  -- 1010: Logical shift right, top bit zero; Move
    ∷ store_line 11 always always  -- 1011: Exclusive or; Move
    ∷ store_line 12 always always  -- 1100: Or; Move
    ∷ store_line 13 always always  -- 1101: And; Move
    ∷ store_line 14 always always  -- 1110: Not; Move
    ∷ store_line 15 always always  -- 1111: Move; Move
    ∷ []

-- past the table, where no operation is (`listed`)
abbrev pub past_table : StoreLine
past_table = store_line 16 always always

-- the line at the operation of instruction w, and what it says under w's move bit
abbrev pub store_line_of : ℕ → StoreLine
store_line_of w = get_or store_table (operation w) past_table

abbrev pub stores_by_table : ℕ → Flags → Bool
stores_by_table w flags = cond (is_move w) ((store_line_of w).moved flags) ((store_line_of w).computed flags)

-- ---- the theorem

-- the line has the operation's number, and document 01 has the result stored exactly when the line says so
pub record ByTable (w : ℕ) (flags : Flags) : Type 0 where
  pub listed : (store_line_of w).number ≡ operation w
  pub stored : stores w flags ≡ stores_by_table w flags

-- for every instruction word, and with it each operation under both move bits, and for all settings of the flags
abbrev pub StoresByTable : Type 0
StoresByTable = (w : ℕ) (flags : Flags) → ByTable w flags
