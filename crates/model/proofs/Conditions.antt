-- The storing condition: from 8 on, and line by line as table 5-1 of report 48 has it.
use Prim.Native.Nat.{ℕ, zero, suc, ◌+◌, ◌<◌, zero-le}
use mathlib.Core.Path.{◌≡◌, refl, sym, ap, ◌∙◌}
use mathlib.Core.Bool.{true, cond}
use mathlib.Core.List.{List, [], ◌∷◌}
use native.Mathlib.Omega.{arith}
use lib.ListN.{get_or, get_or-eq_default}
use Rattle.arithmetic.proofs.Operations.{NoneOf, past_all}
use Rattle.model.specs.declared.Flags.{Flags}
use Rattle.model.specs.Words.{field}
use Rattle.model.specs.Alu.{is_move, operation, conditions, condition, stores}
use Rattle.model.specs.Conditions.{always, StoreLine, store_line, store_table, past_table, store_line_of, StoresByTable}

-- past the eight cases
pub unconditional : (op : ℕ) (f : Flags) → NoneOf 0 8 op → true ≡ condition op f
unconditional op f h = sym (get_or-eq_default (conditions f) true {n = op} (past_all 0 8 op h zero-le))

-- an instruction's operation has four bits
pub operation-lt : (w : ℕ) → operation w < 16
unfolding operation field
operation-lt w = omega arith

-- ---- the table is that of document 01's sentence; so is the line of a word

-- the line that document 01 gives an operation, and n of them from i on
abbrev line_at : ℕ → StoreLine
line_at op = store_line op always (condition op)

abbrev lines_from : ℕ → ℕ → List StoreLine
lines_from i zero = []
lines_from i (suc n) = line_at i ∷ lines_from (suc i) n

same-table : store_table ≡ lines_from 0 16
unfolding store_table
same-table = refl

line-from : (i n k : ℕ) → k < n → get_or (lines_from i n) k past_table ≡ line_at (i + k)
line-from i zero k h = absurd (omega arith)
line-from i (suc n) zero h = ap line_at (omega arith)
line-from i (suc n) (suc k) h = line-from (suc i) n k (omega arith) ∙ ap line_at (omega arith)

line_of : (w : ℕ) → store_line_of w ≡ line_at (operation w)
line_of w =
    ap (λ (lines : List StoreLine). get_or lines (operation w) past_table) same-table
    ∙ line-from 0 16 (operation w) (operation-lt w)
    ∙ ap line_at (omega arith)

pub stores-by-table : StoresByTable
unfolding stores
stores-by-table w f =
    record {
      listed = ap (λ (l : StoreLine). l.number) (line_of w);
      stored = sym (ap (λ (l : StoreLine). cond (is_move w) (l.moved f) (l.computed f)) (line_of w));
    }
