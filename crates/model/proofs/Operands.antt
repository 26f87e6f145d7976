-- Laws on operands and words: a register is one of eight, an absent word reads as 0, a store keeps the memory's length, and what was stepped
-- down can be put back.
use Prim.Native.Nat.{ℕ, ◌%◌, ◌≤◌, ◌<◌}
use mathlib.Core.Path.{◌≡◌, refl, sym, ◌∙◌}
use mathlib.Core.Bool.{true, false}
use mathlib.Core.List.{List, [], ◌∷◌}
use native.Mathlib.Omega.{arith}
use lib.ListN.{length, set, length-set, get_or-eq_default}
use lib.Seq.{set-get_or, set-set}
use borrow.Author.Tests.{lt-ltb, le-ltb}
use Rattle.model.specs.declared.Operand.{Operand}
use Rattle.model.specs.declared.Operand.TheVariants.{Direct, Indirect, Before, After}
use Rattle.model.specs.Words.{inc, word_at, present, alterable, store_above}
use Rattle.model.specs.Operands.{operand, register_of, stepped, step_down, register_word, set_register}
use Rattle.model.proofs.Cases.{pick}

pub after : (mode r : ℕ) → 3 ≤ mode → After r ≡ operand mode r
after mode r h = sym (get_or-eq_default (Direct r ∷ Indirect r ∷ Before r ∷ []) (After r) {n = mode} h)

pub absent-word : (l : List ℕ) (i : ℕ) → length l ≤ i → 0 ≡ word_at l i
absent-word l i h = sym (get_or-eq_default l 0 {n = i} h)

-- an operand's register is one of eight
pub register_small : (o : Operand) → register_of o < 8
register_small (Direct r) = omega arith
register_small (Indirect r) = omega arith
register_small (Before r) = omega arith
register_small (After r) = omega arith

-- a store alters no length
pub stored-length : (bottom : ℕ) (memory : List ℕ) (address word : ℕ) → length (store_above bottom memory address word) ≡ length memory
stored-length bottom memory address word =
    pick (λ (l : List ℕ). length l ≡ length memory) (alterable bottom address) (length-set memory address word) refl

-- ---- stepped down, and its old word put back

put_back : (o : Operand) (regs : List ℕ) → set_register o (register_word o regs) (step_down o regs) ≡ regs
put_back (Direct r) regs = set-get_or regs (r % 8) 0
put_back (Indirect r) regs = set-get_or regs (r % 8) 0
put_back (Before r) regs = set-set regs (r % 8) _ _ ∙ set-get_or regs (r % 8) 0
put_back (After r) regs = set-get_or regs (r % 8) 0

pub restored : (o : Operand) {r d b : List ℕ} {x : ℕ} → x ≡ register_word o r → d ≡ step_down o r → b ≡ set_register o x d → b ≡ r
restored o {r} e f g = rw (g, f, e) (put_back o r)

pub restored-pc : (regs : List ℕ) {r : List ℕ} → r ≡ stepped inc 0 regs → set r 0 (word_at regs 0) ≡ regs
restored-pc regs e = rw e (set-set regs 0 _ _ ∙ set-get_or regs 0 0)

pub down-eq : {o q : Operand} {r s d : List ℕ} → o ≡ q → r ≡ s → d ≡ step_down o r → d ≡ step_down q s
down-eq p e f = rw (f, p, e)

-- ---- whether the fetch address is there

pub fetch-here : (regs memory : List ℕ) {i : ℕ} → i ≡ word_at regs 0 → i < length memory → present memory (word_at regs 0) ≡ true
fetch-here regs memory e h = lt-ltb (word_at regs 0) (length memory) (omega arith)

pub fetch-gone : (regs memory : List ℕ) {i : ℕ} → i ≡ word_at regs 0 → length memory ≤ i → present memory (word_at regs 0) ≡ false
fetch-gone regs memory e h = le-ltb (word_at regs 0) (length memory) (omega arith)
