-- How long the texts are: none is longer than `longest_text`.
use Prim.Native.Nat.{ℕ, zero, suc, ◌+◌, ◌-◌, ◌*◌, ◌≤◌, ◌<◌, zero-le}
use mathlib.Core.Path.{◌≡◌, refl}
use mathlib.Core.Bool.{Bool, true, false, cond}
use mathlib.Core.List.{List, []}
use native.Mathlib.Omega.{arith}
use lib.Dec.{ltb}
use lib.ListN.{length, length-append}
use borrow.Author.Tests.{ltb-true, ltb-false}
use Rattle.model.specs.declared.Flags.{Flags}
use Rattle.model.specs.declared.Machine.{Machine}
use Rattle.model.specs.declared.Ending.{Ending}
use Rattle.model.specs.declared.Ending.TheVariants.{Finished, Outside, NoInstruction}
use Rattle.model.specs.declared.Refusal.{Refusal}
use Rattle.model.specs.Interpreter.{goes_on, Run, begin, interpret}
use Rattle.model.specs.Refusals.{refusal_number}
use Rattle.model.proofs.Waits.{no-wait}
use Rattle.model.proofs.Bounds.{clocks-le, ran_le}
use Rattle.model.proofs.Verdicts.{numbered}
use Rattle.image.specs.Reading.{Outcome, loaded, refused}
use Rattle.text.specs.Text.{decimal}
use Rattle.text.proofs.Figures.{length_digits, decimal-le}
use Rattle.ledger_lines.specs.Lines.{most_lines, ledger_board, line, line_between, lines, heading, ending_text, ending_word, run_text, refused_text, longest_text, ledger}

-- ---- figures: counts and clocks are small

pub clocks-small : (n : ℕ) (r : Run) → (interpret ledger_board n r).clocks ≤ r.clocks + n * 11
clocks-small n r = clocks-le ledger_board 0 (λ p. omega (arith, no-wait [] p zero-le)) n r

-- ---- lines

-- 25 bytes besides the two numbers
line-length : (number address word clocks : ℕ) (flags : Flags)
    → length (line number address word clocks flags) ≡ length (decimal number) + length (decimal clocks) + 25
unfolding line
line-length number address word clocks flags = simp (length-append, length_digits) (omega arith)

-- one digit up to nine, two up to 99
count-digits : (i n : ℕ) → i ≤ suc n → n < 99 → length (decimal i) + (n - 9) ≤ 1 + (suc n - 9)
count-digits i n h small = go (ltb n 9) refl
  where
    go : (t : Bool) → ltb n 9 ≡ t → length (decimal i) + (n - 9) ≤ 1 + (suc n - 9)
    go true e = let below = ltb-true n 9 e in omega (arith, decimal-le 0 i (omega arith))
    go false e = let past = ltb-false n 9 e in omega (arith, decimal-le 1 i (omega arith))

between-length : (before after : Run)
    → length (line_between before after) ≤ length (decimal after.ran) + length (decimal (after.clocks - before.clocks)) + 25
unfolding line_between
between-length before after = go (goes_on after.ending) _ _
  where
    own : ℕ
    own = after.clocks - before.clocks

    go : (t : Bool) (address word : ℕ)
        → length (cond t (line after.ran address word own after.machine.flags) []) ≤ length (decimal after.ran) + length (decimal own) + 25
    go true address word = omega (arith, line-length after.ran address word own after.machine.flags)
    go false address word = omega arith

ending-length : (word : List ℕ) (count total : ℕ) → length (ending_text word count total) ≡ length word + length (decimal count) + length (decimal total) + 2
unfolding ending_text
ending-length word count total = simp length-append (omega arith)

word-length : (e : Ending) → length (ending_word e) ≤ 9
word-length Finished = omega arith
word-length Outside = omega arith
word-length NoInstruction = omega arith

module _ (start : Machine) (memory : List ℕ) where
  abbrev first : Run
  first = begin start memory 0

  between_le : (n : ℕ) → n < 99 → length (line_between (interpret ledger_board n first) (interpret ledger_board (suc n) first)) + (n - 9) ≤ 28 + (suc n - 9)
  unfolding interpret
  between_le n small =
      let before = interpret ledger_board n first in
      let after = interpret ledger_board (suc n) first in
      let few : after.clocks ≤ before.clocks + 1 * 11 = clocks-small 1 before in
      omega (
        arith,
        between-length before after,
        decimal-le 1 (after.clocks - before.clocks) (omega arith),
        count-digits after.ran n (omega (arith, ran_le ledger_board (suc n) first)) small,
      )

  pub lines-length : (n : ℕ) → n < 100 → length (lines n first) ≤ 28 * n + (n - 9)
  unfolding lines
  lines-length zero small = omega arith
  lines-length (suc n) small = rw length-append (omega (arith, lines-length n (omega arith), between_le n (omega arith)))

  run_length : length (run_text first) ≤ longest_text
  unfolding run_text heading
  run_length =
      let last = interpret ledger_board most_lines first in
      rw length-append
      (rw length-append
      (omega (
        arith,
        lines-length most_lines (omega arith),
        ending-length (ending_word last.ending) last.ran last.clocks,
        word-length last.ending,
        decimal-le 1 last.ran (omega (arith, ran_le ledger_board most_lines first)),
        decimal-le 2 last.clocks (omega (arith, clocks-small most_lines first)),
      )))

refused-length : (why : Refusal) → length (refused_text why) ≤ longest_text
unfolding refused_text
refused-length why = simp length-append (omega (arith, decimal-le 1 (refusal_number why) (omega (arith, (numbered why).1))))

-- every ledger fits the room that is asked for
pub ledger-length : (o : Outcome) → length (ledger o) ≤ longest_text
ledger-length (loaded version machine words) = run_length machine words
ledger-length (refused why) = refused-length why
