-- The ledger's text as a list of bytes: what is printed for an image. Document 01, "The ledger program"; CR 5 and CR 6.
use Rattle.std.specs.Prelude.{ℕ, zero, suc, ◌-◌, cond, List, [], ◌∷◌, ◌++◌}
use Rattle.model.specs.declared.Flags.{Flags}
use Rattle.model.specs.declared.Ending.{Ending}
use Rattle.model.specs.declared.Ending.TheVariants.{Finished, Outside, NoInstruction}
use Rattle.model.specs.declared.Refusal.{Refusal}
use Rattle.model.specs.Board.{Board, board_with}
use Rattle.model.specs.Interpreter.{pc, instruction, goes_on, Run, begin, interpret}
use Rattle.model.specs.Refusals.{refusal_number}
use Rattle.image.specs.Reading.{Outcome, loaded, refused}
use Rattle.text.specs.Text.{letters, space, line_feed, decimal, hexadecimal, flag_digits}

-- how many instructions are run at most
abbrev pub most_lines : ℕ
most_lines = 16

-- its board: the bottom at 0, an empty wait list
abbrev pub ledger_board : Board
ledger_board = board_with 0 []

unfoldable pub heading : List ℕ
heading = letters "step pc word clocks cvnz\n"

-- a figure with a space after it; the last figure of a line
abbrev pub spaced : List ℕ → List ℕ
spaced figure = figure ++ space ∷ []

abbrev pub ended : List ℕ → List ℕ
ended figure = figure ++ line_feed ∷ []

-- an instruction's line: its number, address, word, clocks, and the flags after it
unfoldable pub line : (number address word clocks : ℕ) → Flags → List ℕ
line number address word clocks flags =
    spaced (decimal number)
    ++ spaced (hexadecimal address)
    ++ spaced (hexadecimal word)
    ++ spaced (decimal clocks)
    ++ ended (flag_digits flags)

-- the line of the instruction between two states of a run, if it ran
unfoldable pub line_between : (before after : Run) → List ℕ
line_between before after =
    cond (goes_on after.ending)
    (line
    after.ran
    (pc before.memory before.machine)
    (instruction before.memory before.machine)
    (after.clocks - before.clocks)
    after.machine.flags)
    []

-- the lines of the first n instructions
unfoldable pub lines : ℕ → Run → List ℕ
lines zero start = []
lines (suc n) start = lines n start ++ line_between (interpret ledger_board n start) (interpret ledger_board (suc n) start)

-- the ending, with count and total
abbrev pub ending_word : Ending → List ℕ
ending_word Finished = letters "finished "
ending_word Outside = letters "outside "
ending_word NoInstruction = letters "halted "

unfoldable pub ending_text : (word : List ℕ) → (count total : ℕ) → List ℕ
ending_text word count total = word ++ spaced (decimal count) ++ ended (decimal total)

-- heading, lines and ending of a run
unfoldable pub run_text : Run → List ℕ
run_text start =
    let last = interpret ledger_board most_lines start in
    heading ++ lines most_lines start ++ ending_text (ending_word last.ending) last.ran last.clocks

-- all that is printed for a bad image
unfoldable pub refused_text : Refusal → List ℕ
refused_text why = letters "refused " ++ ended (decimal (refusal_number why))

-- the longest text: the heading's 25 bytes, 9 lines of at most 28 bytes and 7 of at most 29, and an ending of at most 16
abbrev pub longest_text : ℕ
longest_text = 496

-- what is printed for an image, by what came of reading it; the run is on the words of the image alone
abbrev pub ledger : Outcome → List ℕ
ledger (loaded version machine words) = run_text (begin machine words 0)
ledger (refused why) = refused_text why
