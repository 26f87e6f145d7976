-- Where a machine and a gate state stand in the words that a host lends, how many words, result places and places of a file (CR 1) are due, and
-- what a call starts from. Document 01, "Machine and instruction word", "Clocks" and, for words that no state can have, reason 4 of "Why a call is turned down".
use Rattle.std.specs.Prelude.{ℕ, min, Bool, not, cond, ◌&&◌, List, [], ◌∷◌, eqb, leb, length, Option, Some, None}
use Rattle.model.specs.declared.Flags.{Flags}
use Rattle.model.specs.declared.Machine.{Machine}
use Rattle.model.specs.declared.GateState.{GateState}
use Rattle.model.specs.Words.{word_at}
use Rattle.model.specs.Interpreter.{machine_with}

-- where a call reads a flag word, any word other than 0 counts as 1
abbrev pub truth : ℕ → Bool
truth word = not (eqb word 0)

-- ---- the result's places due

-- of a run; CR 7: the third is the list position after it; and of a traverse (CR 1)
abbrev pub three_places : ℕ
three_places = 3

-- of a file run, and of a read of an image; CR 1: the second is the image's version
abbrev pub two_places : ℕ
two_places = 2

-- a result of one count: of a gate run and one clock, and of a write of an image
abbrev pub one_place : ℕ
one_place = 1

-- ---- CR 1: the places of a file in a list of files: place, number of words, entry, instruction count

abbrev pub file_size : ℕ
file_size = 4

-- ---- 12 words: r0 to r7, C, V, N, Z

abbrev pub machine_size : ℕ
machine_size = 12

abbrev pub registers_in : List ℕ → List ℕ
registers_in words =
    word_at words 0
    ∷ word_at words 1
    ∷ word_at words 2
    ∷ word_at words 3
    ∷ word_at words 4
    ∷ word_at words 5
    ∷ word_at words 6
    ∷ word_at words 7
    ∷ []

abbrev pub flags_in : List ℕ → Flags
flags_in words =
    record {
      carry = truth (word_at words 8);
      overflow = truth (word_at words 9);
      negative = truth (word_at words 10);
      zero = truth (word_at words 11);
    }

unfoldable pub machine_in : List ℕ → Machine
machine_in words = machine_with (registers_in words) (flags_in words)

-- ---- 21 words: the machine's 12, row, the latches, position, whether an access has begun, its clocks left

abbrev pub state_size : ℕ
state_size = 21

-- clocks left are 16 bits
abbrev pub most_clocks_left : ℕ
most_clocks_left = 65_535

-- A row word above 255 is no row, and clocks left above 65,535 do not fit 16 bits. A state with either is read as one in row 255,
-- which is refused with 4 whatever else it has, so that 4 is given in its turn.
abbrev pub row_in : (row left : ℕ) → ℕ
row_in row left = cond (leb row 255 && leb left most_clocks_left) row 255

abbrev pub left_in : ℕ → ℕ
left_in word = min word most_clocks_left

-- a gate state of so much: its machine, its row, its clocks left, and the words between
module _ (words : List ℕ) (m : Machine) (row left : ℕ) where
  abbrev pub state_around : GateState
  state_around =
      record {
        regs = m.regs;
        flags = m.flags;
        row = row;
        instruction = word_at words 13;
        address = word_at words 14;
        a = word_at words 15;
        b = word_at words 16;
        result = word_at words 17;
        position = word_at words 18;
        begun = truth (word_at words 19);
        left = left;
      }

unfoldable pub state_in : List ℕ → GateState
state_in words = state_around words (machine_in words) (row_in (word_at words 12) (word_at words 20)) (left_in (word_at words 20))

-- ---- what a call starts from, where what is lent fits

-- whether a machine or a state of a size has so many words, and a result so many places as are due
unfoldable pub lent_formed : (size due words places : ℕ) → Bool
lent_formed size due words places = eqb words size && eqb places due

unfoldable pub machine_lent : List ℕ → (places due : ℕ) → Option Machine
machine_lent words places due = cond (lent_formed machine_size due (length words) places) (Some (machine_in words)) None

unfoldable pub state_lent : List ℕ → (places : ℕ) → Option GateState
state_lent words places = cond (lent_formed state_size one_place (length words) places) (Some (state_in words)) None
