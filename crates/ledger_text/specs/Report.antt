-- The calls `report` and `report_input`: what is printed for an image, and every word and byte lent for it afterwards. Document 01, "The ledger program".
use Rattle.std.specs.Prelude.{ℕ, ◌≡◌, Bool, cond, List, leb, length, take, Result, Ok, Err}
use Rattle.model.specs.Words.{overlay}
use Rattle.model.specs.Interpreter.{begin, interpret}
use Rattle.image.specs.Reading.{Outcome, loaded, refused, read_of}
use Rattle.ledger_lines.specs.Lines.{most_lines, ledger_board, longest_text, ledger}
use Rattle.ledger_text.specs.declared.NoRoom.{NoRoom}

-- the words of the image at the memory's front, as the run leaves them; the others, and all of them after a refusal, stay
abbrev pub ledger_words : Outcome → (memory : List ℕ) → List ℕ
ledger_words (loaded version machine words) memory = overlay (interpret ledger_board most_lines (begin machine words 0)).memory memory
ledger_words (refused why) memory = memory

-- the output has room for every ledger
abbrev pub roomy : (out : List ℕ) → Bool
roomy out = leb longest_text (length out)

-- how many bytes are put out: none where there is no room, which is no refusal of document 01
abbrev pub text_length : Result ℕ NoRoom → ℕ
text_length (Ok bytes) = bytes
text_length (Err why) = 0

-- the answer: the text's length, or `NoRoom`
abbrev pub length_answer : (out text : List ℕ) → Result ℕ NoRoom
length_answer out text = cond (roomy out) (Ok (length text)) (Err (record {}))

-- The answer is the text's length. An output that is not roomy is answered `NoRoom`, whatever the image, and then nothing changes.
pub record Reports (bytes memory out memory' out' : List ℕ) (r : Result ℕ NoRoom) : Type 0 where
  pub result : r ≡ length_answer out (ledger (read_of bytes (length memory)))
  pub size : text_length r ≡ cond (roomy out) (length (ledger (read_of bytes (length memory)))) 0
  pub text : out' ≡ cond (roomy out) (overlay (ledger (read_of bytes (length memory))) out) out
  pub words : memory' ≡ cond (roomy out) (ledger_words (read_of bytes (length memory)) memory) memory

-- ---- the program: how much of its input it reads, and the words of its memory

abbrev pub most_input : ℕ
most_input = 16_453

abbrev pub memory_words : ℕ
memory_words = 4_096

-- the text for an input, whatever its length
abbrev pub input_text : List ℕ → List ℕ
input_text input = ledger (read_of (take most_input input) memory_words)

-- the text and its length, as of `report`; no memory is lent
pub record ReportsInput (input out out' : List ℕ) (r : Result ℕ NoRoom) : Type 0 where
  pub result : r ≡ length_answer out (input_text input)
  pub size : text_length r ≡ cond (roomy out) (length (input_text input)) 0
  pub text : out' ≡ cond (roomy out) (overlay (input_text input) out) out
