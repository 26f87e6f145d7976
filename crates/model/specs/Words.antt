-- Words of 32 bits as natural numbers: steps that go round at 2^32, bit fields, which words are instructions, a list as registers or
-- memory, stores to it, and words laid over the front of a lent list. Document 01, "Machine and instruction word", with CR 5 and CR 6, and of
-- "Image" and "File run and journal" what does not change.
use Rattle.std.specs.Prelude.{ℕ, ◌+◌, ◌-◌, ◌/◌, ◌%◌, ◌^◌, Bool, not, cond, ◌&&◌, List, ◌++◌, eqb, ltb, leb, length, get_or, set, drop}

-- register arithmetic goes round here
abbrev pub word_values : ℕ
word_values = 2 ^ 32

-- a register stepped up, and down
abbrev pub inc : ℕ → ℕ
inc w = (w + 1) % word_values

abbrev pub dec : ℕ → ℕ
dec w = (w + (word_values - 1)) % word_values

-- the `size` bits of w from bit `low` up
unfoldable pub field : ℕ → ℕ → ℕ → ℕ
field w low size = w / 2 ^ low % 2 ^ size

unfoldable pub bit : ℕ → ℕ → Bool
bit w i = eqb (field w i 1) 1

-- CR 5: an instruction takes none of bit 14 and bits 20 to 31; a word with one of these set is none
unfoldable pub is_instruction : ℕ → Bool
is_instruction w = not (bit w 14) && eqb (field w 20 12) 0

-- word i of registers or of a memory
abbrev pub word_at : List ℕ → ℕ → ℕ
word_at words i = get_or words i 0

-- whether a memory has an address, and the memory with the word there stored; an absent address changes nothing
abbrev pub present : List ℕ → ℕ → Bool
present memory address = ltb address (length memory)

abbrev pub store_word : List ℕ → ℕ → ℕ → List ℕ
store_word memory address word = set memory address word

-- CR 6: whether a program's store can alter the word at an address, and the store; one below the bottom of memory alters nothing
abbrev pub alterable : (bottom address : ℕ) → Bool
alterable bottom address = leb bottom address

abbrev pub store_above : (bottom : ℕ) → List ℕ → ℕ → ℕ → List ℕ
store_above bottom memory address word = cond (alterable bottom address) (store_word memory address word) memory

-- words laid over the front of a list, whose other places stay
abbrev pub overlay : List ℕ → List ℕ → List ℕ
overlay front words = front ++ drop (length front) words
