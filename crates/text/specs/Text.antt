-- Text as a list of bytes: letters, numbers in decimal, words in capital hexadecimal digits, flags. Document 01, "The ledger
-- program".
use Rattle.std.specs.Prelude.{ℕ, zero, suc, ◌+◌, ◌/◌, ◌%◌, ◌≡◌, cond, List, [], ◌∷◌, ◌++◌, map, ltb, length}
use Prim.Native.Char.{code}
use Prim.Native.String.{String}
use Prim.Native.String as string
use Rattle.std.proofs.lemmas.List.Edits.{sets}
use Rattle.model.specs.declared.Flags.{Flags}
use Rattle.model.specs.Packed.{flag_numbers}

-- the bytes of a text of plain letters
abbrev pub letters : String → List ℕ
letters string.[] = []
letters (string.◌∷◌ c text) = code c ∷ letters text

abbrev pub space : ℕ
space = 0x20

abbrev pub line_feed : ℕ
line_feed = 0x0A

-- the digit of a number below 16: 0 to 9, then A to F
abbrev pub digit : ℕ → ℕ
digit d = cond (ltb d 10) (0x30 + d) (0x37 + d)

-- the last `count` digits of n in a base, the highest first
unfoldable pub digits : (base count n : ℕ) → List ℕ
digits base zero n = []
digits base (suc count) n = digits base count (n / base) ++ digit (n % base) ∷ []

-- how many decimal digits n has, found in at most `turns` more divisions by ten
unfoldable pub digit_count : (turns n : ℕ) → ℕ
digit_count zero n = 1
digit_count (suc turns) n =
    let more = suc (digit_count turns (n / 10)) in
    cond (ltb n 10) 1 more

-- a number in decimal, without leading zeros
abbrev pub decimal : ℕ → List ℕ
decimal n = digits 10 (digit_count n n) n

-- a word as eight capital hexadecimal digits
abbrev pub hexadecimal : ℕ → List ℕ
hexadecimal w = digits 16 8 w

-- the flags as digits, in the order C, V, N, Z
abbrev pub flag_digits : Flags → List ℕ
flag_digits flags = map digit (flag_numbers flags)

-- A text put into a lent buffer from a place on; bytes that would stand past its end are left out. The answer is the text's length.
pub record Puts (out : List ℕ) (at : ℕ) (text out' : List ℕ) (r : ℕ) : Type 0 where
  pub buffer : out' ≡ sets out at text
  pub size : r ≡ length text
