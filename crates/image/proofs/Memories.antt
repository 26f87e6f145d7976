-- The fields of words: what is written is read back, and what is read was written so.
use Rattle.std.specs.Prelude.{Ok}
use Prim.Native.Nat.{ℕ, zero, suc, ◌+◌, ◌-◌, ◌*◌, ◌^◌, ◌≤◌, ◌<◌, min}
use mathlib.Core.Path.{◌≡◌, refl, sym, ap, ap₂, ◌∙◌}
use mathlib.Core.List.{List, [], ◌++◌, append_assoc, append-nil}
use native.Mathlib.Decide.{dec_le}
use native.Mathlib.Omega.{arith}
use lib.ListN.{length, take, drop, length-append, length-take, length-drop, take-append-drop, drop_of_length-le}
use lib.Seq.{take_at, drop_at, take_all}
use Rattle.model.specs.declared.Machine.{Machine}
use Rattle.image.specs.Bytes.{word_bytes, words_in, Below}
use Rattle.image.specs.Format.{words_field, words_per_field, field_bytes, fields_for, span_of, memory_fields}
use Rattle.image.specs.Reading.{Outcome, loaded, read_memory}
use Rattle.image.specs.Theorems.{LastField}
use Rattle.image.proofs.Bytes.{no-elements, below-take, below-drop, length-word-bytes, length-words, words-of-bytes, bytes-of-words}
use Rattle.image.proofs.Fields.{length-field, field-goes, field-taken}

pub fields-enough : (words : ℕ) → words ≤ words_per_field * fields_for words
unfolding fields_for
fields-enough words = omega arith

pub last-field : LastField
unfolding fields_for
last-field words h = (omega arith, fields-enough words)

-- a field takes as many words as it can
pub one-field-less : (words count : ℕ) → 0 < words → count ≡ min words_per_field words → fields_for words ≡ suc (fields_for (words - count))
unfolding fields_for
one-field-less words count h e = omega arith

-- past the header and the words of a field, the bytes of the words that are left begin
pub span_step : (at words count : ℕ) → 0 < words → count ≡ min words_per_field words → at + span_of words ≡ at + 3 + 4 * count + span_of (words - count)
unfolding fields_for
span_step at words count h e = omega arith

pub length-memory : (n : ℕ) (memory : List ℕ) → length memory ≤ words_per_field * n → length (memory_fields n memory) ≡ 4 * length memory + 3 * n
unfolding memory_fields
length-memory zero memory h = omega arith
length-memory (suc n) memory h =
    let first : List ℕ = take words_per_field memory in
    let more : List ℕ = drop words_per_field memory in
    let ld : length more ≡ length memory - words_per_field = length-drop words_per_field memory in
    omega (arith, length-append (field_bytes (words_field (length first)) (word_bytes first)) (memory_fields n more), length-field (words_field (length first)) (word_bytes first), length-word-bytes first, length-take words_per_field memory, length-memory n more (omega arith))

-- the first n of a list, and what is left without them, where there may be fewer
least : (n k : ℕ) (l : List ℕ) → k ≡ min n (length l) → (take n l ≡ take k l) × (drop n l ≡ drop k l)
least n k l e = go (dec_le n (length l))
  where
    go : Dec (n ≤ length l) → (take n l ≡ take k l) × (drop n l ≡ drop k l)
    go (yes h) = let q : n ≡ k = omega arith in (ap (λ (x : ℕ). take x l) q, ap (λ (x : ℕ). drop x l) q)
    go (no h) = (take_all n l (omega arith) ∙ sym (take_all k l (omega arith)), drop_of_length-le l {i = n} (omega arith) ∙ sym (drop_of_length-le l {i = k} (omega arith)))

-- the next field of words, which takes as many as it can
pub next_field : (words first rest : List ℕ) → words ≡ first ++ rest → length first ≡ min words_per_field (length words) → 0 < length words
    → memory_fields (fields_for (length words)) words ≡ field_bytes (words_field (length first)) (word_bytes first) ++ memory_fields (fields_for (length rest)) rest
unfolding memory_fields field_bytes
next_field words first rest parts e h =
    let left : length words - length first ≡ length rest = omega (arith, length-append first rest, ap length parts) in
    let one_less : fields_for (length words) ≡ suc (fields_for (length rest)) = one-field-less (length words) (length first) h e ∙ ap (λ (x : ℕ). suc (fields_for x)) left in
    let cut = least words_per_field (length first) words e in
    ap (λ (x : ℕ). memory_fields x words) one_less
    ∙ ap₂ (λ (x y : List ℕ). field_bytes (words_field (length x)) (word_bytes x) ++ memory_fields (fields_for (length rest)) y)
    (cut.0 ∙ ap (take (length first)) parts ∙ take_at first rest (length first) refl) (cut.1 ∙ ap (drop (length first)) parts ∙ drop_at first rest (length first) refl)

-- how many bytes it has
pub length-word-field : (words : List ℕ) → length (field_bytes (words_field (length words)) (word_bytes words)) ≡ 3 + 4 * length words
length-word-field words = omega (arith, length-field (words_field (length words)) (word_bytes words), length-word-bytes words)

-- the words of a first field, and what is left
module _ (words : ℕ) (memory : List ℕ) (l : length memory ≡ words) where
  abbrev count : ℕ
  count = min words_per_field words

  abbrev first : List ℕ
  first = take words_per_field memory

  length-first : length first ≡ count
  length-first = length-take words_per_field memory ∙ ap (min words_per_field) l

  pub length-first-bytes : length (word_bytes first) ≡ 4 * count
  length-first-bytes = length-word-bytes first ∙ ap (λ (x : ℕ). 4 * x) length-first

  pub length_more : length (drop words_per_field memory) ≡ words - words_per_field
  length_more = length-drop words_per_field memory ∙ ap (λ (x : ℕ). x - words_per_field) l

  -- read from their bytes, with the words that are left, they are the memory
  pub first-and-more : Below (2 ^ 32) memory → words_in count (word_bytes first) ++ drop words_per_field memory ≡ memory
  first-and-more k =
      let w : words_in count (word_bytes first) ≡ first = ap (λ (x : ℕ). words_in x (word_bytes first)) (sym length-first) ∙ words-of-bytes first (below-take _ words_per_field memory k) in
      ap (λ (x : List ℕ). x ++ drop words_per_field memory) w ∙ take-append-drop words_per_field memory

pub memory-goes : (n words : ℕ) (bytes memory rest : List ℕ) (next : List ℕ → List ℕ → Outcome) (o : Outcome)
    → bytes ≡ memory_fields n memory ++ rest → length memory ≡ words → words ≤ words_per_field * n → Below (2 ^ 32) memory
    → next memory rest ≡ o → read_memory n words bytes next ≡ o
unfolding read_memory memory_fields field_bytes
memory-goes zero words bytes memory rest next o is l h k e =
    ap (next []) is ∙ ap (λ (m : List ℕ). next m rest) (sym (no-elements memory (omega arith))) ∙ e
memory-goes (suc n) words bytes memory rest next o is l h k e =
    let value : List ℕ = word_bytes (take words_per_field memory) in
    let more : List ℕ = drop words_per_field memory in
    let count : ℕ = min words_per_field words in
    field-goes (words_field count) value (memory_fields n more ++ rest) (length-first-bytes words memory l) (omega arith) bytes _ (Ok tt) (Ok tt) o
    (is ∙ append_assoc (field_bytes (words_field count) value) (memory_fields n more) rest) refl
    (memory-goes n (words - words_per_field) (memory_fields n more ++ rest) more rest (λ (later end : List ℕ). next (words_in count value ++ later) end) o refl
    (length_more words memory l) (omega arith) (below-drop _ words_per_field memory k)
    (ap (λ (x : List ℕ). next x rest) (first-and-more words memory l k) ∙ e))

pub record MemoryTaken (n words : ℕ) (bytes : List ℕ) (next : List ℕ → List ℕ → Outcome) (o : Outcome) : Type 0 where
  pub memory : List ℕ
  pub rest : List ℕ
  pub is : bytes ≡ memory_fields n memory ++ rest
  pub long : length memory ≡ words
  pub rest_below : Below 256 rest
  pub goes : next memory rest ≡ o

-- the words of a first field and those of the rest, told apart again
parted : (words : ℕ) (a b : List ℕ) → length a ≡ min words_per_field words → length b ≡ words - words_per_field
    → (take words_per_field (a ++ b) ≡ a) × (drop words_per_field (a ++ b) ≡ b)
parted words a b la lb = go (dec_le words_per_field words)
  where
    go : Dec (words_per_field ≤ words) → (take words_per_field (a ++ b) ≡ a) × (drop words_per_field (a ++ b) ≡ b)
    go (yes h) = (take_at a b words_per_field (omega arith), drop_at a b words_per_field (omega arith))
    go (no h) =
        let e : b ≡ [] = no-elements b (omega arith) in
        let j : a ++ b ≡ a = ap (λ (x : List ℕ). a ++ x) e ∙ append-nil a in
        (ap (take words_per_field) j ∙ take_all words_per_field a (omega arith), ap (drop words_per_field) j ∙ drop_of_length-le a {i = words_per_field} (omega arith) ∙ sym e)

no_fields : (bytes : List ℕ) → bytes ≡ memory_fields 0 [] ++ bytes
unfolding memory_fields
no_fields bytes = refl

-- a first field and the fields after it
fields_join : (n count : ℕ) (bytes value rest rest' first more : List ℕ) → bytes ≡ field_bytes (words_field count) value ++ rest → rest ≡ memory_fields n more ++ rest'
    → word_bytes first ≡ value → take words_per_field (first ++ more) ≡ first → drop words_per_field (first ++ more) ≡ more → bytes ≡ memory_fields (suc n) (first ++ more) ++ rest'
unfolding memory_fields field_bytes
fields_join n count bytes value rest rest' first more is more-is w p q =
    is
    ∙ ap₂ (λ (x y : List ℕ). field_bytes (words_field count) x ++ y) (sym w ∙ ap word_bytes (sym p)) (more-is ∙ ap (λ (x : List ℕ). memory_fields n x ++ rest') (sym q))
    ∙ sym (append_assoc (field_bytes (words_field count) (word_bytes (take words_per_field (first ++ more)))) (memory_fields n (drop words_per_field (first ++ more))) rest')

module _ {version : ℕ} {machine : Machine} {loads : List ℕ} where
  pub memory-taken : (n words : ℕ) (next : List ℕ → List ℕ → Outcome) (bytes : List ℕ) → words ≤ words_per_field * n → Below 256 bytes
      → read_memory n words bytes next ≡ loaded version machine loads → MemoryTaken n words bytes next (loaded version machine loads)
  unfolding read_memory
  memory-taken zero words next bytes h k e =
      record { memory = []; rest = bytes; is = no_fields bytes; long = omega arith; rest_below = k; goes = e }
  memory-taken (suc n) words next bytes h k e =
      let count : ℕ = min words_per_field words in
      let f = field-taken (words_field count) _ bytes k e in
      let g = memory-taken n (words - words_per_field) _ f.rest (omega arith) f.rest_below f.goes in
      let first : List ℕ = words_in count f.value in
      let lf : length first ≡ count = length-words count f.value in
      let p = parted words first g.memory lf g.long in
      record {
        memory = first ++ g.memory;
        rest = g.rest;
        is = fields_join n count bytes f.value f.rest g.rest first g.memory f.is g.is (bytes-of-words count f.value f.long f.value-below) p.0 p.1;
        long = length-append first g.memory ∙ ap₂ (λ (x y : ℕ). x + y) lf g.long ∙ omega arith;
        rest_below = g.rest_below;
        goes = g.goes;
      }
