-- Bytes, words and flags read at a place, past the end too.
use Prim.Native.Nat.{ℕ, zero, suc, ◌+◌, ◌*◌, ◌<◌}
use mathlib.Core.Path.{◌≡◌, refl, sym, ap, ap₂, ◌∙◌}
use mathlib.Core.List.{List, [], ◌∷◌}
use native.Mathlib.Numerals.{add-one, add-two, add-three}
use native.Mathlib.Omega.{arith}
use lib.Dec.{eqb}
use lib.ListN.{take, drop, get_or}
use lib.Seq.{drop-drop, get_or-take, take-take, take-nil}
use Rattle.image.specs.Bytes.{number_in, words_in}
use Rattle.image.specs.Format.{flags_formed}
use Rattle.image.specs.Reading.{machine_from}

-- ---- numbers

no_bytes : (n : ℕ) → number_in (take n []) ≡ 0
unfolding number_in
no_bytes zero = refl
no_bytes (suc n) = refl

-- the number of some bytes is the first and 256 times the rest
number_step : (n at : ℕ) (bytes : List ℕ) → number_in (take (suc n) (drop at bytes)) ≡ get_or bytes at 0 + 256 * number_in (take n (drop (suc at) bytes))
unfolding number_in
number_step n zero [] = omega (arith, no_bytes n)
number_step n zero (b ∷ bytes) = refl
number_step n (suc at) [] = omega (arith, no_bytes n)
number_step n (suc at) (b ∷ bytes) = number_step n at bytes

pub one_byte : (bytes : List ℕ) (at : ℕ) → number_in (take 1 (drop at bytes)) ≡ get_or bytes at 0
unfolding number_in
one_byte bytes at = omega (arith, number_step 0 at bytes)

pub two_bytes : (bytes : List ℕ) (at : ℕ) → number_in (take 2 (drop at bytes)) ≡ get_or bytes at 0 + 256 * get_or bytes (at + 1) 0
two_bytes bytes at = rw add-one (omega (arith, number_step 1 at bytes, one_byte bytes (suc at)))

pub four_bytes : (bytes : List ℕ) (at : ℕ) → number_in (take 4 (drop at bytes))
    ≡ get_or bytes at 0 + 256 * (get_or bytes (at + 1) 0 + 256 * (get_or bytes (at + 2) 0 + 256 * get_or bytes (at + 3) 0))
four_bytes bytes at =
    rw (add-one, add-two, add-three)
    (omega (arith, number_step 3 at bytes, number_step 2 (suc at) bytes, number_step 1 (suc (suc at)) bytes, one_byte bytes (suc (suc (suc at)))))

pub two-pairs : (bytes : List ℕ) (at : ℕ) → number_in (take 4 (drop at bytes)) ≡ number_in (take 2 (drop at bytes)) + 65_536 * number_in (take 2 (drop (at + 2) bytes))
two-pairs bytes at = rw add-two (omega (arith, number_step 3 at bytes, number_step 2 (suc at) bytes, number_step 1 at bytes, one_byte bytes (suc at)))

-- ---- words

-- the next of some words
pub word_after : (bytes : List ℕ) (at at' n n' : ℕ) → at' ≡ at + 4 → n ≡ n' + 1
    → words_in n (drop at bytes) ≡ number_in (take 4 (drop at bytes)) ∷ words_in n' (drop at' bytes)
unfolding words_in
word_after bytes at at' n n' p q =
    ap (λ (k : ℕ). words_in k (drop at bytes)) (q ∙ add-one n')
    ∙ ap (λ (l : List ℕ). number_in (take 4 (drop at bytes)) ∷ words_in n' l) (drop-drop 4 at bytes ∙ ap (λ (k : ℕ). drop k bytes) (sym p))

drop-four : (m : ℕ) (l : List ℕ) → drop 4 (take (suc (suc (suc (suc m)))) l) ≡ take m (drop 4 l)
drop-four m [] = sym (take-nil m)
drop-four m (a ∷ []) = sym (take-nil m)
drop-four m (a ∷ b ∷ []) = sym (take-nil m)
drop-four m (a ∷ b ∷ c ∷ []) = sym (take-nil m)
drop-four m (a ∷ b ∷ c ∷ d ∷ l) = refl

-- words are read from their own bytes alone
pub words_take : (n : ℕ) (bytes : List ℕ) → words_in n (take (4 * n) bytes) ≡ words_in n bytes
unfolding words_in
words_take zero bytes = refl
words_take (suc n) bytes =
    let e : 4 * suc n ≡ suc (suc (suc (suc (4 * n)))) = omega arith in
    ap₂ {C = List ℕ} (λ (x : ℕ) (y : List ℕ). x ∷ y)
    (ap number_in (take-take 4 (4 * suc n) bytes (omega arith)))
    (ap (λ (k : ℕ). words_in n (drop 4 (take k bytes))) e ∙ ap (words_in n) (drop-four (4 * n) bytes) ∙ words_take n (drop 4 bytes))

-- ---- flags and machine

module _ (flags : List ℕ) where
  flag : (i : ℕ) → i < 4 → get_or (take 4 flags) i 0 ≡ get_or flags i 0
  flag i h = get_or-take 4 flags i 0 h

  pub flags-take : flags_formed (take 4 flags) ≡ flags_formed flags
  flags-take = rw (flag 0 (omega arith), flag 1 (omega arith), flag 2 (omega arith), flag 3 (omega arith))

  pub machine-take : (registers : List ℕ) → machine_from (take 32 registers) (take 4 flags) ≡ machine_from registers flags
  machine-take registers =
      let r = words_take 8 registers in
      let f₀ = flag 0 (omega arith) in
      let f₁ = flag 1 (omega arith) in
      let f₂ = flag 2 (omega arith) in
      let f₃ = flag 3 (omega arith) in
      λ i. record { regs = r i; flags = record { carry = eqb (f₀ i) 1; overflow = eqb (f₁ i) 1; negative = eqb (f₂ i) 1; zero = eqb (f₃ i) 1 } }
