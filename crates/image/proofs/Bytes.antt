-- Bytes and numbers, bytes and words: each way undoes the other.
use Prim.Native.Nat.{ℕ, zero, suc, ◌+◌, ◌*◌, ◌/◌, ◌%◌, ◌^◌, ◌<◌}
use mathlib.Core.Path.{◌≡◌, refl, sym, ap, ap₂, ◌∙◌}
use mathlib.Core.List.{List, [], ◌∷◌, ◌++◌}
use native.Mathlib.Nat.{pow-suc, div-lt_iff_lt-mul}
use native.Mathlib.Numerals.{add-one}
use native.Mathlib.Omega.{arith}
use lib.ListN.{length, take, drop, get_or, length-append, length-drop, take-append-drop}
use lib.Seq.{take_at, drop_at, length-take-le, drop-cons}
use Rattle.image.specs.Bytes.{bytes_of, number_in, word_bytes, words_in, Below}

pub no-elements : (list : List ℕ) → length list ≡ 0 → list ≡ []
no-elements [] e = refl
no-elements (x ∷ list) e = absurd (omega arith)

-- ---- bytes and numbers

pub length-bytes : (k n : ℕ) → length (bytes_of k n) ≡ k
unfolding bytes_of
length-bytes zero n = refl
length-bytes (suc k) n = ap suc (length-bytes k (n / 256))

pub number-bytes : (k n : ℕ) → n < 256 ^ k → number_in (bytes_of k n) ≡ n
unfolding bytes_of number_in
number-bytes zero n h = omega arith
number-bytes (suc k) n h =
    let h' : n < 256 ^ k * 256 = rw pow-suc at h in
    let e : number_in (bytes_of k (n / 256)) ≡ n / 256 = number-bytes k (n / 256) ((div-lt_iff_lt-mul (omega arith)).1 h') in
    omega arith

pub bytes-number : (bytes : List ℕ) → Below 256 bytes → bytes_of (length bytes) (number_in bytes) ≡ bytes
unfolding bytes_of number_in
bytes-number [] h = refl
bytes-number (b ∷ bytes) h =
    let e₀ : (b + 256 * number_in bytes) % 256 ≡ b = omega (arith, h.0) in
    let e₁ : (b + 256 * number_in bytes) / 256 ≡ number_in bytes = omega (arith, h.0) in
    ap₂ {C = List ℕ} (λ (x : ℕ) (r : List ℕ). x ∷ r) e₀ (ap (bytes_of (length bytes)) e₁ ∙ bytes-number bytes h.1)

-- a single byte is its number
pub single : (bytes : List ℕ) → length bytes ≡ 1 → bytes ≡ number_in bytes ∷ []
unfolding number_in
single [] e = absurd (omega arith)
single (b ∷ []) e = let z : b ≡ b + 0 = omega arith in ap {B = List ℕ} (λ (x : ℕ). x ∷ []) z
single (b ∷ d ∷ bytes) e = absurd (omega arith)

-- ---- bounds of parts

pub below-take : (bound n : ℕ) (list : List ℕ) → Below bound list → Below bound (take n list)
below-take bound zero list h = tt
below-take bound (suc n) [] h = tt
below-take bound (suc n) (x ∷ list) h = (h.0, below-take bound n list h.1)

pub below-drop : (bound n : ℕ) (list : List ℕ) → Below bound list → Below bound (drop n list)
below-drop bound zero list h = h
below-drop bound (suc n) [] h = tt
below-drop bound (suc n) (x ∷ list) h = below-drop bound n list h.1

-- ---- words

pub length-word-bytes : (words : List ℕ) → length (word_bytes words) ≡ 4 * length words
unfolding word_bytes
length-word-bytes [] = refl
length-word-bytes (w ∷ words) =
    length-append (bytes_of 4 w) (word_bytes words)
    ∙ ap₂ (λ (a b : ℕ). a + b) (length-bytes 4 w) (length-word-bytes words)
    ∙ omega arith

-- the next of some words
pub next_word : (words : List ℕ) (i : ℕ) → i < length words → word_bytes (drop i words) ≡ bytes_of 4 (get_or words i 0) ++ word_bytes (drop (i + 1) words)
unfolding word_bytes
next_word words i h =
    ap word_bytes (drop-cons words i 0 h)
    ∙ ap (λ (k : ℕ). bytes_of 4 (get_or words i 0) ++ word_bytes (drop k words)) (sym (add-one i))

pub length-words : (n : ℕ) (bytes : List ℕ) → length (words_in n bytes) ≡ n
unfolding words_in
length-words zero bytes = refl
length-words (suc n) bytes = ap suc (length-words n (drop 4 bytes))

pub words-of-bytes : (words : List ℕ) → Below (2 ^ 32) words → words_in (length words) (word_bytes words) ≡ words
unfolding word_bytes words_in
words-of-bytes [] h = refl
words-of-bytes (w ∷ words) h =
    ap₂ {C = List ℕ} (λ (x : ℕ) (r : List ℕ). x ∷ r)
    (ap number_in (take_at (bytes_of 4 w) (word_bytes words) 4 (length-bytes 4 w)) ∙ number-bytes 4 w h.0)
    (ap (words_in (length words)) (drop_at (bytes_of 4 w) (word_bytes words) 4 (length-bytes 4 w)) ∙ words-of-bytes words h.1)

pub bytes-of-words : (n : ℕ) (bytes : List ℕ) → length bytes ≡ 4 * n → Below 256 bytes → word_bytes (words_in n bytes) ≡ bytes
unfolding word_bytes words_in
bytes-of-words zero bytes e h = sym (no-elements bytes e)
bytes-of-words (suc n) bytes e h =
    let l : length (take 4 bytes) ≡ 4 = length-take-le 4 bytes (omega arith) in
    let e₀ : bytes_of 4 (number_in (take 4 bytes)) ≡ take 4 bytes = ap (λ (k : ℕ). bytes_of k (number_in (take 4 bytes))) (sym l) ∙ bytes-number (take 4 bytes) (below-take 256 4 bytes h) in
    ap₂ (λ (a b : List ℕ). a ++ b) e₀ (bytes-of-words n (drop 4 bytes) (simp length-drop (omega arith)) (below-drop 256 4 bytes h))
    ∙ take-append-drop 4 bytes
