-- What the adder's two rows are worth, by the control lines.
use Prim.Native.Nat.{ℕ, suc, ◌+◌, ◌*◌, ◌/◌, ◌%◌, ◌^◌, min, max}
use mathlib.Core.Path.{◌≡◌, refl, sym, ap, ap₂, ◌∙◌}
use mathlib.Core.Bool.{Bool, true, false, ◌&&◌, xor}
use mathlib.Core.List.{List, [], ◌∷◌, ◌++◌}
use native.Mathlib.Nat.{suc_inj, pow-suc}
use native.Mathlib.Omega.{arith}
use lib.ListN.{length, get_or}
use lib.Bits.{bit_and, bit_or, bit_xor, differ, and_step, or_step, xor_step}
use Rattle.arithmetic.specs.Words.{as_number}
use Rattle.arithmetic.proofs.Bits.{one, two, low_bit, high_bits}
use Rattle.arithmetic.proofs.Integers.{weight}
use Rattle.gate_network.specs.declared.Lines.{Lines}
use Rattle.gate_network.specs.Gates.{value, select, entry, first_row, second_row}
use Rattle.gate_network.proofs.Worth.{value-snoc}

pub pick_first : (p q : Bool) → select false p q ≡ p
pick_first = two _ refl refl refl refl

pub pick_second : (p q : Bool) → select true p q ≡ q
pick_second = two _ refl refl refl refl

-- ---- the first row as a table's entries

pub first-length : (l : Lines) (a b : List Bool) → length b ≡ length a → length (first_row l a b) ≡ length a
unfolding first_row
first-length l [] b e = refl
first-length l (x ∷ a) [] e = e
first-length l (x ∷ a) (y ∷ b) e = ap suc (first-length l a b (suc_inj e))

-- an operation on numbers that goes by binary digits as the table does
pub record Digits (t00 t01 t10 t11 : Bool) (op : ℕ → ℕ → ℕ) : Type 0 where
  pub none : op 0 0 ≡ 0
  pub more : (x y : Bool) (a b : ℕ) → op (as_number x + 2 * a) (as_number y + 2 * b) ≡ as_number (entry t00 t01 t10 t11 x y) + 2 * op a b

pub table-value : (l : Lines) (op : ℕ → ℕ → ℕ) → l.shift ≡ false → Digits l.t00 l.t01 l.t10 l.t11 op
    → (a b : List Bool) → length b ≡ length a → value (first_row l a b) ≡ op (value a) (value b)
unfolding value first_row
table-value l op s d [] [] e = sym d.none
table-value l op s d [] (y ∷ b) e = absurd (let h : suc (length b) ≡ 0 = e in omega arith)
table-value l op s d (x ∷ a) [] e = absurd (let h : 0 ≡ suc (length a) = e in omega arith)
table-value l op s d (x ∷ a) (y ∷ b) e =
    ap₂ (λ (t : Bool) (n : ℕ). as_number (select t (entry l.t00 l.t01 l.t10 l.t11 x y) (get_or a 0 l.top)) + 2 * n) s (table-value l op s d a b (suc_inj e))
    ∙ ap (λ (t : Bool). as_number t + 2 * op (value a) (value b)) (pick_first (entry l.t00 l.t01 l.t10 l.t11 x y) (get_or a 0 l.top))
    ∙ sym (d.more x y (value a) (value b))

-- and, or, exclusive or: the kit's operations go by digits, with f on two digits
by_digits : (t00 t01 t10 t11 : Bool) (op f : ℕ → ℕ → ℕ) → op 0 0 ≡ 0 → ((a b : ℕ) → op a b ≡ op (a / 2) (b / 2) * 2 + f (a % 2) (b % 2))
    → ((x y : Bool) → f (as_number x) (as_number y) ≡ as_number (entry t00 t01 t10 t11 x y)) → Digits t00 t01 t10 t11 op
by_digits t00 t01 t10 t11 op f z step digit =
    record {
      none = z;
      more =
          λ x y a b.
          step (as_number x + 2 * a) (as_number y + 2 * b)
          ∙ ap₂ (λ (p q : ℕ). p * 2 + q) (ap₂ op (high_bits x a) (high_bits y b)) (ap₂ f (low_bit x a) (low_bit y b) ∙ digit x y)
          ∙ (let h : op a b * 2 + as_number (entry t00 t01 t10 t11 x y) ≡ as_number (entry t00 t01 t10 t11 x y) + 2 * op a b = omega arith in h);
    }

pub and_digits : Digits false false false true bit_and
and_digits = by_digits false false false true bit_and min refl and_step (two _ refl refl refl refl)

pub or_digits : Digits false true true true bit_or
or_digits = by_digits false true true true bit_or max refl or_step (two _ refl refl refl refl)

pub xor_digits : Digits false true true false bit_xor
xor_digits = by_digits false true true false bit_xor differ refl xor_step (two _ refl refl refl refl)

-- nothing, a alone, b alone
bit-alone : (t00 t01 t10 t11 : Bool) (f : Bool → Bool → Bool) → ((x y : Bool) → f x y ≡ entry t00 t01 t10 t11 x y) → (x y : Bool) (n : ℕ)
    → as_number (f x y) + 2 * n ≡ as_number (entry t00 t01 t10 t11 x y) + 2 * n
bit-alone t00 t01 t10 t11 f h x y n = ap (λ (t : Bool). as_number t + 2 * n) (h x y)

pub none-digits : Digits false false false false (λ a b. 0)
none-digits = record { none = refl; more = λ x y a b. bit-alone false false false false (λ x y. false) (two _ refl refl refl refl) x y 0 }

pub a-digits : Digits false false true true (λ a b. a)
a-digits = record { none = refl; more = λ x y a b. bit-alone false false true true (λ x y. x) (two _ refl refl refl refl) x y a }

pub b-digits : Digits false true false true (λ a b. b)
b-digits = record { none = refl; more = λ x y a b. bit-alone false true false true (λ x y. y) (two _ refl refl refl refl) x y b }

-- ---- the first row as a shift

shift_row : (l : Lines) (x : Bool) (a b : List Bool) → l.shift ≡ true → length b ≡ suc (length a) → first_row l (x ∷ a) b ≡ a ++ (l.top ∷ [])
unfolding first_row
shift_row l x a [] s e = absurd (let h : 0 ≡ suc (length a) = e in omega arith)
shift_row l x [] (y ∷ []) s e =
    ap (λ (t : Bool). select t (entry l.t00 l.t01 l.t10 l.t11 x y) l.top ∷ []) s
    ∙ ap (λ (t : Bool). t ∷ []) (pick_second (entry l.t00 l.t01 l.t10 l.t11 x y) l.top)
shift_row l x [] (y ∷ z ∷ b) s e = absurd (let h : suc (suc (length b)) ≡ 1 = e in omega arith)
shift_row l x (w ∷ a) (y ∷ b) s e =
    ap (λ (t : Bool). select t (entry l.t00 l.t01 l.t10 l.t11 x y) w ∷ first_row l (w ∷ a) b) s
    ∙ ap₂ (λ (t : Bool) (m : List Bool). t ∷ m) (pick_second (entry l.t00 l.t01 l.t10 l.t11 x y) w) (shift_row l w a b s (suc_inj e))

pub shift_value : (k : ℕ) (l : Lines) (a b : List Bool) → l.shift ≡ true → length a ≡ suc k → length b ≡ suc k → value (first_row l a b) ≡ value a / 2 + as_number l.top * 2 ^ k
unfolding value
shift_value k l [] b s ea eb = absurd (let h : 0 ≡ suc k = ea in omega arith)
shift_value k l (x ∷ a) b s ea eb =
    ap value (shift_row l x a b s (eb ∙ sym ea)) ∙ value-snoc a l.top
    ∙ ap₂ (λ (n m : ℕ). n + as_number l.top * 2 ^ m) (sym (high_bits x (value a))) (suc_inj ea)

-- ---- the second row

pub second-length : (l : Lines) (a : List Bool) → length (second_row l a) ≡ length a
unfolding second_row
second-length l [] = refl
second-length l (x ∷ a) = ap suc (second-length l a)

-- what the second row adds or takes away is a's weight: a or nothing
bit-taken : (s x : Bool) → as_number (xor (x && s) false) ≡ weight s (as_number x)
unfolding xor
bit-taken = two _ refl refl refl refl

bit-turned : (s x : Bool) → as_number (xor (x && s) true) + weight s (as_number x) ≡ 1
unfolding xor
bit-turned = two _ refl refl refl refl

taken_more : (s : Bool) (x a : ℕ) → weight s (x + 2 * a) ≡ weight s x + 2 * weight s a
taken_more s x a = one (λ s. weight s (x + 2 * a) ≡ weight s x + 2 * weight s a) refl refl s

pub second-value : (l : Lines) → l.turn ≡ false → (a : List Bool) → value (second_row l a) ≡ weight l.second (value a)
unfolding value second_row
second-value l t [] = one (λ s. 0 ≡ weight s 0) refl refl l.second
second-value l t (x ∷ a) =
    ap (λ (u : Bool). as_number (xor (x && l.second) u) + 2 * value (second_row l a)) t
    ∙ ap₂ (λ (m n : ℕ). m + 2 * n) (bit-taken l.second x) (second-value l t a)
    ∙ sym (taken_more l.second (as_number x) (value a))

-- the complement: together with what is taken away it is worth all ones
pub second-turned : (l : Lines) → l.turn ≡ true → (a : List Bool) → value (second_row l a) + weight l.second (value a) + 1 ≡ 2 ^ length a
unfolding value second_row
second-turned l t [] = one (λ s. 0 + weight s 0 + 1 ≡ 1) refl refl l.second
second-turned l t (x ∷ a) =
    ap (λ (u : Bool). as_number (xor (x && l.second) u) + 2 * value (second_row l a) + weight l.second (as_number x + 2 * value a) + 1) t
    ∙ omega (arith, bit-turned l.second x, second-turned l t a, taken_more l.second (as_number x) (value a), pow-suc 2 (length a))

-- ---- the complement of a in the first row

pub not-value : (l : Lines) → l.shift ≡ false → l.t00 ≡ true → l.t01 ≡ true → l.t10 ≡ false → l.t11 ≡ false
    → (a b : List Bool) → length b ≡ length a → value (first_row l a b) + value a + 1 ≡ 2 ^ length a
unfolding value first_row
not-value l s e00 e01 e10 e11 [] [] e = refl
not-value l s e00 e01 e10 e11 [] (y ∷ b) e = absurd (let h : suc (length b) ≡ 0 = e in omega arith)
not-value l s e00 e01 e10 e11 (x ∷ a) [] e = absurd (let h : 0 ≡ suc (length a) = e in omega arith)
not-value l s e00 e01 e10 e11 (x ∷ a) (y ∷ b) e =
    (λ i. as_number (select (s i) (entry (e00 i) (e01 i) (e10 i) (e11 i) x y) (get_or a 0 l.top)) + 2 * value (first_row l a b) + (as_number x + 2 * value a) + 1)
    ∙ ap (λ (t : Bool). as_number t + 2 * value (first_row l a b) + (as_number x + 2 * value a) + 1) (pick_first (entry true true false false x y) (get_or a 0 l.top))
    ∙ omega (arith, two (λ x y. as_number (entry true true false false x y) + as_number x ≡ 1) refl refl refl refl x y, not-value l s e00 e01 e10 e11 a b (suc_inj e), pow-suc 2 (length a))
