-- A row of bits read by a fold.
use Rattle.std.proofs.Common.{ℕ, ◌+◌, ◌*◌, ◌%◌, ◌^◌, ◌≤◌, ◌<◌, ◌≡◌, Bool, true, false, List, [], ◌∷◌, ◌||◌, length, map, reverse, bit_or, bit_and, refl, sym, ap, ◌∙◌, arith}
use Rattle.std.proofs.Math.Nat.{lt_of_lt_of_le, div-one}
use Rattle.std.proofs.Math.Pow.{pow_mono}
use Rattle.std.specs.List.{fold}
use Rattle.std.specs.Int.Bits.{or_add_and, or_zero_r}
use Rattle.std.proofs.lemmas.Nat.Bits.{shr_and_one}
use Rattle.std.proofs.lemmas.List.Sums.{fold-append}
use Rattle.std.proofs.lemmas.List.{reverse-append}
use Rattle.arithmetic.specs.Words.{as_number}
use Rattle.gate_network.specs.Gates.{any_of, value}
use Rattle.gate_network.proofs.Worth.{value-below}
use denote.Ref.{Bor}
use mathlib.Core.Bool.{or-false, or_assoc}

pub any-fold : (a : Bool) (xs : List (Bor Bool)) → fold (λ r x. r || x.now) a xs ≡ a || any_of (map (λ x. x.now) xs)
unfolding any_of
any-fold a [] = sym (or-false a)
any-fold a (x ∷ xs) = any-fold (a || x.now) xs ∙ or_assoc a x.now (any_of (map (λ x. x.now) xs))

-- a word moved up by a place, and a bit put in
abbrev pub put_in : ℕ → Bool → ℕ
put_in r b = bit_or (r * 2 % 2 ^ 32) (as_number b)

put_in-value : (r : ℕ) (b : Bool) → r < 2 ^ 31 → put_in r b ≡ as_number b + 2 * r
put_in-value r true h =
    let m : ℕ = r * 2 % 2 ^ 32 in
    let even : bit_and m 1 ≡ m % 2 = ap (λ n. bit_and n 1) (sym (div-one m)) ∙ shr_and_one m 0 ∙ ap (λ n. n % 2) (div-one m) in
    omega (arith, or_add_and m 1, even)
put_in-value r false h = or_zero_r (r * 2 % 2 ^ 32) ∙ omega arith

-- from the top down that gives what the row is worth
pub fold-value : (l : List Bool) → length l ≤ 32 → fold put_in 0 (reverse l) ≡ value l
unfolding value
fold-value [] h = refl
fold-value (b ∷ l) h =
    let short : length l ≤ 31 = omega arith in
    ap (fold put_in 0) (reverse-append (b ∷ []) l)
    ∙ fold-append put_in 0 (reverse l) (b ∷ [])
    ∙ ap (λ r. put_in r b) (fold-value l (omega arith))
    ∙ put_in-value (value l) b (lt_of_lt_of_le (value-below l (length l) refl) (pow_mono short))
