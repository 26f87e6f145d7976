-- The reset list of a gate run: the numbers, from 0, of its clocks on which reset is held. CR 7.
use Rattle.std.specs.Prelude.{ℕ, ◌+◌, ◌-◌, ◌≡◌, Bool, true, false, cond, ◌&&◌, ◌||◌, List, [], ◌∷◌, ◌++◌, map, eqb, ltb}

-- whether clock number i is in the list
abbrev pub is_reset : (resets : List ℕ) → (i : ℕ) → Bool
is_reset [] i = false
is_reset (n ∷ ns) i = eqb n i || is_reset ns i

-- each number is above the one before it
abbrev pub rises : List ℕ → Bool
rises [] = true
rises (m ∷ []) = true
rises (m ∷ n ∷ ns) = ltb m n && rises (n ∷ ns)

-- the numbers below k
unfoldable pub resets_below : ℕ → List ℕ → List ℕ
resets_below k [] = []
resets_below k (n ∷ ns) = cond (ltb n k) (n ∷ resets_below k ns) (resets_below k ns)

-- the numbers from k on, counted from there: the list of what is left of a run after k clocks
unfoldable pub resets_from : ℕ → List ℕ → List ℕ
resets_from k [] = []
resets_from k (n ∷ ns) = cond (ltb n k) (resets_from k ns) ((n - k) ∷ resets_from k ns)

-- the list of k clocks with one list, and of the clocks that follow on with another
unfoldable pub resets_then : ℕ → (first second : List ℕ) → List ℕ
resets_then k first second = resets_below k first ++ map (λ (n : ℕ). k + n) second

-- they rise where the lists that they are made of do, so that runs with them are not turned down with 22
abbrev pub LeftRises : Type 0
LeftRises = (k : ℕ) (resets : List ℕ) → rises resets ≡ true → rises (resets_from k resets) ≡ true

abbrev pub JoinedRises : Type 0
JoinedRises = (k : ℕ) (first second : List ℕ) → rises first ≡ true → rises second ≡ true → rises (resets_then k first second) ≡ true
