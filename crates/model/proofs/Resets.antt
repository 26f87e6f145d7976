-- Which clocks are resets, of a part of a list, of lists put together, and of a list that rises.
use Prim.Native.Nat.{ℕ, suc, ◌+◌, ◌-◌, ◌≤◌, ◌<◌}
use mathlib.Core.Path.{◌≡◌, refl, sym, ap, ◌∙◌}
use mathlib.Core.Bool.{Bool, true, false, cond, ◌||◌, and-eq-true_iff, true≢false}
use mathlib.Core.List.{List, [], ◌∷◌, ◌++◌, map}
use native.Mathlib.Nat.{le_refl, add-zero}
use native.Mathlib.Decide.{dec_lt}
use native.Mathlib.Omega.{arith}
use lib.Dec.{eqb, ltb}
use lib.ListN.{length, get_or, drop, length-drop, drop_of_length-le}
use lib.Seq.{drop-cons, get_or-drop}
use borrow.Author.Tests.{ltb-true, ltb-false, lt-ltb, le-ltb, eqb-true, eqb-false, eq-eqb, ne_eqb}
use Rattle.model.specs.Resets.{is_reset, rises, resets_below, resets_from, resets_then, LeftRises, JoinedRises}

-- two tests of numbers that hold at the same time
same-eqb : (a b c d : ℕ) → (a ≡ b → c ≡ d) → (c ≡ d → a ≡ b) → eqb a b ≡ eqb c d
same-eqb a b c d to back = go (eqb a b) refl
  where
    go : (t : Bool) → eqb a b ≡ t → t ≡ eqb c d
    go true e = sym (eq-eqb c d (to (eqb-true a b e)))
    go false e = sym (ne_eqb c d (λ q. eqb-false a b e (back q)))

-- another number than the first
unlike : (n i : ℕ) (rest : Bool) → (n ≡ i → ⊥) → (eqb n i || rest) ≡ rest
unlike n i rest h = rw (ne_eqb n i h)

or-false : (t : Bool) → (t || false) ≡ t
or-false true = refl
or-false false = refl

module _ (k : ℕ) where
  -- below k, and past it
  below-before : (ns : List ℕ) (i : ℕ) → i < k → is_reset (resets_below k ns) i ≡ is_reset ns i
  unfolding resets_below
  below-before [] i h = refl
  below-before (n ∷ ns) i h = go (ltb n k) refl (below-before ns i h)
    where
      go : (t : Bool) → ltb n k ≡ t → is_reset (resets_below k ns) i ≡ is_reset ns i
          → is_reset (cond t (n ∷ resets_below k ns) (resets_below k ns)) i ≡ (eqb n i || is_reset ns i)
      go true e r = ap (λ (t : Bool). eqb n i || t) r
      go false e r = r ∙ sym (unlike n i (is_reset ns i) (λ q. omega (arith, ltb-false n k e)))

  below-past : (ns : List ℕ) (i : ℕ) → is_reset (resets_below k ns) (k + i) ≡ false
  unfolding resets_below
  below-past [] i = refl
  below-past (n ∷ ns) i = go (ltb n k) refl (below-past ns i)
    where
      go : (t : Bool) → ltb n k ≡ t → is_reset (resets_below k ns) (k + i) ≡ false
          → is_reset (cond t (n ∷ resets_below k ns) (resets_below k ns)) (k + i) ≡ false
      go true e r = unlike n (k + i) (is_reset (resets_below k ns) (k + i)) (λ q. omega (arith, ltb-true n k e)) ∙ r
      go false e r = r

  -- counted from k
  pub reset-from : (ns : List ℕ) (i : ℕ) → is_reset (resets_from k ns) i ≡ is_reset ns (k + i)
  unfolding resets_from
  reset-from [] i = refl
  reset-from (n ∷ ns) i = go (ltb n k) refl (reset-from ns i)
    where
      go : (t : Bool) → ltb n k ≡ t → is_reset (resets_from k ns) i ≡ is_reset ns (k + i)
          → is_reset (cond t (resets_from k ns) ((n - k) ∷ resets_from k ns)) i ≡ (eqb n (k + i) || is_reset ns (k + i))
      go true e r = r ∙ sym (unlike n (k + i) (is_reset ns (k + i)) (λ q. omega (arith, ltb-true n k e)))
      go false e r =
          let l = ltb-false n k e in
          rw (same-eqb (n - k) i n (k + i) (λ q. omega arith) (λ q. omega arith), r)

  raised_before : (ns : List ℕ) (i : ℕ) → i < k → is_reset (map (λ (n : ℕ). k + n) ns) i ≡ false
  raised_before [] i h = refl
  raised_before (n ∷ ns) i h = unlike (k + n) i (is_reset (map (λ (x : ℕ). k + x) ns) i) (λ q. omega arith) ∙ raised_before ns i h

  raised_from : (ns : List ℕ) (i : ℕ) → is_reset (map (λ (n : ℕ). k + n) ns) (k + i) ≡ is_reset ns i
  raised_from [] i = refl
  raised_from (n ∷ ns) i = rw (same-eqb (k + n) (k + i) n i (λ q. omega arith) (λ q. omega arith), raised_from ns i)

-- in one list or in the other
reset-append : (a b : List ℕ) (i : ℕ) → is_reset (a ++ b) i ≡ (is_reset a i || is_reset b i)
reset-append [] b i = refl
reset-append (n ∷ a) b i = rw (reset-append a b i) (or_assoc (eqb n i))
  where
    or_assoc : (t : Bool) → (t || (is_reset a i || is_reset b i)) ≡ ((t || is_reset a i) || is_reset b i)
    or_assoc true = refl
    or_assoc false = refl

module _ (k : ℕ) (a b : List ℕ) where
  pub reset-before : (i : ℕ) → i < k → is_reset (resets_then k a b) i ≡ is_reset a i
  unfolding resets_then
  reset-before i h = rw (reset-append (resets_below k a) (map (λ (n : ℕ). k + n) b) i, below-before k a i h, raised_before k b i h) (or-false (is_reset a i))

  pub reset-then : (i : ℕ) → is_reset (resets_then k a b) (k + i) ≡ is_reset b i
  unfolding resets_then
  reset-then i = rw (reset-append (resets_below k a) (map (λ (n : ℕ). k + n) b) (k + i), below-past k a i, raised_from k b i)

pub reset-below : (k : ℕ) (ns : List ℕ) (i : ℕ) → i < k → is_reset ns i ≡ is_reset (resets_below k ns) i
reset-below k ns i h = sym (below-before k ns i h)

-- ---- a list that rises

rises-tail : (n : ℕ) (ns : List ℕ) → rises (n ∷ ns) ≡ true → rises ns ≡ true
rises-tail n [] e = refl
rises-tail n (m ∷ ns) e = ((and-eq-true_iff (ltb n m) (rises (m ∷ ns))).0 e).1

rises-above : (n : ℕ) (ns : List ℕ) → rises (n ∷ ns) ≡ true → (c : ℕ) → c < n → is_reset (n ∷ ns) c ≡ false
rises-above n [] e c h = unlike n c false (λ q. omega arith)
rises-above n (m ∷ ns) e c h =
    let (l, r) = (and-eq-true_iff (ltb n m) (rises (m ∷ ns))).0 e in
    unlike n c (is_reset (m ∷ ns) c) (λ q. omega arith) ∙ rises-above m ns r c (omega (arith, ltb-true n m l))

rises_next : (n : ℕ) (ns : List ℕ) → rises (n ∷ ns) ≡ true → 0 < length ns → n < get_or ns 0 0
rises_next n [] e h = absurd (omega arith)
rises_next n (m ∷ ns) e h = ltb-true n m ((and-eq-true_iff (ltb n m) (rises (m ∷ ns))).0 e).0

rises-after : (n : ℕ) (ns : List ℕ) → rises (n ∷ ns) ≡ true → (c : ℕ) → c ≤ n → is_reset ns c ≡ false
rises-after n [] e c h = refl
rises-after n (m ∷ ns) e c h =
    let (l, r) = (and-eq-true_iff (ltb n m) (rises (m ∷ ns))).0 e in
    rises-above m ns r c (omega (arith, ltb-true n m l))

rises-cons : (n : ℕ) (ns : List ℕ) → ((c : ℕ) → is_reset ns c ≡ true → n < c) → rises ns ≡ true → rises (n ∷ ns) ≡ true
rises-cons n [] h e = refl
rises-cons n (m ∷ ns) h e = rw (lt-ltb n m (h m (rw (eq-eqb m m refl)))) e

-- ---- the list of what is left, and two lists one after the other, rise

rises-down : (k n : ℕ) (ns : List ℕ) → k ≤ n → rises (n ∷ ns) ≡ true → rises ((n - k) ∷ resets_from k ns) ≡ true
unfolding resets_from
rises-down k n [] h e = refl
rises-down k n (m ∷ ns) h e =
    let (l, r) = (and-eq-true_iff (ltb n m) (rises (m ∷ ns))).0 e in
    let low : k ≤ m = omega (arith, ltb-true n m l) in
    let less : n - k < m - k = omega (arith, ltb-true n m l) in
    rw (le-ltb m k low, lt-ltb (n - k) (m - k) less) (rises-down k m ns low r)

pub left-rises : LeftRises
unfolding resets_from
left-rises k [] e = refl
left-rises k (n ∷ ns) e = go (ltb n k) refl (left-rises k ns (rises-tail n ns e))
  where
    go : (t : Bool) → ltb n k ≡ t → rises (resets_from k ns) ≡ true → rises (cond t (resets_from k ns) ((n - k) ∷ resets_from k ns)) ≡ true
    go true p r = r
    go false p r = rises-down k n ns (ltb-false n k p) e

rises-up : (k : ℕ) (ns : List ℕ) → rises ns ≡ true → rises (map (λ (n : ℕ). k + n) ns) ≡ true
rises-up k [] e = refl
rises-up k (n ∷ []) e = refl
rises-up k (n ∷ m ∷ ns) e =
    let (l, r) = (and-eq-true_iff (ltb n m) (rises (m ∷ ns))).0 e in
    let less : k + n < k + m = omega (arith, ltb-true n m l) in
    rw (lt-ltb (k + n) (k + m) less) (rises-up k (m ∷ ns) r)

pub joined-rises : JoinedRises
unfolding resets_then resets_below
joined-rises k [] second e f = rises-up k second f
joined-rises k (n ∷ ns) second e f = go (ltb n k) refl (joined-rises k ns second (rises-tail n ns e) f)
  where
    rest : List ℕ
    rest = resets_then k ns second

    -- what is not above n is below k, and so a number of the first list
    above : n < k → (c : ℕ) → is_reset rest c ≡ true → n < c
    above h c q = by (dec_lt n c)
      where
        by : Dec (n < c) → n < c
        by (yes l) = l
        by (no l) =
            let low : c ≤ n = omega arith in
            absurd (true≢false (sym q ∙ reset-before k ns second c (omega arith) ∙ rises-after n ns e c low))

    go : (t : Bool) → ltb n k ≡ t → rises rest ≡ true
        → rises (cond t (n ∷ resets_below k ns) (resets_below k ns) ++ map (λ (x : ℕ). k + x) second) ≡ true
    go true p r = rises-cons n rest (above (ltb-true n k p)) r
    go false p r = r

-- ---- a list that rises, place by place

-- before clock i the numbers before place j are used up, and the others are at or past i
pub record Due (resets : List ℕ) (i j : ℕ) : Type 0 where
  pub passed : (c : ℕ) → i ≤ c → is_reset resets c ≡ is_reset (drop j resets) c
  pub rising : rises (drop j resets) ≡ true
  pub ahead : j < length resets → i ≤ get_or resets j 0

module _ (resets : List ℕ) where
  pub due-begins : rises resets ≡ true → Due resets 0 0
  due-begins e = record { passed = λ c _. refl; rising = e; ahead = λ _. omega arith }

  module _ (i j : ℕ) (d : Due resets i j) where
    -- the list is used up
    pub due-none : length resets ≤ j → (c : ℕ) → i ≤ c → is_reset resets c ≡ false
    due-none h c l = d.passed c l ∙ ap (λ (ns : List ℕ). is_reset ns c) (drop_of_length-le resets h)

    -- up to the next number
    pub due-later : (k : ℕ) → i ≤ k → (j < length resets → k ≤ get_or resets j 0) → Due resets k j
    due-later k h a = record { passed = λ c l. d.passed c (omega arith); rising = d.rising; ahead = a }

    module _ (more : j < length resets) where
      abbrev next : ℕ
      next = get_or resets j 0

      abbrev rest : List ℕ
      rest = drop (suc j) resets

      parts : drop j resets ≡ next ∷ rest
      parts = drop-cons resets j 0 more

      pub due-not-yet : (c : ℕ) → i ≤ c → c < next → is_reset resets c ≡ false
      due-not-yet c l h = d.passed c l ∙ ap (λ (ns : List ℕ). is_reset ns c) parts ∙ rises-above next rest (rw parts at d.rising) c h

      pub due-now : next ≡ i → is_reset resets i ≡ true
      due-now e = d.passed i (le_refl i) ∙ ap (λ (ns : List ℕ). is_reset ns i) parts ∙ rw (eq-eqb next i e)

      pub due-next : next ≡ i → Due resets (suc i) (suc j)
      due-next e =
          record {
            passed = λ c l. d.passed c (omega arith) ∙ ap (λ (ns : List ℕ). is_reset ns c) parts ∙ unlike next c (is_reset rest c) (λ q. omega arith);
            rising = rises-tail next rest (rw parts at d.rising);
            ahead = λ l.
                let some : 0 < length rest = rw length-drop (omega arith) in
                omega (arith, rises_next next rest (rw parts at d.rising) some, get_or-drop (suc j) resets 0 0 ∙ ap (λ (p : ℕ). get_or resets p 0) (add-zero (suc j)));
          }
