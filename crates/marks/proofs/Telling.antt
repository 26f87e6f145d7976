-- What a map tells of a journal's pairs stays so as pairs are noted, and holds where there are none.
use Prim.Native.Nat.{ℕ, zero, suc, ◌+◌, ◌*◌, ◌/◌, ◌%◌, ◌^◌, ◌≤◌, ◌<◌}
use mathlib.Core.Path.{◌≡◌, refl, sym, ap, ap₂, ◌∙◌}
use mathlib.Core.Logic.{◌≢◌}
use mathlib.Core.Bool.{Bool, true, false, cond, ◌&&◌, ◌||◌}
use mathlib.Core.List.{List, [], ◌∷◌, ◌++◌}
use native.Mathlib.Omega.{arith}
use lib.Bits.{bit_or}
use lib.Dec.{eqb, ltb, leb}
use lib.ListN.{length, take, set, replicate, length-set, length-append, length-replicate}
use lib.Seq.{sets, length-sets, get_or-set_same, get_or-set_other, get_or-take, take-suc-set}
use borrow.Author.Tests.{eq-eqb, ne_eqb, eqb-true, eqb-false, le-leb}
use Rattle.model.specs.Words.{bit, word_at, store_word}
use Rattle.model.specs.Journal.{Pair, has_pair, room_in, journal_words, noted}
use Rattle.model.proofs.Runs.{words_append}
use Rattle.marks.specs.Marks.{group_of, given, spare, bit_place, marked, with_bit, with_group, with_mark, forgotten, listed, searched, known, Tells}
use Rattle.marks.proofs.Marking.{or-false, or_assoc, or_bit, no-bit, sets-before, cleared, spare-fits}

-- ---- the pairs in a journal's places

has-one-more : (ps : List Pair) (p : Pair) (a : ℕ) → has_pair (ps ++ p ∷ []) a ≡ (has_pair ps a || eqb p.address a)
unfolding has_pair
has-one-more [] p a = or-false (eqb p.address a)
has-one-more (q ∷ ps) p a =
    ap (λ (t : Bool). eqb q.address a || t) (has-one-more ps p a) ∙ sym (or_assoc (eqb q.address a) (has_pair ps a) (eqb p.address a))

-- a pair in front
listed-front : (x y : ℕ) (words : List ℕ) (k a : ℕ) → listed (x ∷ y ∷ words) (suc k) a ≡ (eqb x a || listed words k a)
unfolding listed
listed-front x y words zero a = sym (or-false (eqb x a))
listed-front x y words (suc k) a =
    let e : 2 * suc k ≡ suc (suc (2 * k)) = omega arith in
    ap (λ (t : Bool). t || eqb (word_at (x ∷ y ∷ words) (2 * suc k)) a) (listed-front x y words k a)
    ∙ ap (λ (n : ℕ). (eqb x a || listed words k a) || eqb (word_at (x ∷ y ∷ words) n) a) e
    ∙ or_assoc (eqb x a) (listed words k a) (eqb (word_at words (2 * k)) a)

listed-words : (ps : List Pair) (a : ℕ) → listed (journal_words ps) (length ps) a ≡ has_pair ps a
unfolding listed journal_words has_pair
listed-words [] a = refl
listed-words (p ∷ ps) a =
    listed-front p.address p.former (journal_words ps) (length ps) a ∙ ap (λ (t : Bool). eqb p.address a || t) (listed-words ps a)

-- only the places of the pairs are looked at
listed-take : (journal : List ℕ) (n k a : ℕ) → k ≤ n → listed (take (2 * n) journal) k a ≡ listed journal k a
unfolding listed
listed-take journal n zero a h = refl
listed-take journal n (suc k) a h =
    ap (λ (t : Bool). t || eqb (word_at (take (2 * n) journal) (2 * k)) a) (listed-take journal n k a (omega arith))
    ∙ ap (λ (x : ℕ). listed journal k a || eqb x a) (get_or-take (2 * n) journal (2 * k) 0 (omega arith))

-- one pair more in its places
one_more : (journal : List ℕ) (ps : List Pair) (p : Pair) → take (2 * length ps) journal ≡ journal_words ps → length ps < room_in journal
    → take (2 * length (ps ++ p ∷ [])) (noted journal (length ps) p.address p.former) ≡ journal_words (ps ++ p ∷ [])
unfolding journal_words
one_more journal ps p front room =
    let n = 2 * length ps in
    let first = set journal n p.address in
    let count : 2 * length (ps ++ p ∷ []) ≡ suc (suc n) = omega (arith, length-append ps (p ∷ [])) in
    let next : n + 1 ≡ suc n = omega arith in
    let inside : suc n < length first = simp length-set (omega arith) in
    ap (λ (k : ℕ). take k (set first (n + 1) p.former)) count
    ∙ ap (λ (k : ℕ). take (suc (suc n)) (set first k p.former)) next
    ∙ take-suc-set first (suc n) p.former inside
    ∙ ap (λ (l : List ℕ). l ++ p.former ∷ []) (take-suc-set journal n p.address (omega arith))
    ∙ ap (λ (l : List ℕ). (l ++ p.address ∷ []) ++ p.former ∷ []) front
    ∙ two (journal_words ps) p.address p.former
    ∙ sym (words_append ps (p ∷ []))
  where
    two : (l : List ℕ) (x y : ℕ) → (l ++ x ∷ []) ++ y ∷ [] ≡ l ++ x ∷ y ∷ []
    two [] x y = refl
    two (w ∷ l) x y = ap (λ (m : List ℕ). w ∷ m) (two l x y)

-- ---- what the map tells

pub known-told : {map journal : List ℕ} {ps : List Pair} {words : ℕ} → Tells map journal ps words → length ps ≤ room_in journal → (a : ℕ) → a < words
    → known map journal (length ps) a ≡ has_pair ps a
unfolding known
known-told {map} {journal} {ps} {words} t room a h = go (eqb (group_of map a) 0) refl (spare map) refl
  where
    go : (z : Bool) → eqb (group_of map a) 0 ≡ z → (s : Bool) → spare map ≡ s
        → cond z (cond s false (searched journal (length ps) a)) (marked map a) ≡ has_pair ps a
    go true e true f = sym (t.none a h (eqb-true (group_of map a) 0 e) f)
    go true e false f =
        rw (le-leb (length ps) (room_in journal) room)
        (sym (listed-take journal (length ps) (length ps) a (omega arith)) ∙ ap (λ (l : List ℕ). listed l (length ps) a) t.front ∙ listed-words ps a)
    go false e s f = t.told a h (eqb-false (group_of map a) 0 e)

-- ---- a bit more

-- addresses of one page and one word of its group
same_rest : (a b : ℕ) → b / 1024 ≡ a / 1024 → b % 1024 / 32 ≡ a % 1024 / 32 → eqb (a % 32) (b % 32) ≡ eqb a b
same_rest a b q w = go (eqb (a % 32) (b % 32)) refl
  where
    go : (t : Bool) → eqb (a % 32) (b % 32) ≡ t → t ≡ eqb a b
    go true e = sym (eq-eqb a b (let r = eqb-true (a % 32) (b % 32) e in omega arith))
    go false e = sym (ne_eqb a b (λ r. eqb-false (a % 32) (b % 32) e (ap (λ (n : ℕ). n % 32) r)))

abbrev place : List ℕ → ℕ → ℕ
place map a = bit_place (group_of map a) a

abbrev word : List ℕ → ℕ → ℕ
word map a = bit_or (word_at map (place map a)) (2 ^ (a % 32))

same-spare : (map map' : List ℕ) → given map' ≡ given map → length map' ≡ length map → spare map' ≡ spare map
same-spare map map' g l = ap₂ (λ (k n : ℕ). ltb k 65535 && leb (16384 + 32 * (k + 2)) n) g l

module _ {map journal : List ℕ} {ps : List Pair} {words : ℕ} (t : Tells map journal ps words) where
  -- a page's number
  page : (a : ℕ) → a < words → a / 1024 < 16384
  page a h = omega (arith, t.most)

  module _ (a : ℕ) (inside : a < words) (paged : group_of map a ≢ 0) where
    -- the table and the count of groups stay
    bit-low : (i : ℕ) → i ≤ 16384 → word_at (with_bit map a) i ≡ word_at map i
    unfolding with_bit
    bit-low i h = get_or-set_other map (place map a) i (word map a) 0 (λ e. paged (omega arith))

    bit-size : length (with_bit map a) ≡ length map
    unfolding with_bit
    bit-size = length-set map (place map a) (word map a)

    bit-there : (b : ℕ) → b < words → group_of map b ≢ 0
        → bit (word_at (store_word map (place map a) (word map a)) (place map b)) (b % 32) ≡ (bit (word_at map (place map b)) (b % 32) || eqb a b)
    bit-there b h p = go (eqb (place map b) (place map a)) refl
      where
        go : (z : Bool) → eqb (place map b) (place map a) ≡ z
            → bit (word_at (store_word map (place map a) (word map a)) (place map b)) (b % 32) ≡ (bit (word_at map (place map b)) (b % 32) || eqb a b)
        go true e =
            let q = eqb-true (place map b) (place map a) e in
            let pages = t.apart b a h inside p (omega arith) in
            let fits : place map a < length map = omega (arith, t.below a inside, t.long) in
            ap (λ (n : ℕ). bit (word_at (store_word map (place map a) (word map a)) n) (b % 32)) q
            ∙ ap (λ (x : ℕ). bit x (b % 32)) (get_or-set_same map (place map a) (word map a) 0 fits)
            ∙ or_bit (word_at map (place map a)) (a % 32) (b % 32)
            ∙ ap₂ (λ (n : ℕ) (z : Bool). bit (word_at map n) (b % 32) || z) (sym q) (same_rest a b pages (omega arith))
        go false e =
            let differ = eqb-false (place map b) (place map a) e in
            ap (λ (x : ℕ). bit x (b % 32)) (get_or-set_other map (place map a) (place map b) (word map a) 0 differ)
            ∙ sym (or-false (bit (word_at map (place map b)) (b % 32)))
            ∙ ap (λ (z : Bool). bit (word_at map (place map b)) (b % 32) || z) (sym (ne_eqb a b (λ r. differ (ap (place map) (sym r)))))

    bit-marked : (b : ℕ) → b < words → group_of map b ≢ 0 → marked (with_bit map a) b ≡ (marked map b || eqb a b)
    unfolding marked with_bit
    bit-marked b h p =
        ap (λ (g : ℕ). bit (word_at (with_bit map a) (bit_place g b)) (b % 32)) (bit-low (b / 1024) (omega (arith, page b h))) ∙ bit-there b h p

  -- a pair for an address whose page has a group
  bit-noted : (p : Pair) → p.address < words → group_of map p.address ≢ 0 → (journal' : List ℕ)
      → take (2 * length (ps ++ p ∷ [])) journal' ≡ journal_words (ps ++ p ∷ []) → Tells (with_bit map p.address) journal' (ps ++ p ∷ []) words
  bit-noted p inside paged journal' e =
      let a = p.address in
      let count = bit-low a inside paged 16384 (omega arith) in
      let size = bit-size a inside paged in
      let table : (b : ℕ) → b < words → group_of (with_bit map a) b ≡ group_of map b = λ b h. bit-low a inside paged (b / 1024) (omega (arith, page b h)) in
      record {
        most = t.most;
        long = omega (arith, count, size, t.long);
        below = λ b h. omega (arith, count, table b h, t.below b h);
        apart = λ b c h i n q. t.apart b c h i (λ z. n (table b h ∙ z)) (sym (table b h) ∙ q ∙ table c i);
        told = λ b h n.
            let n' : group_of map b ≢ 0 = λ z. n (table b h ∙ z) in
            bit-marked a inside paged b h n' ∙ ap (λ (z : Bool). z || eqb a b) (t.told b h n') ∙ sym (has-one-more ps p b);
        none = λ b h z s.
            let z' = sym (table b h) ∙ z in
            has-one-more ps p b
            ∙ ap₂ (λ (x y : Bool). x || y) (t.none b h z' (sym (same-spare map (with_bit map a) count size) ∙ s)) (ne_eqb a b (λ r. paged (ap (group_of map) r ∙ z')));
        front = e;
      }

  -- one for an address whose page has none, with the groups used up
  none-noted : (p : Pair) → group_of map p.address ≡ 0 → spare map ≡ false → (journal' : List ℕ)
      → take (2 * length (ps ++ p ∷ [])) journal' ≡ journal_words (ps ++ p ∷ []) → Tells map journal' (ps ++ p ∷ []) words
  none-noted p zero' f journal' e =
      record {
        most = t.most;
        long = t.long;
        below = t.below;
        apart = t.apart;
        told = λ b h n.
            t.told b h n
            ∙ sym (has-one-more ps p b ∙ ap (λ (z : Bool). has_pair ps b || z) (ne_eqb p.address b (λ r. n (ap (group_of map) (sym r) ∙ zero'))) ∙ or-false (has_pair ps b));
        none = λ b h z s. cc;
        front = e;
      }

-- ---- a group more

abbrev start : List ℕ → ℕ
start map = 16384 + 32 * (given map + 1)

-- the map with n words cleared for the next group; a group has 32, but that number is not to be counted out
abbrev emptied : List ℕ → ℕ → List ℕ
emptied map n = sets map (start map) (replicate n 0)

abbrev counted : List ℕ → ℕ → List ℕ
counted map n = store_word (emptied map n) 16384 (given map + 1)

abbrev grouped : List ℕ → ℕ → ℕ → List ℕ
grouped map n a = store_word (counted map n) (a / 1024) (given map + 1)

module _ {map journal : List ℕ} {ps : List Pair} {words : ℕ} (t : Tells map journal ps words) (a n : ℕ) (inside : a < words) (many : n ≡ 32) where
  group_size : length (grouped map n a) ≡ length map
  group_size =
      length-set (counted map n) (a / 1024) (given map + 1) ∙ length-set (emptied map n) 16384 (given map + 1) ∙ length-sets map (start map) (replicate n 0)

  -- the count of groups, and the page's
  group_count : given (grouped map n a) ≡ given map + 1
  group_count =
      let size = length-sets map (start map) (replicate n 0) in
      get_or-set_other (counted map n) (a / 1024) 16384 (given map + 1) 0 (λ e. omega (arith, page t a inside))
      ∙ get_or-set_same (emptied map n) 16384 (given map + 1) 0 (omega (arith, size, t.long))

  group_own : group_of (grouped map n a) a ≡ given map + 1
  group_own =
      let size = length-set (emptied map n) 16384 (given map + 1) ∙ length-sets map (start map) (replicate n 0) in
      get_or-set_same (counted map n) (a / 1024) (given map + 1) 0 (omega (arith, size, t.long, page t a inside))

  -- what stays, and the words of the group
  group_low : (i : ℕ) → i < start map → i ≢ 16384 → i ≢ a / 1024 → word_at (grouped map n a) i ≡ word_at map i
  group_low i h x y =
      get_or-set_other (counted map n) (a / 1024) i (given map + 1) 0 y
      ∙ get_or-set_other (emptied map n) 16384 i (given map + 1) 0 x
      ∙ sets-before (replicate n 0) map (start map) i h

  group_clear : (i : ℕ) → i < 32 → word_at (grouped map n a) (start map + i) ≡ 0
  group_clear i h =
      get_or-set_other (counted map n) (a / 1024) (start map + i) (given map + 1) 0 (λ e. omega (arith, page t a inside))
      ∙ get_or-set_other (emptied map n) 16384 (start map + i) (given map + 1) 0 (λ e. omega arith)
      ∙ cleared n i map (start map) (omega arith)

  group_other : (b : ℕ) → b < words → b / 1024 ≢ a / 1024 → group_of (grouped map n a) b ≡ group_of map b
  group_other b h d = group_low (b / 1024) (omega (arith, page t b h)) (λ e. omega (arith, page t b h)) d

  group_same : (b : ℕ) → b / 1024 ≡ a / 1024 → group_of (grouped map n a) b ≡ given map + 1
  group_same b e = ap (word_at (grouped map n a)) e ∙ group_own

  group_below : (b : ℕ) → b < words → group_of (grouped map n a) b ≤ given (grouped map n a)
  group_below b h = go (eqb (b / 1024) (a / 1024)) refl
    where
      go : (z : Bool) → eqb (b / 1024) (a / 1024) ≡ z → group_of (grouped map n a) b ≤ given (grouped map n a)
      go true e = omega (arith, group_same b (eqb-true _ _ e), group_count)
      go false e = omega (arith, group_other b h (eqb-false _ _ e), group_count, t.below b h)

  group_apart : (b c : ℕ) → b < words → c < words → group_of (grouped map n a) b ≢ 0 → group_of (grouped map n a) b ≡ group_of (grouped map n a) c
      → b / 1024 ≡ c / 1024
  group_apart b c h i x q = go (eqb (b / 1024) (a / 1024)) refl (eqb (c / 1024) (a / 1024)) refl
    where
      go : (y : Bool) → eqb (b / 1024) (a / 1024) ≡ y → (z : Bool) → eqb (c / 1024) (a / 1024) ≡ z → b / 1024 ≡ c / 1024
      go true e true f = eqb-true _ _ e ∙ sym (eqb-true _ _ f)
      go true e false f = absurd (omega (arith, q, group_same b (eqb-true _ _ e), group_other c i (eqb-false _ _ f), t.below c i))
      go false e true f = absurd (omega (arith, q, group_same c (eqb-true _ _ f), group_other b h (eqb-false _ _ e), t.below b h))
      go false e false f =
          let l = group_other b h (eqb-false _ _ e) in
          t.apart b c h i (λ z. x (l ∙ z)) (sym l ∙ q ∙ group_other c i (eqb-false _ _ f))

  module _ (unpaged : group_of map a ≡ 0) (room : spare map ≡ true) where
    group_told : (b : ℕ) → b < words → group_of (grouped map n a) b ≢ 0
        → bit (word_at (grouped map n a) (bit_place (group_of (grouped map n a) b) b)) (b % 32) ≡ has_pair ps b
    unfolding marked
    group_told b h x = go (eqb (b / 1024) (a / 1024)) refl (t.told b h)
      where
        go : (z : Bool) → eqb (b / 1024) (a / 1024) ≡ z
            → (group_of map b ≢ 0 → bit (word_at map (bit_place (group_of map b) b)) (b % 32) ≡ has_pair ps b)
            → bit (word_at (grouped map n a) (bit_place (group_of (grouped map n a) b) b)) (b % 32) ≡ has_pair ps b
        go true e before =
            let q = eqb-true (b / 1024) (a / 1024) e in
            ap (λ (g : ℕ). bit (word_at (grouped map n a) (bit_place g b)) (b % 32)) (group_same b q)
            ∙ ap (λ (w : ℕ). bit w (b % 32)) (group_clear (b % 1024 / 32) (omega arith))
            ∙ no-bit (b % 32)
            ∙ sym (t.none b h (ap (word_at map) q ∙ unpaged) room)
        go false e before =
            let l = group_other b h (eqb-false (b / 1024) (a / 1024) e) in
            let there = bit_place (group_of map b) b in
            let g : group_of map b ≢ 0 = λ z. x (l ∙ z) in
            let low : there < start map = omega (arith, t.below b h) in
            ap (λ (k : ℕ). bit (word_at (grouped map n a) (bit_place k b)) (b % 32)) l
            ∙ ap (λ (w : ℕ). bit w (b % 32)) (group_low there low (λ e. g (omega arith)) (λ e. omega (arith, page t a inside)))
            ∙ before g

    group_none : (b : ℕ) → b < words → group_of (grouped map n a) b ≡ 0 → has_pair ps b ≡ false
    group_none b h x = go (eqb (b / 1024) (a / 1024)) refl
      where
        go : (z : Bool) → eqb (b / 1024) (a / 1024) ≡ z → has_pair ps b ≡ false
        go true e = absurd (omega (arith, group_same b (eqb-true _ _ e)))
        go false e = t.none b h (sym (group_other b h (eqb-false _ _ e)) ∙ x) room

    group_tells : Tells (grouped map n a) journal ps words
    unfolding marked
    group_tells =
        record {
          most = t.most;
          long = omega (arith, group_count, group_size, spare-fits map room);
          below = group_below;
          apart = group_apart;
          told = group_told;
          none = λ b h z s. group_none b h z;
          front = t.front;
        }

-- a pair for a new address, marked as it is noted
pub one-noted : {map journal : List ℕ} {ps : List Pair} {words : ℕ} → Tells map journal ps words → (p : Pair) → p.address < words → has_pair ps p.address ≡ false
    → length ps < room_in journal → Tells (with_mark map p.address) (noted journal (length ps) p.address p.former) (ps ++ p ∷ []) words
unfolding with_mark with_group
one-noted {map} {journal} {ps} {words} t p inside new room =
    go (eqb (group_of map p.address) 0) refl (spare map) refl (one_more journal ps p t.front room)
  where
    go : (z : Bool) → eqb (group_of map p.address) 0 ≡ z → (s : Bool) → spare map ≡ s
        → take (2 * length (ps ++ p ∷ [])) (noted journal (length ps) p.address p.former) ≡ journal_words (ps ++ p ∷ [])
        → Tells (cond z (cond s (with_bit (grouped map 32 p.address) p.address) map) (with_bit map p.address))
        (noted journal (length ps) p.address p.former) (ps ++ p ∷ []) words
    go true e true f front =
        let own = group_own t p.address 32 inside refl in
        bit-noted (group_tells t p.address 32 inside refl (eqb-true _ _ e) f) p inside (λ z. omega (arith, own)) _ front
    go true e false f front = none-noted t p (eqb-true _ _ e) f _ front
    go false e s f front = bit-noted t p inside (eqb-false _ _ e) _ front

-- ---- no pairs

-- a map in which no page has a group
module _ (map journal : List ℕ) (words : ℕ) (most : words ≤ 16_777_216) (long : 16416 ≤ length map) (count : given map ≡ 0)
    (table : (a : ℕ) → a < words → group_of map a ≡ 0) where
  empty_told : Tells map journal [] words
  unfolding has_pair journal_words
  empty_told =
      record {
        most = most;
        long = omega (arith, count);
        below = λ a h. omega (arith, table a h);
        apart = λ a b h i n q. absurd (n (table a h));
        told = λ a h n. absurd (n (table a h));
        none = λ a h z s. refl;
        front = refl;
      }

no_word : (n i : ℕ) → word_at (replicate n 0) i ≡ 0
no_word zero i = refl
no_word (suc n) zero = refl
no_word (suc n) (suc i) = no_word n i

-- for any number of words, so that none are counted out
blank_told : (n : ℕ) → 16416 ≤ n → (journal : List ℕ) (words : ℕ) → words ≤ 16_777_216 → Tells (replicate n 0) journal [] words
blank_told n h journal words most =
    let size = length-replicate {A = ℕ} n 0 in
    empty_told (replicate n 0) journal words most (omega arith) (no_word n 16384) (λ a i. no_word n (a / 1024))

-- the map of a call that begins
pub none_told : (journal : List ℕ) (words : ℕ) → words ≤ 16_777_216 → Tells (replicate 49184 0) journal [] words
none_told journal words most = blank_told 49184 (omega arith) journal words most

-- and of a file that begins under rule 1
pub forgotten-told : {map journal : List ℕ} {ps : List Pair} {words : ℕ} → Tells map journal ps words
    → Tells (forgotten map (words / 1024 + 1)) journal [] words
unfolding forgotten
forgotten-told {map} {journal} {ps} {words} t =
    let pages = words / 1024 + 1 in
    let empty = sets map 0 (replicate pages 0) in
    let size = length-sets map 0 (replicate pages 0) in
    let gone : (i : ℕ) → i < pages → word_at empty i ≡ 0 = λ i h. let e : i ≡ 0 + i = omega arith in ap (word_at empty) e ∙ cleared pages i map 0 h in
    empty_told (store_word empty 16384 0) journal words t.most
    (omega (arith, length-set empty 16384 0, size, t.long))
    (get_or-set_same empty 16384 0 0 (omega (arith, size, t.long)))
    (λ a h. get_or-set_other empty 16384 (a / 1024) 0 0 (λ e. omega (arith, page t a h)) ∙ gone (a / 1024) (omega arith))
