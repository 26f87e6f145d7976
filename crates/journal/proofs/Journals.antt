-- Taking pairs back: a journal's places are its list of pairs; taken back once more, they change nothing.
use Prim.Native.Nat.{ℕ, zero, suc, ◌+◌, ◌-◌, ◌*◌, ◌≤◌, ◌<◌}
use mathlib.Core.Path.{◌≡◌, refl, sym, ap, ap₂, ◌∙◌}
use mathlib.Core.Bool.{Bool, true, false}
use mathlib.Core.List.{List, [], ◌∷◌, ◌++◌, append-nil, append_assoc}
use native.Mathlib.Numerals.{add-one}
use native.Mathlib.Omega.{arith}
use lib.Dec.{eqb}
use lib.ListN.{length, length-append}
use lib.Seq.{get_or-append-add, set-set, set_comm}
use borrow.Author.Tests.{eqb-true, eqb-false}
use Rattle.model.specs.Words.{word_at, store_word}
use Rattle.model.specs.Journal.{Pair, journal_words}
use Rattle.model.proofs.Runs.{words-length, words_append}
use Rattle.journal.specs.Undo.{undone, restored}

pub undone-none : (k : ℕ) (journal memory : List ℕ) → k ≤ 0 → memory ≡ undone k journal memory
unfolding undone
undone-none zero journal memory h = refl
undone-none (suc k) journal memory h = absurd (omega arith)

pub undone-more : (k : ℕ) (journal memory : List ℕ) → 0 < k
    → undone (k - 1) journal (store_word memory (word_at journal (2 * (k - 1))) (word_at journal (2 * (k - 1) + 1))) ≡ undone k journal memory
unfolding undone
undone-more zero journal memory h = absurd (omega arith)
undone-more (suc k) journal memory h = let e : suc k - 1 ≡ k = omega arith in rw e

-- the pair after those of ps
last-pair : (ps : List Pair) (p : Pair) (rest memory : List ℕ)
    → undone (length (ps ++ (p ∷ []))) (journal_words (ps ++ (p ∷ [])) ++ rest) memory
    ≡ undone (length ps) (journal_words ps ++ (p.address ∷ p.former ∷ rest)) (store_word memory p.address p.former)
unfolding undone journal_words
last-pair ps p rest memory =
    let k : length (ps ++ (p ∷ [])) ≡ suc (length ps) = length-append ps (p ∷ []) ∙ add-one (length ps) in
    let tail : List ℕ = p.address ∷ p.former ∷ rest in
    let w : journal_words (ps ++ (p ∷ [])) ++ rest ≡ journal_words ps ++ tail =
    ap (λ (l : List ℕ). l ++ rest) (words_append ps (p ∷ [])) ∙ append_assoc (journal_words ps) _ rest in
    let l : 2 * length ps ≡ length (journal_words ps) + 0 = omega (arith, words-length ps) in
    let m : 2 * length ps + 1 ≡ length (journal_words ps) + 1 = omega (arith, words-length ps) in
    let x : word_at (journal_words ps ++ tail) (2 * length ps) ≡ p.address =
    ap (word_at (journal_words ps ++ tail)) l ∙ get_or-append-add (journal_words ps) tail 0 0 in
    let y : word_at (journal_words ps ++ tail) (2 * length ps + 1) ≡ p.former =
    ap (word_at (journal_words ps ++ tail)) m ∙ get_or-append-add (journal_words ps) tail 1 0 in
    ap₂ (λ (i : ℕ) (j : List ℕ). undone i j memory) k w
    ∙ ap₂ (λ (a f : ℕ). undone (length ps) (journal_words ps ++ tail) (store_word memory a f)) x y

-- a journal's places taken back are its list of pairs taken back
taken_back : (before ps : List Pair) (rest memory : List ℕ)
    → undone (length (before ++ ps)) (journal_words (before ++ ps) ++ rest) memory
    ≡ undone (length before) (journal_words before ++ (journal_words ps ++ rest)) (restored ps memory)
unfolding restored journal_words
taken_back before [] rest memory = rw append-nil
taken_back before (p ∷ ps) rest memory =
    ap (λ (l : List Pair). undone (length l) (journal_words l ++ rest) memory) (sym (append_assoc before (p ∷ []) ps))
    ∙ taken_back (before ++ p ∷ []) ps rest memory
    ∙ last-pair before p (journal_words ps ++ rest) (restored ps memory)

pub undone-restores : (ps : List Pair) (rest memory : List ℕ) → undone (length ps) (journal_words ps ++ rest) memory ≡ restored ps memory
unfolding undone
undone-restores ps rest memory = taken_back [] ps rest memory

-- ---- a list of pairs

pub restored-append : (ps qs : List Pair) (memory : List ℕ) → restored (ps ++ qs) memory ≡ restored ps (restored qs memory)
unfolding restored
restored-append [] qs memory = refl
restored-append (p ∷ ps) qs memory = ap (λ (m : List ℕ). store_word m p.address p.former) (restored-append ps qs memory)

-- what stood at an address does not show where it is put back last
covered : (ps : List Pair) (memory : List ℕ) (a w x : ℕ) → store_word (restored ps (store_word memory a w)) a x ≡ store_word (restored ps memory) a x
unfolding restored
covered [] memory a w x = set-set memory a w x
covered (p ∷ ps) memory a w x = go (eqb p.address a) refl (covered ps memory a w x)
  where
    go : (t : Bool) → eqb p.address a ≡ t → store_word (restored ps (store_word memory a w)) a x ≡ store_word (restored ps memory) a x
        → store_word (store_word (restored ps (store_word memory a w)) p.address p.former) a x
        ≡ store_word (store_word (restored ps memory) p.address p.former) a x
    go true e less =
        let q = eqb-true p.address a e in
        rw q (set-set (restored ps (store_word memory a w)) a p.former x ∙ less ∙ sym (set-set (restored ps memory) a p.former x))
    go false e less =
        let q = eqb-false p.address a e in
        set_comm (restored ps (store_word memory a w)) p.address a p.former x q ∙ ap (λ (m : List ℕ). store_word m p.address p.former) less
        ∙ sym (set_comm (restored ps memory) p.address a p.former x q)

-- pairs that are taken back once more change nothing
pub restored-again : (ps : List Pair) (memory : List ℕ) → restored ps (restored ps memory) ≡ restored ps memory
unfolding restored
restored-again [] memory = refl
restored-again (p ∷ ps) memory =
    covered ps (restored ps memory) p.address p.former p.former
    ∙ ap (λ (m : List ℕ). store_word m p.address p.former) (restored-again ps memory)
