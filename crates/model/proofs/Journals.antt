-- Laws on a run with a journal of distinct addresses: where it is full, where it is not, and its pairs.
use Prim.Native.Nat.{ℕ, zero, suc, ◌+◌, ◌≤◌, ◌<◌}
use mathlib.Core.Path.{◌≡◌, refl, sym, ap, ◌∙◌}
use mathlib.Core.Bool.{Bool, true, false, cond, true≢false}
use mathlib.Core.List.{List, [], ◌∷◌, ◌++◌}
use native.Mathlib.Omega.{arith}
use lib.Dec.{leb}
use lib.ListN.{length, length-append}
use borrow.Author.Tests.{leb-true, leb-false, le-leb}
use Rattle.model.specs.Board.{Board}
use Rattle.model.specs.Interpreter.{Run, advance, interpret}
use Rattle.model.specs.Journal.{Pair, stored_by, has_pair, noting, Noted, within, run_one, run_noted, fresh, journal_pairs}
use Rattle.model.proofs.Cases.{pick}
use Rattle.model.proofs.Runs.{pairs-le}

-- ---- one step by its cases: it was full, there is room, it is full now

pub by-room : (room : ℕ) (P : Noted → Type 0) (k : Noted) (stores : List Pair) (after : Run)
    → (k.full ≡ true → P k)
    → (k.full ≡ false → length (noting k.pairs stores) ≤ room → P (fresh after (noting k.pairs stores)))
    → (k.full ≡ false → room < length (noting k.pairs stores) → P (record { run = k.run; pairs = k.pairs; full = true }))
    → P (within room k stores after)
unfolding within
by-room room P k stores after stays goes stops = go k.full refl (leb (length (noting k.pairs stores)) room) refl
  where
    go : (f : Bool) → k.full ≡ f → (b : Bool) → leb (length (noting k.pairs stores)) room ≡ b
        → P (cond f k (cond b (fresh after (noting k.pairs stores)) (record { run = k.run; pairs = k.pairs; full = true })))
    go true e b t = stays e
    go false e true t = goes e (leb-true _ _ t)
    go false e false t = stops e (leb-false _ _ t)

-- what each instruction keeps, a run keeps
pub run-keeps : (board : Board) (room : ℕ) (P : Noted → Type 0) → ((k : Noted) → P k → P (run_one board room k))
    → (n : ℕ) (k : Noted) → P k → P (run_noted board room n k)
unfolding run_noted
run-keeps board room P one zero k h = h
run-keeps board room P one (suc n) k h = one (run_noted board room n k) (run-keeps board room P one n k h)

-- ---- full, nothing changes any more

pub full-within : (room : ℕ) (k : Noted) (stores : List Pair) (after : Run) → k.full ≡ true → within room k stores after ≡ k
unfolding within
full-within room k stores after e = rw e

pub full-stays : (board : Board) (room : ℕ) (k : Noted) → k.full ≡ true → run_one board room k ≡ k
unfolding run_one
full-stays board room k e = full-within room k (stored_by board.bottom k.run) (advance board k.run) e

-- ---- not full, the run is the interpreter's

pub not-full-run : (board : Board) (room n : ℕ) (r : Run) (pairs : List Pair)
    → (run_noted board room n (fresh r pairs)).full ≡ false → (run_noted board room n (fresh r pairs)).run ≡ interpret board n r
unfolding run_noted run_one interpret
not-full-run board room zero r pairs e = refl
not-full-run board room (suc n) r pairs e =
    let k = run_noted board room n (fresh r pairs) in
    by-room room (λ (x : Noted). x.full ≡ false → x.run ≡ advance board (interpret board n r)) k (stored_by board.bottom k.run) (advance board k.run)
    (λ f g. absurd (true≢false (sym f ∙ g)))
    (λ f _ _. ap (advance board) (not-full-run board room n r pairs f))
    (λ _ _ g. absurd (true≢false g))
    e

-- ---- pairs noted

pub noting-length : (stores pairs : List Pair) → length (noting pairs stores) ≤ length pairs + length stores
unfolding noting
noting-length [] pairs = omega arith
noting-length (s ∷ ss) pairs =
    pick (λ (l : List Pair). length (noting l ss) ≤ length pairs + suc (length ss)) (has_pair pairs s.address)
    (omega (arith, noting-length ss pairs))
    (omega (arith, noting-length ss (pairs ++ s ∷ []), length-append pairs (s ∷ [])))

pub noting-append : (xs ys pairs : List Pair) → noting pairs (xs ++ ys) ≡ noting (noting pairs xs) ys
unfolding noting
noting-append [] ys pairs = refl
noting-append (x ∷ xs) ys pairs = noting-append xs ys (cond (has_pair pairs x.address) pairs (pairs ++ x ∷ []))

-- ---- room for a pair for each store: never full

pub goes_on_lem : (room : ℕ) (r after : Run) (pairs stores : List Pair) → length pairs + length stores ≤ room
    → within room (fresh r pairs) stores after ≡ fresh after (noting pairs stores)
unfolding within
goes_on_lem room r after pairs stores fits = rw (le-leb (length (noting pairs stores)) room (omega (arith, noting-length stores pairs)))

one_store : (board : Board) (r : Run) → length (stored_by board.bottom r) ≤ 1
unfolding journal_pairs interpret
one_store board r = pairs-le board 1 r

pub room-runs : (board : Board) (room n : ℕ) (r : Run) (pairs : List Pair) → length pairs + n ≤ room
    → run_noted board room n (fresh r pairs) ≡ fresh (interpret board n r) (noting pairs (journal_pairs board n r))
unfolding run_noted run_one interpret journal_pairs noting
room-runs board room zero r pairs fits = refl
room-runs board room (suc n) r pairs fits =
    let i = interpret board n r in
    let before = noting pairs (journal_pairs board n r) in
    ap (run_one board room) (room-runs board room n r pairs (omega arith))
    ∙ goes_on_lem room i (advance board i) before (stored_by board.bottom i)
    (omega (arith, one_store board i, noting-length (journal_pairs board n r) pairs, pairs-le board n r))
    ∙ ap (fresh (advance board i)) (sym (noting-append (journal_pairs board n r) (stored_by board.bottom i) pairs))

-- ---- never more pairs than there is room for

pub room-kept : (board : Board) (room n : ℕ) (k : Noted) → length k.pairs ≤ room → length (run_noted board room n k).pairs ≤ room
unfolding run_one
room-kept board room n k h =
    run-keeps board room (λ (x : Noted). length x.pairs ≤ room)
    (λ x p. by-room room (λ (y : Noted). length y.pairs ≤ room) x (stored_by board.bottom x.run) (advance board x.run) (λ _. p) (λ _ q. q) (λ _ _. p))
    n k h
