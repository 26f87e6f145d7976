-- When the journal is full.
use Rattle.interpreter.specs.declared.FileEnding.{FileEnding}
use Rattle.std.specs.Prelude.{Ok, Err}
use Prim.Native.Nat.{ℕ, zero, suc, ◌+◌, ◌≤◌, ◌<◌}
use mathlib.Core.Path.{◌≡◌, refl, sym, ap, ◌∙◌}
use mathlib.Core.Bool.{Bool, true, false, not, cond, ◌&&◌, true≢false}
use mathlib.Core.List.{List, [], ◌∷◌}
use native.Mathlib.Omega.{arith}
use lib.Dec.{leb}
use lib.ListN.{length, length-append}
use borrow.Author.Tests.{leb-true, leb-false, le-leb, lt-leb}
use Rattle.model.specs.declared.Machine.{Machine}
use Rattle.model.specs.Words.{word_at}
use Rattle.model.specs.Board.{Board}
use Rattle.model.specs.Interpreter.{goes_on, Run, begin, address_b, next_runs, alters_memory, execute, stop, advance, interpret}
use Rattle.model.specs.Journal.{Pair, stored_by, has_pair, noting, Noted, within, fresh, room_in, run_one, run_noted}
use Rattle.model.specs.Refusals.{file_verdict, Verdict}
use Rattle.model.proofs.Cases.{onward}
use Rattle.model.proofs.Runs.{one_more}
use Rattle.model.proofs.Journals.{by-room, full-stays, not-full-run, room-kept}
use Rattle.model.proofs.Verdicts.{accepted}
use Rattle.interpreter.specs.declared.FileResult.{FileResult}
use Rattle.interpreter.specs.Calls.{file_board, file_result, whole_file, file_returned}
use Rattle.traverses.specs.Traverse.{lay_one}
use Rattle.traverses.specs.Theorems.{needs_one_more, FullWhen, LaidFullWhen, FullThen, FullFrom}

module _ (room : ℕ) (k : Noted) (none : k.full ≡ false) (fits : length k.pairs ≤ room) (p : Pair) where
  -- by whether there is a store, and whether its address has a pair
  full_by : (s h : Bool) → has_pair k.pairs p.address ≡ h → (l : Bool) → leb room (length k.pairs) ≡ l
      → not (leb (length (noting k.pairs (cond s (p ∷ []) []))) room) ≡ (s && not (has_pair k.pairs p.address) && leb room (length k.pairs))
  unfolding noting
  full_by true true e l m = rw (e, le-leb (length k.pairs) room fits)
  full_by true false e true m =
      rw (e, m, length-append, lt-leb (length k.pairs + 1) room (omega (arith, leb-true room (length k.pairs) m)))
  full_by true false e false m =
      rw (e, m, length-append, le-leb (length k.pairs + 1) room (omega (arith, leb-false room (length k.pairs) m)))
  full_by false h e l m = rw (le-leb (length k.pairs) room fits)

  -- one more store, or none
  store-full : (s : Bool) (after : Run)
      → (within room k (cond s (p ∷ []) []) after).full ≡ (s && not (has_pair k.pairs p.address) && leb room (length k.pairs))
  unfolding within
  store-full s after =
      let stores = cond s (p ∷ []) [] in
      rw none
      (fullness (leb (length (noting k.pairs stores)) room) (record { run = after; pairs = noting k.pairs stores; full = false })
      (record { run = k.run; pairs = k.pairs; full = true }) refl refl
      ∙ full_by s (has_pair k.pairs p.address) refl (leb room (length k.pairs)) refl)
    where
      fullness : (b : Bool) (x y : Noted) → x.full ≡ false → y.full ≡ true → (cond b x y).full ≡ not b
      fullness true x y e f = e
      fullness false x y e f = f

pub full-when : FullWhen
unfolding run_one stored_by
full-when bottom room k none fits =
    let memory = k.run.memory in
    let m = k.run.machine in
    store-full room k none fits (record { address = address_b memory m; former = word_at memory (address_b memory m) })
    (goes_on k.run.ending && next_runs memory m && alters_memory memory m bottom) (advance (file_board bottom) k.run)

pub laid-full-when : LaidFullWhen
unfolding lay_one
laid-full-when room k place word none fits =
    store-full room k none fits (record { address = place; former = word_at k.run.memory place }) true _

-- ---- a file run: where it is full first

-- a run that has not stopped has run all its instructions
all-ran : (board : Board) (n : ℕ) (r : Run) → goes_on (interpret board n r).ending ≡ true → (interpret board n r).ran ≡ r.ran + n
unfolding interpret execute stop
all-ran board zero r e = omega arith
all-ran board (suc n) r e =
    one_more board (λ (x : Run). goes_on x.ending ≡ true → x.ran ≡ r.ran + suc n) (interpret board n r)
    (λ g _ _. omega (arith, all-ran board n r g))
    (λ _ t g. absurd (true≢false (sym g ∙ t)))
    (λ s g. absurd (true≢false (sym g ∙ s)))
    e

-- an instruction before which it is full changes nothing else
full-before : (board : Board) (room : ℕ) (k : Noted) → (run_one board room k).full ≡ true → (run_one board room k).run ≡ k.run
unfolding run_one
full-before board room k =
    by-room room (λ (x : Noted). x.full ≡ true → x.run ≡ k.run) k _ _ (λ _ _. refl) (λ _ _ g. absurd (true≢false (sym g))) (λ _ _ _. refl)

record First (board : Board) (room n : ℕ) (k : Noted) : Type 0 where
  at : ℕ
  less : at < n
  before : (run_noted board room at k).full ≡ false
  now : (run_one board room (run_noted board room at k)).full ≡ true
  run : (run_noted board room n k).run ≡ (run_noted board room at k).run

first-full : (board : Board) (room n : ℕ) (k : Noted) → k.full ≡ false → (run_noted board room n k).full ≡ true → First board room n k
unfolding run_noted
first-full board room zero k none e = absurd (true≢false (sym e ∙ none))
first-full board room (suc n) k none e = go (run_noted board room n k).full refl (λ f. first-full board room n k none f)
  where
    go : (b : Bool) → (run_noted board room n k).full ≡ b → ((run_noted board room n k).full ≡ true → First board room n k) → First board room (suc n) k
    go false f earlier =
        record { at = n; less = omega arith; before = f; now = e; run = full-before board room (run_noted board room n k) e }
    go true f earlier =
        let x = earlier f in
        record {
          at = x.at;
          less = omega (arith, x.less);
          before = x.before;
          now = x.now;
          run = ap (λ (y : Noted). y.run) (full-stays board room (run_noted board room n k) f) ∙ x.run;
        }

leading : (a b c d e : Bool) → ((a && b && c) && d && e) ≡ true → a ≡ true
leading true b c d e h = refl
leading false b c d e h = h

-- so many instructions have run where the next needs one more
module _ (memory : List ℕ) (bottom room : ℕ) (start : Machine) (i : ℕ) where
  abbrev here : Noted
  here = run_noted (file_board bottom) room i (fresh (begin start memory 0) [])

  ran-here : here.full ≡ false → needs_one_more bottom room here ≡ true → here.run.ran ≡ i
  ran-here none needs =
      let same = not-full-run (file_board bottom) room i (begin start memory 0) [] none in
      let m = here.run.machine in
      let stored = here.run.memory in
      let going : goes_on here.run.ending ≡ true =
      leading (goes_on here.run.ending) (next_runs stored m) (alters_memory stored m bottom) (not (has_pair here.pairs (address_b stored m)))
      (leb room (length here.pairs)) needs in
      ap (λ (r : Run). r.ran) same
      ∙ omega (arith, all-ran (file_board bottom) i (begin start memory 0) (ap (λ (r : Run). goes_on r.ending) (sym same) ∙ going))

  needs-here : here.full ≡ false → (run_one (file_board bottom) room here).full ≡ needs_one_more bottom room here
  needs-here none = full-when bottom room here none (room-kept (file_board bottom) room i (fresh (begin start memory 0) []) (omega arith))

-- "journal full" tells that the run was carried out
told-full : (v : Verdict) (start : Machine) (k : Noted) → (file_result v start k).answer ≡ Ok FileEnding.Full → (v ≡ Ok tt) × (k.full ≡ true)
told-full (Err why) start k e = (cc, cc)
told-full (Ok u) start k e = (refl, go k.full refl (goes_on k.run.ending) refl)
  where
    go : (f : Bool) → k.full ≡ f → (g : Bool) → goes_on k.run.ending ≡ g → k.full ≡ true
    go true p g q = p
    go false p true q = let z = rw (p, q) at e in cc
    go false p false q = let z = rw (p, q) at e in cc

pub full-then : FullThen
unfolding file_returned
full-then memory bottom journal start count memory' journal' r c e =
    let k = whole_file memory bottom journal start count in
    let (v, f) = told-full (file_verdict memory bottom) start k (sym (ap (λ (x : FileResult). x.answer) c.result) ∙ e) in
    let x = first-full (file_board bottom) (room_in journal) count (fresh (begin start memory 0) []) refl f in
    let needs = sym (needs-here memory bottom (room_in journal) start x.at x.before) ∙ x.now in
    let q = c.result ∙ ap (λ (w : Verdict). file_result w start k) v in
    let ran : r.ran ≡ x.at =
    ap (λ (y : FileResult). y.ran) q ∙ ap (λ (y : Run). y.ran) x.run ∙ ran-here memory bottom (room_in journal) start x.at x.before needs in
    rw ran (record { less = x.less; before = x.before; needs = needs })

pub full_from : FullFrom
unfolding file_returned run_noted
full_from memory bottom journal start count i t memory' journal' r c z =
    let board = file_board bottom in
    let room = room_in journal in
    let first = fresh (begin start memory 0) [] in
    let k = run_noted board room i first in
    let now : (run_one board room k).full ≡ true = needs-here memory bottom room start i t.before ∙ t.needs in
    let less : suc i ≤ count = omega (arith, t.less) in
    let end : run_noted board room count first ≡ run_one board room k =
    onward (λ (n : ℕ). run_noted board room n first ≡ run_one board room k) less refl
    (λ n _ p. ap (run_one board room) p ∙ full-stays board room (run_one board room k) now) in
    let v = accepted (file_verdict memory bottom) (sym c.number ∙ z) in
    let q = c.result ∙ ap (λ (w : Verdict). file_result w start (run_noted board room count first)) v in
    let full : (run_noted board room count first).full ≡ true = ap (λ (x : Noted). x.full) end ∙ now in (
      ap (λ (x : FileResult). x.answer) q ∙ rw full,
      ap (λ (x : FileResult). x.ran) q ∙ ap (λ (x : Noted). x.run.ran) end ∙ ap (λ (x : Run). x.ran) (full-before board room k now)
          ∙ ran-here memory bottom room start i t.before t.needs,
    )
