-- A run of the interpreter in two parts: the second one goes on from the machine, memory and list position of the first, and counts and
-- clocks add up.
use Prim.Native.Nat.{ℕ, zero, suc, ◌+◌}
use mathlib.Core.Path.{◌≡◌, refl, sym, ap, ◌∙◌}
use mathlib.Core.Bool.{Bool, true, false, cond, true≢false}
use native.Mathlib.Nat.{add-zero, add-suc, add_assoc}
use native.Mathlib.Omega.{arith}
use Rattle.model.specs.declared.Ending.{Ending}
use Rattle.model.specs.declared.Ending.TheVariants.{Finished, Outside, NoInstruction}
use Rattle.model.specs.Board.{Board}
use Rattle.model.specs.Interpreter.{goes_on, next_ending, next_runs, Run, begin, execute, stop, advance, interpret}
use Rattle.model.specs.Continuations.{RunContinuation}
use Rattle.model.proofs.Runs.{stopped-stays, stopped_by}

-- with so many more instructions and clocks counted
abbrev ahead : (ran clocks : ℕ) → Run → Run
ahead ran clocks r =
    record { machine = r.machine; memory = r.memory; position = r.position; ran = ran + r.ran; clocks = clocks + r.clocks; ending = r.ending }

module _ (board : Board) where
  run-add : (i n : ℕ) (r : Run) → interpret board (i + n) r ≡ interpret board n (interpret board i r)
  unfolding interpret
  run-add i zero r = rw add-zero
  run-add i (suc n) r = rw add-suc (ap (advance board) (run-add i n r))

  module _ (ran clocks : ℕ) where
    -- no instruction looks at the counts
    execute-ahead : (r : Run) → execute board (ahead ran clocks r) ≡ ahead ran clocks (execute board r)
    unfolding execute
    execute-ahead r = rw (add_assoc ran, add_assoc clocks)

    advance-ahead : (r : Run) → advance board (ahead ran clocks r) ≡ ahead ran clocks (advance board r)
    unfolding advance stop
    advance-ahead r = go (goes_on r.ending) (goes_on next)
      where
        next : Ending
        next = next_ending r.memory r.machine

        go : (s t : Bool) → cond s (cond t (execute board (ahead ran clocks r)) (stop next (ahead ran clocks r))) (ahead ran clocks r)
            ≡ ahead ran clocks (cond s (cond t (execute board r) (stop next r)) r)
        go true true = execute-ahead r
        go true false = refl
        go false t = refl

    run-ahead : (n : ℕ) (r : Run) → interpret board n (ahead ran clocks r) ≡ ahead ran clocks (interpret board n r)
    unfolding interpret
    run-ahead zero r = refl
    run-ahead (suc n) r = ap (advance board) (run-ahead n r) ∙ advance-ahead (interpret board n r)

-- a run that did not stop is one that begins, with its counts
afresh : (r : Run) → r.ending ≡ Finished → r ≡ ahead r.ran r.clocks (begin r.machine r.memory r.position)
afresh r e =
    λ i. record { machine = r.machine; memory = r.memory; position = r.position; ran = sym (add-zero r.ran) i; clocks = sym (add-zero r.clocks) i; ending = e i }

goes_on_lem : (e : Ending) → goes_on e ≡ true → e ≡ Finished
goes_on_lem Finished q = refl
goes_on_lem Outside q = absurd (true≢false (sym q))
goes_on_lem NoInstruction q = absurd (true≢false (sym q))

-- a run that does nothing, with some ending
record Stands (begun r : Run) : Type 0 where
  ending : Ending
  same : r ≡ stop ending begun

-- a run that begins before an instruction that does not run does nothing
stands : (board : Board) (begun : Run) → next_runs begun.memory begun.machine ≡ false → (n : ℕ) → Stands begun (interpret board n begun)
unfolding interpret advance stop
stands board begun h zero = record { ending = begun.ending; same = refl }
stands board begun h (suc n) = go (stands board begun h n)
  where
    one : (e : Ending) (t : Bool) → goes_on e ≡ t → Stands begun (advance board (stop e begun))
    one e true q = record { ending = next_ending begun.memory begun.machine; same = rw (q, h) }
    one e false q = record { ending = e; same = rw q }

    go : Stands begun (interpret board n begun) → Stands begun (advance board (interpret board n begun))
    go s = rw s.same (one s.ending (goes_on s.ending) refl)

pub run-continuation : RunContinuation
unfolding stop
run-continuation board m memory position i n = go (goes_on first.ending) refl
  where
    start : Run
    start = begin m memory position

    first : Run
    first = interpret board i start

    next : Run
    next = begin first.machine first.memory first.position

    -- the sum, by whether the first goes on
    sum : Bool → Run → Run
    sum t second =
        record { machine = second.machine; memory = second.memory; position = second.position; ran = first.ran + second.ran; clocks = first.clocks + second.clocks; ending = cond t second.ending first.ending }

    go : (t : Bool) → goes_on first.ending ≡ t → interpret board (i + n) start ≡ sum t (interpret board n next)
    go true q = run-add board i n start ∙ ap (interpret board n) (afresh first (goes_on_lem first.ending q)) ∙ run-ahead board first.ran first.clocks n next
    go false q =
        let still = stands board next (ap goes_on (sym (stopped_by board i start refl q)) ∙ q) n in
        stopped-stays board start (omega arith) q
        ∙ (λ j. record { machine = first.machine; memory = first.memory; position = first.position; ran = sym (add-zero first.ran) j; clocks = sym (add-zero first.clocks) j; ending = first.ending })
        ∙ ap (sum false) (sym still.same)
