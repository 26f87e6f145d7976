-- The wait list changes neither machine, memory, count nor ending of a run.
use Prim.Native.Nat.{ℕ, zero, suc}
use mathlib.Core.Path.{◌≡◌, refl, sym, ap, ◌∙◌}
use mathlib.Core.Bool.{Bool, true, false, cond}
use mathlib.Core.List.{List, []}
use Rattle.model.specs.declared.Ending.{Ending}
use Rattle.model.specs.Board.{board_with}
use Rattle.model.specs.Interpreter.{goes_on, next_ending, next_runs, Run, execute, stop, advance, interpret}
use Rattle.model.specs.Waiting.{Work, work_of, WaitsOnlyWait}

-- a run that did this work, with no clocks and at the head of its list
abbrev bare : Work → Run
bare w = record { machine = w.machine; memory = w.memory; position = 0; ran = w.ran; clocks = 0; ending = w.ending }

module _ (bottom : ℕ) where
  -- one more instruction's work
  next : Work → Work
  next w = work_of (advance (board_with bottom []) (bare w))

  advance-work : (waits : List ℕ) (r : Run) → work_of (advance (board_with bottom waits) r) ≡ next (work_of r)
  unfolding next advance execute stop
  advance-work waits r = go (goes_on r.ending) (next_runs r.memory r.machine)
    where
      why : Ending
      why = next_ending r.memory r.machine

      go : (s t : Bool)
          → work_of (cond s (cond t (execute (board_with bottom waits) r) (stop why r)) r)
          ≡ work_of (cond s (cond t (execute (board_with bottom []) (bare (work_of r))) (stop why (bare (work_of r)))) (bare (work_of r)))
      go true true = refl
      go true false = refl
      go false t = refl

pub waits-only-wait : WaitsOnlyWait
unfolding interpret
waits-only-wait bottom waits waits' start memory p p' zero = refl
waits-only-wait bottom waits waits' start memory p p' (suc n) =
    advance-work bottom waits _ ∙ ap (next bottom) (waits-only-wait bottom waits waits' start memory p p' n) ∙ sym (advance-work bottom waits' _)
