-- In row 12 no clock changes anything, so a call in it leaves what it was lent, carried out or turned down.
use Rattle.std.specs.Prelude.{Ok, Err}
use Prim.Native.Nat.{ℕ, ◌<◌}
use mathlib.Core.Path.{◌≡◌, refl, ap, ◌∙◌}
use mathlib.Core.Bool.{false}
use mathlib.Core.List.{List, []}
use Rattle.model.specs.declared.GateState.{GateState}
use Rattle.model.specs.Board.{Board}
use Rattle.model.specs.Resets.{is_reset}
use Rattle.model.specs.GateMachine.{Gate, gate_run}
use Rattle.model.specs.Refusals.{left_by, gate_verdict, Verdict}
use Rattle.model.specs.Agreement.{gate_from}
use Rattle.model.proofs.Clocks.{halted-stands}
use Rattle.model.proofs.Blocked.{stands}
use Rattle.model.proofs.AfterReset.{without_reset}
use Rattle.gate_machine.specs.Calls.{gate_result, gate_returned, gate_words, gate_finished}
use Rattle.agreement.specs.Halted.{Unchanged, HaltedRun, HaltedClock}

module _ (memory : List ℕ) (board : Board) (resets : List ℕ) (s : GateState) (k : ℕ) (e : s.row ≡ 12) (none : (i : ℕ) → i < k → is_reset resets i ≡ false) where
  -- what a gate run returns and leaves, by its verdict
  by-verdict : (v : Verdict) (g : Gate) → g ≡ gate_from s memory → let r = gate_result v s g in
      Unchanged memory s (left_by v g.memory memory) r.state (gate_finished r.outcome)
  by-verdict (Ok u) g q =
      record { state = ap (λ (g : Gate). g.state) q; words = ap (λ (g : Gate). g.memory) q; finished = ap (λ (g : Gate). g.finished) q }
  by-verdict (Err why) g q = record { state = refl; words = refl; finished = refl }

  unchanged : let r = gate_returned memory board resets s k in Unchanged memory s (gate_words memory board resets s k) r.state (gate_finished r.outcome)
  unfolding gate_returned gate_words
  unchanged =
      by-verdict (gate_verdict memory board resets s) (gate_run board resets k (gate_from s memory))
      (without_reset board resets k (gate_from s memory) none ∙ stands board (halted-stands board (gate_from s memory) e) k)

pub halted-run : HaltedRun
halted-run memory board resets s k e none r memory' h = rw (h.result, h.words) (unchanged memory board resets s k e none)

pub halted-clock : HaltedClock
halted-clock memory board s e r s' memory' h = rw (h.result, h.advanced, h.words) (unchanged memory board [] s 1 e (λ i _. refl))
