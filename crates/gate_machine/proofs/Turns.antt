-- Laws for the gate machine's code: the clock as access and work, and one turn of the loop.
use Prim.Native.Nat.{ℕ, ◌+◌, ◌≤◌, ◌<◌}
use mathlib.Core.Path.{◌≡◌, refl, sym, ap, ◌∙◌}
use mathlib.Core.Bool.{Bool, true, false, cond, true≢false}
use mathlib.Core.List.{List, []}
use native.Mathlib.Numerals.{add-one}
use native.Mathlib.Omega.{arith}
use lib.Dec.{ltb, eqb-suc-zero}
use lib.ListN.{length}
use Rattle.arithmetic.specs.Words.{as_number}
use Rattle.model.specs.declared.GateState.{GateState}
use Rattle.model.specs.Words.{present}
use Rattle.model.specs.Board.{Board}
use Rattle.model.specs.GateMachine.{Gate, gate, with_access, work, is_access, remaining, position_now, clock, gate_run}
use Rattle.model.specs.Agreement.{gate_from}
use Rattle.model.proofs.Clocks.{halted-stands, one-clock}
use Rattle.model.proofs.Progress.{finished-slow}
use Rattle.model.proofs.Blocked.{absent, stands_on}
use Rattle.step_table.specs.declared.Step.{Step}
use Rattle.step_table.specs.Table.{step_of, marks_access, marks_finish, marks_stay}
use Rattle.step_table.proofs.Table.{access-mark}
use Rattle.gate_rows.specs.declared.latches.Latches.{Latches}
use Rattle.gate_rows.specs.Work.{state_of, Works}
use Rattle.gate_rows.proofs.Steps.{counted_is, worked, stays_on}
use Rattle.gate_machine.specs.declared.access.Grant.{Grant}
use Rattle.gate_machine.specs.Clock.{grant_of, Ticks, Stands}

-- ---- one clock is the access, then the row's work

module _ (board : Board) (s : GateState) (memory : List ℕ) where
  abbrev with_grant : Grant → GateState
  with_grant g = with_access g.position g.begun g.left s

  -- the work where the access grants it
  abbrev granting : ℕ → Grant → Gate
  granting f g = cond g.works (work board.bottom (gate (with_grant g) memory f)) (gate (with_grant g) memory f)

  clocked : (access : Bool) → access ≡ is_access s.row → (f : ℕ)
      → granting f (grant_of access (present memory s.address) board.waits s) ≡ clock board (gate s memory f)
  unfolding clock grant_of
  clocked access e f =
      one-clock board (gate s memory f)
      (λ (c : Gate → Gate). granting f (grant_of access (present memory s.address) board.waits s) ≡ c (gate s memory f))
      (λ a h r. rw (e, a, h, r))
      (λ a h w r. rw (e, a, h, r, eqb-suc-zero))
      (λ a h. rw (e, a, h))
      (λ a. rw (e, a))

  -- only an absent address leaves the machine stuck
  stuck_at : (access here : Bool) → (grant_of access here board.waits s).stuck ≡ true → (access ≡ true) × (here ≡ false)
  unfolding grant_of
  stuck_at true true e = absurd (true≢false (sym e))
  stuck_at true false e = (refl, refl)
  stuck_at false here e = absurd (true≢false (sym e))

-- latches with the access as granted
abbrev taking : Grant → Latches → Latches
taking g s =
    record {
      flags = s.flags;
      instruction = s.instruction;
      address = s.address;
      a = s.a;
      b = s.b;
      result = s.result;
      position = g.position;
      left = g.left;
      row = s.row;
      begun = g.begun;
    }

module _ (board : Board) (s : Latches) (regs memory : List ℕ) (step : Step) (own : step ≡ step_of s.row)
    {g : Grant} (said : g ≡ grant_of (marks_access step) (ltb s.address (length memory)) board.waits (state_of [] s)) where
  granted : (f : ℕ) → granting board (state_of regs s) memory f g ≡ clock board (gate (state_of regs s) memory f)
  unfolding grant_of remaining position_now
  granted f =
      ap (granting board (state_of regs s) memory f) said
      ∙ clocked board (state_of regs s) memory (marks_access step) (ap marks_access own ∙ access-mark s.row) f

  stuck_on : Stands board (state_of regs (taking g s)) memory g.stuck
  stuck_on e f =
      let gone = stuck_at board (state_of [] s) memory (marks_access step) (ltb s.address (length memory)) (rw said at e) in
      absent board (gate (state_of regs (taking g s)) memory f) (sym (ap marks_access own ∙ access-mark s.row) ∙ gone.0) gone.1

  -- where no work is done, and where it is
  pub waits-on : g.works ≡ false
      → Ticks board (state_of regs s) memory (state_of regs (taking g s)) false memory × Stands board (state_of regs (taking g s)) memory g.stuck
  waits-on w = (λ f. rw w at (granted f), stuck_on)

  pub works-on : g.works ≡ true → {t : Latches} {regs' memory' : List ℕ} → Works board.bottom (taking g s) step regs memory t regs' memory'
      → Ticks board (state_of regs s) memory (state_of regs' t) (marks_finish step) memory' × Stands board (state_of regs' t) memory' (marks_stay step)
  works-on w h = (
    λ f. worked board.bottom (taking g s) step regs memory own h f ∙ (rw w at (granted f)),
    λ e f. halted-stands board _ (stays_on board.bottom (taking g s) step regs memory own e h),
  )

-- ---- one turn of the loop

module _ (board : Board) (i : ℕ) (g : Gate) {s : GateState} {m : List ℕ} {f : ℕ} (e : gate s m f ≡ gate_run board [] i g) where
  pub ticked : {t : GateState} (b : Bool) {l : List ℕ} → Ticks board s m t b l → gate t l (f + as_number b) ≡ gate_run board [] (i + 1) g
  unfolding gate_run
  ticked {t} b {l} h = ap (gate t l) (counted_is b f) ∙ h f ∙ ap (clock board) e ∙ sym (ap (λ (x : ℕ). gate_run board [] x g) (add-one i))

  -- a machine that is stuck after a clock stands as it will after all the clocks
  pub stuck-ends : {clocks : ℕ} → i < clocks → {t : GateState} (b : Bool) {l : List ℕ} {stuck : Bool} → Ticks board s m t b l → Stands board t l stuck → stuck ≡ true
      → gate t l (f + as_number b) ≡ gate_run board [] clocks g
  stuck-ends {clocks} less b h stands p = stands_on board [] (i + 1) clocks g (ticked b h) (stands p _) (λ c _ _. refl) (omega arith)

-- no clock of a run finishes more than one instruction
pub finished-le : (board : Board) (memory : List ℕ) (i : ℕ) (begun : GateState) {s : GateState} {m : List ℕ} {f : ℕ}
    → gate s m f ≡ gate_run board [] i (gate_from begun memory) → f ≤ i
finished-le board memory i begun e = omega (arith, ap (λ (x : Gate). x.finished) e, finished-slow board [] i (gate_from begun memory))
