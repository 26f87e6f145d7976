-- One clock, as the code takes it apart: the access protocol, then the row's work. Document 01, "Clocks"; CR 6.
use Rattle.std.specs.Prelude.{ℕ, ◌≡◌, Bool, true, false, not, cond, List, eqb}
use Rattle.model.specs.declared.GateState.{GateState}
use Rattle.model.specs.Board.{Board}
use Rattle.model.specs.GateMachine.{gate, remaining, position_now, clock}
use Rattle.gate_rows.specs.Work.{counted}
use Rattle.gate_machine.specs.declared.access.Grant.{Grant}

-- an acknowledged access with `left` clocks after this one, at position p: on the last one the row works
abbrev pub acknowledged_at : (left p : ℕ) → Grant
acknowledged_at left p = record { position = p; left = left; begun = not (eqb left 0); works = eqb left 0; stuck = false }

-- the access as it was; where no work is done, no later clock does any
abbrev pub untouched_at : Bool → GateState → Grant
untouched_at works s = record { position = s.position; left = s.left; begun = s.begun; works = works; stuck = not works }

-- a row that is no access works at once; an absent address is never acknowledged
unfoldable pub grant_of : (access here : Bool) → List ℕ → GateState → Grant
grant_of access here waits s =
    cond access
    (cond here (acknowledged_at (remaining waits s) (position_now waits s)) (untouched_at false s))
    (untouched_at true s)

-- state, memory and count after one clock of the model
abbrev pub Ticks : Board → GateState → List ℕ → GateState → Bool → List ℕ → Type 0
Ticks board s memory s' finished memory' =
    (f : ℕ) → gate s' memory' (counted finished f) ≡ clock board (gate s memory f)

-- where the machine is stuck, no clock changes anything
abbrev pub Stands : Board → GateState → List ℕ → Bool → Type 0
Stands board s memory stuck = stuck ≡ true → (f : ℕ) → clock board (gate s memory f) ≡ gate s memory f
