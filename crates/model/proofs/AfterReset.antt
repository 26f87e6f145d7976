-- CR 7: the clocks after the last reset are a run without resets, and demand 3 holds counted from there.
use Prim.Native.Nat.{ℕ, zero, suc, ◌+◌, ◌-◌, ◌<◌}
use mathlib.Core.Path.{◌≡◌, refl, ap, subst, ◌∙◌}
use mathlib.Core.Bool.{Bool, true, false}
use mathlib.Core.List.{List, []}
use native.Mathlib.Omega.{arith}
use Rattle.model.specs.Resets.{is_reset}
use Rattle.model.specs.GateMachine.{on_state, reset_state, gate_run}
use Rattle.model.specs.Agreement.{Between, gate_from}
use Rattle.model.specs.Continuations.{gate_sum}
use Rattle.model.specs.AfterReset.{LastReset, Resetting, none, some, EveryRun, WithoutReset, AfterReset, AgreementAfterReset}
use Rattle.model.proofs.Cases.{up_to}
use Rattle.model.proofs.Counts.{same-resets, plain-on, reset-on, going_on}
use Rattle.model.proofs.Agreed.{agreement}

pub without_reset : WithoutReset
without_reset board resets k g h = same-resets board resets [] k g h

-- one clock more, a reset or not
one-more-clock : (resets : List ℕ) (k : ℕ) (t : Bool) → is_reset resets k ≡ t → Resetting resets k → Resetting resets (suc k)
one-more-clock resets k true e w =
    let l : LastReset resets k 0 = record { held = e; last = λ i h. absurd (omega arith) } in
    subst (Resetting resets) (omega arith) (some l)
one-more-clock resets k false e (none h) = none (up_to (λ (i : ℕ). is_reset resets i ≡ false) h e)
one-more-clock resets k false e (some {c = c} {k = j} l) =
    let more : LastReset resets c (suc j) = record { held = l.held; last = up_to (λ (i : ℕ). is_reset resets (c + 1 + i) ≡ false) l.last e } in
    subst (Resetting resets) (omega arith) (some more)

pub every_run : EveryRun
every_run resets zero =
    let empty : (i : ℕ) → i < 0 → is_reset resets i ≡ false = λ i h. absurd (omega arith) in
    none empty
every_run resets (suc k) = one-more-clock resets k (is_reset resets k) refl (every_run resets k)

pub after-reset : AfterReset
after-reset board resets s memory c k h =
    let before = gate_run board resets c (gate_from s memory) in
    plain-on board resets (c + 1) k (gate_from s memory) h.last
    ∙ ap (gate_run board [] k) (reset-on board resets c (gate_from s memory) h.held)
    ∙ going_on board [] k (on_state (λ memory. reset_state) before)

pub agreement-after-reset : AgreementAfterReset
agreement-after-reset board resets s memory n c k h =
    let first = gate_run board resets (c + 1) (gate_from s memory) in
    let rest = gate_run board [] k (gate_from first.state first.memory) in
    let whole : gate_run board resets (c + 1 + k) (gate_from s memory) ≡ gate_sum first rest = plain-on board resets (c + 1) k (gate_from s memory) h.last ∙ going_on board [] k first in
    let starts : Between first.state = rw (reset-on board resets c (gate_from s memory) h.held) (record { row = refl; begun = refl }) in
    let counts : first.finished + rest.finished - first.finished ≡ rest.finished = omega arith in
    rw whole (record { counts = omega arith; agrees = rw counts (agreement board first.state first.memory n k starts) })
