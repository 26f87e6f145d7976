-- A series of gate runs is one gate run of all its clocks and resets.
use Rattle.gate_machine.specs.Calls.{gate_finished}
use Rattle.std.specs.Prelude.{Ok}
use Prim.Native.Nat.{ℕ, ◌+◌}
use mathlib.Core.Path.{◌≡◌, refl, sym, ap, ◌∙◌}
use mathlib.Core.Bool.{true}
use mathlib.Core.List.{List}
use Rattle.model.specs.declared.GateState.{GateState}
use Rattle.model.specs.Board.{Board}
use Rattle.model.specs.Resets.{rises, resets_from, resets_then}
use Rattle.model.specs.GateMachine.{Gate, gate, gate_run}
use Rattle.model.specs.Refusals.{verdict_number, gate_verdict}
use Rattle.model.specs.Agreement.{gate_from}
use Rattle.model.specs.Continuations.{gate_sum}
use Rattle.model.proofs.Resets.{left-rises, joined-rises}
use Rattle.model.proofs.Counts.{same-resets, continuation, one-run}
use Rattle.model.proofs.Valid.{resets-rise, next-accepted}
use Rattle.gate_machine.proofs.Answers.{not-refused, carried-out}
use Rattle.agreement.specs.Series.{Series, one, more, SeriesAsOne, SeriesAsCall, SeriesGoesOn, AnySplit, SplitAnywhere}

pub series-as-one : SeriesAsOne
series-as-one board memory start resets k f s m (one {r = r} h z) = carried-out memory board resets start k h (not-refused memory board resets start k h z)
series-as-one board memory start resets k f s m (more {resets = first} {later = later} {i = i} {f = f₁} {s = s₁} {m = m₁} {k = j} {r = r} {after = after} p h z) =
    let q = series-as-one board memory start first i f₁ s₁ m₁ p in
    let c = carried-out m₁ board later s₁ j h (not-refused m₁ board later s₁ j h z) in
    ap (λ (g : Gate). gate g.state g.memory (f₁ + g.finished)) c
    ∙ ap (λ (g : Gate). gate_sum g (gate_run board later j (gate_from g.state g.memory))) q
    ∙ one-run board first later start memory i j

-- another list that rises is taken too
other_resets : (memory : List ℕ) (board : Board) (resets later : List ℕ) (start : GateState) → gate_verdict memory board resets start ≡ Ok tt
    → rises later ≡ true → gate_verdict memory board later start ≡ Ok tt
unfolding gate_run
other_resets memory board resets later start v e = next-accepted memory board resets start v later (rw e) 0 refl

pub series-goes-on : SeriesGoesOn
series-goes-on board memory start resets k f s m (one h z) later l =
    let v = not-refused memory board resets start k h z in
    next-accepted memory board resets start v later (rw l) k (carried-out memory board resets start k h v)
series-goes-on board memory start resets k f s m (more {later = before} {s = s₁} {m = m₁} {k = j} p h z) later l =
    let v = not-refused m₁ board before s₁ j h z in
    next-accepted m₁ board before s₁ v later (rw l) j (carried-out m₁ board before s₁ j h v)

-- the whole list is taken
whole-taken : (board : Board) (memory : List ℕ) (start : GateState) (resets : List ℕ) (k f : ℕ) (s : GateState) (m : List ℕ)
    → Series board memory start resets k f s m → gate_verdict memory board resets start ≡ Ok tt
whole-taken board memory start resets k f s m (one h z) = not-refused memory board resets start k h z
whole-taken board memory start resets k f s m (more {resets = first} {later = later} {i = i} {f = f₁} {s = s₁} {m = m₁} {k = j} p h z) =
    let v = whole-taken board memory start first i f₁ s₁ m₁ p in
    let u = not-refused m₁ board later s₁ j h z in
    other_resets memory board first (resets_then i first later) start v
    (joined-rises i first later (resets-rise memory board first start v) (resets-rise m₁ board later s₁ u))

pub series-as-call : SeriesAsCall
series-as-call board memory start resets k f s m w r after h =
    let v = whole-taken board memory start resets k f s m w in
    (h.number ∙ ap verdict_number v, carried-out memory board resets start k h v ∙ sym (series-as-one board memory start resets k f s m w))

pub any_split : AnySplit
any_split board memory start k resets resets' same f s m w f' s' m' w' =
    series-as-one board memory start resets k f s m w
    ∙ same-resets board resets resets' k (gate_from start memory) same
    ∙ sym (series-as-one board memory start resets' k f' s' m' w')

pub split-anywhere : SplitAnywhere
split-anywhere board memory resets start i k whole words w z first words₁ h second words₂ d =
    let v = not-refused memory board resets start (i + k) w z in
    let p = carried-out memory board resets start i h v in
    let rest = resets_from i resets in
    let u = next-accepted memory board resets start v rest (rw (left-rises i resets (resets-rise memory board resets start v))) i p in
    let q = carried-out words₁ board rest first.state k d u in
    let e =
    carried-out memory board resets start (i + k) w v
    ∙ continuation board resets start memory i k
    ∙ ap (λ (g : Gate). gate_sum g (gate_run board rest k (gate_from g.state g.memory))) (sym p)
    ∙ ap (gate_sum (gate first.state words₁ (gate_finished first.outcome))) (sym q) in
    record {
      first_taken = h.number ∙ ap verdict_number v;
      second-taken = d.number ∙ ap verdict_number u;
      state = ap (λ (g : Gate). g.state) e;
      memory = ap (λ (g : Gate). g.memory) e;
      finished = ap (λ (g : Gate). g.finished) e;
    }
