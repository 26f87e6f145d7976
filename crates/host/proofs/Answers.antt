-- The exported calls over the calls that they pass on: what is lent has not the layout's lengths, or it has, and the call within ended so.
use Rattle.model.specs.declared.Refusal.{Refusal}
use Rattle.std.specs.Prelude.{Result, Option, Some, None}
use Rattle.model.specs.declared.Machine.{Machine}
use Prim.Native.Nat.{ℕ, ◌%◌}
use mathlib.Core.Path.{◌≡◌, sym, ◌∙◌}
use mathlib.Core.Logic.{◌≢◌}
use mathlib.Core.Bool.{Bool, true, false, not, cond}
use mathlib.Core.List.{List, []}
use lib.Dec.{eqb}
use lib.ListN.{length}
use borrow.Author.Tests.{eq-eqb, ne_eqb}
use Rattle.model.specs.declared.GateState.{GateState}
use Rattle.model.specs.Board.{Board, board_with}
use Rattle.interpreter.specs.declared.RunResult.{RunResult}
use Rattle.interpreter.specs.declared.FileResult.{FileResult}
use Rattle.interpreter.specs.Calls.{Runs, FileRuns}
use Rattle.gate_machine.specs.declared.GateResult.{GateResult}
use Rattle.gate_machine.specs.Calls.{GateRuns}
use Rattle.lent_clock.specs.Calls.{LentClock}
use Rattle.image.specs.declared.ReadResult.{ReadResult}
use Rattle.image.specs.Calls.{Reads, Writes}
use Rattle.traverses.specs.declared.TraverseResult.{TraverseResult}
use Rattle.traverses.specs.Calls.{Traverses}
use Rattle.host_reading.specs.Layout.{three_places, two_places, one_place, file_size, machine_size, state_size, lent_formed, machine_lent, state_lent}
use Rattle.host_reading.proofs.Lengths.{lent-tests}
use Rattle.host_reading.proofs.Starts.{machine-misfits, machine-starts, state-misfits, state-starts}
use Rattle.host_calls.specs.Codes.{misfit, code_if, after_call}
use Rattle.host_calls.specs.Calls.{RunCall, FileCall, GateCall, TraverseCall, ReadCall, WriteCall}
use Rattle.host_ends.specs.Ends.{Ends, RunEnds, FileEnds, GateEnds, TraverseEnds, ReadEnds, WriteEnds}
use Rattle.host_ends.proofs.Fitting.{ends-fitting}

-- the end of a call on a lent machine that is formed
module _ (machine result : List ℕ) (due : ℕ) (lent : Option Machine) (e : lent ≡ machine_lent machine (length result) due)
    {start : Machine} (n : lent ≡ Some start) where
  ended : {written : ℕ → Bool} {code : ℕ} {words counts machine' result' : List ℕ} {number : ℕ}
      → Ends written code machine_size words due counts machine result machine' result' number
      → let comes = code_if (lent_formed machine_size due (length machine) (length result)) code in
      (number ≡ comes) × (machine' ≡ cond (written comes) words machine) × (result' ≡ after_call comes counts result)
  ended g =
      let (f, begun) = machine-starts machine (length result) due (sym n ∙ e) in
      ends-fitting _ _ f machine_size due _ _ _ machine result _ _ _ (lent-tests machine_size due (length machine) (length result) f) g

module _ (memory : List ℕ) (bottom : ℕ) (waits : List ℕ) (position : ℕ) (machine : List ℕ) (count : ℕ) (result : List ℕ) (lent : Option Machine)
    (e : lent ≡ machine_lent machine (length result) three_places) where
  pub run-misfit : lent ≡ None → RunCall memory bottom waits position machine count result memory machine result misfit
  run-misfit n =
      let f = machine-misfits machine (length result) three_places (sym n ∙ e) in
      record { returned = rw f; words = rw f; parts = rw f; numbers = rw f }

  pub run-formed : {start : Machine} → lent ≡ Some start → (r : RunResult) (memory' : List ℕ) → Runs memory (board_with bottom waits) position start count memory' r
      → (machine' result' : List ℕ) (number : ℕ) → RunEnds r machine result machine' result' number
      → RunCall memory bottom waits position machine count result memory' machine' result' number
  run-formed n r memory' runs machine' result' number g =
      let (f, begun) = machine-starts machine (length result) three_places (sym n ∙ e) in
      let same = rw begun at runs.result in
      let ends = ended machine result three_places lent e n g in
      record {
        returned = rw (← same) ends.0;
        words = rw f (rw begun at runs.words);
        parts = rw (← same) ends.1;
        numbers = rw (← same) ends.2;
      }

module _ (memory : List ℕ) (bottom : ℕ) (journal machine : List ℕ) (count : ℕ) (result : List ℕ) (lent : Option Machine)
    (e : lent ≡ machine_lent machine (length result) two_places) where
  pub file-misfit : lent ≡ None → FileCall memory bottom journal machine count result memory journal machine result misfit
  file-misfit n =
      let f = machine-misfits machine (length result) two_places (sym n ∙ e) in
      record { returned = rw f; words = rw f; places = rw f; parts = rw f; numbers = rw f }

  pub file-formed : {start : Machine} → lent ≡ Some start → (r : FileResult) (memory' journal' : List ℕ)
      → FileRuns memory bottom journal start count memory' journal' r → (machine' result' : List ℕ) (number : ℕ)
      → FileEnds r machine result machine' result' number
      → FileCall memory bottom journal machine count result memory' journal' machine' result' number
  file-formed n r memory' journal' runs machine' result' number g =
      let (f, begun) = machine-starts machine (length result) two_places (sym n ∙ e) in
      let same = rw begun at runs.result in
      let ends = ended machine result two_places lent e n g in
      record {
        returned = rw (← same) ends.0;
        words = rw f (rw begun at runs.words);
        places = rw f (rw begun at runs.places);
        parts = rw (← same) ends.1;
        numbers = rw (← same) ends.2;
      }

module _ (memory : List ℕ) (bottom : ℕ) (waits resets state : List ℕ) (clocks : ℕ) (result : List ℕ) (lent : Option GateState) (e : lent ≡ state_lent state (length result)) where
  pub gate-misfit : lent ≡ None → GateCall memory bottom waits resets state clocks result memory state result misfit
  gate-misfit n =
      let f = state-misfits state (length result) (sym n ∙ e) in
      record { returned = rw f; words = rw f; parts = rw f; numbers = rw f }

  pub gate-formed : {start : GateState} → lent ≡ Some start → (r : GateResult) (memory' : List ℕ) → GateRuns memory (board_with bottom waits) resets start clocks memory' r
      → (state' result' : List ℕ) (number : ℕ) → GateEnds r state result state' result' number
      → GateCall memory bottom waits resets state clocks result memory' state' result' number
  gate-formed n r memory' runs state' result' number g =
      let (f, begun) = state-starts state (length result) (sym n ∙ e) in
      let same = rw begun at runs.result in
      let h = lent-tests state_size one_place (length state) (length result) f in
      let ends = ends-fitting _ _ f state_size one_place _ _ _ state result _ _ _ h g in
      record {
        returned = rw (← same) ends.0;
        words = rw f (rw begun at runs.words);
        parts = rw (← same) ends.1;
        numbers = rw (← same) ends.2;
      }

-- one clock on a lent state is a gate run of one, without resets
pub lent_runs : {memory : List ℕ} {board : Board} {memory' : List ℕ} {state : GateState} {r : GateResult} → LentClock memory board state memory' r.state r.outcome
    → GateRuns memory board [] state 1 memory' r
lent_runs h =
    record {
      result = λ i. record { outcome = h.result i; state = h.advanced i };
      words = h.words;
      number = h.number;
    }

-- a list of files of another remainder
pub files-misfit : (memory : List ℕ) (bottom : ℕ) (journal load files machine : List ℕ) (version : ℕ) (result : List ℕ) → length files % file_size ≢ 0
    → TraverseCall memory bottom journal load files machine version result memory journal machine result misfit
files-misfit memory bottom journal load files machine version result n =
    let f = ne_eqb (length files % file_size) 0 n in
    record { returned = rw f; words = rw f; places = rw f; parts = rw f; numbers = rw f }

module _ (memory : List ℕ) (bottom : ℕ) (journal load files machine : List ℕ) (version : ℕ) (result : List ℕ) (w : length files % file_size ≡ 0) (lent : Option Machine)
    (e : lent ≡ machine_lent machine (length result) three_places) where
  whole : eqb (length files % file_size) 0 ≡ true
  whole = eq-eqb (length files % file_size) 0 w

  pub traverse_misfit : lent ≡ None
      → TraverseCall memory bottom journal load files machine version result memory journal machine result misfit
  traverse_misfit n =
      let f = machine-misfits machine (length result) three_places (sym n ∙ e) in
      record { returned = rw (whole, f); words = rw (whole, f); places = rw (whole, f); parts = rw (whole, f); numbers = rw (whole, f) }

  pub traverse_formed : {start : Machine} → lent ≡ Some start → (r : TraverseResult) (memory' journal' : List ℕ)
      → Traverses memory bottom journal load files start version memory' journal' r → (machine' result' : List ℕ) (number : ℕ)
      → TraverseEnds r machine result machine' result' number
      → TraverseCall memory bottom journal load files machine version result memory' journal' machine' result' number
  traverse_formed n r memory' journal' runs machine' result' number g =
      let (f, begun) = machine-starts machine (length result) three_places (sym n ∙ e) in
      let same = rw begun at runs.result in
      let ends = ended machine result three_places lent e n g in
      record {
        returned = rw (whole, ← same) ends.0;
        words = rw (whole, f) (rw begun at runs.words);
        places = rw (whole, f) (rw begun at runs.places);
        parts = rw (whole, ← same) ends.1;
        numbers = rw (whole, ← same) ends.2;
      }

module _ (bytes memory machine result : List ℕ) (lent : Option Machine) (e : lent ≡ machine_lent machine (length result) two_places) where
  pub read-misfit : lent ≡ None → ReadCall bytes memory machine result memory machine result misfit
  read-misfit n =
      let f = machine-misfits machine (length result) two_places (sym n ∙ e) in
      record { returned = rw f; words = rw f; parts = rw f; numbers = rw f }

  pub read-formed : {start : Machine} → lent ≡ Some start → (r : ReadResult) (memory' : List ℕ) → Reads bytes memory memory' r
      → (machine' result' : List ℕ) (number : ℕ) → ReadEnds r machine result machine' result' number
      → ReadCall bytes memory machine result memory' machine' result' number
  read-formed n r memory' reads machine' result' number g =
      let (f, begun) = machine-starts machine (length result) two_places (sym n ∙ e) in
      let same = reads.result in
      let ends = ended machine result two_places lent e n g in
      record {
        returned = rw (← same) ends.0;
        words = rw f reads.words;
        parts = rw (← same) ends.1;
        numbers = rw (← same) ends.2;
      }

module _ (memory machine : List ℕ) (version : ℕ) (out result : List ℕ) (lent : Option Machine) (e : lent ≡ machine_lent machine (length result) one_place) where
  pub write_misfit : lent ≡ None → WriteCall memory machine version out result out result misfit
  write_misfit n =
      let f = machine-misfits machine (length result) one_place (sym n ∙ e) in
      record { returned = rw f; bytes = rw f; numbers = rw f }

  pub write_formed : {start : Machine} → lent ≡ Some start → (r : Result ℕ Refusal) (out' : List ℕ) → Writes memory start version out out' r
      → (result' : List ℕ) (number : ℕ) → WriteEnds r result result' number → WriteCall memory machine version out result out' result' number
  write_formed n r out' writes result' number g =
      let (f, begun) = machine-starts machine (length result) one_place (sym n ∙ e) in
      let same = rw begun at writes.result in
      let h = lent-tests machine_size one_place (length machine) (length result) f in
      record {
        returned = rw (f, ← same) g.returned;
        bytes = rw f (rw begun at writes.bytes);
        numbers = rw (f, ← same) (rw h.1 at g.numbers);
      }
