-- A call's end, by whether it was carried out and by what the call within answered.
use Rattle.image.specs.declared.LoadedImage.{LoadedImage}
use Rattle.traverses.specs.declared.TraverseEnding.{TraverseEnding}
use Rattle.interpreter.specs.declared.FileEnding.{FileEnding}
use Rattle.std.specs.Prelude.{Ok, Err, Result}
use Prim.Native.Nat.{ℕ}
use mathlib.Core.Path.{◌≡◌, refl}
use mathlib.Core.Bool.{Bool, true, false, cond}
use mathlib.Core.List.{List, [], ◌∷◌}
use native.Mathlib.Omega.{arith}
use borrow.Author.Tests.{ne_eqb}
use Rattle.model.specs.declared.Refusal.{Refusal}
use Rattle.model.specs.Refusals.{refusal_number}
use Rattle.model.proofs.Verdicts.{numbered}
use Rattle.interpreter.specs.declared.RunResult.{RunResult}
use Rattle.interpreter.specs.declared.FileResult.{FileResult}
use Rattle.gate_machine.specs.declared.GateResult.{GateResult}
use Rattle.image.specs.declared.ReadResult.{ReadResult}
use Rattle.traverses.specs.declared.TraverseResult.{TraverseResult}
use Rattle.host_reading.specs.Layout.{three_places, two_places, one_place, machine_size, state_size}
use Rattle.host_words.specs.Words.{machine_words, state_words, laid}
use Rattle.host_calls.specs.Codes.{done, stopped, halted, journal_full, carried_out, finishes, run_code, file_code, traverse_code, undone_files, run_counts, file_counts, gate_counts}
use Rattle.host_ends.specs.Ends.{Ends, RunEnds, FileEnds, GateEnds, TraverseEnds, ReadEnds, WriteEnds}

-- a refusal's number is no code of a call that was carried out
pub turned_down : (why : Refusal) → carried_out (refusal_number why) ≡ false
turned_down why =
    let h = numbered why in
    rw (
      ne_eqb (refusal_number why) done (omega arith),
      ne_eqb (refusal_number why) stopped (omega arith),
      ne_eqb (refusal_number why) halted (omega arith),
      ne_eqb (refusal_number why) journal_full (omega arith),
    )

module _ (written : ℕ → Bool) (code size : ℕ) (words : List ℕ) (due : ℕ) (counts lent result : List ℕ) where
  -- where no refusal's code is one with which the machine or state is written
  pub ends-refused : ((why : Refusal) → written (refusal_number why) ≡ false) → (why : Refusal) → code ≡ refusal_number why
      → (number : ℕ) → number ≡ refusal_number why
      → Ends written code size words due counts lent result lent result number
  ends-refused unwritten why e number n = record { returned = rw e n; parts = rw (e, unwritten why); numbers = rw (e, turned_down why) }

pub not-finished : (why : Refusal) → finishes (refusal_number why) ≡ false
not-finished why = ne_eqb (refusal_number why) done (omega (arith, (numbered why).0))

-- a run's end, by the code that its answer comes to
module _ (r : RunResult) (code : ℕ) (n : code ≡ run_code r.answer) (lent result : List ℕ) where
  pub run-written : carried_out code ≡ true → (lent' result' : List ℕ) → lent' ≡ laid machine_size (machine_words r.machine) lent
      → result' ≡ laid three_places (run_counts r) result → RunEnds r lent result lent' result' code
  run-written e lent' result' w p =
      let f = rw n at e in
      record { returned = n; parts = rw f w; numbers = rw f p }

  pub run-unwritten : carried_out code ≡ false → RunEnds r lent result lent result code
  run-unwritten e =
      let f = rw n at e in
      record { returned = n; parts = rw f; numbers = rw f }

-- an ending that is no refusal was carried out
file-carried : (e : FileEnding) → carried_out (file_code (Ok e)) ≡ true
file-carried FileEnding.Finished = refl
file-carried FileEnding.Undone = refl
file-carried FileEnding.Full = refl

traverse-carried : (e : TraverseEnding) → carried_out (traverse_code (Ok e)) ≡ true
traverse-carried (TraverseEnding.Marked files) = refl
traverse-carried TraverseEnding.Finished = refl
traverse-carried (TraverseEnding.Undone file) = refl
traverse-carried (TraverseEnding.Full file) = refl

module _ (lent result lent' result' : List ℕ) where
  pub file-ended : (r : FileResult) (e : FileEnding) → r.answer ≡ Ok e → (number : ℕ) → number ≡ file_code (Ok e)
      → lent' ≡ cond (finishes (file_code (Ok e))) (laid machine_size (machine_words r.machine) lent) lent
      → result' ≡ laid two_places (file_counts r) result → FileEnds r lent result lent' result' number
  file-ended r e a number n w p = record { returned = rw a n; parts = rw a w; numbers = rw (a, file-carried e) p }

  pub traverse-ended : (r : TraverseResult) (e : TraverseEnding) → r.answer ≡ Ok e → (number : ℕ) → number ≡ traverse_code (Ok e)
      → lent' ≡ cond (finishes (traverse_code (Ok e))) (laid machine_size (machine_words r.machine) lent) lent
      → result' ≡ laid three_places (undone_files (Ok e) ∷ r.ran ∷ r.pairs ∷ []) result → TraverseEnds r lent result lent' result' number
  traverse-ended r e a number n w p = record { returned = rw a n; parts = rw a w; numbers = rw (a, traverse-carried e) p }

  pub gate-done : (r : GateResult) (finished : ℕ) → r.outcome ≡ Ok finished → lent' ≡ laid state_size (state_words r.state) lent
      → result' ≡ laid one_place (finished ∷ []) result → GateEnds r lent result lent' result' done
  gate-done r finished e w p = record { returned = rw e; parts = rw e w; numbers = rw e p }

  pub read_done : (r : ReadResult) (words version : ℕ) → r.answer ≡ Ok (record { words = words; version = version })
      → lent' ≡ laid machine_size (machine_words r.machine) lent → result' ≡ laid two_places (words ∷ version ∷ []) result
      → ReadEnds r lent result lent' result' done
  read_done r words version e w p = record { returned = rw e; parts = rw e w; numbers = rw e p }

module _ (r : Result ℕ Refusal) (result : List ℕ) where
  pub write_done : (size : ℕ) → r ≡ Ok size → (result' : List ℕ) → result' ≡ laid one_place (size ∷ []) result
      → WriteEnds r result result' done
  write_done size e result' p = record { returned = rw e; numbers = rw e p }

  pub write_refused : (why : Refusal) → r ≡ Err why → (number : ℕ) → number ≡ refusal_number why
      → WriteEnds r result result number
  write_refused why e number n = record { returned = rw e n; numbers = rw (e, turned_down why) }
