-- Verdicts one after the other; a call that is carried out: nothing that is demanded fails. The numbers of the refusals.
use Rattle.std.specs.Prelude.{Ok, Err, Result, IsErrAnd}
use Rattle.std.proofs.lemmas.Result.{err_from_is_err_and}
use Prim.Native.Nat.{ℕ, ◌≤◌, ◌<◌}
use mathlib.Core.Path.{◌≡◌, refl, ap, ◌∙◌}
use mathlib.Core.Bool.{Bool, true, false}
use mathlib.Core.List.{List, []}
use native.Mathlib.Omega.{arith}
use lib.Dec.{ltb, leb, leb-zero}
use lib.ListN.{length}
use borrow.Author.Tests.{ltb-true, lt-ltb, le-leb, leb-true}
use Rattle.model.specs.declared.Refusal.{Refusal}
use Rattle.model.specs.declared.Refusal.TheVariants.{NoWords, TooManyWords, LongWaitList, BadGateState, ShortOutput, CutImage, WrongTag, WrongLength, WrongVersion, BadFlag, BadWordCount, ShortMemory, TrailingBytes, TooManyFiles, FileMisplaced, WordsMismatched, BottomTooHigh, ResetsNotRising}
use Rattle.model.specs.Waits.{position_fits}
use Rattle.model.specs.Board.{board_with}
use Rattle.model.specs.Refusals.{refusal_number, verdict_number, most_words, demand, ◌then◌, memory_fits, run_verdict, Verdict}

pub then_assoc : (u v w : Verdict) → ((u then v) then w) ≡ (u then (v then w))
then_assoc (Ok u) v w = refl
then_assoc (Err why) v w = refl

pub then_accepted : (v : Verdict) → (v then (Ok tt)) ≡ v
then_accepted (Ok u) = refl
then_accepted (Err why) = refl

-- what leaves at the exit of a `?`
pub leaves : {A : Type 0} (r : Result A Refusal) {why : Refusal} → IsErrAnd r (λ y. y ≡ why) → r ≡ Err why
leaves r h = let p = err_from_is_err_and r h in p.1 ∙ ap Err p.2

-- what `?` makes of two verdicts: the first refusal is returned, and the second is looked at where the first accepts
pub stops : {u : Verdict} (v : Verdict) {why : Refusal} → u ≡ Err why → Err why ≡ (u then v)
stops v e = rw e

pub passes : {u : Verdict} (v : Verdict) → u ≡ Ok tt → v ≡ (u then v)
passes v e = rw e

pub demanded : (t : Bool) (why : Refusal) → demand t why ≡ Ok tt → t ≡ true
demanded true why e = refl
demanded false why e = cc

pub both : (u v : Verdict) → (u then v) ≡ Ok tt → (u ≡ Ok tt) × (v ≡ Ok tt)
both (Ok u) v e = (refl, e)
both (Err why) v e = (cc, cc)

pub memory-bounds : (memory : List ℕ) → memory_fits memory ≡ Ok tt → (0 < length memory) × (length memory ≤ most_words)
memory-bounds memory e =
    let p = both (demand (ltb 0 (length memory)) NoWords) (demand (leb (length memory) most_words) TooManyWords) e in
    (ltb-true _ _ (demanded _ NoWords p.0), leb-true _ _ (demanded _ TooManyWords p.1))

pub memory-accepted : (memory : List ℕ) → 0 < length memory → length memory ≤ most_words → memory_fits memory ≡ Ok tt
memory-accepted memory some most = rw (lt-ltb 0 (length memory) some, le-leb (length memory) most_words most)

-- a run on such a memory with the bottom at 0, no wait list and so position 0
pub run-accepted : (memory : List ℕ) → 0 < length memory → length memory ≤ most_words → run_verdict memory (board_with 0 []) 0 ≡ Ok tt
unfolding run_verdict position_fits
run-accepted memory some most = rw (memory-accepted memory some most, leb-zero (length memory))

-- a refusal has a number from 1 to 22
pub numbered : (why : Refusal) → (1 ≤ refusal_number why) × (refusal_number why ≤ 22)
numbered NoWords = (omega arith, omega arith)
numbered TooManyWords = (omega arith, omega arith)
numbered LongWaitList = (omega arith, omega arith)
numbered BadGateState = (omega arith, omega arith)
numbered ShortOutput = (omega arith, omega arith)
numbered CutImage = (omega arith, omega arith)
numbered WrongTag = (omega arith, omega arith)
numbered WrongLength = (omega arith, omega arith)
numbered WrongVersion = (omega arith, omega arith)
numbered BadFlag = (omega arith, omega arith)
numbered BadWordCount = (omega arith, omega arith)
numbered ShortMemory = (omega arith, omega arith)
numbered TrailingBytes = (omega arith, omega arith)
numbered TooManyFiles = (omega arith, omega arith)
numbered FileMisplaced = (omega arith, omega arith)
numbered WordsMismatched = (omega arith, omega arith)
numbered BottomTooHigh = (omega arith, omega arith)
numbered ResetsNotRising = (omega arith, omega arith)

pub accepted : (v : Verdict) → verdict_number v ≡ 0 → v ≡ Ok tt
accepted (Ok u) e = refl
accepted (Err why) e = absurd (omega (arith, (numbered why).0))
