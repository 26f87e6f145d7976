-- What the writer answers, by what it tests.
use Rattle.std.specs.Prelude.{Ok, Err}
use Prim.Native.Nat.{ℕ, ◌≤◌, ◌<◌}
use mathlib.Core.Path.{◌≡◌, refl, sym, ap, ◌∙◌}
use mathlib.Core.Bool.{Bool, true, false}
use mathlib.Core.List.{List}
use lib.Dec.{leb}
use lib.ListN.{length}
use lib.Seq.{sets}
use borrow.Author.Tests.{le-leb, lt-leb}
use Rattle.model.specs.declared.Machine.{Machine}
use Rattle.model.specs.declared.Refusal.{Refusal}
use Rattle.model.specs.declared.Refusal.TheVariants.{ShortOutput, WrongVersion}
use Rattle.model.specs.Words.{overlay}
use Rattle.model.specs.Refusals.{verdict_number, left_by, demand, ◌then◌, memory_fits, Verdict}
use Rattle.model.proofs.Stores.{overlaid}
use Rattle.image.specs.Format.{is_version, image_of}
use Rattle.image.specs.Calls.{write_verdict, write_result, write_number, verdict_size, write_size, write_returned, write_bytes, Writes}

module _ (memory : List ℕ) (machine : Machine) (version : ℕ) (out : List ℕ) where
  abbrev image : List ℕ
  image = image_of version machine memory

  numbered : (v : Verdict) → write_number (write_result v image) ≡ verdict_number v
  numbered (Ok u) = refl
  numbered (Err why) = refl

  sized : (v : Verdict) → write_size (write_result v image) ≡ verdict_size v image
  sized (Ok u) = refl
  sized (Err why) = refl

  -- the contract, from the verdict and what it asks of the output
  judged : (v : Verdict) (out' : List ℕ) → v ≡ write_verdict memory version image out → out' ≡ left_by v (overlay image out) out → Writes memory machine version out out' (write_result v image)
  unfolding write_returned write_bytes
  judged v out' e o =
      record {
        result = ap (λ (x : Verdict). write_result x image) e;
        bytes = o ∙ ap (λ (x : Verdict). left_by x (overlay image out) out) e;
        number = numbered v ∙ ap verdict_number e;
        size = sized v ∙ ap (λ (x : Verdict). verdict_size x image) e;
      }

  -- the verdict with the three tests as they come out
  tests : (v : Verdict) (t k : Bool) → v ≡ memory_fits memory → leb (length image) (length out) ≡ t → is_version version ≡ k
      → (v then demand t ShortOutput then demand k WrongVersion) ≡ write_verdict memory version image out
  unfolding write_verdict
  tests v t k p q s = λ i. p i then demand (sym q i) ShortOutput then demand (sym s i) WrongVersion

  pub write_refused : {why : Refusal} → Err why ≡ memory_fits memory → Writes memory machine version out out (Err why)
  write_refused {why} e = judged (Err why) out (tests (Err why) _ _ e refl refl) refl

  module _ (fits : (Ok tt) ≡ memory_fits memory) where
    pub write_no_room : length out < length image → Writes memory machine version out out (Err ShortOutput)
    write_no_room s = judged (Err ShortOutput) out (tests (Ok tt) false _ fits (lt-leb _ _ s) refl) refl

    pub write_no_version : length image ≤ length out → is_version version ≡ false → Writes memory machine version out out (Err WrongVersion)
    write_no_version s k = judged (Err WrongVersion) out (tests (Ok tt) true false fits (le-leb _ _ s) k) refl

    pub write_carried : (out' : List ℕ) (n : ℕ) → length image ≤ length out → is_version version ≡ true → out' ≡ sets out 0 image → n ≡ length image → Writes memory machine version out out' (Ok n)
    write_carried out' n s k p e =
        let r = judged (Ok tt) out' (tests (Ok tt) true true fits (le-leb _ _ s) k) (p ∙ overlaid out image s) in
        record { result = ap Ok e ∙ r.result; bytes = r.bytes; number = r.number; size = e ∙ r.size }
