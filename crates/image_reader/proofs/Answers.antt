-- What the reader answers, from what its two passes did.
use Rattle.image.specs.declared.LoadedImage.{LoadedImage}
use Rattle.std.specs.Prelude.{Ok, Err, Result}
use Prim.Native.Nat.{ℕ, ◌+◌, ◌≤◌}
use mathlib.Core.Path.{◌≡◌, refl, sym, ap, ◌∙◌}
use mathlib.Core.Bool.{and-eq-true_iff}
use mathlib.Core.List.{List}
use native.Mathlib.Omega.{arith}
use lib.Dec.{eqb, leb}
use lib.ListN.{length, drop, length-drop}
use lib.Seq.{sets, drop-drop}
use borrow.Author.Tests.{leb-true}
use Rattle.model.specs.declared.Machine.{Machine}
use Rattle.model.specs.declared.Refusal.{Refusal}
use Rattle.model.specs.declared.Refusal.TheVariants.{BadWordCount, ShortMemory, TrailingBytes}
use Rattle.model.specs.Refusals.{demand, ◌then◌, most_words, Verdict}
use Rattle.model.proofs.Stores.{overlaid}
use Rattle.model.proofs.Verdicts.{demanded, both}
use Rattle.image.specs.Format.{version_field, registers_field, flags_field, count_field, end_field, count_formed, fields_for, span_of}
use Rattle.image.specs.Reading.{Outcome, loaded, refused, ◌▷◌, field_verdict, read_of}
use Rattle.image.specs.Calls.{cleared_machine, read_result, outcome_words, outcome_number, outcome_count, outcome_version, read_number, read_count, read_version, read_returned, read_words, Reads}
use Rattle.image.proofs.Fields.{facts}
use Rattle.image.proofs.Memories.{fields-enough}
use Rattle.image_reader.specs.Passes.{image_version, image_count, image_machine, image_memory, head_verdict, memory_verdict, end_verdict, tail_verdict, image_verdict}
use Rattle.image_reader.proofs.Passes.{image_words, by-passes, length-image-memory}

-- what an accepted head shows of the word count
pub head_accepted : (bytes : List ℕ) (room : ℕ) → head_verdict bytes room ≡ Ok tt → (image_count bytes ≤ most_words) × (image_count bytes ≤ room)
unfolding head_verdict
head_accepted bytes room e =
    let M : ℕ = image_count bytes in
    let e₁ = (both (field_verdict version_field bytes) _ e).1 in
    let e₂ = (both (field_verdict registers_field (drop 4 bytes)) _ e₁).1 in
    let e₃ = (both (field_verdict flags_field (drop 39 bytes)) _ e₂).1 in
    let e₄ = (facts (count_field room) (drop 46 bytes) e₃).4 in
    let e₅ : (demand (count_formed M) BadWordCount then demand (leb M room) ShortMemory) ≡ Ok tt = rw drop-drop at e₄ in
    let e₆ = both (demand (count_formed M) BadWordCount) (demand (leb M room) ShortMemory) e₅ in
    (leb-true _ _ ((and-eq-true_iff (leb 1 M) (leb M most_words)).0 (demanded _ BadWordCount e₆.0)).1, leb-true _ _ (demanded _ ShortMemory e₆.1))

-- the verdict on the whole, by the verdict on the head
pub refused-head : (bytes : List ℕ) (room : ℕ) {why : Refusal} → Err why ≡ head_verdict bytes room → Err why ≡ image_verdict bytes room
refused-head bytes room e = ap (λ (v : Verdict). v then tail_verdict (image_count bytes) 53 bytes) e

pub accepted-head : (bytes : List ℕ) (room words : ℕ) {v : Verdict} → (Ok tt) ≡ head_verdict bytes room → words ≡ image_count bytes → v ≡ tail_verdict words 53 bytes
    → v ≡ image_verdict bytes room
accepted-head bytes room words e p q =
    q ∙ ap (λ (n : ℕ). tail_verdict n 53 bytes) p ∙ ap (λ (u : Verdict). u then tail_verdict (image_count bytes) 53 bytes) e

-- an accepted end field lies within the bytes
end-accepted : (at : ℕ) (bytes : List ℕ) → end_verdict (drop at bytes) ≡ Ok tt → at ≤ length bytes
unfolding end_verdict
end-accepted at bytes e =
    let b : List ℕ = drop at bytes in
    let f = (both (field_verdict end_field b) (demand (eqb (length (drop 3 b)) 0) TrailingBytes) e).0 in
    omega (arith, (facts end_field b f).0, length-drop at bytes)

-- what an accepted image shows for the second pass
pub image-accepted : (bytes : List ℕ) (room : ℕ) → image_verdict bytes room ≡ Ok tt → (53 + span_of (image_count bytes) ≤ length bytes) × (image_count bytes ≤ room)
unfolding tail_verdict
image-accepted bytes room e =
    let M : ℕ = image_count bytes in
    let p = both (head_verdict bytes room) (tail_verdict M 53 bytes) e in
    let q = both (memory_verdict (fields_for M) M (drop 53 bytes)) (end_verdict (drop (53 + span_of M) bytes)) p.1 in
    (end-accepted (53 + span_of M) bytes q.1, (head_accepted bytes room p.0).1)

-- ---- the contract

module _ (bytes memory : List ℕ) where
  judged : (o : Outcome) (memory' : List ℕ) → o ≡ read_of bytes (length memory) → memory' ≡ outcome_words o memory → Reads bytes memory memory' (read_result o)
  unfolding read_returned read_words
  judged o memory' e w =
      record {
        result = ap read_result e;
        words = w ∙ ap (λ (x : Outcome). outcome_words x memory) e;
        number = numbered o ∙ ap outcome_number e;
        count = counted o ∙ ap outcome_count e;
        version = told o ∙ ap outcome_version e;
      }
    where
      numbered : (o : Outcome) → read_number (read_result o).answer ≡ outcome_number o
      numbered (loaded version machine words) = refl
      numbered (refused why) = refl

      counted : (o : Outcome) → read_count (read_result o).answer ≡ outcome_count o
      counted (loaded version machine words) = refl
      counted (refused why) = refl

      told : (o : Outcome) → read_version (read_result o).answer ≡ outcome_version o
      told (loaded version machine words) = refl
      told (refused why) = refl

  -- the outcome of a verdict
  outcome : (v : Verdict) → v ≡ image_verdict bytes (length memory) → (v ▷ loaded (image_version bytes) (image_machine bytes) (image_words bytes)) ≡ read_of bytes (length memory)
  outcome v e = ap (λ (x : Verdict). x ▷ loaded (image_version bytes) (image_machine bytes) (image_words bytes)) e ∙ sym (by-passes bytes (length memory))

  pub read-refused : (why : Refusal) (m : Machine) → Err why ≡ image_verdict bytes (length memory) → m ≡ cleared_machine
      → Reads bytes memory memory (record { answer = Err why; machine = m })
  read-refused why m e p =
      let r = judged (refused why) memory (outcome (Err why) e) refl in
      record { result = (λ i. record { answer = Err why; machine = p i }) ∙ r.result; words = r.words; number = r.number; count = r.count; version = r.version }

  pub read-carried : (memory' : List ℕ) (n version : ℕ) (m : Machine) → (Ok tt) ≡ image_verdict bytes (length memory) → n ≡ image_count bytes → version ≡ image_version bytes → m ≡ image_machine bytes
      → memory' ≡ sets memory 0 (image_memory (fields_for n) n (drop 53 bytes)) → Reads bytes memory memory' (record { answer = Ok (record { words = n; version = version }); machine = m })
  read-carried memory' n version m e c v p q =
      let M : ℕ = image_count bytes in
      let l : length (image_words bytes) ≡ M = length-image-memory (fields_for M) M (drop 53 bytes) (fields-enough M) in
      let fits : length (image_words bytes) ≤ length memory = omega (arith, (image-accepted bytes (length memory) (sym e)).1) in
      let w : memory' ≡ outcome_words (loaded (image_version bytes) (image_machine bytes) (image_words bytes)) memory =
      q ∙ ap (λ (k : ℕ). sets memory 0 (image_memory (fields_for k) k (drop 53 bytes))) c ∙ overlaid memory (image_words bytes) fits in
      let r = judged (loaded (image_version bytes) (image_machine bytes) (image_words bytes)) memory' (outcome (Ok tt) e) w in
      let n≡ : n ≡ length (image_words bytes) = c ∙ sym l in
      record {
        result = (λ i. record { answer = Ok (record { words = n≡ i; version = v i }); machine = p i }) ∙ r.result;
        words = r.words;
        number = r.number;
        count = n≡ ∙ r.count;
        version = v ∙ r.version;
      }
