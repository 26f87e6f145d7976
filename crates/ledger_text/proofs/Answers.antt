-- What `report` answers: for an output that is too short, for a bad image, and for one that is run.
use Prim.Native.Nat.{ℕ, ◌≤◌, ◌<◌}
use mathlib.Core.Path.{◌≡◌, refl, sym, ap, ◌∙◌}
use mathlib.Core.Bool.{Bool, true, false, cond}
use mathlib.Core.List.{List, ◌++◌}
use native.Mathlib.Nat.{zero-add}
use native.Mathlib.Omega.{arith}
use lib.ListN.{length, take, drop, length-append, length-drop}
use lib.Seq.{drop_at}
use borrow.Author.Tests.{le-leb, lt-leb}
use Rattle.std.proofs.Common.{Result, Ok, Err}
use Rattle.model.specs.declared.Refusal.{Refusal}
use Rattle.model.specs.Words.{overlay}
use Rattle.model.specs.Refusals.{most_words}
use Rattle.model.proofs.Stores.{overlaid}
use Rattle.image.specs.declared.ReadResult.{ReadResult}
use Rattle.image.specs.Reading.{Outcome, loaded, refused, read_of}
use Rattle.image.specs.Calls.{read_result, outcome_words, read_returned, read_words, Reads}
use Rattle.image.proofs.Loaded.{loaded-fits, Loads, loads, first-words}
use Rattle.ledger_lines.specs.Lines.{refused_text, longest_text, ledger}
use Rattle.ledger_lines.proofs.Lengths.{ledger-length}
use Rattle.ledger_text.specs.declared.NoRoom.{NoRoom}
use Rattle.ledger_text.specs.Parts.{Extends, RunPuts}
use Rattle.ledger_text.specs.Report.{ledger_words, roomy, Reports, most_input, memory_words, input_text, ReportsInput}

module _ {bytes memory out : List ℕ} where
  pub report_no_room : length out < longest_text → Reports bytes memory out memory out (Err (record {}))
  report_no_room h =
      let e = lt-leb longest_text (length out) h in
      record { result = rw e; size = rw e; text = rw e; words = rw e }

  -- the whole text is in the output
  reported : {memory' out' : List ℕ} {q : ℕ} (o : Outcome) → read_of bytes (length memory) ≡ o → longest_text ≤ length out
      → Extends out 0 (ledger o) out' q → memory' ≡ ledger_words o memory → Reports bytes memory out memory' out' (Ok q)
  reported o is room put words =
      let e = le-leb longest_text (length out) room in
      let size = length (ledger o) in
      let fits : size ≤ length out = omega (arith, ledger-length o) in
      let whole = put.place ∙ zero-add size in
      record {
        result = rw (e, is) (ap Ok whole);
        size = rw (e, is) whole;
        text = rw (e, is) (put.buffer ∙ overlaid out (ledger o) fits);
        words = rw (e, is) words;
      }

module _ {bytes memory memory₁ : List ℕ} {r : ReadResult} (h : Reads bytes memory memory₁ r) where
  is-refused : {why : Refusal} → r.answer ≡ Err why → (o : Outcome) → read_of bytes (length memory) ≡ o
      → (o ≡ refused why) × (memory₁ ≡ memory)
  unfolding read_returned read_words
  is-refused e (loaded version machine words) is =
      let k : r ≡ read_result (loaded version machine words) = h.result ∙ ap read_result is in
      (cc, cc)
  is-refused e (refused w) is =
      let k : r ≡ read_result (refused w) = h.result ∙ ap read_result is in
      (cc, h.words ∙ ap (λ (o : Outcome). outcome_words o memory) is)

  -- a bad image
  pub report_refused : {out out' : List ℕ} {q : ℕ} {why : Refusal} → r.answer ≡ Err why → longest_text ≤ length out
      → Extends out 0 (refused_text why) out' q → Reports bytes memory out memory₁ out' (Ok q)
  report_refused {why = why} e room put =
      let k = is-refused e (read_of bytes (length memory)) refl in
      reported (refused why) k.0 room put k.1

  -- an image that is run
  module _ {count version : ℕ} (e : r.answer ≡ Ok (record { words = count; version = version })) (kept : length memory₁ ≡ length memory) where
    l : Loads bytes memory memory₁ r count version
    l = loads h e

    pub within : count ≤ length memory₁
    within =
        let w = l.words in
        omega (arith, ap length l.whole, length-append w (drop (length w) memory), length-drop (length w) memory, l.long, kept)

    first : take count memory₁ ≡ l.words
    first = first-words l

    after : drop count memory₁ ≡ drop count memory
    after =
        ap (drop count) l.whole
        ∙ drop_at l.words (drop (length l.words) memory) count l.long
        ∙ ap (λ (k : ℕ). drop k memory) l.long

    pub words-fit : (0 < length (take count memory₁)) × (length (take count memory₁) ≤ most_words)
    words-fit = rw first (loaded-fits (length memory) version r.machine l.words bytes l.is)

    pub report_carried : {out part out' : List ℕ} {q : ℕ} → longest_text ≤ length out → RunPuts r.machine (take count memory₁) out part out' q
        → length part ≡ length (take count memory₁) → Reports bytes memory out (part ++ drop count memory₁) out' (Ok q)
    report_carried {part = part} room run same =
        let run' = rw first at run in
        let size : length part ≡ count = same ∙ ap length first ∙ l.long in
        reported (loaded version r.machine l.words) l.is room run'.text
        (ap (λ (x : List ℕ). part ++ x) (after ∙ ap (λ (k : ℕ). drop k memory) (sym size)) ∙ ap (λ (x : List ℕ). overlay x memory) run'.words)

-- the report on as much of an input as is read, in the program's memory
pub input_reported : {bytes memory out memory' out' : List ℕ} {r : Result ℕ NoRoom} → Reports bytes memory out memory' out' r
    → (input : List ℕ) → bytes ≡ take most_input input → length memory ≡ memory_words → ReportsInput input out out' r
input_reported h input e l = record { result = rw (e, l) at h.result; size = rw (e, l) at h.size; text = rw (e, l) at h.text }

-- a text that is answered is within the output
in_output : (text out : List ℕ) {out' : List ℕ} {r : Result ℕ NoRoom} (n : ℕ) → r ≡ Ok n → (t : Bool)
    → r ≡ cond t (Ok (length text)) (Err (record {})) → out' ≡ cond t (overlay text out) out → n ≤ length out'
in_output text out n e true f g =
    let k : n ≡ length text = cc in
    omega (arith, ap length g, length-append text (drop (length text) out))
in_output text out n e false f g = let z : ◌≡◌ {A = ℕ} 0 1 = cc in omega arith

pub text-within : {bytes memory out memory' out' : List ℕ} {r : Result ℕ NoRoom} → Reports bytes memory out memory' out' r
    → (n : ℕ) → r ≡ Ok n → n ≤ length out'
text-within {bytes} {memory} {out} h n e = in_output (ledger (read_of bytes (length memory))) out n e (roomy out) h.result h.text

pub input_within : {input out out' : List ℕ} {r : Result ℕ NoRoom} → ReportsInput input out out' r → (n : ℕ) → r ≡ Ok n → n ≤ length out'
input_within {input} {out} h n e = in_output (input_text input) out n e (roomy out) h.result h.text
