-- What is loaded has a version that the writer takes, and is a memory that a run takes.
use Rattle.model.specs.declared.Refusal.{Refusal}
use Rattle.image.specs.declared.LoadedImage.{LoadedImage}
use Rattle.std.specs.Prelude.{Ok, Result}
use Prim.Native.Nat.{ℕ, zero, suc, ◌+◌, ◌-◌, ◌*◌, ◌≤◌, min}
use mathlib.Core.Path.{◌≡◌, refl, sym, ap, ap₂, ◌∙◌}
use mathlib.Core.Bool.{Bool, true, false, ◌||◌, and-eq-true_iff, true≢false}
use mathlib.Core.List.{List, [], ◌++◌}
use native.Mathlib.Omega.{arith}
use lib.Dec.{leb, eqb}
use lib.ListN.{length, take, drop, length-append}
use lib.Seq.{take_at}
use borrow.Author.Tests.{leb-true, eqb-true}
use Rattle.model.specs.declared.Machine.{Machine}
use Rattle.model.specs.declared.Refusal.TheVariants.{WrongVersion, BadWordCount, TrailingBytes}
use Rattle.model.specs.Words.{overlay}
use Rattle.model.specs.Refusals.{most_words, demand}
use Rattle.model.proofs.Verdicts.{demanded, both}
use Rattle.image.specs.declared.ReadResult.{ReadResult}
use Rattle.image.specs.Bytes.{number_in, words_in}
use Rattle.image.specs.Format.{Field, version_field, registers_field, flags_field, count_field, words_field, end_field, words_per_field, fields_for, is_version, count_formed}
use Rattle.image.specs.Reading.{Outcome, loaded, refused, field_verdict, read_field, read_memory, read_of}
use Rattle.image.specs.Calls.{read_result, outcome_words, read_count, read_version, read_returned, read_words, Reads}
use Rattle.image.specs.Theorems.{LoadedFits}
use Rattle.image.proofs.Bytes.{length-words}
use Rattle.image.proofs.Outcomes.{went_on}
use Rattle.image.proofs.Fields.{facts}
use Rattle.image.proofs.Memories.{fields-enough}

pub version-small : (version : ℕ) → is_version version ≡ true → version ≤ 2
version-small version e = go (eqb version 1) refl (eqb version 2) refl e
  where
    go : (a : Bool) → eqb version 1 ≡ a → (b : Bool) → eqb version 2 ≡ b → (a || b) ≡ true → version ≤ 2
    go true p b q e = omega (arith, eqb-true version 1 p)
    go false p true q e = omega (arith, eqb-true version 2 q)
    go false p false q e = absurd (true≢false (sym e))

module _ {version : ℕ} {machine : Machine} {words : List ℕ} where
  -- past one field, and past the fields of so many words
  past : (f : Field) (next : List ℕ → List ℕ → Outcome) (bytes : List ℕ) → read_field f bytes next ≡ loaded version machine words
      → (f.rule (take f.due (drop 3 bytes)) ≡ Ok tt) × (next (take f.due (drop 3 bytes)) (drop (3 + f.due) bytes) ≡ loaded version machine words)
  unfolding read_field
  past f next bytes e = let w = went_on (field_verdict f bytes) _ e in ((facts f bytes w.0).4, w.1)

  past_words : (n count : ℕ) (next : List ℕ → List ℕ → Outcome) (bytes : List ℕ) → count ≤ words_per_field * n → read_memory n count bytes next ≡ loaded version machine words
      → (read : List ℕ) × (rest : List ℕ) × (length read ≡ count) × (next read rest ≡ loaded version machine words)
  unfolding read_memory
  past_words zero count next bytes h e = ([], bytes, omega arith, e)
  past_words (suc n) count next bytes h e =
      let k : ℕ = min words_per_field count in
      let f = past (words_field k) _ bytes e in
      let value : List ℕ = take (4 * k) (drop 3 bytes) in
      let g = past_words n (count - words_per_field) _ _ (omega arith) f.1 in
      (words_in k value ++ g.0, g.1, length-append (words_in k value) g.0 ∙ omega (arith, length-words k value, g.2), g.3)

  -- the version and the count that were loaded are those that the rules asked for
  ruled : (bytes : List ℕ) (room : ℕ) → read_of bytes room ≡ loaded version machine words → (is_version version ≡ true) × (count_formed (length words) ≡ true)
  unfolding read_of
  ruled bytes room e =
      let v = past version_field _ bytes e in
      let r = past registers_field _ _ v.1 in
      let f = past flags_field _ _ r.1 in
      let c = past (count_field room) _ _ f.1 in
      let v₀ : ℕ = number_in (take 1 (drop 3 bytes)) in
      let M : ℕ = number_in (take 4 (drop 3 (drop 7 (drop 35 (drop 4 bytes))))) in
      let m = past_words (fields_for M) M _ _ (fields-enough M) c.1 in
      let d = past end_field _ _ m.3 in
      let k = went_on (demand (eqb (length (drop 3 m.1)) 0) TrailingBytes) _ d.1 in
      let lv : v₀ ≡ version = cc k.1 in
      let lm : m.0 ≡ words = cc k.1 in
      let s : length words ≡ M = ap length (sym lm) ∙ m.2 in
      (ap is_version (sym lv) ∙ demanded (is_version v₀) WrongVersion v.0, ap count_formed s ∙ demanded (count_formed M) BadWordCount (both (demand (count_formed M) BadWordCount) _ c.0).0)

  pub version-known : (bytes : List ℕ) (room : ℕ) → read_of bytes room ≡ loaded version machine words → is_version version ≡ true
  version-known bytes room e = (ruled bytes room e).0

pub loaded-fits : LoadedFits
loaded-fits room version machine memory bytes e =
    let fits = (and-eq-true_iff (leb 1 (length memory)) (leb (length memory) most_words)).0 (ruled bytes room e).1 in
    (leb-true 1 (length memory) fits.0, leb-true (length memory) most_words fits.1)

-- ---- a call that loaded

pub record Loads (bytes memory memory' : List ℕ) (r : ReadResult) (count version : ℕ) : Type 0 where
  pub words : List ℕ
  pub is : read_of bytes (length memory) ≡ loaded version r.machine words
  pub long : length words ≡ count
  pub whole : memory' ≡ overlay words memory

module _ {bytes memory memory' : List ℕ} {r : ReadResult} {count version : ℕ} where
  pub loads : Reads bytes memory memory' r → r.answer ≡ Ok (record { words = count; version = version }) → Loads bytes memory memory' r count version
  unfolding read_returned read_words
  loads h e = go (read_of bytes (length memory)) refl
    where
      go : (o : Outcome) → read_of bytes (length memory) ≡ o → Loads bytes memory memory' r count version
      go (loaded version₀ machine words) is =
          let k : r ≡ read_result (loaded version₀ machine words) = h.result ∙ ap read_result is in
          let v : version₀ ≡ version = sym (ap (λ (x : ReadResult). read_version x.answer) k) ∙ ap read_version e in
          record {
            words = words;
            is = is ∙ ap₂ (λ (n : ℕ) (x : ReadResult). loaded n x.machine words) v (sym k);
            long = sym (ap (λ (x : ReadResult). read_count x.answer) k) ∙ ap read_count e;
            whole = h.words ∙ ap (λ (o : Outcome). outcome_words o memory) is;
          }
      go (refused why) is =
          let k : r ≡ read_result (refused why) = h.result ∙ ap read_result is in
          let z : ◌≡◌ {A = ℕ} 0 1 = cc in
          absurd (omega arith)

  -- its words are the memory's first ones
  pub first-words : (l : Loads bytes memory memory' r count version) → take count memory' ≡ l.words
  first-words l = ap (take count) l.whole ∙ take_at l.words (drop (length l.words) memory) count l.long
