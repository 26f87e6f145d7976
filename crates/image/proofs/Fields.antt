-- One field: what is written is read back, and what is read was written so.
use Rattle.std.specs.Prelude.{Ok}
use Prim.Native.Nat.{ℕ, suc, ◌+◌, ◌≤◌, ◌<◌}
use mathlib.Core.Path.{◌≡◌, refl, sym, ap, ap₂, ◌∙◌}
use mathlib.Core.List.{List, [], ◌∷◌, ◌++◌}
use native.Mathlib.Omega.{arith}
use lib.Dec.{eqb, leb}
use lib.ListN.{length, take, drop, get_or, length-append, take-append-drop}
use lib.Seq.{take_at, drop_at, length-take-le}
use borrow.Author.Tests.{leb-true, eqb-true}
use Rattle.model.specs.declared.Machine.{Machine}
use Rattle.model.specs.Refusals.{demand, ◌then◌, Verdict}
use Rattle.model.proofs.Verdicts.{demanded, both}
use Rattle.image.specs.Bytes.{bytes_of, number_in, Below}
use Rattle.image.specs.Format.{Field, field_bytes}
use Rattle.image.specs.Reading.{Outcome, loaded, ◌▷◌, header_verdict, field_verdict, read_field}
use Rattle.image.proofs.Bytes.{number-bytes, bytes-number, below-take, below-drop}
use Rattle.image.proofs.Outcomes.{verdicts-join, went_on}
use Rattle.image.proofs.Headers.{whole-field, with_rule}

three-and : (n : ℕ) → 3 + n ≡ suc (suc (suc n))
three-and n = omega arith

pub length-field : (f : Field) (value : List ℕ) → length (field_bytes f value) ≡ 3 + length value
unfolding field_bytes bytes_of
length-field f value = omega arith

-- ---- a field that was written is taken as far as its value's rule goes, and reading goes on with its value

module _ (f : Field) (value rest : List ℕ) (long : length value ≡ f.due) (short : f.due < 65536) where
  ruled : (v : Verdict) → f.rule value ≡ v → field_verdict f (field_bytes f value ++ rest) ≡ v
  unfolding field_bytes bytes_of
  ruled v follows =
      let all : List ℕ = field_bytes f value ++ rest in
      let l : length (value ++ rest) ≡ length value + length rest = length-append value rest in
      sym
      (with_rule f all refl
      (whole-field f.tag f.due 0 all (omega arith) refl (number-bytes 2 (length value) (omega arith) ∙ long) (omega arith))
      (sym (ap f.rule (take_at value rest f.due long) ∙ follows)))

  pub field-goes : (bytes : List ℕ) (next : List ℕ → List ℕ → Outcome) (v w : Verdict) (o : Outcome)
      → bytes ≡ field_bytes f value ++ rest → f.rule value ≡ v → next value rest ≡ (w ▷ o) → read_field f bytes next ≡ ((v then w) ▷ o)
  unfolding read_field field_bytes bytes_of
  field-goes bytes next v w o is follows e =
      let left : drop (3 + f.due) (field_bytes f value ++ rest) ≡ rest = ap (λ (n : ℕ). drop n (field_bytes f value ++ rest)) (three-and f.due) ∙ drop_at value rest f.due long in
      ap (λ (b : List ℕ). read_field f b next) is
      ∙ ap (λ (u : Verdict). u ▷ next (take f.due (value ++ rest)) (drop (3 + f.due) (field_bytes f value ++ rest))) (ruled v follows)
      ∙ verdicts-join v w o (ap₂ next (take_at value rest f.due long) left ∙ e)

-- ---- a field that was taken is the field of its value, and the bytes after it

pub record FieldTaken (f : Field) (bytes : List ℕ) (next : List ℕ → List ℕ → Outcome) (o : Outcome) : Type 0 where
  pub value : List ℕ
  pub rest : List ℕ
  pub is : bytes ≡ field_bytes f value ++ rest
  pub long : length value ≡ f.due
  pub follows : f.rule value ≡ Ok tt
  pub value-below : Below 256 value
  pub rest_below : Below 256 rest
  pub goes : next value rest ≡ o

module _ (f : Field) where
  -- what an accepted field shows
  pub facts : (bytes : List ℕ) → field_verdict f bytes ≡ Ok tt
      → (3 ≤ length bytes) × (get_or bytes 0 0 ≡ f.tag) × (number_in (take 2 (drop 1 bytes)) ≡ f.due) × (3 + f.due ≤ length bytes)
      × (f.rule (take f.due (drop 3 bytes)) ≡ Ok tt)
  unfolding header_verdict field_verdict
  facts bytes e =
      let h = both (header_verdict f.tag f.due bytes) _ e in
      let h₀ = both (demand (leb 3 (length bytes)) _) _ h.0 in
      let h₁ = both (demand (eqb (get_or bytes 0 0) f.tag) _) _ h₀.1 in
      let h₂ = both (demand (eqb (number_in (take 2 (drop 1 bytes))) f.due) _) _ h₁.1 in
      (leb-true _ _ (demanded _ _ h₀.0), eqb-true _ _ (demanded _ _ h₁.0), eqb-true _ _ (demanded _ _ h₂.0), leb-true _ _ (demanded _ _ h₂.1), h.1)

  field_is : (t a b : ℕ) (rest : List ℕ) → t ≡ f.tag → number_in (a ∷ b ∷ []) ≡ f.due → f.due ≤ length rest → Below 256 (a ∷ b ∷ [])
      → (t ∷ a ∷ b ∷ rest) ≡ field_bytes f (take f.due rest) ++ drop f.due rest
  unfolding field_bytes
  field_is t a b rest p q h k =
      let due : ℕ = f.due in
      let l : length (take due rest) ≡ due = length-take-le due rest h in
      let e : bytes_of 2 (length (take due rest)) ≡ a ∷ b ∷ [] = ap (bytes_of 2) (l ∙ sym q) ∙ bytes-number (a ∷ b ∷ []) k in
      ap₂ {C = List ℕ} (λ (x : ℕ) (y : List ℕ). x ∷ a ∷ b ∷ y) p (sym (take-append-drop due rest))
      ∙ ap (λ (y : List ℕ). f.tag ∷ ((y ++ take due rest) ++ drop due rest)) (sym e)

  pub field-taken : {version : ℕ} {machine : Machine} {memory : List ℕ} (next : List ℕ → List ℕ → Outcome) (bytes : List ℕ) → Below 256 bytes
      → read_field f bytes next ≡ loaded version machine memory → FieldTaken f bytes next (loaded version machine memory)
  unfolding read_field
  field-taken next bytes h e =
      let w = went_on (field_verdict f bytes) _ e in
      go bytes h (facts bytes w.0) w.1
    where
      go : {o : Outcome} (bytes : List ℕ) → Below 256 bytes
          → (3 ≤ length bytes) × (get_or bytes 0 0 ≡ f.tag) × (number_in (take 2 (drop 1 bytes)) ≡ f.due) × (3 + f.due ≤ length bytes)
          × (f.rule (take f.due (drop 3 bytes)) ≡ Ok tt)
          → next (take f.due (drop 3 bytes)) (drop (3 + f.due) bytes) ≡ o → FieldTaken f bytes next o
      go [] h k e = absurd (omega (arith, k.0))
      go (t ∷ []) h k e = absurd (omega (arith, k.0))
      go (t ∷ a ∷ []) h k e = absurd (omega (arith, k.0))
      go (t ∷ a ∷ b ∷ rest) h k e =
          let due : ℕ = f.due in
          let n : due ≤ length rest = omega (arith, k.3) in
          let d : drop (3 + due) (t ∷ a ∷ b ∷ rest) ≡ drop due rest = ap (λ (n : ℕ). drop n (t ∷ a ∷ b ∷ rest)) (three-and due) in
          record {
            value = take due rest;
            rest = drop due rest;
            is = field_is t a b rest k.1 k.2 n (h.1.0, (h.1.1.0, tt));
            long = length-take-le due rest n;
            follows = k.4;
            value-below = below-take 256 due rest h.1.1.1;
            rest_below = below-drop 256 due rest h.1.1.1;
            goes = ap (next (take due rest)) (sym d) ∙ e;
          }
