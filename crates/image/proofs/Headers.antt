-- The verdict on a field at a place, by its tests one after the other.
use Rattle.std.specs.Prelude.{Ok, Err}
use Prim.Native.Nat.{ℕ, ◌+◌, ◌-◌, ◌≤◌, ◌<◌}
use mathlib.Core.Path.{◌≡◌, refl, sym, ap, ap₂, ◌∙◌}
use mathlib.Core.Bool.{Bool, true, false}
use mathlib.Core.List.{List}
use native.Mathlib.Nat.{add-zero}
use native.Mathlib.Omega.{arith}
use lib.Dec.{eqb, leb}
use lib.ListN.{length, take, drop, get_or, length-drop}
use lib.Seq.{get_or-drop, drop-drop}
use borrow.Author.Tests.{le-leb, lt-leb, eq-eqb, ne_eqb, leb-true, leb-false}
use Rattle.model.specs.declared.Refusal.TheVariants.{CutImage, WrongTag, WrongLength}
use Rattle.model.specs.Refusals.{demand, ◌then◌, Verdict}
use Rattle.model.proofs.Verdicts.{then_accepted}
use Rattle.image.specs.Bytes.{number_in}
use Rattle.image.specs.Format.{Field}
use Rattle.image.specs.Reading.{header_verdict, field_verdict}

module _ (tag due at : ℕ) (bytes : List ℕ) where
  -- the verdict with the four tests as they come out
  abbrev tests : Bool → Bool → Bool → Bool → Verdict
  tests a b c d = demand a CutImage then demand b WrongTag then demand c WrongLength then demand d CutImage

  out : (a b c d : Bool) → leb 3 (length bytes - at) ≡ a → eqb (get_or bytes at 0) tag ≡ b → eqb (number_in (take 2 (drop (at + 1) bytes))) due ≡ c
      → leb (3 + due) (length bytes - at) ≡ d → tests a b c d ≡ header_verdict tag due (drop at bytes)
  unfolding header_verdict
  out a b c d pa pb pc pd =
      let l : length (drop at bytes) ≡ length bytes - at = length-drop at bytes in
      let g : get_or (drop at bytes) 0 0 ≡ get_or bytes at 0 = get_or-drop at bytes 0 0 ∙ ap (λ (n : ℕ). get_or bytes n 0) (add-zero at) in
      let e₀ : leb 3 (length (drop at bytes)) ≡ a = ap (leb 3) l ∙ pa in
      let e₁ : eqb (get_or (drop at bytes) 0 0) tag ≡ b = ap (λ (n : ℕ). eqb n tag) g ∙ pb in
      let e₂ : eqb (number_in (take 2 (drop 1 (drop at bytes)))) due ≡ c = ap (λ (x : List ℕ). eqb (number_in (take 2 x)) due) (drop-drop 1 at bytes) ∙ pc in
      let e₃ : leb (3 + due) (length (drop at bytes)) ≡ d = ap (leb (3 + due)) l ∙ pd in
      λ i. tests (sym e₀ i) (sym e₁ i) (sym e₂ i) (sym e₃ i)

  pub cut-header : length bytes < at + 3 → Err CutImage ≡ header_verdict tag due (drop at bytes)
  cut-header h =
      let k : length bytes - at < 3 = omega arith in
      out false _ _ _ (lt-leb _ _ k) refl refl refl

  module _ (whole : at + 3 ≤ length bytes) where
    header : leb 3 (length bytes - at) ≡ true
    header = let k : 3 ≤ length bytes - at = omega arith in le-leb _ _ k

    pub wrong_tag : (get_or bytes at 0 ≡ tag → ⊥) → Err WrongTag ≡ header_verdict tag due (drop at bytes)
    wrong_tag t = out true false _ _ header (ne_eqb _ _ t) refl refl

    module _ (t : get_or bytes at 0 ≡ tag) where
      pub wrong_length : (number_in (take 2 (drop (at + 1) bytes)) ≡ due → ⊥) → Err WrongLength ≡ header_verdict tag due (drop at bytes)
      wrong_length n = out true true false _ header (eq-eqb _ _ t) (ne_eqb _ _ n) refl

      module _ (n : number_in (take 2 (drop (at + 1) bytes)) ≡ due) where
        pub cut-value : length bytes < at + 3 + due → Err CutImage ≡ header_verdict tag due (drop at bytes)
        cut-value e =
            let k : length bytes - at < 3 + due = omega arith in
            out true true true false header (eq-eqb _ _ t) (eq-eqb _ _ n) (lt-leb _ _ k)

        pub whole-field : at + 3 + due ≤ length bytes → (Ok tt) ≡ header_verdict tag due (drop at bytes)
        whole-field e =
            let k : 3 + due ≤ length bytes - at = omega arith in
            out true true true true header (eq-eqb _ _ t) (eq-eqb _ _ n) (le-leb _ _ k)

-- a field with a value that must follow a rule
pub with_rule : (f : Field) (bytes : List ℕ) {header value both : Verdict} → both ≡ (header then value)
    → header ≡ header_verdict f.tag f.due bytes → value ≡ f.rule (take f.due (drop 3 bytes)) → both ≡ field_verdict f bytes
unfolding field_verdict
with_rule f bytes e p q = e ∙ ap₂ (λ (x y : Verdict). x then y) p q

-- a field with any value
pub without_rule : (f : Field) (bytes : List ℕ) → ((value : List ℕ) → f.rule value ≡ Ok tt) → header_verdict f.tag f.due bytes ≡ field_verdict f bytes
unfolding field_verdict
without_rule f bytes any =
    let header = header_verdict f.tag f.due bytes in
    sym (ap (λ (v : Verdict). header then v) (any (take f.due (drop 3 bytes))) ∙ then_accepted header)

-- nothing follows a field without value
pub nothing-follows : (bytes : List ℕ) (at : ℕ) → leb (length bytes) (at + 3) ≡ eqb (length (drop 3 (drop at bytes))) 0
nothing-follows bytes at = go (leb (length bytes) (at + 3)) refl
  where
    l : length (drop 3 (drop at bytes)) ≡ length bytes - at - 3
    l = length-drop 3 (drop at bytes) ∙ ap (λ (n : ℕ). n - 3) (length-drop at bytes)

    go : (t : Bool) → leb (length bytes) (at + 3) ≡ t → t ≡ eqb (length (drop 3 (drop at bytes))) 0
    go true e =
        let h : length bytes ≤ at + 3 = leb-true _ _ e in
        let z : length (drop 3 (drop at bytes)) ≡ 0 = omega (arith, l) in
        sym (eq-eqb _ _ z)
    go false e = sym (ne_eqb _ _ (λ (z : length (drop 3 (drop at bytes)) ≡ 0). let h : at + 3 < length bytes = leb-false _ _ e in omega (arith, l, z)))
