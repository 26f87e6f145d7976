-- As much of a text as a buffer has room for, copied into it, leaves what the whole text leaves.
use Prim.Native.Nat.{ℕ, ◌+◌, ◌-◌, ◌≤◌, min}
use mathlib.Core.Path.{◌≡◌, sym, ap, ◌∙◌}
use mathlib.Core.List.{List, ◌++◌, append_assoc}
use native.Mathlib.Omega.{arith}
use lib.ListN.{length, take, drop}
use lib.Seq.{sets, sets-eq, length-sets, length-take-le, take_all}
use borrow.Rule.Slice.PartMut.{put_mid, Post-is}
use Rattle.std.proofs.Common.{inl, inr}
use Rattle.std.proofs.lemmas.Bool.{cases_lt}
use Rattle.std.proofs.lemmas.List.{take-append-drop}
use Rattle.model.proofs.Stores.{sets-append, sets-out}

module _ (out : List ℕ) (at : ℕ) (text : List ℕ) where
  past_out : (fits : ℕ) → fits ≤ length text → at + fits ≡ length out → sets out at (take fits text) ≡ sets out at text
  past_out fits within whole =
      let first = take fits text in
      let long : length first ≡ fits = length-take-le fits text within in
      sym (sets-out (sets out at first) (at + length first) (drop fits text) (omega (arith, length-sets out at first)))
      ∙ sets-append out at first (drop fits text)
      ∙ ap (sets out at) (take-append-drop fits text)

  cut : (fits : ℕ) → fits ≡ min (length text) (length out - at) → at ≤ length out → sets out at (take fits text) ≡ sets out at text
  cut fits e inside =
      elim (cases_lt (length out - at) (length text)) [
        | inl less ↦ past_out fits (omega arith) (omega arith)
        | inr most ↦ ap (sets out at) (take_all fits text (omega arith))
      ]

  pub copied : (fits : ℕ) {part : List ℕ} → fits ≡ min (length text) (length out - at) → at ≤ length out → part ≡ take fits text
      → put_mid at (at + fits - at) out part ≡ sets out at text
  copied fits {part} e inside is =
      let first = take fits text in
      let long : length first ≡ fits = length-take-le fits text (omega arith) in
      let end : at + length first ≡ at + fits = omega arith in
      ap (λ (p : List ℕ). put_mid at (at + fits - at) out p) is
      ∙ ap (λ (rest : List ℕ). take at out ++ (first ++ rest)) (Post-is at (at + fits) out (omega arith) ∙ ap (λ (k : ℕ). drop k out) (sym end))
      ∙ sym (append_assoc (take at out) first (drop (at + length first) out))
      ∙ sym (sets-eq first out at (omega arith))
      ∙ cut fits e inside
