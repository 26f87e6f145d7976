-- Parts of a text put in one after the other are put in together.
use Prim.Native.Nat.{ℕ, ◌+◌}
use mathlib.Core.Path.{◌≡◌, ap, ◌∙◌}
use mathlib.Core.List.{List, [], ◌∷◌, ◌++◌}
use native.Mathlib.Omega.{arith}
use lib.ListN.{length-append}
use Rattle.model.proofs.Stores.{sets-append}
use Rattle.text.specs.Text.{Puts}
use Rattle.ledger_text.specs.declared.writer.Writer.{Writer}
use Rattle.ledger_text.specs.Parts.{Extends, Writes}

infixl 5 ◌⊳◌
pub ◌⊳◌ : {a b : List ℕ} {w w₁ w₂ : Writer} → Writes w a w₁ → Writes w₁ b w₂ → Writes w (a ++ b) w₂
◌⊳◌ {a} {b} {w} h k =
    record {
      put =
          record {
            buffer = k.put.buffer ∙ rw (h.put.buffer, h.put.place) (sets-append w.out.now w.at a b);
            place = omega (arith, h.put.place, k.put.place, length-append a b);
          };
      same_reference = k.same_reference ∙ h.same_reference;
    }

-- a figure, and the byte that ends it
pub figure_put : {w w₁ w₂ : Writer} {end size : ℕ} {figure : List ℕ} → Puts w.out.now w.at figure w₁.out.now size
    → w₁.at ≡ w.at + size → w₁.out.ghost_name ≡ w.out.ghost_name → Writes w₁ (end ∷ []) w₂ → Writes w (figure ++ end ∷ []) w₂
figure_put {w} h place same k =
    record {
      put = record { buffer = h.buffer; place = place ∙ ap (λ (n : ℕ). w.at + n) h.size };
      same_reference = same;
    }
    ⊳ k

-- what a writer leaves that began at the start of a buffer
pub written : {out out' text : List ℕ} {size : ℕ} {w w' : Writer} → (w.out.now ≡ out) × (w.at ≡ 0) → Writes w text w'
    → out' ≡ w'.out.now → size ≡ w'.at → Extends out 0 text out' size
written begun h left told =
    record {
      buffer = left ∙ rw (begun.0, begun.1) at h.put.buffer;
      place = told ∙ rw begun.1 at h.put.place;
    }
