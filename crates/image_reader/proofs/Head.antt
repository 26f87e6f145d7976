-- The verdicts on the fields of the head, by what the code tests.
use Prim.Native.Nat.{ℕ, ◌+◌}
use mathlib.Core.Path.{◌≡◌, refl, sym, ap, ap₂, ◌∙◌}
use mathlib.Core.Bool.{Bool}
use mathlib.Core.List.{List}
use lib.Dec.{leb}
use lib.ListN.{take, drop, get_or}
use lib.Seq.{get_or-drop, drop-drop}
use Rattle.model.specs.declared.Refusal.TheVariants.{WrongVersion, BadFlag, BadWordCount, ShortMemory}
use Rattle.model.specs.Refusals.{demand, ◌then◌, Verdict}
use Rattle.image.specs.Bytes.{number_in}
use Rattle.image.specs.Format.{version_field, registers_field, flags_field, count_field, is_version, flags_formed, count_formed}
use Rattle.image.specs.Reading.{header_verdict, field_verdict}
use Rattle.image.proofs.Places.{flags-take}
use Rattle.image.proofs.Headers.{without_rule}
use Rattle.image_reader.specs.Passes.{image_version, image_count, head_verdict}

pub version-checked : (bytes : List ℕ) (v : ℕ) (t : Bool) → t ≡ is_version v → v ≡ image_version bytes → demand t WrongVersion ≡ version_field.rule (take 1 (drop 3 bytes))
version-checked bytes v t p e = ap (λ (x : Bool). demand x WrongVersion) (p ∙ ap is_version e)

-- a flag's byte, by its place in the image and in its field
pub flag_at : (bytes : List ℕ) (i : ℕ) {x : ℕ} → x ≡ get_or bytes (42 + i) 0 → x ≡ get_or (drop 42 bytes) i 0
flag_at bytes i e = e ∙ sym (get_or-drop 42 bytes i 0)

pub flags-checked : (bytes : List ℕ) (t : Bool) → t ≡ flags_formed (drop 42 bytes) → demand t BadFlag ≡ flags_field.rule (take 4 (drop 3 (drop 39 bytes)))
flags-checked bytes t e =
    ap (λ (x : Bool). demand x BadFlag)
    (e ∙ sym (flags-take (drop 42 bytes)) ∙ ap (λ (l : List ℕ). flags_formed (take 4 l)) (sym (drop-drop 3 39 bytes)))

pub count-checked : (bytes : List ℕ) (n room : ℕ) → n ≡ image_count bytes
    → (demand (count_formed n) BadWordCount then demand (leb n room) ShortMemory) ≡ (count_field room).rule (take 4 (drop 3 (drop 46 bytes)))
count-checked bytes n room e =
    ap (λ (x : ℕ). demand (count_formed x) BadWordCount then demand (leb x room) ShortMemory)
    (e ∙ ap (λ (l : List ℕ). number_in (take 4 l)) (sym (drop-drop 3 46 bytes)))

-- the four fields of the head
pub head_of : (bytes : List ℕ) (room : ℕ) {version registers flags count : Verdict}
    → version ≡ field_verdict version_field bytes → registers ≡ header_verdict 2 32 (drop 4 bytes)
    → flags ≡ field_verdict flags_field (drop 39 bytes) → count ≡ field_verdict (count_field room) (drop 46 bytes)
    → (version then registers then flags then count) ≡ head_verdict bytes room
unfolding head_verdict
head_of bytes room p q r s =
    let both = λ (x y : Verdict). x then y in
    ap₂ both p (ap₂ both (q ∙ without_rule registers_field (drop 4 bytes) (λ value. refl)) (ap₂ both r s))
