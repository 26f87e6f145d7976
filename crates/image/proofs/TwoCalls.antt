-- What the writer wrote, the reader reads back, and what the reader loaded, the writer writes back.
use Rattle.std.specs.Prelude.{Ok, Err}
use Prim.Native.Nat.{ℕ, ◌≤◌, ◌<◌}
use mathlib.Core.Path.{◌≡◌, refl, sym, ap, ap₂, ◌∙◌}
use mathlib.Core.Bool.{true}
use mathlib.Core.List.{List}
use native.Mathlib.Omega.{arith}
use lib.Dec.{leb}
use lib.ListN.{length, take, drop}
use lib.Seq.{take_at}
use borrow.Author.Tests.{le-leb}
use Rattle.model.specs.declared.Refusal.TheVariants.{ShortOutput, WrongVersion}
use Rattle.model.specs.Words.{overlay}
use Rattle.model.specs.Refusals.{left_by, most_words, demand, ◌then◌, memory_fits, Verdict}
use Rattle.model.proofs.Verdicts.{demanded, both, memory-bounds, memory-accepted}
use Rattle.image.specs.Format.{is_version, image_of}
use Rattle.image.specs.Reading.{Outcome, loaded, read_of}
use Rattle.image.specs.Calls.{write_verdict, write_result, write_returned, write_bytes, read_result, outcome_words, read_returned, read_words}
use Rattle.image.specs.Theorems.{ReadBack, WriteBack}
use Rattle.image.proofs.Inverse.{round_trip, only_images}
use Rattle.image.proofs.Loaded.{loaded-fits, version-known, loads, first-words}

written-accepted : (v : Verdict) (image : List ℕ) (n : ℕ) → Ok n ≡ write_result v image → (v ≡ Ok tt) × (n ≡ length image)
written-accepted (Ok u) image n e = (refl, cc)
written-accepted (Err why) image n e = (cc, cc)

-- what the writer took
write_bounds : (memory : List ℕ) (version : ℕ) (image out : List ℕ) → write_verdict memory version image out ≡ Ok tt
    → (0 < length memory) × (length memory ≤ most_words) × (is_version version ≡ true)
unfolding write_verdict
write_bounds memory version image out e =
    let room : Verdict = demand (leb (length image) (length out)) ShortOutput in
    let known : Verdict = demand (is_version version) WrongVersion in
    let f = both (memory_fits memory) (room then known) e in
    let b = memory-bounds memory f.0 in
    (b.0, b.1, demanded (is_version version) WrongVersion (both room known f.1).1)

pub read_back : ReadBack
unfolding write_returned write_bytes read_returned read_words
read_back memory machine version out out' n room room' r eight hr hm w h reads =
    let image : List ℕ = image_of version machine memory in
    let f = written-accepted (write_verdict memory version image out) image n w.result in
    let b = write_bounds memory version image out f.0 in
    let o : out' ≡ overlay image out = w.bytes ∙ ap (λ (v : Verdict). left_by v (overlay image out) out) f.0 in
    let t : take n out' ≡ image = ap₂ take f.1 o ∙ take_at image (drop (length image) out) (length image) refl in
    let e : read_of (take n out') (length room) ≡ loaded version machine memory =
    ap (λ (x : List ℕ). read_of x (length room)) t ∙ round_trip version machine memory (length room) b.2 eight hr (omega (arith, b.0)) b.1 hm h in
    (reads.result ∙ ap read_result e, reads.words ∙ ap (λ (x : Outcome). outcome_words x room) e)

-- a memory, a version and an output that the writer takes
takes : (memory : List ℕ) (version : ℕ) (image out : List ℕ) → 0 < length memory → length memory ≤ most_words → is_version version ≡ true → length image ≤ length out
    → write_verdict memory version image out ≡ Ok tt
unfolding write_verdict
takes memory version image out some most known room = rw (memory-accepted memory some most, le-leb (length image) (length out) room, known)

pub write_back : WriteBack
unfolding write_returned write_bytes
write_back bytes room room' r n version out out' w below reads e enough writes =
    let l = loads reads e in
    let first : take n room' ≡ l.words = first-words l in
    let fits = loaded-fits (length room) version r.machine l.words bytes l.is in
    let image : bytes ≡ image_of version r.machine (take n room') =
    only_images (length room) version r.machine l.words bytes below l.is ∙ ap (image_of version r.machine) (sym first) in
    let v : write_verdict (take n room') version bytes out ≡ Ok tt =
    takes (take n room') version bytes out (omega (arith, ap length first, fits.0)) (omega (arith, ap length first, fits.1)) (version-known bytes (length room) l.is) enough in
    let k : write_verdict (take n room') version (image_of version r.machine (take n room')) out ≡ Ok tt =
    ap (λ (x : List ℕ). write_verdict (take n room') version x out) (sym image) ∙ v in
    (writes.result ∙ ap₂ write_result k (sym image), writes.bytes ∙ ap₂ (λ (x : Verdict) (y : List ℕ). left_by x (overlay y out) out) k (sym image))
