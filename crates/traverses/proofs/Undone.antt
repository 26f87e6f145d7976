-- Rule 2: a traverse that is undone, or whose journal is full, leaves its start and names its first file that does not finish; and where no file
-- is undone under either rule, the rules agree.
use Rattle.model.specs.declared.Refusal.{Refusal}
use Rattle.model.specs.Refusals.{Verdict}
use Rattle.traverses.specs.declared.TraverseEnding.{TraverseEnding}
use Rattle.std.specs.Prelude.{Ok, Err, Result}
use Prim.Native.Nat.{ℕ, zero, suc, ◌+◌, ◌-◌, ◌^◌, ◌≤◌, ◌<◌}
use mathlib.Core.Path.{◌≡◌, refl, sym, ap, ap₂, ◌∙◌}
use mathlib.Core.Bool.{Bool, true, false, cond, true≢false, and-eq-true_iff}
use mathlib.Core.List.{List, [], ◌∷◌}
use native.Mathlib.Omega.{arith}
use lib.Dec.{eqb}
use lib.ListN.{get_or}
use lib.Pow.{pow_pos}
use borrow.Author.Tests.{eqb-true, ne_eqb, not-true}
use Rattle.model.specs.declared.Machine.{Machine}
use Rattle.model.specs.Interpreter.{Run}
use Rattle.model.specs.Journal.{Noted, room_in, completes}
use Rattle.model.proofs.Cases.{pick}
use Rattle.model.proofs.Verdicts.{accepted}
use Rattle.traverses.specs.declared.TraverseEnding.TheVariants.{Marked, Finished, Undone, Full}
use Rattle.traverses.specs.declared.TraverseResult.{TraverseResult}
use Rattle.traverses.specs.Files.{Part, parts, files_in}
use Rattle.traverses.specs.Traverse.{Progress, set_out, taken_back, file_noted, one_file, traversed}
use Rattle.traverses.specs.Calls.{stopped_by, traverse_number, traverse_answer, traverse_result, verdict_here, whole_traverse, traverse_returned}
use Rattle.traverses.specs.Plain.{plain_run}
use Rattle.traverses.specs.Theorems.{outcomes, UndoneKeepsStart, RulesAgree}
use Rattle.traverses.proofs.Reasons.{returned, left_in}
use Rattle.traverses.proofs.Plain.{part_plain}

-- an answer of the traverse itself tells that it was carried out
pub carried-out : (v : Verdict) (version : ℕ) (start : Machine) (t : Progress) (a : Result TraverseEnding Refusal) → (traverse_result v version start t).answer ≡ a → traverse_number a ≡ 0
    → v ≡ Ok tt
carried-out (Ok u) version start t a e z = refl
carried-out (Err why) version start t a e z = accepted (Err why) (ap traverse_number e ∙ z)

-- the mask that an answer has
abbrev pub mask_of : Result TraverseEnding Refusal → ℕ
mask_of (Ok (Marked n)) = n
mask_of (Ok Finished) = 0
mask_of (Ok (Undone n)) = 0
mask_of (Ok (Full n)) = 0
mask_of (Err why) = 0

-- the ending that an answer tells
abbrev ending_of : Result TraverseEnding Refusal → TraverseEnding
ending_of (Ok ending) = ending
ending_of (Err why) = Finished

-- ---- rule 2

-- the number of the file that stopped it
abbrev file_of : TraverseEnding → ℕ
file_of (Marked n) = 0
file_of Finished = 0
file_of (Undone n) = n
file_of (Full n) = n

-- whether an ending names one
abbrev named : TraverseEnding → Bool
named (Marked n) = false
named Finished = false
named (Undone n) = true
named (Full n) = true

file-of : (full : Bool) (file : ℕ) → (file_of (stopped_by full file) ≡ file) × (named (stopped_by full file) ≡ true)
file-of true file = (refl, refl)
file-of false file = (refl, refl)

-- "undone" and "journal full" tell that the traverse was taken back at its last file
undone-at : (version : ℕ) (t : Progress) (full : Bool) (file : ℕ) → traverse_answer version t ≡ stopped_by full file
    → (taken_back version t ≡ true) × (t.files - 1 ≡ file)
undone-at version t full file e =
    go (eqb version 1) (eqb t.undone 0) refl refl (ap named e ∙ (file-of full file).1) (ap file_of e ∙ (file-of full file).0)
  where
    go : (a b : Bool) → eqb version 1 ≡ a → eqb t.undone 0 ≡ b → named (traverse_answer version t) ≡ true → file_of (traverse_answer version t) ≡ file
        → (taken_back version t ≡ true) × (t.files - 1 ≡ file)
    go true b p q n f = absurd (true≢false (sym n ∙ rw p))
    go false true p q n f = absurd (true≢false (sym n ∙ rw (p, q)))
    go false false p q n f = (rw (p, q), sym (rw (p, q) (file-of t.full (t.files - 1)).0) ∙ f)

-- file number `file` from here is the first that does not finish
record Stops (results : List Bool) (from end : ℕ) : Type 0 where
  more : from < end
  before : (i : ℕ) → i < end - from - 1 → get_or results i false ≡ true
  there : get_or results (end - from - 1) true ≡ false

-- after a file that finishes
later : (results : List Bool) (from end : ℕ) → Stops results (from + 1) end → Stops (true ∷ results) from end
later results from end s =
    let m : end - from - 1 ≡ suc (end - (from + 1) - 1) = omega (arith, s.more) in
    record { more = omega (arith, s.more); before = λ i l. earlier i l; there = rw m s.there }
  where
    earlier : (i : ℕ) → i < end - from - 1 → get_or (true ∷ results) i false ≡ true
    earlier zero l = refl
    earlier (suc i) l = s.before i (omega arith)

module _ (bottom version room : ℕ) (two : eqb version 1 ≡ false) where
  stops : (ps : List Part) (t : Progress) → t.undone ≡ 0 → taken_back version (traversed bottom version room ps t) ≡ true
      → Stops (outcomes bottom version room ps t) t.files (traversed bottom version room ps t).files
  unfolding traversed outcomes one_file
  stops [] t z e = absurd (true≢false (sym e ∙ rw (two, z)))
  stops (p ∷ ps) t z e = go (completes (file_noted bottom version room t p)) refl (λ n. stops ps (one_file bottom version room t p) n)
    where
      u : Progress
      u = one_file bottom version room t p

      go : (b : Bool) → completes (file_noted bottom version room t p) ≡ b
          → (u.undone ≡ 0 → taken_back version (traversed bottom version room ps u) ≡ true
          → Stops (outcomes bottom version room ps u) u.files (traversed bottom version room ps u).files)
          → Stops (b ∷ outcomes bottom version room ps u) t.files (cond (taken_back version u) u (traversed bottom version room ps u)).files
      go true d rest =
          let n : u.undone ≡ 0 = rw d z in
          let on : taken_back version u ≡ false = rw (n, two) in
          rw on (later (outcomes bottom version room ps u) t.files _ (rest n (rw on at e)))
      go false d rest =
          let n : eqb u.undone 0 ≡ false = rw d (ne_eqb (t.undone + 2 ^ t.files) 0 (λ q. omega (arith, q, pow_pos t.files))) in
          let back : taken_back version u ≡ true = rw (n, two) in
          let m : t.files + 1 - t.files - 1 ≡ 0 = omega arith in
          rw back (record { more = omega arith; before = λ i l. absurd (omega arith); there = rw m })

pub undone-keeps-start : UndoneKeepsStart
unfolding traverse_returned
undone-keeps-start memory bottom journal load files start version memory' journal' r c full file e =
    let t = whole_traverse memory bottom journal load files start version in
    let verdict = verdict_here memory bottom journal load files start version in
    let told = sym (ap (λ (x : TraverseResult). x.answer) c.result) ∙ e in
    let v = carried-out verdict version start t (Ok (stopped_by full file)) told refl in
    let q = returned memory bottom journal load files start version v c in
    let (back, at) = undone-at version t full file (ap ending_of (sym (ap (λ (x : TraverseResult). x.answer) q) ∙ e)) in
    let two = not-true (eqb version 1) ((and-eq-true_iff _ _).0 back).0 in
    let s = stops bottom version (room_in journal) two (parts (files_in files) load) (set_out start memory journal) refl back in
    let here : t.files - 0 - 1 ≡ file = omega (arith, at) in
    record {
      machine = ap (λ (x : TraverseResult). x.machine) q ∙ rw back;
      words = left_in memory bottom journal load files start version v c ∙ rw back;
      first = λ i l. s.before i (omega (arith, here));
      stopped = rw here at s.there;
    }

-- ---- where no file is undone, the rules agree

-- a file adds its bit or none
grows : (bottom version room : ℕ) (ps : List Part) (t : Progress) → t.undone ≤ (traversed bottom version room ps t).undone
unfolding traversed one_file
grows bottom version room [] t = omega arith
grows bottom version room (p ∷ ps) t =
    let u = one_file bottom version room t p in
    let one : t.undone ≤ u.undone = pick (λ (n : ℕ). t.undone ≤ n) (completes (file_noted bottom version room t p)) (omega arith) (omega arith) in
    pick (λ (x : Progress). t.undone ≤ x.undone) (taken_back version u) one (omega (arith, one, grows bottom version room ps u))

-- a file that adds no bit finishes, and leaves what its run without a journal leaves
record Ends (t : Progress) (r : Run) : Type 0 where
  machine : t.machine ≡ r.machine
  memory : t.memory ≡ r.memory
  ran : t.ran ≡ r.ran

ends : (bottom version room : ℕ) (t : Progress) (p : Part) → (one_file bottom version room t p).undone ≡ 0
    → Ends (one_file bottom version room t p) (plain_run bottom t.machine t.memory p)
unfolding one_file
ends bottom version room t p z = go (completes k) refl
  where
    k : Noted
    k = file_noted bottom version room t p

    go : (b : Bool) → completes k ≡ b → Ends (one_file bottom version room t p) (plain_run bottom t.machine t.memory p)
    go false d = let n = rw d at z in absurd (omega (arith, pow_pos t.files))
    go true d =
        let e : k.run ≡ plain_run bottom t.machine t.memory p = part_plain bottom room _ t.machine t.memory p (not_full k d) in
        record { machine = rw d (ap (λ (r : Run). r.machine) e); memory = rw d (ap (λ (r : Run). r.memory) e); ran = ap (λ (r : Run). r.ran) e }
      where
        not_full : (k : Noted) → completes k ≡ true → k.full ≡ false
        not_full k d = by k.full refl
          where
            by : (f : Bool) → k.full ≡ f → k.full ≡ false
            by false e = e
            by true e = absurd (true≢false (sym d ∙ rw e))

record Agrees (a b : Progress) : Type 0 where
  machine : a.machine ≡ b.machine
  memory : a.memory ≡ b.memory
  ran : a.ran ≡ b.ran

agree : (bottom room : ℕ) (ps : List Part) (a b : Progress) → Agrees a b
    → (traversed bottom 1 room ps a).undone ≡ 0 → (traversed bottom 2 room ps b).undone ≡ 0
    → Agrees (traversed bottom 1 room ps a) (traversed bottom 2 room ps b)
unfolding traversed
agree bottom room [] a b s y z = s
agree bottom room (p ∷ ps) a b s y z =
    let u = one_file bottom 1 room a p in
    let w = one_file bottom 2 room b p in
    let m : u.undone ≡ 0 = omega (arith, grows bottom 1 room ps u) in
    let less : w.undone ≤ (cond (taken_back 2 w) w (traversed bottom 2 room ps w)).undone =
    pick (λ (x : Progress). w.undone ≤ x.undone) (taken_back 2 w) (omega arith) (grows bottom 2 room ps w) in
    let n : w.undone ≡ 0 = omega (arith, less) in
    let on : taken_back 2 w ≡ false = rw n in
    let p₁ = ends bottom 1 room a p m in
    let p₂ = ends bottom 2 room b p n in
    let same : plain_run bottom a.machine a.memory p ≡ plain_run bottom b.machine b.memory p =
    ap₂ (λ (x : Machine) (l : List ℕ). plain_run bottom x l p) s.machine s.memory in
    rw on
    (agree bottom room ps u w
    (record {
      machine = p₁.machine ∙ ap (λ (r : Run). r.machine) same ∙ sym p₂.machine;
      memory = p₁.memory ∙ ap (λ (r : Run). r.memory) same ∙ sym p₂.memory;
      ran = p₁.ran ∙ ap (λ (r : Run). r.ran) same ∙ sym p₂.ran;
    })
    y (rw on at z))

-- "finished" under rule 2 tells that no file was undone
none-undone : (t : Progress) → traverse_answer 2 t ≡ Finished → t.undone ≡ 0
none-undone t e = go (eqb t.undone 0) refl t.full refl
  where
    go : (b : Bool) → eqb t.undone 0 ≡ b → (f : Bool) → t.full ≡ f → t.undone ≡ 0
    go true p f q = eqb-true t.undone 0 p
    go false p true q = let z = rw (p, q) at e in cc
    go false p false q = let z = rw (p, q) at e in cc

pub rules_agree : RulesAgree
unfolding traverse_returned
rules_agree memory bottom journal load files start memory' journal' r c e memory'' journal'' r₂ c₂ e₂ =
    let t = whole_traverse memory bottom journal load files start 1 in
    let t₂ = whole_traverse memory bottom journal load files start 2 in
    let answer : TraverseResult → Result TraverseEnding Refusal = λ x. x.answer in
    let v = carried-out (verdict_here memory bottom journal load files start 1) 1 start t (Ok (Marked 0)) (sym (ap answer c.result) ∙ e) refl in
    let v₂ = carried-out (verdict_here memory bottom journal load files start 2) 2 start t₂ (Ok Finished) (sym (ap answer c₂.result) ∙ e₂) refl in
    let q = returned memory bottom journal load files start 1 v c in
    let q₂ = returned memory bottom journal load files start 2 v₂ c₂ in
    let none : t.undone ≡ 0 = ap mask_of (sym (ap answer q) ∙ e) in
    let none₂ : t₂.undone ≡ 0 = none-undone t₂ (ap ending_of (sym (ap answer q₂) ∙ e₂)) in
    let on : taken_back 2 t₂ ≡ false = rw none₂ in
    let out = set_out start memory journal in
    let s = agree bottom (room_in journal) (parts (files_in files) load) out out (record { machine = refl; memory = refl; ran = refl }) none none₂ in (
      left_in memory bottom journal load files start 1 v c ∙ s.memory ∙ sym (left_in memory bottom journal load files start 2 v₂ c₂ ∙ rw on),
      ap (λ (x : TraverseResult). x.machine) q ∙ s.machine ∙ sym (ap (λ (x : TraverseResult). x.machine) q₂ ∙ rw on),
      ap (λ (x : TraverseResult). x.ran) q ∙ s.ran ∙ sym (ap (λ (x : TraverseResult). x.ran) q₂),
    )
