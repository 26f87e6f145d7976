-- What a step answers, by whether its instruction ran, and what that is for the model's run.
use Rattle.std.specs.Prelude.{Result, Ok, Err}
use Prim.Native.Nat.{ℕ}
use mathlib.Core.Path.{◌≡◌, refl, sym, ap, ◌∙◌}
use mathlib.Core.Bool.{Bool, true, false, cond, ◌&&◌}
use mathlib.Core.List.{List, [], ◌∷◌}
use Rattle.model.specs.declared.Machine.{Machine}
use Rattle.model.specs.declared.Ending.{Ending}
use Rattle.model.specs.Board.{Board}
use Rattle.model.specs.Interpreter as I
use Rattle.model.specs.Journal.{Pair, stored_by}
use Rattle.model.specs.Packed.{flags_of, packed_machine}
use Rattle.model.proofs.Cases.{cond-true, cond-false}
use Rattle.model.proofs.Packed.{unpacks}
use Rattle.model.proofs.Runs.{run_at}
use Rattle.marks.specs.declared.Noting.{Noting}
use Rattle.marks.specs.Marks.{noting_at}
use Rattle.step.specs.declared.Stepped.{Stepped}
use Rattle.step.specs.Keeping.{Keeps}
use Rattle.step.specs.Steps.{finds_full, stepped_of, stepped_registers, Steps}
use Rattle.step.proofs.Steps.{ran, halted}

module _ {regs memory : List ℕ} {bottom : ℕ} {journal map : List ℕ} {pairs flags : ℕ} {regs' memory' journal' map' : List ℕ} {pairs' : ℕ} {s : Result Stepped Ending}
    (h : Steps regs memory bottom journal map pairs flags regs' memory' journal' map' pairs' s) where
  abbrev m : Machine
  m = packed_machine regs flags

  abbrev next : Ending
  next = I.next_ending memory m

  abbrev full : Bool
  full = finds_full memory m bottom journal map pairs

  -- where it runs
  module _ {x : Stepped} (e : s ≡ Ok x) where
    pub runs : I.next_runs memory m ≡ true
    runs = (ran (I.next_runs memory m) _ _ (sym e ∙ h.result)).0

    is : x ≡ stepped_of memory m flags full
    is = (ran (I.next_runs memory m) _ _ (sym e ∙ h.result)).1

    -- what the code keeps of its store
    pub next-kept : Keeps (I.next_memory memory m bottom) journal map pairs (I.alters_memory memory m bottom) (I.address_b memory m) (I.value_b memory m) memory' journal' map' (noting_at x.full pairs')
    next-kept = rw is (rw runs at h.kept)

    -- where the journal is not full, it is done
    module _ (f : x.full ≡ false) where
      free : full ≡ false
      free = sym (ap (λ (x : Stepped). x.full) is) ∙ f

      pub is-stepped : x ≡ stepped_of memory m flags false
      is-stepped = is ∙ ap (stepped_of memory m flags) free

      pub next-regs : regs' ≡ (I.next_machine memory m).regs
      next-regs = (h.registers ∙ sym (cond-true (stepped_registers memory m full) regs runs)) ∙ ap (stepped_registers memory m) free

      pub next-flags : flags_of x.flags ≡ (I.next_machine memory m).flags
      next-flags = ap (λ (x : Stepped). flags_of x.flags) is-stepped ∙ unpacks (I.next_machine memory m).flags

  -- where it does not run, nothing changes
  module _ {d : Ending} (e : s ≡ Err d) where
    halts : I.next_runs memory m ≡ false
    halts = (halted (I.next_runs memory m) _ _ (sym e ∙ h.result)).0

    why : d ≡ next
    why = (halted (I.next_runs memory m) _ _ (sym e ∙ h.result)).1

    pub goes-no-more : I.goes_on d ≡ false
    goes-no-more = ap I.goes_on why ∙ halts

    pub same_regs : regs' ≡ regs
    same_regs = h.registers ∙ sym (cond-false (stepped_registers memory m full) regs halts)

    none : Keeps memory journal map pairs false (I.address_b memory m) (I.value_b memory m) memory' journal' map' (noting_at false pairs')
    none = rw halts at h.kept

    pub same-words : memory' ≡ memory
    same-words = none.words

    pub same-places : journal' ≡ journal
    same-places = none.places

    pub same-marks : map' ≡ map
    same-marks = none.marks

    pub same-pairs : pairs' ≡ pairs
    same-pairs = ap (λ (n : Noting). n.pairs) none.result

  -- one turn of the definition
  module _ (board : Board) (p i c : ℕ) where
    abbrev at : I.Run
    at = run_at m memory p i c

    pub stops : {d : Ending} → s ≡ Err d → I.advance board at ≡ I.stop d at
    unfolding I.advance
    stops e = ap (λ (t : Bool). cond t (I.execute board at) (I.stop next at)) (halts e) ∙ ap (λ (e : Ending). I.stop e at) (sym (why e))

    former-is : (u b v : Bool) (a f g : ℕ)
        → ◌≡◌ {A = List Pair} (cond (u && b && v) (record { address = a; former = f } ∷ []) [])
        (cond (u && b && v) (record { address = a; former = cond b f g } ∷ []) [])
    former-is true true v a f g = refl
    former-is true false v a f g = refl
    former-is false b v a f g = refl

    pub stores : {x : Stepped} → s ≡ Ok x
        → stored_by bottom at ≡ cond (I.alters_memory memory m bottom) (record { address = I.address_b memory m; former = I.value_b memory m } ∷ []) []
    unfolding stored_by
    stores e = rw (runs e) (former-is (I.is_stored memory m) _ _ _ _ _)

    pub stores-none : {d : Ending} → s ≡ Err d → stored_by bottom at ≡ []
    unfolding stored_by
    stores-none e = rw (halts e)
