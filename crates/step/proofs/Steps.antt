-- One instruction: its operands taken or the registers put back, its store, and the whole.
use Rattle.std.specs.Prelude.{Option, Some, None, Result, Ok, Err, IsErrAnd}
use Rattle.std.proofs.lemmas.Result.{err_from_is_err_and}
use Prim.Native.Nat.{ℕ}
use mathlib.Core.Path.{◌≡◌, refl, sym, ap, ◌∙◌}
use mathlib.Core.Bool.{Bool, true, false, not, cond, ◌&&◌, ◌||◌}
use mathlib.Core.List.{List}
use Rattle.model.specs.declared.Operand.{Operand}
use Rattle.model.specs.declared.Ending.{Ending}
use Rattle.model.specs.Words.{alterable}
use Rattle.model.specs.Operands.{in_memory, step_down, operand_present}
use Rattle.model.specs.Interpreter as I
use Rattle.model.specs.Packed.{packed_machine}
use Rattle.model.proofs.Cases.{cond-true, cond-false}
use Rattle.model.proofs.Runs.{has_words}
use Rattle.marks.specs.declared.Noting.{Noting}
use Rattle.step.proofs.Keeping.{keeps-none}
use Rattle.step.specs.declared.take.Taken.{Taken}
use Rattle.step.specs.declared.fetch.Fetched.{Fetched}
use Rattle.step.specs.declared.Stepped.{Stepped}
use Rattle.step.specs.Steps.{Takes, bare, Fetches, Finishes, finds_full, Steps}

-- the registers of an operand taken
module _ {o : Operand} {r memory d : List ℕ} {t : Option Taken} (h : Takes o r memory d t) where
  abbrev here : Bool
  here = operand_present o (step_down o r) memory

  found : {x : Taken} → t ≡ Some x → here ≡ true
  found e = go here _ (sym e ∙ h.result)
    where
      go : (v : Bool) (y : Taken) {x : Taken} → Some x ≡ cond v (Some y) None → v ≡ true
      go true y e = refl
      go false y e = cc

  absent : t ≡ None → here ≡ false
  absent e = go here _ (sym e ∙ h.result)
    where
      go : (v : Bool) (y : Taken) → None ≡ cond v (Some y) None → v ≡ false
      go true y e = cc
      go false y e = refl

  pub took-down : {x : Taken} → t ≡ Some x → d ≡ step_down o r
  took-down e = h.registers ∙ sym (cond-true (step_down o r) r (found e))

  pub took-back : t ≡ None → d ≡ r
  took-back e = h.registers ∙ sym (cond-false (step_down o r) r (absent e))

-- what a choice between an answer and an ending came to
module _ {A : Type 0} where
  pub ran : (v : Bool) (y : A) (e : Ending) {x : A} → Ok x ≡ cond v (Ok y) (Err e) → (v ≡ true) × (x ≡ y)
  ran true y e p = (refl, cc)
  ran false y e p = (cc, cc)

  pub halted : (v : Bool) (y : A) (e : Ending) {d : Ending} → Err d ≡ cond v (Ok y) (Err e) → (v ≡ false) × (d ≡ e)
  halted true y e p = (cc, cc)
  halted false y e p = (refl, cc)

  -- what leaves at the exit of a `?`
  pub leaves : (r : Result A Ending) {e : Ending} → IsErrAnd r (λ y. y ≡ e) → r ≡ Err e
  leaves r h = let p = err_from_is_err_and r h in p.1 ∙ ap Err p.2

-- ---- the whole instruction

-- an operand that is taken is there, so a store to it is done unless it is below the bottom
put-where-present : (stored mem above there : Bool) → (not mem || there) ≡ true → (stored && mem && above && there) ≡ ((stored && mem) && above)
put-where-present true true true there e = e
put-where-present true true false there e = refl
put-where-present true false above there e = refl
put-where-present false mem above there e = refl

abbrev next : (regs memory : List ℕ) → Ending
next regs memory = I.next_ending memory (bare regs)

module _ {regs memory r1 : List ℕ} {r : Result Fetched Ending} (h : Fetches regs memory r1 r) where
  module _ {bottom : ℕ} {journal map : List ℕ} {pairs flags : ℕ} where
    pub step-stops : {e : Ending} → r ≡ Err e → {s : Result Stepped Ending} → s ≡ Err e → Steps regs memory bottom journal map pairs flags r1 memory journal map pairs s
    step-stops e p =
        let (t, why) = halted (I.next_runs memory (bare regs)) _ _ (sym e ∙ h.result) in
        record {
          result = (p ∙ ap Err why) ∙ cond-false _ (Err (next regs memory)) t;
          registers = h.registers ∙ sym (cond-false (I.regs_b memory (bare regs)) regs t) ∙ cond-false _ regs t;
          kept = rw t (keeps-none memory journal map pairs false (I.address_b memory (bare regs)) (I.value_b memory (bare regs)) refl);
        }

    pub stepped-all : {f : Fetched} → r ≡ Ok f → {r2 memory' journal' map' : List ℕ} {pairs' : ℕ} {x : Stepped}
        → Finishes r1 memory bottom journal map pairs flags f r2 memory' journal' map' pairs' x
        → Steps regs memory bottom journal map pairs flags r2 memory' journal' map' pairs' (Ok x)
    stepped-all e {x = x} g =
        let m = packed_machine regs flags in
        let (t, p) = ran (I.next_runs memory (bare regs)) _ _ (sym e ∙ h.result) in
        let q : r1 ≡ I.regs_b memory (bare regs) = h.registers ∙ sym (cond-true (I.regs_b memory (bare regs)) regs t) in
        let done = put-where-present (I.is_stored memory m) (in_memory (I.op_b memory m)) (alterable bottom (I.address_b memory m)) _ (has_words memory (bare regs) t).second in
        let k = rw (p, done) at g.kept in
        let is : x.full ≡ finds_full memory m bottom journal map pairs = ap (λ (n : Noting). n.full) k.result in
        record {
          result = ap Ok (g.result ∙ rw (p, is)) ∙ cond-true _ (Err (next regs memory)) t;
          registers = (g.registers ∙ rw (p, q, is)) ∙ cond-true _ regs t;
          kept = rw t (rw is at k);
        }
