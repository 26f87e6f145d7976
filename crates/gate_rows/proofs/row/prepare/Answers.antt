use mathlib.Core.Path.{◌≡◌, sym, ap, ◌∙◌}
use Rattle.model.specs.Operands.{in_memory}
use Rattle.gate_rows.proofs.row.prepare.Goals.{in-Direct, in-Indirect, in-Before, in-After}
use Rattle.gate_rows.proofs.row.prepare.Goals as goal

pub returns-then-addressed : goal.returns-then-addressed
returns-then-addressed c =
    let args = c.args in
    let matched : c.match-o.addressed ≡ in_memory args.o = elim c.match-o.branch [
      | in-Direct w ↦ w.addressed-is ∙ sym (ap in_memory w.in-Direct.is)
      | in-Indirect w ↦ w.addressed-is ∙ sym (ap in_memory w.in-Indirect.is)
      | in-Before w ↦ w.addressed-is ∙ sym (ap in_memory w.in-Before.is)
      | in-After w ↦ w.addressed-is ∙ sym (ap in_memory w.in-After.is)
    ] in
    c.with_address.ensures _
    ∙ rw (c.register_word-word.ensures, c.step_down.ensures, ← matched, c.if-addressed.true)

pub returns-then-second : goal.returns-then-second
returns-then-second c =
    let args = c.args in
    let matched : c.match-o.addressed ≡ in_memory args.o = elim c.match-o.branch [
      | in-Direct w ↦ w.addressed-is ∙ sym (ap in_memory w.in-Direct.is)
      | in-Indirect w ↦ w.addressed-is ∙ sym (ap in_memory w.in-Indirect.is)
      | in-Before w ↦ w.addressed-is ∙ sym (ap in_memory w.in-Before.is)
      | in-After w ↦ w.addressed-is ∙ sym (ap in_memory w.in-After.is)
    ] in
    c.with_b.ensures _
    ∙ rw (c.register_word-word.ensures, c.step_down.ensures, ← matched, c.if-addressed.false, c.if-second.true)

pub returns : goal.returns
returns c =
    let args = c.args in
    let matched : c.match-o.addressed ≡ in_memory args.o = elim c.match-o.branch [
      | in-Direct w ↦ w.addressed-is ∙ sym (ap in_memory w.in-Direct.is)
      | in-Indirect w ↦ w.addressed-is ∙ sym (ap in_memory w.in-Indirect.is)
      | in-Before w ↦ w.addressed-is ∙ sym (ap in_memory w.in-Before.is)
      | in-After w ↦ w.addressed-is ∙ sym (ap in_memory w.in-After.is)
    ] in
    c.with_a.ensures _
    ∙ rw (c.register_word-word.ensures, c.step_down.ensures, ← matched, c.if-addressed.false, c.if-second.false)
