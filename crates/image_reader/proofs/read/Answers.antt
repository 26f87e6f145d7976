use mathlib.Core.Path.{sym, ◌∙◌}
use native.Mathlib.Omega.{arith}
use lib.ListN.{length}
use Rattle.image_reader.proofs.Answers.{image-accepted, read-refused, read-carried}
use Rattle.image_reader.proofs.read.Goals as goal

pub load_memory-requires : goal.load_memory-requires
load_memory-requires c =
    let a = c.args in
    let h = image-accepted a.bytes.now (length a.memory.now) (sym c.image_verdict.ensures ∙ c.in-Ok.is) in
    let e = c.word_count-words.ensures in
    (rw e h.0, rw e h.1)

pub machine_at-requires : goal.machine_at-requires
machine_at-requires c =
    let a = c.args in
    let h = image-accepted a.bytes.now (length a.memory.now) (sym c.image_verdict.ensures ∙ c.in-Ok.is) in
    omega (arith, h.0)

pub returns-in-Err : goal.returns-in-Err
returns-in-Err c =
    let a = c.args in
    read-refused a.bytes.now a.memory.now _ _ (sym c.in-Err.is ∙ c.image_verdict.ensures) c.cleared_machine.ensures

pub returns-in-Ok : goal.returns-in-Ok
returns-in-Ok c =
    let a = c.args in
    read-carried a.bytes.now a.memory.now _ _ _ _ (sym c.in-Ok.is ∙ c.image_verdict.ensures)
    c.word_count-words.ensures c.image_version-version.ensures c.machine_at.ensures c.load_memory.ensures
