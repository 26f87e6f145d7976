use mathlib.Core.Path.{sym}
use lib.Seq.{length-take-le}
use Rattle.ledger_text.proofs.Answers.{report_no_room, within, words-fit, report_refused, report_carried}
use Rattle.ledger_text.proofs.report.Goals as goal

pub returns-then-out-lt-LONGEST_TEXT : goal.returns-then-out-lt-LONGEST_TEXT
returns-then-out-lt-LONGEST_TEXT c = report_no_room c.if-out-lt-LONGEST_TEXT.true

pub slice_bounds-put_run-end : goal.slice_bounds-put_run-end
slice_bounds-put_run-end c =
    let read = c.read-result in
    within read.ensures c.in-Ok.is read.auto.memory

pub slice_bounds-put_run-end-in-Ok : goal.slice_bounds-put_run-end-in-Ok
slice_bounds-put_run-end-in-Ok c =
    let read = c.read-result in
    sym (length-take-le _ _ (within read.ensures c.in-Ok.is read.auto.memory))

pub put_run-requires : goal.put_run-requires
put_run-requires c =
    let read = c.read-result in
    words-fit read.ensures c.in-Ok.is read.auto.memory

pub returns-in-Err : goal.returns-in-Err
returns-in-Err c =
    report_refused c.read-result.ensures c.in-Err.is c.if-out-lt-LONGEST_TEXT.false
    c.put_refused.ensures

pub returns-in-Ok : goal.returns-in-Ok
returns-in-Ok c =
    report_carried c.read-result.ensures c.in-Ok.is c.read-result.auto.memory c.if-out-lt-LONGEST_TEXT.false
    c.put_run.ensures c.put_run.auto.memory
