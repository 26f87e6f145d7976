-- CR 7: where the new reasons come in.
use Rattle.model.specs.Refusals.{run_verdict, gate_verdict}
use Rattle.model.specs.ResetReasons.{WaitsFirst, ResetsNext, StateLast, PositionLast}

pub waits-first : WaitsFirst
unfolding run_verdict gate_verdict
waits-first memory board h e = record { gate = λ resets s. rw (h.words, h.bottom, e); run = λ position. rw (h.words, h.bottom, e) }

pub resets-next : ResetsNext
unfolding gate_verdict
resets-next memory board resets s h e r = rw (h.words, h.bottom, e, r)

pub state-last : StateLast
unfolding gate_verdict
state-last memory board resets s h e r = rw (h.words, h.bottom, e, r)

pub position-last : PositionLast
unfolding run_verdict
position-last memory board position h e = rw (h.words, h.bottom, e)
