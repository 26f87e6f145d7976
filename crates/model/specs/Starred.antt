-- The starred bench words: one instruction each, by the interpreter and by the gate machine. Document 01, "Bench words".
use Rattle.std.specs.Prelude.{ℕ, Bool, true, false, ◌&&◌, List, [], ◌∷◌, eqb}
use Rattle.arithmetic.specs.Words.{as_number}
use Rattle.model.specs.declared.GateState.{GateState}
use Rattle.model.specs.Words.{word_at}
use Rattle.model.specs.Board.{board_with}
use Rattle.model.specs.Interpreter.{interpret}
use Rattle.model.specs.GateMachine.{at_rest, gate_run}
use Rattle.model.specs.Agreement.{Mark, interpreter_mark, gate_mark, gate_from, interpreter_from}

-- what a bench word is to leave
pub data Expected : Type 0 where
  reg word : ℕ → ℕ → Expected
  flag_c flag_v flag_n flag_z clocks : ℕ → Expected

pub record Case : Type 0 where
  pub memory : List ℕ
  pub r1 : ℕ
  pub r2 : ℕ
  pub carry : Bool
  pub waits : List ℕ
  pub expected : List Expected

abbrev pub cases : List Case
cases =
    record { memory = 0x0001_3C21 ∷ 0 ∷ 0 ∷ 0 ∷ []; r1 = 0xFFFF_FFFF; r2 = 0; carry = false; waits = []; expected = reg 1 0 ∷ flag_c 1 ∷ flag_v 0 ∷ flag_n 0 ∷ flag_z 1 ∷ [] }
    ∷ record { memory = 0x0001_3C21 ∷ 0 ∷ 0 ∷ 0 ∷ []; r1 = 0x7FFF_FFFF; r2 = 0; carry = false; waits = []; expected = reg 1 0x8000_0000 ∷ flag_c 0 ∷ flag_v 1 ∷ flag_n 1 ∷ flag_z 0 ∷ [] }
    ∷ record { memory = 0x0007_2041 ∷ 0 ∷ 0 ∷ 0 ∷ []; r1 = 1; r2 = 0; carry = false; waits = []; expected = reg 2 0xFFFF_FFFF ∷ flag_c 1 ∷ [] }
    ∷ record { memory = 0x0000_0058 ∷ 0x2A ∷ 0 ∷ 0 ∷ []; r1 = 0; r2 = 0; carry = false; waits = []; expected = reg 2 0x2A ∷ reg 0 2 ∷ clocks 10 ∷ [] }
    ∷ record { memory = 0x0000_0058 ∷ 0x2A ∷ 0 ∷ 0 ∷ []; r1 = 0; r2 = 0; carry = false; waits = 2 ∷ 3 ∷ []; expected = reg 2 0x2A ∷ reg 0 2 ∷ clocks 15 ∷ [] }
    ∷ record { memory = 0x0000_0018 ∷ 5 ∷ 0 ∷ 0 ∷ []; r1 = 0; r2 = 0; carry = false; waits = []; expected = reg 0 6 ∷ [] }
    ∷ record { memory = 0x0000_0339 ∷ 0 ∷ 7 ∷ 0 ∷ []; r1 = 2; r2 = 0; carry = false; waits = []; expected = reg 1 4 ∷ word 2 7 ∷ clocks 11 ∷ [] }
    ∷ record { memory = 0x0001_8441 ∷ 0 ∷ 0 ∷ 0 ∷ []; r1 = 0; r2 = 5; carry = false; waits = []; expected = reg 2 5 ∷ flag_z 1 ∷ clocks 8 ∷ [] }
    ∷ record { memory = 0x0008_2021 ∷ 0 ∷ 0 ∷ 0 ∷ []; r1 = 1; r2 = 0; carry = false; waits = []; expected = reg 1 0 ∷ flag_c 1 ∷ [] }
    ∷ record { memory = 0x0008_2021 ∷ 0 ∷ 0 ∷ 0 ∷ []; r1 = 0; r2 = 0; carry = true; waits = []; expected = reg 1 0x8000_0000 ∷ flag_c 0 ∷ [] }
    ∷ record { memory = 0x0004_3021 ∷ 0 ∷ 0 ∷ 0 ∷ []; r1 = 0x8000_0000; r2 = 0; carry = false; waits = []; expected = reg 1 0x8000_0000 ∷ flag_c 1 ∷ flag_v 1 ∷ [] }
    ∷ record { memory = 0x0003_0031 ∷ 9 ∷ 0 ∷ 0 ∷ []; r1 = 2; r2 = 0; carry = false; waits = []; expected = reg 1 0xA ∷ [] }
    ∷ []

-- the case's start: the registers that it does not name are 0, and so are the flags but C, and the latches
abbrev pub start_of : Case → GateState
start_of c =
    at_rest
    (0 ∷ c.r1 ∷ c.r2 ∷ 0 ∷ 0 ∷ 0 ∷ 0 ∷ 0 ∷ [])
    (record { carry = c.carry; overflow = false; negative = false; zero = false })

-- a mark, with its clocks, has what is expected
abbrev pub has : Mark → ℕ → Expected → Bool
has m k (reg r x) = eqb (word_at m.regs r) x
has m k (word i x) = eqb (word_at m.memory i) x
has m k (flag_c x) = eqb (as_number m.flags.carry) x
has m k (flag_v x) = eqb (as_number m.flags.overflow) x
has m k (flag_n x) = eqb (as_number m.flags.negative) x
has m k (flag_z x) = eqb (as_number m.flags.zero) x
has m k (clocks x) = eqb k x

abbrev pub has_all : Mark → ℕ → List Expected → Bool
has_all m k [] = m.between && eqb m.finished 1
has_all m k (e ∷ es) = has m k e && has_all m k es

-- the interpreter leaves what is expected, and so does the gate machine after as many clocks
abbrev pub passes : Case → Bool
passes c =
    let s = start_of c in
    let board = board_with 0 c.waits in
    let r = interpret board 1 (interpreter_from s c.memory) in
    let g = gate_run board [] r.clocks (gate_from s c.memory) in
    has_all (interpreter_mark r) r.clocks c.expected && has_all (gate_mark g) r.clocks c.expected

abbrev pub all_pass : List Case → Bool
all_pass [] = true
all_pass (c ∷ cs) = passes c && all_pass cs
