-- An example of each exported call, most with words of document 01, "Bench words". A type's first line has what is lent, its second what is
-- left there, and the code. antt computes them.
use Prim.Native.Nat.{ℕ}
use mathlib.Core.Path.{refl}
use mathlib.Core.List.{List, [], ◌∷◌, ◌++◌}
use lib.ListN.{replicate}
use Rattle.arithmetic.specs.Words.{signed_of, leaves}
use Rattle.arithmetic.specs.Alu.{sum_of, answers, alu_at, alu_of}
use Rattle.model.specs.Words.{field, bit, is_instruction}
use Rattle.model.specs.Operands.{operand_a, operand_b}
use Rattle.model.specs.Alu.{is_move, operation, alu, flags_after, stores}
use Rattle.model.specs.Waits.{wait_at, next_position, position_fits, wait_sum, position_after}
use Rattle.model.specs.Interpreter.{execute, stop, advance, interpret}
use Rattle.model.specs.Journal.{stored_by, has_pair, noting, within, run_one, run_noted, journal_words}
use Rattle.model.specs.GateMachine.{work, is_access, remaining, position_now, work_or_wait, clock, gate_run}
use Rattle.model.specs.Packed.{latch_words}
use Rattle.model.specs.Refusals.{run_verdict, file_verdict, gate_verdict}
use Rattle.interpreter.specs.Calls.{run_returned, run_words, file_returned, file_words, file_places}
use Rattle.gate_machine.specs.Calls.{gate_returned, gate_words}
use Rattle.image.specs.Bytes.{bytes_of, number_in, word_bytes, words_in}
use Rattle.image.specs.Format.{fields_for, field_bytes, memory_fields, image_of}
use Rattle.image.specs.Reading.{header_verdict, field_verdict, read_field, read_memory, read_of}
use Rattle.image.specs.Calls.{write_verdict, write_returned, write_bytes, read_returned, read_words}
use Rattle.traverses.specs.Files.{files_from, files_in, parts, sizes, all_placed}
use Rattle.traverses.specs.Traverse.{lay_one, lay_all, part_laid, part_noted, one_file, traversed}
use Rattle.traverses.specs.Calls.{traverse_verdict, traverse_returned, traverse_words, traverse_places}
use Rattle.host_reading.specs.Layout.{machine_in, state_in, lent_formed}
use Rattle.host_words.specs.Words.{machine_words}
use Rattle.host_calls.specs.Calls.{RunCall, FileCall, GateCall, TraverseCall, ReadCall, WriteCall}

-- a lent machine of r0, r1 and r2; the other registers and the flags are 0
abbrev machine : (r0 r1 r2 : ℕ) → List ℕ
machine r0 r1 r2 = r0 ∷ r1 ∷ r2 ∷ replicate 9 0

-- so many lent places that held something before
abbrev used : ℕ → List ℕ
used n = replicate n 9

-- two instructions: the first has two accesses, with waits of 2 and 3, and takes 15 clocks and not 10; the second has one, for which the
-- list begins again with 2, and takes 11 and not 9
run : RunCall (0x58 ∷ 0x2A ∷ 0 ∷ 0 ∷ []) 0 (2 ∷ 3 ∷ []) 0 (machine 0 0 0) 2 (used 3)
    (0x58 ∷ 0x2A ∷ 0 ∷ 0 ∷ []) (machine 3 0 0x2A) (2 ∷ 26 ∷ 1 ∷ []) 0
unfolding field bit is_instruction operand_a operand_b answers alu_at alu_of is_move operation alu flags_after stores wait_at next_position position_fits wait_sum position_after execute advance interpret run_verdict run_returned run_words machine_in lent_formed machine_words
run = record { returned = refl; words = refl; parts = refl; numbers = refl }

-- CR 7: from position 1 of the list the access has a wait of 4, and the instruction takes 13 clocks and not 9; the list goes on at 2
run_on : RunCall (0 ∷ []) 0 (2 ∷ 4 ∷ 6 ∷ []) 1 (machine 0 0 0) 1 (used 3)
    (0 ∷ []) (machine 1 0 0) (1 ∷ 13 ∷ 2 ∷ []) 0
unfolding field bit is_instruction operand_a operand_b answers alu_at alu_of is_move operation alu flags_after stores wait_at next_position position_fits wait_sum position_after execute advance interpret run_verdict run_returned run_words machine_in lent_formed machine_words
run_on = record { returned = refl; words = refl; parts = refl; numbers = refl }

-- CR 7: a list of two has no position 2
run_past : RunCall (used 1) 0 (2 ∷ 3 ∷ []) 2 (used 12) 1 (used 3)
    (used 1) (used 12) (used 3) 4
unfolding position_fits run_verdict run_returned run_words machine_in lent_formed machine_words
run_past = record { returned = refl; words = refl; parts = refl; numbers = refl }

-- refused for a memory of no words: what is lent stays, even flag words of 9, which stand for 1
run-refused : RunCall [] 0 [] 0 (used 12) 1 (used 3)
    [] (used 12) (used 3) 1
unfolding run_verdict run_returned run_words machine_in lent_formed machine_words
run-refused = record { returned = refl; words = refl; parts = refl; numbers = refl }

-- CR 6: a bottom above the memory's length
run-high : RunCall (used 1) 2 [] 0 (used 12) 1 (used 3)
    (used 1) (used 12) (used 3) 21
unfolding run_verdict run_returned run_words machine_in lent_formed machine_words
run-high = record { returned = refl; words = refl; parts = refl; numbers = refl }

-- no machine has 11 words
run-misfit : RunCall (used 1) 0 [] 0 (used 11) 1 (used 3)
    (used 1) (used 11) (used 3) 200
unfolding lent_formed
run-misfit = record { returned = refl; words = refl; parts = refl; numbers = refl }

-- CR 7: a run's result has a place for the list position, which two places lack
run-two-places : RunCall (used 1) 0 [] 0 (used 12) 1 (used 2)
    (used 1) (used 12) (used 2) 200
unfolding lent_formed
run-two-places = record { returned = refl; words = refl; parts = refl; numbers = refl }

-- CR 5: one instruction, then a word with bit 31, which is no instruction: the run stops before it
run-halted : RunCall (0 ∷ 0x8000_0000 ∷ []) 0 [] 0 (machine 0 0 0) 2 (used 3)
    (0 ∷ 0x8000_0000 ∷ []) (machine 1 0 0) (1 ∷ 9 ∷ 0 ∷ []) 101
unfolding field bit is_instruction operand_a operand_b answers alu_at alu_of is_move operation alu flags_after stores wait_at next_position position_fits wait_sum position_after execute stop advance interpret run_verdict run_returned run_words machine_in lent_formed machine_words
run-halted = record { returned = refl; words = refl; parts = refl; numbers = refl }

-- CR 6: r2 is moved to word 0, which is below the bottom: the store takes its clock and its wait, and alters nothing
run-below : RunCall (0x122 ∷ []) 1 (3 ∷ []) 0 (machine 0 0 5) 1 (used 3)
    (0x122 ∷ []) (machine 1 0 5) (1 ∷ 19 ∷ 0 ∷ []) 0
unfolding field bit is_instruction operand_a operand_b answers alu_at alu_of is_move operation alu flags_after stores wait_at next_position position_fits wait_sum position_after execute advance interpret run_verdict run_returned run_words machine_in lent_formed machine_words
run-below = record { returned = refl; words = refl; parts = refl; numbers = refl }

-- r2 is moved to word 0, over the move itself
file-run : FileCall (0x122 ∷ []) 0 (used 2) (machine 0 0 5) 1 (used 2)
    (5 ∷ []) (0 ∷ 0x122 ∷ []) (machine 1 0 5) (1 ∷ 1 ∷ []) 0
unfolding field bit is_instruction operand_a operand_b answers alu_at alu_of is_move operation alu flags_after stores execute advance stored_by has_pair noting within run_one run_noted journal_words file_verdict file_returned file_words file_places machine_in lent_formed machine_words
file-run = record { returned = refl; words = refl; places = refl; parts = refl; numbers = refl }

-- the same and one more, which is outside: memory and machine stay, even flag words of 9, and the journal has the store
file-run-undone : FileCall (0x122 ∷ []) 0 (used 4) (0 ∷ replicate 7 0 ++ used 4) 2 (used 2)
    (0x122 ∷ []) (0 ∷ 0x122 ∷ 9 ∷ 9 ∷ []) (0 ∷ replicate 7 0 ++ used 4) (1 ∷ 1 ∷ []) 100
unfolding field bit is_instruction operand_a operand_b is_move stores execute stop advance stored_by has_pair noting within run_one run_noted journal_words file_verdict file_returned file_words file_places machine_in lent_formed machine_words
file-run-undone = record { returned = refl; words = refl; places = refl; parts = refl; numbers = refl }

-- CR 5: r2, a word with bit 14, is moved to word 1, which is then no instruction: all stays, and the journal has the store
file-run-halted : FileCall (0x122 ∷ 0 ∷ []) 0 (used 4) (machine 0 1 0x4000) 2 (used 2)
    (0x122 ∷ 0 ∷ []) (1 ∷ 0 ∷ 9 ∷ 9 ∷ []) (machine 0 1 0x4000) (1 ∷ 1 ∷ []) 100
unfolding field bit is_instruction operand_a operand_b answers alu_at alu_of is_move operation alu flags_after stores execute stop advance stored_by has_pair noting within run_one run_noted journal_words file_verdict file_returned file_words file_places machine_in lent_formed machine_words
file-run-halted = record { returned = refl; words = refl; places = refl; parts = refl; numbers = refl }

-- CR 6: the store is below the bottom: it alters nothing and is not journaled
file-run-below : FileCall (0x122 ∷ []) 1 (used 2) (machine 0 0 5) 1 (used 2)
    (0x122 ∷ []) (used 2) (machine 1 0 5) (1 ∷ 0 ∷ []) 0
unfolding field bit is_instruction operand_a operand_b answers alu_at alu_of is_move operation alu flags_after stores execute advance stored_by has_pair noting within run_one run_noted journal_words file_verdict file_returned file_words file_places machine_in lent_formed machine_words
file-run-below = record { returned = refl; words = refl; places = refl; parts = refl; numbers = refl }

-- CR 11: the store needs a pair, for which one place has no room: it is not done, and all stays, even flag words of 9
file-run-full : FileCall (0x122 ∷ []) 0 (used 1) (replicate 8 0 ++ used 4) 1 (used 2)
    (0x122 ∷ []) (used 1) (replicate 8 0 ++ used 4) (0 ∷ 0 ∷ []) 102
unfolding field bit is_instruction operand_a operand_b is_move stores execute advance stored_by has_pair noting within run_one run_noted journal_words file_verdict file_returned file_words file_places machine_in lent_formed machine_words
file-run-full = record { returned = refl; words = refl; places = refl; parts = refl; numbers = refl }

-- nine clocks finish one instruction: r1 is 0, CVNZ 1001, and the latches have its word and its operands
gate-run : GateCall (0x0001_3C21 ∷ []) 0 [] [] (0 ∷ 0xFFFF_FFFF ∷ replicate 19 0) 9 (used 1)
    (0x0001_3C21 ∷ []) (1 ∷ replicate 7 0 ++ 1 ∷ 0 ∷ 0 ∷ 1 ∷ 0 ∷ 0x0001_3C21 ∷ 0 ∷ 0xFFFF_FFFF ∷ 0xFFFF_FFFF ∷ 0 ∷ 0 ∷ 0 ∷ 0 ∷ []) (1 ∷ []) 0
unfolding signed_of leaves sum_of field bit is_instruction operand_a operand_b answers alu_at alu_of is_move operation alu flags_after stores wait_at next_position position_fits work is_access remaining position_now work_or_wait clock gate_run latch_words gate_verdict gate_returned gate_words machine_in state_in lent_formed machine_words
gate-run = record { returned = refl; words = refl; parts = refl; numbers = refl }

-- CR 5: a word with bit 31 is read with its wait of two clocks, on the fourth clock, and latched; in row 12 the machine stays
gate-run-halted : GateCall (0x8000_0000 ∷ []) 0 (2 ∷ []) [] (replicate 21 0) 6 (used 1)
    (0x8000_0000 ∷ []) (replicate 12 0 ++ 12 ∷ 0x8000_0000 ∷ replicate 7 0) (0 ∷ []) 0
unfolding field bit is_instruction wait_at next_position position_fits work is_access remaining position_now work_or_wait clock gate_run latch_words gate_verdict gate_returned gate_words machine_in state_in lent_formed machine_words
gate-run-halted = record { returned = refl; words = refl; parts = refl; numbers = refl }

-- CR 6: row 9 with 5 for word 0, which is below the bottom: the clock is done, and the word stays 7
gate-run-below : GateCall (7 ∷ []) 1 [] [] (replicate 12 0 ++ 9 ∷ 0 ∷ 0 ∷ 0 ∷ 0 ∷ 5 ∷ 0 ∷ 0 ∷ 0 ∷ []) 1 (used 1)
    (7 ∷ []) (replicate 12 0 ++ 10 ∷ 0 ∷ 0 ∷ 0 ∷ 0 ∷ 5 ∷ 0 ∷ 0 ∷ 0 ∷ []) (0 ∷ []) 0
unfolding wait_at next_position position_fits work is_access remaining position_now work_or_wait clock gate_run latch_words gate_verdict gate_returned gate_words machine_in state_in lent_formed machine_words
gate-run-below = record { returned = refl; words = refl; parts = refl; numbers = refl }

-- CR 7: reset on the clock that would store 5 in word 1: the word stays 7, r0 and the row become 0, and the begun access is dropped, its entry
-- used up; two clocks on, the access of row 1 has begun with the next entry, 3. The second number is past the run's clocks
gate-run-reset : GateCall (0 ∷ 7 ∷ []) 0 (2 ∷ 3 ∷ 4 ∷ []) (0 ∷ 4 ∷ []) (6 ∷ replicate 11 0 ++ 9 ∷ 0 ∷ 1 ∷ 0 ∷ 0 ∷ 5 ∷ 1 ∷ 1 ∷ 1 ∷ []) 3 (used 1)
    (0 ∷ 7 ∷ []) (replicate 12 0 ++ 1 ∷ 0 ∷ 0 ∷ 0 ∷ 0 ∷ 5 ∷ 2 ∷ 1 ∷ 3 ∷ []) (0 ∷ []) 0
unfolding wait_at next_position position_fits work is_access remaining position_now work_or_wait clock gate_run latch_words gate_verdict gate_returned gate_words machine_in state_in lent_formed machine_words
gate-run-reset = record { returned = refl; words = refl; parts = refl; numbers = refl }

-- CR 7: a reset list that does not rise
gate-run-level : GateCall (7 ∷ []) 0 [] (4 ∷ 4 ∷ []) (replicate 21 0) 1 (used 1)
    (7 ∷ []) (replicate 21 0) (used 1) 22
unfolding gate_verdict gate_returned gate_words machine_in state_in lent_formed machine_words
gate-run-level = record { returned = refl; words = refl; parts = refl; numbers = refl }

-- ---- CR 1: traverses

-- the move of r2 to the word at r1, laid twice: at word 0 and entered there; and at word 1, of which two instructions are wanted, the second
-- outside. Place, words, entry, instructions
abbrev moves : List ℕ
moves = 0x122 ∷ 0x122 ∷ []

abbrev files : List ℕ
files = 0 ∷ 1 ∷ 0 ∷ 1 ∷ 1 ∷ 1 ∷ 1 ∷ 2 ∷ []

-- rule 1, with stores to word 1: the first file has run, with pairs for words 0 and 1; the second is marked, and leaves nothing but its one pair, for
-- word 1, past which the journal has the first file's second pair
traverse_1 : TraverseCall (7 ∷ 8 ∷ []) 0 (used 5) moves files (machine 4 1 5) 1 (used 3)
    (0x122 ∷ 5 ∷ []) (1 ∷ 5 ∷ 1 ∷ 8 ∷ 9 ∷ []) (machine 1 1 5) (2 ∷ 1 ∷ 1 ∷ []) 0
unfolding field bit is_instruction operand_a operand_b answers alu_at alu_of is_move operation alu flags_after stores execute stop advance stored_by has_pair noting within run_one run_noted journal_words file_verdict files_from files_in parts sizes all_placed lay_one lay_all part_laid part_noted one_file traversed traverse_verdict traverse_returned traverse_words traverse_places machine_in lent_formed machine_words
traverse_1 = record { returned = refl; words = refl; places = refl; parts = refl; numbers = refl }

-- rule 2: the second file, number 1, takes the first back; the journal has the words from before both; memory and machine stay, even flag words of 9
traverse_2 : TraverseCall (7 ∷ 8 ∷ []) 0 (used 5) moves files (4 ∷ 1 ∷ 5 ∷ replicate 5 0 ++ used 4) 2 (used 3)
    (7 ∷ 8 ∷ []) (0 ∷ 7 ∷ 1 ∷ 8 ∷ 9 ∷ []) (4 ∷ 1 ∷ 5 ∷ replicate 5 0 ++ used 4) (1 ∷ 1 ∷ 2 ∷ []) 100
unfolding field bit is_instruction operand_a operand_b answers alu_at alu_of is_move operation alu flags_after stores execute stop advance stored_by has_pair noting within run_one run_noted journal_words file_verdict files_from files_in parts sizes all_placed lay_one lay_all part_laid part_noted one_file traversed traverse_verdict traverse_returned traverse_words traverse_places machine_in lent_formed machine_words
traverse_2 = record { returned = refl; words = refl; places = refl; parts = refl; numbers = refl }

-- CR 11: with stores to word 0 the first file needs one pair, and three places have room for no more: the second file's word is not laid, and nothing
-- of it runs
traverse_full : TraverseCall (7 ∷ 8 ∷ []) 0 (used 3) moves files (4 ∷ 0 ∷ 5 ∷ replicate 5 0 ++ used 4) 2 (used 3)
    (7 ∷ 8 ∷ []) (0 ∷ 7 ∷ 9 ∷ []) (4 ∷ 0 ∷ 5 ∷ replicate 5 0 ++ used 4) (1 ∷ 0 ∷ 1 ∷ []) 102
unfolding field bit is_instruction operand_a operand_b answers alu_at alu_of is_move operation alu flags_after stores execute stop advance stored_by has_pair noting within run_one run_noted journal_words file_verdict files_from files_in parts sizes all_placed lay_one lay_all part_laid part_noted one_file traversed traverse_verdict traverse_returned traverse_words traverse_places machine_in lent_formed machine_words
traverse_full = record { returned = refl; words = refl; places = refl; parts = refl; numbers = refl }

-- rule 2 with no files: finished, 0 in each place; flag words of 9 become 1
traverse_none : TraverseCall (7 ∷ []) 0 [] [] [] (replicate 8 0 ++ used 4) 2 (used 3)
    (7 ∷ []) [] (replicate 8 0 ++ 1 ∷ 1 ∷ 1 ∷ 1 ∷ []) (0 ∷ 0 ∷ 0 ∷ []) 0
unfolding journal_words file_verdict files_from files_in parts sizes all_placed traversed traverse_verdict traverse_returned traverse_words traverse_places machine_in lent_formed machine_words
traverse_none = record { returned = refl; words = refl; places = refl; parts = refl; numbers = refl }

-- a word laid below the bottom is 17: what is lent stays
traverse_refused : TraverseCall (used 2) 1 (used 10) moves files (used 12) 1 (used 3)
    (used 2) (used 10) (used 12) (used 3) 17
unfolding file_verdict files_from files_in parts sizes all_placed traverse_verdict traverse_returned traverse_words traverse_places machine_in lent_formed machine_words
traverse_refused = record { returned = refl; words = refl; places = refl; parts = refl; numbers = refl }

-- no file has three places, before any reason to refuse
traverse_misfit : TraverseCall [] 1 [] [] (used 3) (used 12) 0 (used 3)
    [] [] (used 12) (used 3) 200
unfolding lent_formed
traverse_misfit = record { returned = refl; words = refl; places = refl; parts = refl; numbers = refl }

-- ---- the image of one word

abbrev image : (version : ℕ) → List ℕ
image version =
    1 ∷ 1 ∷ 0 ∷ version
    ∷ 2 ∷ 32 ∷ 0 ∷ replicate 32 0  -- registers
    ++ 3 ∷ 4 ∷ 0 ∷ 0 ∷ 0 ∷ 0 ∷ 0  -- flags
    ∷ 4 ∷ 4 ∷ 0 ∷ 1 ∷ 0 ∷ 0 ∷ 0  -- M
    ∷ 5 ∷ 4 ∷ 0 ∷ 0x21 ∷ 0x3C ∷ 1 ∷ 0  -- the word
    ∷ 0xFF ∷ 0 ∷ 0  -- end
    ∷ []

image-write : WriteCall (0x0001_3C21 ∷ []) (machine 0 0 0) 1 (used 64) (used 1)
    (image 1 ++ 9 ∷ []) (63 ∷ []) 0
unfolding bytes_of word_bytes fields_for field_bytes memory_fields image_of write_verdict write_returned write_bytes machine_in lent_formed
image-write = record { returned = refl; bytes = refl; numbers = refl }

-- CR 1: as version 2
image-write-2 : WriteCall (0x0001_3C21 ∷ []) (machine 0 0 0) 2 (used 64) (used 1)
    (image 2 ++ 9 ∷ []) (63 ∷ []) 0
unfolding bytes_of word_bytes fields_for field_bytes memory_fields image_of write_verdict write_returned write_bytes machine_in lent_formed
image-write-2 = record { returned = refl; bytes = refl; numbers = refl }

-- CR 1: no image has version 0, and an output that is too short comes first
image-write-0 : WriteCall (used 1) (used 12) 0 (used 63) (used 1)
    (used 63) (used 1) 11
unfolding bytes_of word_bytes fields_for field_bytes memory_fields image_of write_verdict write_returned write_bytes machine_in lent_formed
image-write-0 = record { returned = refl; bytes = refl; numbers = refl }

image-write-short : WriteCall (used 1) (used 12) 0 (used 62) (used 1)
    (used 62) (used 1) 7
unfolding bytes_of word_bytes fields_for field_bytes memory_fields image_of write_verdict write_returned write_bytes machine_in lent_formed
image-write-short = record { returned = refl; bytes = refl; numbers = refl }

image-read : ReadCall (image 1) (used 2) (used 12) (used 2)
    (0x0001_3C21 ∷ 9 ∷ []) (machine 0 0 0) (1 ∷ 1 ∷ []) 0
unfolding number_in words_in fields_for header_verdict field_verdict read_field read_memory read_of read_returned read_words lent_formed machine_words
image-read = record { returned = refl; words = refl; parts = refl; numbers = refl }

-- CR 1: the version that was read
image-read-2 : ReadCall (image 2) (used 2) (used 12) (used 2)
    (0x0001_3C21 ∷ 9 ∷ []) (machine 0 0 0) (1 ∷ 2 ∷ []) 0
unfolding number_in words_in fields_for header_verdict field_verdict read_field read_memory read_of read_returned read_words lent_formed machine_words
image-read-2 = record { returned = refl; words = refl; parts = refl; numbers = refl }
