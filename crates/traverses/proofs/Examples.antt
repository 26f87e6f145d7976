-- The journal at a file run; traverses of three files, the second of which is undone or has no room, under each rule; and the first reason that
-- applies. antt computes them.
use Rattle.interpreter.specs.declared.FileEnding.{FileEnding}
use Rattle.std.specs.Prelude.{Ok}
use Prim.Native.Nat.{ℕ}
use mathlib.Core.Path.{◌≡◌, refl}
use mathlib.Core.List.{List, [], ◌∷◌}
use lib.ListN.{replicate}
use Rattle.arithmetic.specs.Words.{signed_of, leaves}
use Rattle.arithmetic.specs.Alu.{sum_of, answers, alu_at, alu_of}
use Rattle.model.specs.declared.Machine.{Machine}
use Rattle.model.specs.Words.{field, bit, is_instruction}
use Rattle.model.specs.Operands.{operand_a, operand_b}
use Rattle.model.specs.Alu.{is_move, operation, alu, flags_after, stores}
use Rattle.model.specs.Interpreter.{machine_with, execute, stop, advance, interpret}
use Rattle.model.specs.Journal.{stored_by, journal_words, has_pair, noting, within, run_one, run_noted}
use Rattle.model.specs.Packed.{no_flags}
use Rattle.model.specs.Refusals.{verdict_number, file_verdict}
use Rattle.interpreter.specs.Calls.{file_returned, file_words, file_places, FileRuns}
use Rattle.traverses.specs.declared.TraverseEnding.TheVariants.{Marked, Finished, Undone, Full}
use Rattle.traverses.specs.Files.{files_from, files_in, parts, sizes, all_placed}
use Rattle.traverses.specs.Traverse.{lay_one, lay_all, part_laid, part_noted, one_file, traversed}
use Rattle.traverses.specs.Calls.{traverse_verdict, traverse_returned, traverse_words, traverse_places, Traverses}

-- r0, r1 and r2; r3 is an address that is missing, r4 is 3
abbrev machine : (r0 r1 r2 : ℕ) → Machine
machine r0 r1 r2 = machine_with (r0 ∷ r1 ∷ r2 ∷ 99 ∷ 3 ∷ 0 ∷ 0 ∷ 0 ∷ []) no_flags

-- r1 plus 1; the word at r3 moved to r1; r1 moved to the word at r2, there with r2 stepped up, and to the word at r4
abbrev more : ℕ
more = 0x0001_0021

abbrev missing : ℕ
missing = 0x2B

abbrev store : ℕ
store = 0x141

abbrev store_up : ℕ
store_up = 0x341

abbrev store_at_three : ℕ
store_at_three = 0x181

-- ---- the journal. A type's first line has what is lent, its second what is left and returned

-- two stores to one address: one pair, with the word before the first
same_address : FileRuns (store ∷ more ∷ store ∷ 4 ∷ []) 0 (9 ∷ 9 ∷ []) (machine 0 5 3) 3
    (store ∷ more ∷ store ∷ 6 ∷ []) (3 ∷ 4 ∷ []) (record { answer = Ok FileEnding.Finished; machine = machine 3 6 3; ran = 3; pairs = 1 })
unfolding is_instruction field bit signed_of leaves sum_of operand_a operand_b answers alu_at alu_of is_move operation alu flags_after stores execute stop advance interpret stored_by journal_words has_pair noting within run_one run_noted file_verdict file_returned file_words file_places
same_address = record { result = refl; words = refl; places = refl; number = refl }

-- to 4, 3 and 4 again: two pairs, in order of first stores
first-stores : FileRuns (store ∷ store_at_three ∷ store ∷ 7 ∷ 8 ∷ []) 0 (replicate 5 9) (machine 0 5 4) 3
    (store ∷ store_at_three ∷ store ∷ 5 ∷ 5 ∷ []) (4 ∷ 8 ∷ 3 ∷ 7 ∷ 9 ∷ []) (record { answer = Ok FileEnding.Finished; machine = machine 3 5 4; ran = 3; pairs = 2 })
unfolding is_instruction field bit signed_of leaves sum_of operand_a operand_b answers alu_at alu_of is_move operation alu flags_after stores execute stop advance interpret stored_by journal_words has_pair noting within run_one run_noted file_verdict file_returned file_words file_places
first-stores = record { result = refl; words = refl; places = refl; number = refl }

-- to 2 and 3, with three places, which are one pair: the journal is full at the second store
full : FileRuns (store_up ∷ store_up ∷ 4 ∷ 4 ∷ []) 0 (9 ∷ 9 ∷ 9 ∷ []) (machine 0 5 2) 2
    (store_up ∷ store_up ∷ 4 ∷ 4 ∷ []) (2 ∷ 4 ∷ 9 ∷ []) (record { answer = Ok FileEnding.Full; machine = machine 0 5 2; ran = 1; pairs = 1 })
unfolding is_instruction field bit signed_of leaves sum_of operand_a operand_b answers alu_at alu_of is_move operation alu flags_after stores execute stop advance interpret stored_by journal_words has_pair noting within run_one run_noted file_verdict file_returned file_words file_places
full = record { result = refl; words = refl; places = refl; number = refl }

-- with four places it is not
just_room : FileRuns (store_up ∷ store_up ∷ 4 ∷ 4 ∷ []) 0 (replicate 4 9) (machine 0 5 2) 2
    (store_up ∷ store_up ∷ 5 ∷ 5 ∷ []) (2 ∷ 4 ∷ 3 ∷ 4 ∷ []) (record { answer = Ok FileEnding.Finished; machine = machine 2 5 4; ran = 2; pairs = 2 })
unfolding is_instruction field bit signed_of leaves sum_of operand_a operand_b answers alu_at alu_of is_move operation alu flags_after stores execute stop advance interpret stored_by journal_words has_pair noting within run_one run_noted file_verdict file_returned file_words file_places
just_room = record { result = refl; words = refl; places = refl; number = refl }

-- with a memory of three words the second store's address is missing, which comes first
missing-first : FileRuns (store_up ∷ store_up ∷ 4 ∷ []) 0 (9 ∷ 9 ∷ 9 ∷ []) (machine 0 5 2) 2
    (store_up ∷ store_up ∷ 4 ∷ []) (2 ∷ 4 ∷ 9 ∷ []) (record { answer = Ok FileEnding.Undone; machine = machine 0 5 2; ran = 1; pairs = 1 })
unfolding is_instruction field bit signed_of leaves sum_of operand_a operand_b answers alu_at alu_of is_move operation alu flags_after stores execute stop advance interpret stored_by journal_words has_pair noting within run_one run_noted file_verdict file_returned file_words file_places
missing-first = record { result = refl; words = refl; places = refl; number = refl }

-- a store below the bottom, to 2, needs no pair; the next, to 3, does
below-goes-on : FileRuns (store_up ∷ store_up ∷ 4 ∷ 4 ∷ []) 3 (9 ∷ []) (machine 0 5 2) 1
    (store_up ∷ store_up ∷ 4 ∷ 4 ∷ []) (9 ∷ []) (record { answer = Ok FileEnding.Finished; machine = machine 1 5 3; ran = 1; pairs = 0 })
unfolding is_instruction field bit signed_of leaves sum_of operand_a operand_b answers alu_at alu_of is_move operation alu flags_after stores execute stop advance interpret stored_by journal_words has_pair noting within run_one run_noted file_verdict file_returned file_words file_places
below-goes-on = record { result = refl; words = refl; places = refl; number = refl }

above-full : FileRuns (store_up ∷ store_up ∷ 4 ∷ 4 ∷ []) 3 (9 ∷ []) (machine 0 5 2) 2
    (store_up ∷ store_up ∷ 4 ∷ 4 ∷ []) (9 ∷ []) (record { answer = Ok FileEnding.Full; machine = machine 0 5 2; ran = 1; pairs = 0 })
unfolding is_instruction field bit signed_of leaves sum_of operand_a operand_b answers alu_at alu_of is_move operation alu flags_after stores execute stop advance interpret stored_by journal_words has_pair noting within run_one run_noted file_verdict file_returned file_words file_places
above-full = record { result = refl; words = refl; places = refl; number = refl }

-- ---- three files: r1 plus 1; r1 moved to the word at r2, r1 plus 1, then a missing word; r1 plus 1

abbrev load : List ℕ
load = more ∷ store ∷ more ∷ missing ∷ more ∷ []

-- place, words, entry, instructions
abbrev files : List ℕ
files = 0 ∷ 1 ∷ 0 ∷ 1 ∷ 1 ∷ 3 ∷ 1 ∷ 3 ∷ 3 ∷ 1 ∷ 3 ∷ 1 ∷ []

-- rule 1: the second file is marked, the others have run; the pair returned is the third file's, and past it stand the places of the second
rule-1 : Traverses (replicate 4 0) 0 (replicate 20 9) load files (machine 7 0 0) 1
    (more ∷ 0 ∷ 0 ∷ more ∷ []) (3 ∷ 0 ∷ 2 ∷ 0 ∷ 3 ∷ 0 ∷ 0 ∷ more ∷ replicate 12 9) (record { answer = Ok (Marked 2); machine = machine 4 2 0; ran = 1; pairs = 1 })
unfolding is_instruction field bit signed_of leaves sum_of operand_a operand_b answers alu_at alu_of is_move operation alu flags_after stores execute stop advance interpret stored_by journal_words has_pair noting within run_one run_noted files_from files_in parts sizes all_placed lay_one lay_all part_laid part_noted one_file traversed file_verdict traverse_verdict traverse_returned traverse_words traverse_places
rule-1 = record { result = refl; words = refl; places = refl; number = refl }

-- rule 2: the second file, number 1, takes the first back, the third is not run; the address that both lay or store to has one pair
rule-2 : Traverses (replicate 4 0) 0 (replicate 20 9) load files (machine 7 0 0) 2
    (replicate 4 0) (0 ∷ 0 ∷ 1 ∷ 0 ∷ 2 ∷ 0 ∷ 3 ∷ 0 ∷ replicate 12 9) (record { answer = Ok (Undone 1); machine = machine 7 0 0; ran = 2; pairs = 4 })
unfolding is_instruction field bit signed_of leaves sum_of operand_a operand_b answers alu_at alu_of is_move operation alu flags_after stores execute stop advance interpret stored_by journal_words has_pair noting within run_one run_noted files_from files_in parts sizes all_placed lay_one lay_all part_laid part_noted one_file traversed file_verdict traverse_verdict traverse_returned traverse_words traverse_places
rule-2 = record { result = refl; words = refl; places = refl; number = refl }

-- no files
none : Traverses (5 ∷ []) 1 [] [] [] (machine 7 0 0) 1
    (5 ∷ []) [] (record { answer = Ok (Marked 0); machine = machine 7 0 0; ran = 0; pairs = 0 })
unfolding files_from files_in parts sizes all_placed traversed file_verdict traverse_verdict traverse_returned traverse_words traverse_places
none = record { result = refl; words = refl; places = refl; number = refl }

-- ---- laid words and the room: files that each run the instruction at 0 once

-- two words and one pair: full at the second, the file runs nothing, leaves its pair, and its first word does not stay
laid-full : Traverses (more ∷ 4 ∷ 4 ∷ 5 ∷ []) 1 (9 ∷ 9 ∷ 9 ∷ []) (7 ∷ 8 ∷ []) (2 ∷ 2 ∷ 0 ∷ 1 ∷ []) (machine 7 0 0) 1
    (more ∷ 4 ∷ 4 ∷ 5 ∷ []) (2 ∷ 4 ∷ 9 ∷ []) (record { answer = Ok (Marked 1); machine = machine 7 0 0; ran = 0; pairs = 1 })
unfolding is_instruction field bit signed_of leaves sum_of operand_a operand_b answers alu_at alu_of is_move operation alu flags_after stores execute stop advance interpret stored_by journal_words has_pair noting within run_one run_noted files_from files_in parts sizes all_placed lay_one lay_all part_laid part_noted one_file traversed file_verdict traverse_verdict traverse_returned traverse_words traverse_places
laid-full = record { result = refl; words = refl; places = refl; number = refl }

-- a file of one word, that file, and one of none: under rule 1 the full file is marked and the next follows
full-then-next : Traverses (more ∷ 4 ∷ 4 ∷ 5 ∷ []) 1 (9 ∷ 9 ∷ []) (6 ∷ 7 ∷ 8 ∷ []) (3 ∷ 1 ∷ 0 ∷ 1 ∷ 2 ∷ 2 ∷ 0 ∷ 1 ∷ 0 ∷ 0 ∷ 0 ∷ 1 ∷ []) (machine 7 0 0) 1
    (more ∷ 4 ∷ 4 ∷ 6 ∷ []) (2 ∷ 4 ∷ []) (record { answer = Ok (Marked 2); machine = machine 1 2 0; ran = 1; pairs = 0 })
unfolding is_instruction field bit signed_of leaves sum_of operand_a operand_b answers alu_at alu_of is_move operation alu flags_after stores execute stop advance interpret stored_by journal_words has_pair noting within run_one run_noted files_from files_in parts sizes all_placed lay_one lay_all part_laid part_noted one_file traversed file_verdict traverse_verdict traverse_returned traverse_words traverse_places
full-then-next = record { result = refl; words = refl; places = refl; number = refl }

-- a word at 3, then a word at 2, and one pair: under rule 1 each file has room
each_fits : Traverses (more ∷ 4 ∷ 4 ∷ 5 ∷ []) 1 (9 ∷ 9 ∷ []) (6 ∷ 7 ∷ []) (3 ∷ 1 ∷ 0 ∷ 1 ∷ 2 ∷ 1 ∷ 0 ∷ 1 ∷ []) (machine 7 0 0) 1
    (more ∷ 4 ∷ 7 ∷ 6 ∷ []) (2 ∷ 4 ∷ []) (record { answer = Ok (Marked 0); machine = machine 1 2 0; ran = 1; pairs = 1 })
unfolding is_instruction field bit signed_of leaves sum_of operand_a operand_b answers alu_at alu_of is_move operation alu flags_after stores execute stop advance interpret stored_by journal_words has_pair noting within run_one run_noted files_from files_in parts sizes all_placed lay_one lay_all part_laid part_noted one_file traversed file_verdict traverse_verdict traverse_returned traverse_words traverse_places
each_fits = record { result = refl; words = refl; places = refl; number = refl }

-- under rule 2 the journal is full at the first word of the second, number 1
both-do-not : Traverses (more ∷ 4 ∷ 4 ∷ 5 ∷ []) 1 (9 ∷ 9 ∷ []) (6 ∷ 7 ∷ []) (3 ∷ 1 ∷ 0 ∷ 1 ∷ 2 ∷ 1 ∷ 0 ∷ 1 ∷ []) (machine 7 0 0) 2
    (more ∷ 4 ∷ 4 ∷ 5 ∷ []) (3 ∷ 5 ∷ []) (record { answer = Ok (Full 1); machine = machine 7 0 0; ran = 0; pairs = 1 })
unfolding is_instruction field bit signed_of leaves sum_of operand_a operand_b answers alu_at alu_of is_move operation alu flags_after stores execute stop advance interpret stored_by journal_words has_pair noting within run_one run_noted files_from files_in parts sizes all_placed lay_one lay_all part_laid part_noted one_file traversed file_verdict traverse_verdict traverse_returned traverse_words traverse_places
both-do-not = record { result = refl; words = refl; places = refl; number = refl }

-- two pairs are enough for a word at 3, then words at 2 and 3
address-again : Traverses (more ∷ 4 ∷ 4 ∷ 5 ∷ []) 1 (replicate 5 9) (6 ∷ 7 ∷ 8 ∷ []) (3 ∷ 1 ∷ 0 ∷ 1 ∷ 2 ∷ 2 ∷ 0 ∷ 1 ∷ []) (machine 7 0 0) 2
    (more ∷ 4 ∷ 7 ∷ 8 ∷ []) (3 ∷ 5 ∷ 2 ∷ 4 ∷ 9 ∷ []) (record { answer = Ok Finished; machine = machine 1 2 0; ran = 1; pairs = 2 })
unfolding is_instruction field bit signed_of leaves sum_of operand_a operand_b answers alu_at alu_of is_move operation alu flags_after stores execute stop advance interpret stored_by journal_words has_pair noting within run_one run_noted files_from files_in parts sizes all_placed lay_one lay_all part_laid part_noted one_file traversed file_verdict traverse_verdict traverse_returned traverse_words traverse_places
address-again = record { result = refl; words = refl; places = refl; number = refl }

-- ---- each reason before those after it, at its border

-- the number for a memory, a bottom, words, files and a version
abbrev turned_down : (memory : List ℕ) → (bottom : ℕ) → (words files : List ℕ) → (version : ℕ) → ℕ
turned_down memory bottom words files version = verdict_number (traverse_verdict memory bottom words (files_in files) version)

-- 64 files of no words, and one more that ends past the memory
abbrev sixty_four : List ℕ
sixty_four = replicate 256 0

abbrev sixty_five : List ℕ
sixty_five = 2 ∷ 0 ∷ 0 ∷ 0 ∷ sixty_four

reasons : turned_down [] 1 [] (2 ∷ 1 ∷ 0 ∷ 0 ∷ sixty_five) 0
    ∷ turned_down (0 ∷ []) 2 [] (2 ∷ 1 ∷ 0 ∷ 0 ∷ sixty_five) 0
    ∷ turned_down (0 ∷ []) 0 (9 ∷ []) sixty_five 0
    ∷ turned_down (0 ∷ []) 0 (9 ∷ []) (2 ∷ 0 ∷ 0 ∷ 0 ∷ []) 0
    ∷ turned_down (0 ∷ 0 ∷ []) 1 [] (0 ∷ 1 ∷ 0 ∷ 0 ∷ []) 0
    ∷ turned_down (0 ∷ []) 0 [] (0 ∷ 1 ∷ 0 ∷ 1 ∷ []) 0
    ∷ turned_down (0 ∷ []) 0 (9 ∷ 9 ∷ []) (0 ∷ 1 ∷ 0 ∷ 0 ∷ []) 0
    ∷ turned_down (0 ∷ []) 0 (9 ∷ []) (0 ∷ 1 ∷ 0 ∷ 1 ∷ []) 0
    ∷ turned_down (0 ∷ []) 0 (9 ∷ []) (0 ∷ 1 ∷ 0 ∷ 1 ∷ []) 3
    ∷ [] ≡ 1 ∷ 21 ∷ 16 ∷ 17 ∷ 17 ∷ 18 ∷ 18 ∷ 11 ∷ 11 ∷ []
unfolding file_verdict files_from files_in sizes all_placed traverse_verdict
reasons = refl

-- a reason that a later file gives: the second lies past the memory
later-file : turned_down (0 ∷ []) 0 [] (0 ∷ 0 ∷ 0 ∷ 0 ∷ 2 ∷ 0 ∷ 0 ∷ 0 ∷ []) 1 ≡ 17
unfolding file_verdict files_from files_in sizes all_placed traverse_verdict
later-file = refl

-- just not turned down: a file that ends where the memory ends and one of no words there, a word at the bottom and a file of no words below it,
-- as many instructions as a word says, and 64 files
taken : turned_down (0 ∷ []) 0 (9 ∷ []) (0 ∷ 1 ∷ 0 ∷ 1 ∷ 1 ∷ 0 ∷ 0 ∷ 0 ∷ []) 2
    ∷ turned_down (0 ∷ 0 ∷ []) 1 (9 ∷ []) (1 ∷ 1 ∷ 0 ∷ 0 ∷ 0 ∷ 0 ∷ 0 ∷ 0 ∷ []) 1
    ∷ turned_down (0 ∷ []) 0 (9 ∷ []) (0 ∷ 1 ∷ 0 ∷ 4_294_967_295 ∷ []) 1
    ∷ turned_down (0 ∷ []) 1 [] sixty_four 1
    ∷ [] ≡ 0 ∷ 0 ∷ 0 ∷ 0 ∷ []
unfolding file_verdict files_from files_in sizes all_placed traverse_verdict
taken = refl
