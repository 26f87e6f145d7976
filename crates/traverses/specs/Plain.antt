-- The traverse as it was before CR 11, for what CR 11 leaves alone: every store and every laid word has a pair of its own, as in document 01 and
-- CR 1, and there is room for all. Only the theorems cite it.
use Rattle.model.specs.declared.Refusal.{Refusal}
use Rattle.traverses.specs.declared.TraverseEnding.{TraverseEnding}
use Rattle.std.specs.Prelude.{ℕ, ◌+◌, ◌-◌, ◌^◌, cond, List, [], ◌∷◌, ◌++◌, eqb, Result}
use Rattle.model.specs.declared.Machine.{Machine}
use Rattle.model.specs.Words.{word_at, store_word}
use Rattle.model.specs.Interpreter.{goes_on, Run, begin, interpret}
use Rattle.model.specs.Journal.{Pair, journal_pairs}
use Rattle.interpreter.specs.Calls.{file_board}
use Rattle.traverses.specs.declared.TraverseEnding.TheVariants.{Marked, Finished, Undone}
use Rattle.traverses.specs.Files.{Part}
use Rattle.traverses.specs.Traverse.{entered}

-- words laid from a place on, and a pair for each
unfoldable pub laid : (memory : List ℕ) → (place : ℕ) → (words : List ℕ) → List ℕ
laid memory place [] = memory
laid memory place (w ∷ ws) = laid (store_word memory place w) (place + 1) ws

unfoldable pub laid_pairs : (memory : List ℕ) → (place : ℕ) → (words : List ℕ) → List Pair
laid_pairs memory place [] = []
laid_pairs memory place (w ∷ ws) =
    record { address = place; former = word_at memory place } ∷ laid_pairs (store_word memory place w) (place + 1) ws

-- one file: its words laid, then run
abbrev pub plain_start : Machine → (memory : List ℕ) → Part → Run
plain_start m memory p = begin (entered m p) (laid memory p.file.place p.words) 0

unfoldable pub plain_run : (bottom : ℕ) → Machine → (memory : List ℕ) → Part → Run
plain_run bottom m memory p = interpret (file_board bottom) p.file.count (plain_start m memory p)

-- the pairs of its words, then of its stores
unfoldable pub plain_pairs : (bottom : ℕ) → Machine → (memory : List ℕ) → Part → List Pair
plain_pairs bottom m memory p =
    laid_pairs memory p.file.place p.words ++ journal_pairs (file_board bottom) p.file.count (plain_start m memory p)

-- the files one after the other
pub record Plain : Type 0 where
  pub machine : Machine
  pub memory : List ℕ
  pub pairs : List Pair
  pub files : ℕ
  pub undone : ℕ
  pub ran : ℕ

abbrev pub plain_out : Machine → List ℕ → Plain
plain_out m memory = record { machine = m; memory = memory; pairs = []; files = 0; undone = 0; ran = 0 }

unfoldable pub plain_file : (bottom : ℕ) → Plain → Part → Plain
plain_file bottom t p =
    let r = plain_run bottom t.machine t.memory p in
    let done = goes_on r.ending in
    record {
      machine = cond done r.machine t.machine;
      memory = cond done r.memory t.memory;
      pairs = t.pairs ++ plain_pairs bottom t.machine t.memory p;
      files = t.files + 1;
      undone = cond done t.undone (t.undone + 2 ^ t.files);
      ran = r.ran;
    }

-- under rule 2 the first undone file ends it
unfoldable pub plain_traversed : (bottom version : ℕ) → List Part → Plain → Plain
plain_traversed bottom version [] t = t
plain_traversed bottom version (p ∷ ps) t =
    let u = plain_file bottom t p in
    cond (eqb version 1) (plain_traversed bottom version ps u) (cond (eqb u.undone 0) (plain_traversed bottom version ps u) u)

-- what it answered, and the machine and the memory that it left
abbrev pub plain_answer : (version : ℕ) → Plain → TraverseEnding
plain_answer version t = cond (eqb version 1) (Marked t.undone) (cond (eqb t.undone 0) Finished (Undone (t.files - 1)))

abbrev pub plain_kept : {A : Type 0} → (version : ℕ) → Plain → (start last : A) → A
plain_kept version t start last = cond (eqb version 1) last (cond (eqb t.undone 0) last start)
