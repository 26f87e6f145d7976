-- A run as the code keeps it: the journal's places, the map of the addresses that have a pair, and how many pairs there are. CR 11. A run without a
-- journal has a map of no words. The definition is model's `run_noted`; that this is the same, as long as the map tells the journal's pairs, is
-- shown in proofs.
use Rattle.std.specs.Prelude.{ℕ, zero, suc, ◌+◌, Bool, true, false, cond, List, [], ◌∷◌}
use Rattle.model.specs.Board.{Board}
use Rattle.model.specs.Interpreter.{Run, advance}
use Rattle.model.specs.Journal.{Pair, stored_by, noted}
use Rattle.marks.specs.Marks.{with_mark}
use Rattle.step.specs.Keeping.{passed_by, no_room}

pub record Kept : Type 0 where
  pub run : Run
  pub places : List ℕ
  pub map : List ℕ
  pub pairs : ℕ
  pub full : Bool

abbrev pub kept_at : Run → (places map : List ℕ) → (pairs : ℕ) → Kept
kept_at r places map pairs = record { run = r; places = places; map = map; pairs = pairs; full = false }

-- after the stores of an instruction, of which there is one at most
unfoldable pub kept_after : Kept → (stores : List Pair) → (after : Run) → Kept
kept_after k [] after = kept_at after k.places k.map k.pairs
kept_after k (p ∷ ps) after =
    cond (passed_by k.map k.places k.pairs p.address) (kept_at after k.places k.map k.pairs)
    (cond (no_room k.places k.pairs)
    (record { run = k.run; places = k.places; map = k.map; pairs = k.pairs; full = true })
    (kept_at after (noted k.places k.pairs p.address p.former) (with_mark k.map p.address) (k.pairs + 1)))

unfoldable pub keep_one : Board → Kept → Kept
keep_one board k = cond k.full k (kept_after k (stored_by board.bottom k.run) (advance board k.run))

unfoldable pub keep_run : Board → ℕ → Kept → Kept
keep_run board zero k = k
keep_run board (suc n) k = keep_one board (keep_run board n k)
