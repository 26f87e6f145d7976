-- Pairs taken back from a journal's places.
use Prim.Native.Nat.{ℕ, ◌≤◌, min}
use mathlib.Core.Path.{◌≡◌, ap₂, ◌∙◌}
use mathlib.Core.List.{List}
use native.Mathlib.Omega.{arith}
use lib.ListN.{length}
use lib.Seq.{sets, length-sets}
use Rattle.model.specs.Words.{overlay}
use Rattle.model.specs.Journal.{Pair, room_in, journal_words}
use Rattle.model.proofs.Stores.{overlaid}
use Rattle.model.proofs.Runs.{words-length}
use Rattle.journal.specs.Undo.{undone, restored}
use Rattle.journal.proofs.Journals.{undone-restores}

module _ (journal : List ℕ) (ps : List Pair) (fits : length ps ≤ room_in journal) where
  -- the pairs lie over the journal's first places
  pub laid-over : sets journal 0 (journal_words ps) ≡ overlay (journal_words ps) journal
  laid-over = overlaid journal (journal_words ps) (omega (arith, words-length ps))

  -- no more pairs than there is room for
  all_held : min (length ps) (room_in (sets journal 0 (journal_words ps))) ≡ length ps
  all_held = let l = length-sets journal 0 (journal_words ps) in omega (arith, l, fits)

  pub taken : (memory : List ℕ)
      → undone (min (length ps) (room_in (sets journal 0 (journal_words ps)))) (sets journal 0 (journal_words ps)) memory ≡ restored ps memory
  taken memory =
      ap₂ (λ (n : ℕ) (l : List ℕ). undone n l memory) all_held laid-over ∙ undone-restores ps _ memory
