-- A program's store to memory as the code does it: the memory that it leaves, and whether it put the word. CR 6.
use Rattle.std.specs.Prelude.{◌≡◌, ℕ, Bool, ◌&&◌, List}
use Rattle.model.specs.Words.{present, alterable, store_above}

pub record StoresAbove (bottom : ℕ) (memory : List ℕ) (address word : ℕ) (memory' : List ℕ) (r : Bool) : Type 0 where
  pub words : memory' ≡ store_above bottom memory address word
  pub done : r ≡ (alterable bottom address && present memory address)
