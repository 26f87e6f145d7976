-- Taking stores back: the former words of a journal's pairs put back into the memory. Document 01, "File run and journal"; CR 1.
use Rattle.std.specs.Prelude.{ℕ, zero, suc, ◌+◌, ◌*◌, List, [], ◌∷◌}
use Rattle.model.specs.Words.{word_at, store_word}
use Rattle.model.specs.Journal.{Pair}

-- the memory with the former words of the first k pairs put back, pair k - 1 first
unfoldable pub undone : ℕ → List ℕ → List ℕ → List ℕ
undone zero journal memory = memory
undone (suc k) journal memory =
    undone k journal (store_word memory (word_at journal (2 * k)) (word_at journal (2 * k + 1)))

-- the same of a list of pairs: the former words put back, the last pair first
unfoldable pub restored : List Pair → List ℕ → List ℕ
restored [] memory = memory
restored (p ∷ ps) memory = store_word (restored ps memory) p.address p.former
