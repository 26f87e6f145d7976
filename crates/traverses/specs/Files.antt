-- CR 1: the files of a traverse: four numbers each in a flat list, and their words, one after the other in one list; what the reasons ask of
-- them.
use Rattle.std.specs.Prelude.{ℕ, zero, suc, ◌+◌, ◌/◌, Bool, true, ◌&&◌, ◌||◌, List, [], ◌∷◌, eqb, leb, length, get_or, take, drop}
use Rattle.model.specs.Words.{word_at}
use Rattle.traverses.specs.declared.File.{File}

-- the file whose four numbers lead a flat list, the first n files, and all of them; up to three numbers left over at the end are ignored
abbrev pub file_in : List ℕ → File
file_in list = record { place = word_at list 0; size = word_at list 1; entry = word_at list 2; count = word_at list 3 }

unfoldable pub files_from : ℕ → List ℕ → List File
files_from zero list = []
files_from (suc n) list = file_in list ∷ files_from n (drop 4 list)

unfoldable pub files_in : List ℕ → List File
files_in list = files_from (length list / 4) list

-- file i; past the last one a file of no words that runs nothing
abbrev pub file_at : List ℕ → ℕ → File
file_at list i = get_or (files_in list) i (file_in [])

-- a file with its words: each file takes as many as it has from the list in turn
pub record Part : Type 0 where
  pub file : File
  pub words : List ℕ

unfoldable pub parts : List File → (load : List ℕ) → List Part
parts [] load = []
parts (f ∷ fs) load = record { file = f; words = take f.size load } ∷ parts fs (drop f.size load)

-- ---- what the reasons ask of all files

-- words and instructions together
unfoldable pub wanted : List File → ℕ
wanted [] = 0
wanted (f ∷ fs) = f.size + f.count + wanted fs

-- words alone
unfoldable pub sizes : List File → ℕ
sizes [] = 0
sizes (f ∷ fs) = f.size + sizes fs

-- a file's place plus words is within the memory, also where it has no words; and no word is laid below the bottom (CR 6)
abbrev pub fits_memory : (memory : List ℕ) → File → Bool
fits_memory memory f = leb (f.place + f.size) (length memory)

abbrev pub above_bottom : (bottom : ℕ) → File → Bool
above_bottom bottom f = eqb f.size 0 || leb bottom f.place

abbrev pub placed : (memory : List ℕ) → (bottom : ℕ) → File → Bool
placed memory bottom f = fits_memory memory f && above_bottom bottom f

unfoldable pub all_placed : List File → (memory : List ℕ) → (bottom : ℕ) → Bool
all_placed [] memory bottom = true
all_placed (f ∷ fs) memory bottom = placed memory bottom f && all_placed fs memory bottom
