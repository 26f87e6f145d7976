-- The step table: where each row leads, and its control marks. Document 01, "Clocks", the table of twelve rows, with row 12 of CR 5.
use Rattle.std.specs.Prelude.{ℕ, Bool, true, false, List, [], ◌∷◌, get_or}
use Rattle.step_table.specs.declared.Mark.{Mark}
use Rattle.step_table.specs.declared.Mark.TheVariants.{Plain, Access, Finishes, Stays}
use Rattle.step_table.specs.declared.Step.{Step}

-- a row: the next row where an operand is in memory, where it is direct, and where nothing is stored; its mark
abbrev pub leading : (memory direct skipped : ℕ) → Mark → Step
leading memory direct skipped mark = record { memory = memory; direct = direct; skipped = skipped; mark = mark }

-- For each row: the next row where an operand is in memory, where it is direct, and where nothing is stored; a row that does not ask has
-- one next row, and rows 3 and 5 do not ask whether anything is stored. From row 1 the third is for a word that is no instruction. Marks:
-- Access for an access, Finishes where an instruction finishes, Stays where the machine stays.
unfoldable pub step_table : List Step
step_table =
    leading 1 1 1 Plain  -- 0
    ∷ leading 2 2 12 Access  -- 1
    ∷ leading 3 3 3 Plain  -- 2
    ∷ leading 4 5 4 Plain  -- 3
    ∷ leading 5 5 5 Access  -- 4
    ∷ leading 6 7 6 Plain  -- 5
    ∷ leading 7 7 7 Access  -- 6
    ∷ leading 9 8 10 Plain  -- 7
    ∷ leading 10 10 10 Plain  -- 8
    ∷ leading 10 10 10 Access  -- 9
    ∷ leading 11 11 11 Plain  -- 10
    ∷ leading 0 0 0 Finishes  -- 11
    ∷ leading 12 12 12 Stays  -- 12
    ∷ []

-- the step of row r; past the table a row leads to itself
unfoldable pub step_of : ℕ → Step
step_of r = get_or step_table r (leading r r r Plain)

-- ---- the marks of a step

abbrev pub is_access_mark : Mark → Bool
is_access_mark Access = true
is_access_mark _ = false

abbrev pub is_finish_mark : Mark → Bool
is_finish_mark Finishes = true
is_finish_mark _ = false

abbrev pub is_stay_mark : Mark → Bool
is_stay_mark Stays = true
is_stay_mark _ = false

abbrev pub marks_access : Step → Bool
marks_access step = is_access_mark step.mark

abbrev pub marks_finish : Step → Bool
marks_finish step = is_finish_mark step.mark

abbrev pub marks_stay : Step → Bool
marks_stay step = is_stay_mark step.mark
