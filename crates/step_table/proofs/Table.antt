-- The table, row by row, its marks of an access and of row 12, and what comparing two marks tells.
use Prim.Native.Nat.{ℕ, zero, suc, ◌<◌}
use mathlib.Core.Path.{◌≡◌, refl, sym}
use mathlib.Core.Bool.{true, false, true≢false}
use mathlib.Core.List.{List, [], ◌∷◌}
use native.Mathlib.Nat.{le_of_suc-le-suc, not-suc-le-zero}
use lib.ListN.{length, get_or}
use denote.Enum.Bare.{sameb}
use Rattle.model.specs.GateMachine.{is_access}
use Rattle.model.proofs.Cases.{Each, past, ◌▸◌}
use Rattle.step_table.specs.contracts.Mark.{the_type}
use Rattle.step_table.specs.declared.Mark.{Mark}
use Rattle.step_table.specs.declared.Mark.TheVariants.{Plain, Access, Finishes, Stays}
use Rattle.step_table.specs.declared.Step.{Step}
use Rattle.step_table.specs.Table.{step_of, step_table, is_access_mark, is_finish_mark, is_stay_mark, marks_access, marks_stay}

there : (l : List Step) (i : ℕ) → i < length l → (d e : Step) → get_or l i d ≡ get_or l i e
there [] i h d e = absurd (not-suc-le-zero h)
there (x ∷ l) zero h d e = refl
there (x ∷ l) (suc i) h d e = there l i (le_of_suc-le-suc h) d e

-- a row's place in the table has its step
pub step-there : {table : List Step} → table ≡ step_table → {i r : ℕ} → i ≡ r → r < 13 → (d : Step) → get_or table i d ≡ step_of r
unfolding step_of step_table
step-there p {i} {r} e h d = rw (p, e) (there step_table r h d _)

marks : Each (λ r. marks_access (step_of r) ≡ is_access r)
unfolding step_of step_table is_access
marks = refl ▸ refl ▸ refl ▸ refl ▸ refl ▸ refl ▸ refl ▸ refl ▸ refl ▸ refl ▸ refl ▸ refl ▸ refl ▸ past (λ r. refl)

-- a row's mark says whether it is an access
pub access-mark : (r : ℕ) → marks_access (step_of r) ≡ is_access r
access-mark = marks.at

-- the machine stays in row 12 alone
staying : Each (λ r. marks_stay (step_of r) ≡ true → r ≡ 12)
unfolding step_of step_table
staying = not ▸ not ▸ not ▸ not ▸ not ▸ not ▸ not ▸ not ▸ not ▸ not ▸ not ▸ not ▸ (λ e. refl) ▸ past (λ r e. absurd (true≢false (sym e)))
  where
    not : {n : ℕ} → false ≡ true → n ≡ 12
    not e = absurd (true≢false (sym e))

pub stay_mark : (r : ℕ) → marks_stay (step_of r) ≡ true → r ≡ 12
stay_mark = staying.at

-- ---- a mark compared

pub is-access : (m : Mark) → sameb the_type m Access ≡ is_access_mark m
is-access Plain = refl
is-access Access = refl
is-access Finishes = refl
is-access Stays = refl

pub is-finish : (m : Mark) → sameb the_type m Finishes ≡ is_finish_mark m
is-finish Plain = refl
is-finish Access = refl
is-finish Finishes = refl
is-finish Stays = refl

pub is-stay : (m : Mark) → sameb the_type m Stays ≡ is_stay_mark m
is-stay Plain = refl
is-stay Access = refl
is-stay Finishes = refl
is-stay Stays = refl
