-- What every laid word and every instruction keeps, a file and a traverse keep; pairs noted: no address twice, no more than there is room for.
use Prim.Native.Nat.{ℕ, ◌+◌, ◌≤◌}
use mathlib.Core.Path.{◌≡◌, refl, sym}
use mathlib.Core.Bool.{Bool, true, false, not, cond, ◌&&◌, ◌||◌}
use mathlib.Core.List.{List, [], ◌∷◌, ◌++◌}
use lib.Dec.{eqb}
use lib.ListN.{length}
use borrow.Author.Tests.{eqb-false, ne_eqb}
use Rattle.model.specs.declared.Machine.{Machine}
use Rattle.model.specs.Interpreter.{Run, begin}
use Rattle.model.specs.Journal.{Pair, has_pair, noting, Noted, within, fresh, run_one}
use Rattle.model.proofs.Cases.{pick}
use Rattle.model.proofs.Journals.{by-room, run-keeps}
use Rattle.interpreter.specs.Calls.{file_board}
use Rattle.traverses.specs.Files.{Part}
use Rattle.traverses.specs.Traverse.{lay_one, lay_all, entered, part_laid, part_noted, Progress, taken_back, one_file, traversed}

-- ---- what each laid word and each instruction keeps

module _ (room : ℕ) (P : Noted → Type 0) (lays : (k : Noted) (place word : ℕ) → P k → P (lay_one room k place word)) where
  pub lay_keeps : (words : List ℕ) (k : Noted) (place : ℕ) → P k → P (lay_all room k place words)
  unfolding lay_all
  lay_keeps [] k place h = h
  lay_keeps (w ∷ ws) k place h = lay_keeps ws (lay_one room k place w) (place + 1) (lays k place w h)

  module _ (bottom : ℕ) (runs : (k : Noted) → P k → P (run_one (file_board bottom) room k)) where
    pub part_keeps : (pairs : List Pair) (m : Machine) (memory : List ℕ) (p : Part)
        → P (fresh (begin (entered m p) memory 0) pairs) → P (part_noted bottom room pairs m memory p)
    unfolding part_noted part_laid
    part_keeps pairs m memory p h =
        run-keeps (file_board bottom) room P runs p.file.count (part_laid room pairs m memory p) (lay_keeps p.words _ p.file.place h)

-- what holds of no pairs, and what noting within the room keeps, holds of the pairs of every file and traverse
module _ (bottom room : ℕ) (P : List Pair → Type 0) (notes : (pairs stores : List Pair) → length (noting pairs stores) ≤ room → P pairs → P (noting pairs stores)) where
  step_keeps : (k : Noted) (stores : List Pair) (after : Run) → P k.pairs → P (within room k stores after).pairs
  step_keeps k stores after h =
      by-room room (λ (x : Noted). P x.pairs) k stores after (λ _. h) (λ _ fits. notes k.pairs stores fits h) (λ _ _. h)

  pub pairs-keep : (pairs : List Pair) (m : Machine) (memory : List ℕ) (p : Part) → P pairs → P (part_noted bottom room pairs m memory p).pairs
  unfolding lay_one run_one
  pairs-keep pairs m memory p h =
      part_keeps room (λ (k : Noted). P k.pairs) (λ k place word. step_keeps k _ _) bottom (λ k. step_keeps k _ _) pairs m memory p h

  pub traverse_keeps : P [] → (version : ℕ) (ps : List Part) (t : Progress) → P t.pairs → P (traversed bottom version room ps t).pairs
  unfolding traversed one_file
  traverse_keeps none version [] t h = h
  traverse_keeps none version (p ∷ ps) t h =
      let u = one_file bottom version room t p in
      let first : P u.pairs = pairs-keep _ t.machine t.memory p (pick P (eqb version 1) none h) in
      pick (λ (x : Progress). P x.pairs) (taken_back version u) first (traverse_keeps none version ps u first)

-- never more pairs than there is room for
pub part_room : (bottom room : ℕ) (pairs : List Pair) (m : Machine) (memory : List ℕ) (p : Part) → length pairs ≤ room
    → length (part_noted bottom room pairs m memory p).pairs ≤ room
part_room bottom room = pairs-keep bottom room (λ (ps : List Pair). length ps ≤ room) (λ pairs stores fits _. fits)

-- ---- no address twice

unfoldable pub distinct : List Pair → Bool
distinct [] = true
distinct (p ∷ ps) = not (has_pair ps p.address) && distinct ps

has-one-more : (ps : List Pair) (s : Pair) (a : ℕ) → has_pair ps a ≡ false → eqb s.address a ≡ false → has_pair (ps ++ s ∷ []) a ≡ false
unfolding has_pair
has-one-more [] s a h e = rw e
has-one-more (p ∷ ps) s a h e = go (eqb p.address a) refl h (λ g. has-one-more ps s a g e)
  where
    go : (b : Bool) → eqb p.address a ≡ b → (b || has_pair ps a) ≡ false → (has_pair ps a ≡ false → has_pair (ps ++ s ∷ []) a ≡ false)
        → (b || has_pair (ps ++ s ∷ []) a) ≡ false
    go true q g rest = g
    go false q g rest = rest g

distinct-one-more : (ps : List Pair) (s : Pair) → distinct ps ≡ true → has_pair ps s.address ≡ false → distinct (ps ++ s ∷ []) ≡ true
unfolding has_pair distinct
distinct-one-more [] s d h = refl
distinct-one-more (p ∷ ps) s d h = go (has_pair ps p.address) refl (eqb p.address s.address) refl d h (λ e g. distinct-one-more ps s e g)
  where
    go : (x : Bool) → has_pair ps p.address ≡ x → (y : Bool) → eqb p.address s.address ≡ y
        → (not x && distinct ps) ≡ true → (y || has_pair ps s.address) ≡ false
        → (distinct ps ≡ true → has_pair ps s.address ≡ false → distinct (ps ++ s ∷ []) ≡ true)
        → (not (has_pair (ps ++ s ∷ []) p.address) && distinct (ps ++ s ∷ [])) ≡ true
    go true q y r e g rest = cc
    go false q true r e g rest = cc
    go false q false r e g rest =
        rw (has-one-more ps s p.address q (ne_eqb s.address p.address (λ x. eqb-false _ _ r (sym x))), rest e g)

pub noting-distinct : (ss ps : List Pair) → distinct ps ≡ true → distinct (noting ps ss) ≡ true
unfolding noting
noting-distinct [] ps d = d
noting-distinct (s ∷ ss) ps d = go (has_pair ps s.address) refl (λ qs. noting-distinct ss qs)
  where
    go : (b : Bool) → has_pair ps s.address ≡ b → ((qs : List Pair) → distinct qs ≡ true → distinct (noting qs ss) ≡ true)
        → distinct (noting (cond b ps (ps ++ s ∷ [])) ss) ≡ true
    go true e rest = rest ps d
    go false e rest = rest (ps ++ s ∷ []) (distinct-one-more ps s d e)
