-- The pairs of distinct addresses (CR 11) taken back give the memory before.
use Prim.Native.Nat.{ℕ}
use mathlib.Core.Path.{◌≡◌, refl, sym, ap, ◌∙◌}
use mathlib.Core.Bool.{Bool, true, false, cond, ◌&&◌, ◌||◌}
use mathlib.Core.List.{List, [], ◌∷◌, ◌++◌}
use lib.Dec.{eqb}
use lib.Seq.{set-set, set-get_or, set_comm}
use borrow.Author.Tests.{eqb-true, eqb-false}
use Rattle.model.specs.Words.{word_at, store_word, alterable}
use Rattle.model.specs.Board.{Board}
use Rattle.model.specs.Operands.{in_memory}
use Rattle.model.specs.Interpreter.{Run, op_b, address_b, alu_out, is_stored, execute, stop, advance}
use Rattle.model.specs.Journal.{Pair, stored_by, has_pair, noting, Noted, run_one, run_noted}
use Rattle.model.proofs.Runs.{one_more}
use Rattle.model.proofs.Journals.{by-room, run-keeps}
use Rattle.journal.specs.Undo.{restored}
use Rattle.journal.proofs.Journals.{restored-append}

-- a store to an address that has a pair is taken back with the pairs; to another it stays
pub restored-set : (ps : List Pair) (m : List ℕ) (a x : ℕ)
    → restored ps (store_word m a x) ≡ cond (has_pair ps a) (restored ps m) (store_word (restored ps m) a x)
unfolding restored has_pair
restored-set [] m a x = refl
restored-set (p ∷ ps) m a x =
    ap (λ (l : List ℕ). store_word l p.address p.former) (restored-set ps m a x) ∙ go (has_pair ps a) (eqb p.address a) refl
  where
    go : (h b : Bool) → eqb p.address a ≡ b →
        let l = restored ps m in
        store_word (cond h l (store_word l a x)) p.address p.former
        ≡ cond (b || h) (store_word l p.address p.former) (store_word (store_word l p.address p.former) a x)
    go true true e = refl
    go true false e = refl
    go false true e = rw (eqb-true p.address a e) (set-set (restored ps m) a x p.former)
    go false false e = set_comm (restored ps m) a p.address x p.former (λ q. eqb-false _ _ e (sym q))

-- noted with the word before it, a store is taken back
pub noted-store : (ps : List Pair) (m : List ℕ) (a x : ℕ)
    → restored (noting ps (record { address = a; former = word_at m a } ∷ [])) (store_word m a x) ≡ restored ps m
unfolding noting restored
noted-store ps m a x = go (has_pair ps a) refl
  where
    go : (h : Bool) → has_pair ps a ≡ h → restored (cond h ps (ps ++ record { address = a; former = word_at m a } ∷ [])) (store_word m a x) ≡ restored ps m
    go true e = restored-set ps m a x ∙ rw e
    go false e =
        restored-append ps (record { address = a; former = word_at m a } ∷ []) (store_word m a x)
        ∙ ap (restored ps) (set-set m a x (word_at m a) ∙ set-get_or m a 0)

-- a store, or none, or one that alters nothing
maybe_store : (ps : List Pair) (m : List ℕ) (a x : ℕ) (s b v : Bool)
    → restored (noting ps (cond (s && b && v) (record { address = a; former = word_at m a } ∷ []) [])) (cond s (cond b (cond v (store_word m a x) m) m) m)
    ≡ restored ps m
unfolding noting
maybe_store ps m a x true true true = noted-store ps m a x
maybe_store ps m a x true true false = refl
maybe_store ps m a x true false v = refl
maybe_store ps m a x false b v = refl

module _ (board : Board) where
  pub one-restores : (ps : List Pair) (r : Run) → restored (noting ps (stored_by board.bottom r)) (advance board r).memory ≡ restored ps r.memory
  unfolding stored_by execute stop noting
  one-restores ps r =
      let memory = r.memory in
      let m = r.machine in
      one_more board (λ (x : Run). restored (noting ps (stored_by board.bottom r)) x.memory ≡ restored ps memory) r
      (λ e t. rw (e, t) (maybe_store ps memory (address_b memory m) (alu_out memory m).result (is_stored memory m) (in_memory (op_b memory m)) (alterable board.bottom (address_b memory m))))
      (λ e t. rw (e, t))
      (λ e. rw e)

  -- the whole run, whatever pairs it starts with and whatever room there is
  pub run-restores : (room n : ℕ) (k : Noted)
      → restored (run_noted board room n k).pairs (run_noted board room n k).run.memory ≡ restored k.pairs k.run.memory
  unfolding run_one
  run-restores room n k =
      let R : Noted → Type 0 = λ x. restored x.pairs x.run.memory ≡ restored k.pairs k.run.memory in
      run-keeps board room R
      (λ x h.
      by-room room R x (stored_by board.bottom x.run) (advance board x.run) (λ _. h) (λ _ _. one-restores x.pairs x.run ∙ h) (λ _ _. h))
      n k refl
