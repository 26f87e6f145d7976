use Rattle.std.proofs.Common.{rules, refl, ◌∙◌, ap, ℕ, arith, tests}
use Rattle.std.proofs.lemmas.Iterator.{YieldsList-from_range}
use Rattle.std.proofs.lemmas.Iterator.Search.{all_from_yields_List}
use Rattle.std.specs.List.{list_all, range_with_len}
use Rattle.traverses.specs.Files.{file_at, placed}
use Rattle.file_list.proofs.Lists.{placed-all}
use Rattle.file_list.proofs.sums.all_placed.Goals as goal

pub returns : goal.returns
returns c =
    let args = c.args in
    let test : ℕ → _ = λ i. placed args.memory.now args.bottom (file_at args.files.now i) in
    all_from_yields_List test _ _ _ c.all.ensures.ran (YieldsList-from_range 0 c.file_count.result c.file_count.result refl (omega arith)) (λ x b q k. search (rules, tests))
    ∙ ap (λ (n : ℕ). list_all test (range_with_len 0 n)) c.file_count.ensures ∙ placed-all args.memory.now args.bottom args.files.now
