use Rattle.std.proofs.Common.{ℕ, List, Option, Some, None, Bor, ◌≡◌, [], ◌∷◌, get_or, ◌∙◌, refl, ap, arith}
use Rattle.std.specs.Option.{unwrap_or, option_map}
use Rattle.traverses.specs.Files.{file_in}
use Rattle.file_list.proofs.Lists.{there}
use Rattle.file_list.proofs.file_at.Goals as goal

lent : (o : Option (Bor (List ℕ))) (d : Bor (List ℕ)) → (unwrap_or o d).now ≡ unwrap_or (option_map (λ (x : Bor (List ℕ)). x.now) o) d.now
lent (Some x) d = refl
lent None d = refl

pub returns : goal.returns
returns c =
    let i = c.args.i in
    let zeros : List ℕ = 0 ∷ 0 ∷ 0 ∷ 0 ∷ [] in
    let read : c.unwrap_or.result.now ≡ get_or c.as_chunks.result.0.now i zeros =
    ap (λ (x : Bor (List ℕ)). x.now) c.unwrap_or.ensures ∙ lent c.get.result _ ∙ c.get.ensures.lookup.4 (omega arith) zeros in
    ap file_in (read ∙ ap (λ (l : List (List ℕ)). get_or l i zeros) c.as_chunks.ensures.front) ∙ there c.args.files.now i
