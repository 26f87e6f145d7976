-- Going on after a verdict.
use Rattle.std.specs.Prelude.{Ok, Err}
use Prim.Native.Nat.{ℕ}
use mathlib.Core.Path.{◌≡◌, refl}
use mathlib.Core.List.{List}
use Rattle.model.specs.declared.Machine.{Machine}
use Rattle.model.specs.Refusals.{◌then◌, Verdict}
use Rattle.image.specs.Reading.{Outcome, loaded, ◌▷◌}

pub went_on : {version : ℕ} {machine : Machine} {memory : List ℕ} (v : Verdict) (o : Outcome)
    → (v ▷ o) ≡ loaded version machine memory → (v ≡ Ok tt) × (o ≡ loaded version machine memory)
went_on (Ok u) o e = (refl, e)
went_on (Err why) o e = (cc, cc)

-- what follows a verdict is a verdict and an outcome: the two verdicts are one
pub verdicts-join : {o : Outcome} (v w : Verdict) (o' : Outcome) → o ≡ (w ▷ o') → (v ▷ o) ≡ ((v then w) ▷ o')
verdicts-join (Ok u) w o' e = e
verdicts-join (Err why) w o' e = refl
