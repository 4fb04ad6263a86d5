use mathlib.Core.Path.{ap, ◌∙◌}
use Prim.Native.Nat.{ℕ}
use native.Mathlib.Omega.{arith}
use lib.ListN.{take}
use Rattle.apply.proofs.codes.TotalLaws.{clip-take}
use Rattle.refusals.proofs.totals.first_codes.Goals as goal

pub returns-clause-first : goal.returns-clause-first
returns-clause-first c =
    let codes = c.args.codes.now in
    ap (λ (n : ℕ). take n codes) (omega (arith, c.min.ensures)) ∙ clip-take 4096 codes
