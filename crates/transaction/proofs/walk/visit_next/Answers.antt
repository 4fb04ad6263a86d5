use Prim.Native.Nat.{ℕ, ◌*◌}
use mathlib.Core.Path.{◌∙◌, ap, sym}
use mathlib.Core.List.{[], ◌∷◌}
use Rattle.reading.specs.Numbers.{verdict_number}
use Rattle.reading.specs.Records.{rule_list}
use Rattle.reading.specs.Outcome.{at_free_end}
use Rattle.transaction.proofs.Found.{visit-verdict}
use Rattle.transaction.proofs.Parts.{put-at}
use Rattle.transaction.proofs.walk.visit_next.Goals as goal

pub returns-clause-journal_after : goal.returns-clause-journal_after
returns-clause-journal_after c =
    let found = c.verdict_at-found.result in
    let number = c.verdict_number in
    let a = c.args in
    put-at (2 * a.at.visits) a.journal.now a.at.state.next number.result c.requires
    ∙ ap (λ (n : ℕ). at_free_end (2 * a.at.visits) a.journal.now (a.at.state.next ∷ n ∷ []))
    (number.ensures ∙ ap verdict_number
    (sym (visit-verdict (rule_list a.rules.now) a.at.state a.at.visits found c.visit.result c.visit.ensures)))
