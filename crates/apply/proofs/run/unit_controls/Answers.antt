use mathlib.Core.Path.{sym, ◌∙◌}
use Rattle.reading.specs.Records.{rule_list, journal_list, matched_in}
use Rattle.apply.proofs.run.Fits.{unit-unchanged}
use Rattle.apply.proofs.run.unit_controls.Goals as goal

-- where no action of the unit changes the controls
pub returns-then-not-changes : goal.returns-then-not-changes
returns-then-not-changes c =
    let a = c.args in
    unit-unchanged _ a.codes.now (rule_list a.rules.now) (matched_in (journal_list a.entries.now)) _ _
    (sym c.changes.ensures ∙ c.if-not-changes.true)
