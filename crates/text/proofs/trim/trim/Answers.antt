use mathlib.Core.Path.{ap, ◌∙◌}
use Rattle.reading.specs.Text.{trim, trim_end}
use Rattle.text.proofs.trim.trim.Goals as goal

pub returns : goal.returns
unfolding trim
returns c = c.trim_end.ensures ∙ ap trim_end c.trim_start.ensures
