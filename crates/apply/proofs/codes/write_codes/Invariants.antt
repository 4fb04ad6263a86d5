use mathlib.Core.Path.{◌≡◌}
use lib.ListN.{take, get_or}
use Rattle.reading.specs.Walk.{no_action}
use Rattle.reading.specs.Lists.{any}
use Rattle.reading.specs.Records.{action_list}
use Rattle.actions.proofs.execute.ControlLaws.{fitting}
use Rattle.apply.specs.Codes.{codes_of, is_reason, IsCodeOf}
use Rattle.apply.proofs.codes.write_codes.Given as goal

abbrev pub invariant-loop-i : goal.invariant-loop-i
invariant-loop-i l =
    (l.codes ≡ fitting l.initial.codes (codes_of l.text (take l.i (action_list l.actions)))) × (l.unsupported ≡ any is_reason (codes_of l.text (take l.i (action_list l.actions))))
    × IsCodeOf l.text (get_or (action_list l.actions) l.last no_action) l.last_code
