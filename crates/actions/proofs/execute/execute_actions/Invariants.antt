use Prim.Native.Nat.{◌≤◌}
use Rattle.reading.specs.Records.{action_list}
use Rattle.actions.proofs.execute.PlacedLaws.{up_to}
use Rattle.actions.proofs.execute.Sofar.{Sofar}
use Rattle.actions.proofs.execute.execute_actions.Given as goal

abbrev pub invariant-loop-i : goal.invariant-loop-i
invariant-loop-i l =
    (l.n ≤ l.i) × Sofar (action_list l.actions) l.initial.controls (up_to (action_list l.actions) l.first l.i) l.last l.controls l.n
