use Rattle.std.specs.Prelude.{None}
use Prim.Native.Nat.{ℕ, ◌-◌, ◌/◌}
use mathlib.Core.Bool.{false}
use mathlib.Core.List.{List}
use lib.ListN.{length}
use Rattle.reading.specs.Records.{marker_list, given_of}
use Rattle.apply.specs.Append.{struct_of}
use Rattle.transaction.specs.declared.types.WalkState.{WalkState}
use Rattle.transaction.specs.declared.types.Transaction.{Transaction}
use Rattle.transaction.proofs.Progress.{Sofar}
use Rattle.transaction.proofs.walk.walk_rules.Given as goal

-- the transaction at entry, by the walk's first state and the arrays
abbrev pub entry_by : WalkState → List ℕ → List ℕ → List ℕ → List ℕ → Transaction
entry_by at starts ends phases positions = record {
  controls = struct_of at.counts starts ends phases positions;
  allowed = false;
  intervention = None;
  ids = at.ids;
  entries = at.entries;
}

abbrev pub invariant-loop-at : goal.invariant-loop-at
invariant-loop-at l =
    Sofar (given_of l.call l.rules l.actions (marker_list l.markers) l.text l.outcomes) (entry_by l.initial.at l.initial.arrays.starts l.initial.arrays.ends l.initial.arrays.phases l.initial.arrays.positions) l.initial.ids l.initial.entries l.initial.journal l.ids l.entries l.journal (struct_of l.at.counts l.arrays.starts l.arrays.ends l.arrays.phases l.arrays.positions) l.at.counts.added l.at.state l.at.visits l.at.ids
    l.at.entries

abbrev pub decreases-loop-at : goal.decreases-loop-at
decreases-loop-at l =
    length l.rules / 5 - l.at.state.next
