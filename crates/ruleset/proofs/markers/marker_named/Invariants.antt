use Prim.Native.Nat.{◌-◌, ◌/◌, ◌≤◌}
use mathlib.Core.Path.{◌≡◌}
use lib.ListN.{length, drop}
use Rattle.reading.specs.Text.{same}
use Rattle.reading.specs.Records.{marker_list}
use Rattle.reading.specs.Markers.{marker_position}
use Rattle.ruleset.proofs.markers.MarkerLaws.{position_in}
use Rattle.ruleset.proofs.markers.marker_named.Given as goal

abbrev pub invariant-name : goal.invariant-name
invariant-name l = (l.j ≤ l.n) × (same l.other l.name ≡ same (drop l.j l.other) (drop l.j l.name))

abbrev pub decreases-name : goal.decreases-name
decreases-name l = l.n - l.j

abbrev pub invariant-search : goal.invariant-search
invariant-search l = (l.k ≤ length l.markers / 3) ×
    (marker_position l.text (marker_list l.markers) l.name ≡ position_in l.markers l.text l.name l.k)

abbrev pub decreases-search : goal.decreases-search
decreases-search l = l.k
