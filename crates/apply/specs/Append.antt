-- The controls in parts: their settings and counts by value, and their four arrays lent, so that a change copies none of them.
use Rattle.std.specs.Prelude.{ℕ, ◌+◌, ◌≤◌, ◌<◌, ◌≡◌, ◌⊎◌, Bool, true, false, cond, ◌||◌, List, [], ltb, leb, length, drop}
use Rattle.reading.specs.declared.Place.{Place}
use Rattle.reading.specs.declared.RuleIdRange.{RuleIdRange}
use Rattle.reading.specs.Limits.{most_ranges, most_targets}
use Rattle.reading.specs.Text.{trim, id_parts, ranges_in}
use Rattle.reading.specs.Directive.{removal_value, ranges_of}
use Rattle.reading.specs.Ranges.{add_ranges}
use Rattle.reading.specs.Controls.{with_ranges, with_targets, add_target}
use Rattle.reading.specs.Controls as reading
use Rattle.control.specs.declared.state.Controls.{Controls}
use Rattle.control.specs.ControlsStruct.{controls_of, RangesKept, RestCleared}
use Rattle.apply.specs.declared.append.ControlCounts.{ControlCounts}

-- the struct that the parts make up
abbrev pub struct_of : ControlCounts → List ℕ → List ℕ → List ℕ → List ℕ → Controls
struct_of h starts ends phases positions = record {
  settings = h.settings;
  starts = starts;
  ends = ends;
  ranges = h.ranges;
  phases = phases;
  positions = positions;
  targets = h.targets;
}

-- A change on the way through a call. `added` says whether ranges were added before it since the call was entered, and `added'` whether
-- they were after it: the first addition makes the places after the ranges 0, and no later one has to.
pub record Changed (adds added : Bool) (before : Controls) (added' : Bool) (after : Controls) (c : reading.Controls) : Type 0 where
  pub meaning : controls_of after ≡ c
  pub flag : added' ≡ (added || adds)
  pub kept : adds ≡ false → RangesKept before after
  pub cleared : adds ≡ true → (added ≡ true → RestCleared before) → RestCleared after
  pub phases : drop after.targets after.phases ≡ drop after.targets before.phases
  pub positions : drop after.targets after.positions ≡ drop after.targets before.positions

-- a place added as a target, where there is room for it
abbrev pub target_if_room : reading.Controls → Place → reading.Controls
target_if_room c at = with_targets c (cond (leb most_targets (length c.targets)) c.targets (add_target c.targets at))

-- ranges added, all of them or none where there is no room for all: more are refused before the walk
abbrev pub ranges_if_room : reading.Controls → List RuleIdRange → reading.Controls
ranges_if_room c rs = with_ranges c (cond (ltb most_ranges (length c.ranges + length rs)) c.ranges (add_ranges c.ranges rs))

-- a target, whatever the arrays of the ranges are
abbrev pub TargetAdded : ControlCounts → Place → List ℕ → List ℕ → ControlCounts → List ℕ → List ℕ → Type 0
TargetAdded h at phases positions r phases' positions' =
    (starts ends : List ℕ)
    → Changed false h.added (struct_of h starts ends phases positions) r.added (struct_of r starts ends phases' positions')
    (target_if_room (controls_of (struct_of h starts ends phases positions)) at)

-- how many ranges of a trimmed value are added to so many: those that it has, or none
pub record Fitting (value : List ℕ) (used n : ℕ) : Type 0 where
  pub all : (n ≡ 0 → ⊥) → (length (ranges_in (id_parts value)) ≡ n) × (ranges_of (removal_value value) ≡ ranges_in (id_parts value)) × (used + n ≤ 256)
  pub none : n ≡ 0 → (ranges_of (removal_value value) ≡ []) ⊎ (256 < used + length (ranges_of (removal_value value)))

-- the ranges of a value, whatever the arrays of the targets are
abbrev pub RangesAdded : ControlCounts → List ℕ → List ℕ → List ℕ → ControlCounts → List ℕ → List ℕ → Type 0
RangesAdded h value starts ends r starts' ends' =
    (phases positions : List ℕ)
    → Changed true h.added (struct_of h starts ends phases positions) r.added (struct_of r starts' ends' phases positions)
    (ranges_if_room (controls_of (struct_of h starts ends phases positions)) (ranges_of (removal_value (trim value))))
