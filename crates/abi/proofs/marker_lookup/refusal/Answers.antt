use Prim.Native.Nat.{◌<◌}
use mathlib.Core.Path.{sym, ◌∙◌}
use native.Mathlib.Omega.{arith}
use lib.ListN.{length}
use Rattle.reading.specs.Records.{marker_list}
use Rattle.lists.proofs.RecordLaws.{length-markers}
use Rattle.abi.proofs.marker_lookup.LookupLaws.{many-rules, many-markers, long-text, few}
use Rattle.abi.proofs.marker_lookup.refusal.Goals.{then-rules-gt-MOST_RULES-via-then-rules-gt-MOST_RULES, then-rules-gt-MOST_RULES-via-else-rules-gt-MOST_RULES+then-markers-gt-MARKERS, then-rules-gt-MOST_RULES-via-else-rules-gt-MOST_RULES+else-markers-gt-MARKERS+then-text-gt-TEXT_BYTES}
use Rattle.abi.proofs.marker_lookup.refusal.Goals as goal

pub returns-then-rules-gt-MOST_RULES : goal.returns-then-rules-gt-MOST_RULES
returns-then-rules-gt-MOST_RULES c = sym (elim c.then-rules-gt-MOST_RULES.branch [
  | then-rules-gt-MOST_RULES-via-then-rules-gt-MOST_RULES w ↦ many-rules _ _ _ w.if-rules-gt-MOST_RULES.true
  | then-rules-gt-MOST_RULES-via-else-rules-gt-MOST_RULES+then-markers-gt-MARKERS w ↦
      let h : 256 < length (marker_list c.args.markers.now) = omega (arith, length-markers c.args.markers.now) in many-markers _ _ _ h
  | then-rules-gt-MOST_RULES-via-else-rules-gt-MOST_RULES+else-markers-gt-MARKERS+then-text-gt-TEXT_BYTES w ↦
      long-text _ _ _ w.if-text-gt-TEXT_BYTES.true
])

pub returns-then-any_bad_marker : goal.returns-then-any_bad_marker
returns-then-any_bad_marker c =
    sym (few _ _ _ c.if-rules-gt-MOST_RULES.false (omega (arith, length-markers c.args.markers.now)) c.if-text-gt-TEXT_BYTES.false ∙ rw (← c.any_bad_marker.ensures, c.if-any_bad_marker.true))

pub returns-then-has_high_byte : goal.returns-then-has_high_byte
returns-then-has_high_byte c =
    sym (few _ _ _ c.if-rules-gt-MOST_RULES.false (omega (arith, length-markers c.args.markers.now)) c.if-text-gt-TEXT_BYTES.false ∙ rw (← c.any_bad_marker.ensures, c.if-any_bad_marker.false, ← c.has_high_byte.ensures, c.if-has_high_byte.true))

pub returns : goal.returns
returns c =
    sym (few _ _ _ c.if-rules-gt-MOST_RULES.false (omega (arith, length-markers c.args.markers.now)) c.if-text-gt-TEXT_BYTES.false ∙ rw (← c.any_bad_marker.ensures, c.if-any_bad_marker.false, ← c.has_high_byte.ensures, c.if-has_high_byte.false))
