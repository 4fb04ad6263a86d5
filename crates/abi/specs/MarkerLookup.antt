-- Where a marker's name leads: the question that a planner or a host asks of a phase's marker records, with how many rules the
-- phase has.
use Rattle.std.specs.Prelude.{ℕ, Bool, cond, ◌||◌, List, length, ltb, eqb, Option, None, Result, Ok, Err}
use Rattle.reading.specs.Limits.{most_rules, most_markers, most_bytes}
use Rattle.reading.specs.declared.Refusal.{Refusal}
use Rattle.reading.specs.declared.Marker.{Marker}
use Rattle.reading.specs.Lists.{any}
use Rattle.reading.specs.Directive.{is_high}
use Rattle.reading.specs.Numbers.{present_number, number_or_zero, refusal_number}
use Rattle.reading.specs.Markers.{marker_position}
use Rattle.reading.specs.Refusals.{bad_marker}
use Rattle.abi.specs.declared.marker_lookup.HostMarker.{HostMarker}

-- 01, 2: "There are more than 512 rules, .. 256 markers or 65,536 text bytes."
abbrev pub too_many : List Marker → ℕ → List ℕ → Bool
too_many markers rules text = ltb most_rules rules || ltb most_markers (length markers) || ltb most_bytes (length text)

-- The phase call's refusals that speak of what this question is lent, in 01's order: 2; 5, "a part outside its list or text, or a
-- marker position above the rule count"; 6, "The text has a byte of 80 (hexadecimal) or more." Any name may be asked for.
unfoldable pub lookup_answer : List Marker → ℕ → List ℕ → ℕ
lookup_answer markers rules text =
    cond (too_many markers rules text) 2
    (cond (any (bad_marker (length text) rules) markers) 5
    (cond (any is_high text) 6 0))

-- an answer with a position or none, as numbers
abbrev pub answered : ℕ → Option ℕ → HostMarker
answered answer found = record { answer = answer; present = present_number found; position = number_or_zero found }

-- the same of a question that was answered or refused
abbrev pub answered_by : Result (Option ℕ) Refusal → HostMarker
answered_by (Ok found) = answered 0 found
answered_by (Err refusal) = answered (refusal_number refusal) None

-- 01: "For a repeated marker name the latest record decides. Names compare byte for byte." A refused question has no position.
unfoldable pub lookup : List Marker → ℕ → List ℕ → List ℕ → HostMarker
lookup markers rules text name =
    let answer = lookup_answer markers rules text in
    answered answer (cond (eqb answer 0) (marker_position text markers name) None)
