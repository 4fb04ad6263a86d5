use mathlib.Core.Path.{◌≡◌, refl, sym, ap, ◌∙◌}
use native.Mathlib.Omega.{arith}
use lib.ListN.{length}
use Rattle.reading.specs.Directive.{directive_of, ranges_of, start_of, end_of}
use Rattle.ctl.specs.ReadDirective.{ranges_counted}
use Rattle.ctl.proofs.read.Reading.{TextsPass, counted, refusal-answer, accepted, name-long, value-long, name-high, value-high}
use Rattle.ctl.proofs.read.Reading.{too_short, fits, unwritten, starts-written, ends-written}
use Rattle.ctl.proofs.read.read_directive.Goals.{then-name-gt-TEXT_BYTES-via-then-name-gt-TEXT_BYTES, then-name-gt-TEXT_BYTES-via-else-name-gt-TEXT_BYTES+then-value-gt-TEXT_BYTES}
use Rattle.ctl.proofs.read.read_directive.Goals.{then-has_high_byte-via-then-has_high_byte, then-has_high_byte-via-else-has_high_byte+then-has_high_byte-2}
use Rattle.ctl.proofs.read.read_directive.Goals.{then-starts-n-via-then-starts-n, then-starts-n-via-else-starts-n+then-ends-n}
use Rattle.ctl.proofs.read.read_directive.Goals as goal

pub returns-then-name-gt-TEXT_BYTES : goal.returns-then-name-gt-TEXT_BYTES
returns-then-name-gt-TEXT_BYTES c =
    refusal-answer c.args.name.now c.args.value.now c.args.starts.now c.args.ends.now 2 (elim c.then-name-gt-TEXT_BYTES.branch [
      | then-name-gt-TEXT_BYTES-via-then-name-gt-TEXT_BYTES w ↦ name-long c.args.name.now c.args.value.now _ w.if-name-gt-TEXT_BYTES.true
      | then-name-gt-TEXT_BYTES-via-else-name-gt-TEXT_BYTES+then-value-gt-TEXT_BYTES w ↦
          value-long c.args.name.now c.args.value.now _ w.if-name-gt-TEXT_BYTES.false w.if-value-gt-TEXT_BYTES.true
    ]) refl

pub returns-then-has_high_byte : goal.returns-then-has_high_byte
returns-then-has_high_byte c =
    refusal-answer c.args.name.now c.args.value.now c.args.starts.now c.args.ends.now 6 (elim c.then-has_high_byte.branch [
      | then-has_high_byte-via-then-has_high_byte w ↦
          name-high c.args.name.now c.args.value.now _ c.if-name-gt-TEXT_BYTES.false c.if-value-gt-TEXT_BYTES.false
          (sym c.has_high_byte.ensures ∙ w.if-has_high_byte.true)
      | then-has_high_byte-via-else-has_high_byte+then-has_high_byte-2 w ↦
          value-high c.args.name.now c.args.value.now _ c.if-name-gt-TEXT_BYTES.false c.if-value-gt-TEXT_BYTES.false
          (sym c.has_high_byte.ensures ∙ w.if-has_high_byte.false) (sym w.has_high_byte-else-has_high_byte.ensures ∙ w.if-has_high_byte-2.true)
    ]) refl

pub returns-then-starts-n : goal.returns-then-starts-n
returns-then-starts-n c =
    let e = c.range_count-n.ensures ∙ ap ranges_counted c.parse-directive.ensures
    ∙ counted c.args.value.now (directive_of c.args.name.now c.args.value.now) in
    let pass : TextsPass c.args.name.now c.args.value.now = record {
      name-short = c.if-name-gt-TEXT_BYTES.false;
      value-short = c.if-value-gt-TEXT_BYTES.false;
      name-low = sym c.has_high_byte.ensures ∙ c.if-has_high_byte.false;
      value_low = sym c.has_high_byte-else-has_high_byte.ensures ∙ c.if-has_high_byte-2.false;
    } in
    refusal-answer c.args.name.now c.args.value.now c.args.starts.now c.args.ends.now 7 (elim c.then-starts-n.branch [
      | then-starts-n-via-then-starts-n w ↦ too_short c.args.name.now c.args.value.now _ pass (omega arith)
      | then-starts-n-via-else-starts-n+then-ends-n w ↦ too_short c.args.name.now c.args.value.now _ pass (omega arith)
    ]) refl

pub returns-then-n-gt0 : goal.returns-then-n-gt0
returns-then-n-gt0 c =
    let e = c.range_count-n.ensures ∙ ap ranges_counted c.parse-directive.ensures
    ∙ counted c.args.value.now (directive_of c.args.name.now c.args.value.now) in
    let pass : TextsPass c.args.name.now c.args.value.now = record {
      name-short = c.if-name-gt-TEXT_BYTES.false;
      value-short = c.if-value-gt-TEXT_BYTES.false;
      name-low = sym c.has_high_byte.ensures ∙ c.if-has_high_byte.false;
      value_low = sym c.has_high_byte-else-has_high_byte.ensures ∙ c.if-has_high_byte-2.false;
    } in
    let some : length (ranges_of (directive_of c.args.name.now c.args.value.now)) ≡ 0 → ⊥ = λ z. omega arith in
    accepted c.args.name.now c.args.value.now c.args.starts.now c.args.ends.now _ _ _
    (fits c.args.name.now c.args.value.now _ pass (omega arith)) c.parse-directive.ensures
    (starts-written c.args.name.now c.args.value.now c.args.starts.now c.args.ends.now _ _ _ c.trim.ensures some (omega arith) c.write_ranges.ensures)
    (ends-written c.args.name.now c.args.value.now c.args.starts.now c.args.ends.now _ _ _ c.trim.ensures some (omega arith) c.write_ranges.ensures)

pub returns-else-n-gt0 : goal.returns-else-n-gt0
returns-else-n-gt0 c =
    let e = c.range_count-n.ensures ∙ ap ranges_counted c.parse-directive.ensures
    ∙ counted c.args.value.now (directive_of c.args.name.now c.args.value.now) in
    let none : length (ranges_of (directive_of c.args.name.now c.args.value.now)) ≡ 0 = omega arith in
    let pass : TextsPass c.args.name.now c.args.value.now = record {
      name-short = c.if-name-gt-TEXT_BYTES.false;
      value-short = c.if-value-gt-TEXT_BYTES.false;
      name-low = sym c.has_high_byte.ensures ∙ c.if-has_high_byte.false;
      value_low = sym c.has_high_byte-else-has_high_byte.ensures ∙ c.if-has_high_byte-2.false;
    } in
    accepted c.args.name.now c.args.value.now c.args.starts.now c.args.ends.now _ _ _
    (fits c.args.name.now c.args.value.now _ pass (omega arith)) c.parse-directive.ensures
    (unwritten c.args.name.now c.args.value.now start_of c.args.starts.now none)
    (unwritten c.args.name.now c.args.value.now end_of c.args.ends.now none)
