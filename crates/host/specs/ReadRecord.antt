-- What the exported directive reader hands over of an outcome.
use Rattle.std.specs.Prelude.{ℕ, ◌≡◌, List}
use Rattle.reading.specs.Directive.{ReaderOutcome}
use Rattle.reading.specs.Numbers.{read_number, read_value}
use Rattle.host.specs.declared.export_directive.ReadRecord.{ReadRecord}

-- the answer, the directive as its two numbers, both 0 where there is none, and both lists as the outcome has them
pub record Recorded (o : ReaderOutcome) (r : ReadRecord) (starts_after ends_after : List ℕ) : Type 0 where
  pub answer : r.answer ≡ o.answer
  pub form : r.form ≡ read_number o.directive
  pub value : r.value ≡ read_value o.directive
  pub starts : starts_after ≡ o.starts
  pub ends : ends_after ≡ o.ends
