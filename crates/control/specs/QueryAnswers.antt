-- What a question answers.
use Rattle.std.specs.Prelude.{Result, Ok, Err}
use Rattle.reading.specs.declared.Refusal.{Refusal}
use Rattle.reading.specs.Numbers.{refusal_number}
use Rattle.reading.specs.Controls.{Asked}

-- 0 and the value, or the refusal's number and what stands in for a value
abbrev pub asked_by : {A : Type 0} → A → Result A Refusal → Asked A
asked_by other (Ok value) = record { answer = 0; value = value }
asked_by other (Err refusal) = record { answer = refusal_number refusal; value = other }
