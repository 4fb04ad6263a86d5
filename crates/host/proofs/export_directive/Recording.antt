-- What is handed over records an outcome where it records what was found, and this is that outcome.
use mathlib.Core.Path.{◌≡◌, refl, subst}
use Rattle.reading.specs.Directive.{ReaderOutcome}
use Rattle.reading.specs.Numbers.{read_number, read_value}
use Rattle.host.specs.declared.export_directive.ReadRecord.{ReadRecord}
use Rattle.host.specs.ReadRecord.{Recorded}

pub recorded :
    (found : ReaderOutcome) {o : ReaderOutcome} (r : ReadRecord) →
    found ≡ o →
    r.answer ≡ found.answer →
    r.form ≡ read_number found.directive →
    r.value ≡ read_value found.directive →
    Recorded o r found.starts found.ends
recorded found r e a f v =
    subst (λ (o : ReaderOutcome). Recorded o r found.starts found.ends) e
    (record { answer = a; form = f; value = v; starts = refl; ends = refl })
