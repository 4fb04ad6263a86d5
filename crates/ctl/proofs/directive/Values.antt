-- A directive by its trimmed texts. Assumes nothing.
use Prim.Native.Nat.{ℕ}
use mathlib.Core.Path.{◌≡◌, sym, ap, ◌∙◌}
use mathlib.Core.List.{List}
use Rattle.reading.specs.Text.{trim, fold}
use Rattle.reading.specs.Directive.{directive_named, directive_of}

pub named_by : (name value n v : List ℕ) → n ≡ trim name → v ≡ trim value → directive_of name value ≡ directive_named (fold n) v
unfolding directive_of
named_by name value n v en ev = ap (λ (t : List ℕ). directive_named (fold t) (trim value)) (sym en) ∙ ap (directive_named (fold n)) (sym ev)
