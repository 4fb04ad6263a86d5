-- The pass of `count_ranges`: what each byte makes of what is seen of a part. That the pass counts what `removal_value` says
-- is proved in proofs/Passing.antt and Commas.antt: nobody needs to believe this page.
use Rattle.std.specs.Prelude.{ℕ, suc, ◌+◌, ◌-◌, ◌*◌, Bool, true, false, cond, List, [], ◌∷◌, leb, eqb, Option, Some, None}
use Rattle.reading.specs.Text.{is_blank, largest}
use Rattle.ctl.specs.declared.range_count.Stage.{Stage}
use Rattle.ctl.specs.declared.range_count.PartState.{PartState}

abbrev pub is_after_digits : Stage → Bool
is_after_digits Stage.Start = false
is_after_digits Stage.Plus = false
is_after_digits Stage.Digits = false
is_after_digits Stage.AfterDigits = true

abbrev pub has_digits : Stage → Bool
has_digits Stage.Start = false
has_digits Stage.Plus = false
has_digits Stage.Digits = true
has_digits Stage.AfterDigits = true

abbrev pub part_start : PartState
part_start = record { second = false; first = 0; stage = Stage.Start; value = 0 }

-- the same part, the number at hand at another stage
abbrev pub with_stage : PartState → Stage → ℕ → PartState
with_stage s stage v = record { second = s.second; first = s.first; stage = stage; value = v }

abbrev pub digit_step : PartState → ℕ → Option PartState
digit_step s b =
    cond (is_after_digits s.stage) None
    (cond (leb (s.value * 10 + (b - 48)) largest) (Some (with_stage s Stage.Digits (s.value * 10 + (b - 48)))) None)

abbrev pub blank_at : Stage → PartState → Option PartState
blank_at Stage.Start s = Some (with_stage s Stage.Start s.value)
blank_at Stage.Plus s = None
blank_at Stage.Digits s = Some (with_stage s Stage.AfterDigits s.value)
blank_at Stage.AfterDigits s = Some (with_stage s Stage.AfterDigits s.value)

abbrev pub blank_step : PartState → Option PartState
blank_step s = blank_at s.stage s

abbrev pub plus_at : Stage → PartState → Option PartState
plus_at Stage.Start s = Some (with_stage s Stage.Plus s.value)
plus_at Stage.Plus s = None
plus_at Stage.Digits s = None
plus_at Stage.AfterDigits s = None

abbrev pub plus_step : PartState → Option PartState
plus_step s = plus_at s.stage s

-- the number at hand becomes the first of two
abbrev pub dash_step : PartState → Option PartState
dash_step s =
    cond s.second None
    (cond (has_digits s.stage) (Some (record { second = true; first = s.value; stage = Stage.Start; value = 0 })) None)

-- a byte that is neither a digit nor a comma; "-" is 2D, "+" is 2B
abbrev pub other_step : PartState → ℕ → Option PartState
other_step s b = cond (is_blank b) (blank_step s) (cond (eqb b 45) (dash_step s) (cond (eqb b 43) (plus_step s) None))

-- a part that ends after its "-", and one that has none
abbrev pub pair_end : ℕ → ℕ → Option ℕ
pair_end first second = cond (leb first second) (Some 1) None

abbrev pub single_end : Stage → Option ℕ
single_end Stage.Start = Some 0
single_end Stage.Plus = None
single_end Stage.Digits = Some 1
single_end Stage.AfterDigits = Some 1

abbrev pub part_end : PartState → Option ℕ
part_end s =
    cond s.second (cond (has_digits s.stage) (pair_end s.first s.value) None) (single_end s.stage)

-- how many commas a list begins with; "," is 2C
unfoldable pub leading_commas : List ℕ → ℕ
leading_commas [] = 0
leading_commas (b ∷ s) = cond (eqb b 44) (suc (leading_commas s)) 0
