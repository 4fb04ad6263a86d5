-- What refusals 8 and 9 count by the codes of apply::codes, and the sums that they read.
use Rattle.std.specs.Prelude.{ℕ, ◌+◌, ◌-◌, ◌≤◌, ◌<◌, min, ◌≡◌, Bool, true, false, cond, List, [], ◌∷◌, eqb, ltb, length, take, drop, get_or}
use Rattle.reading.specs.declared.Rule.{Rule}
use Rattle.reading.specs.Lists.{total}
use Rattle.reading.specs.Limits.{most_ranges, most_targets}

-- how many ranges, and how many targets, the action of a code adds
abbrev pub ranges_of_code : ℕ → ℕ
ranges_of_code code = code - 18

abbrev pub targets_of_code : ℕ → ℕ
targets_of_code code = cond (eqb code 17) 1 0

-- what a rule's actions add together, counted by their codes
abbrev pub rule_weight : (ℕ → ℕ) → List ℕ → Rule → ℕ
rule_weight weight codes r = total weight (take r.count (drop r.first codes))

-- whether so many held and what all rules add exceed a limit
abbrev pub adds_beyond : (ℕ → ℕ) → ℕ → ℕ → List Rule → List ℕ → Bool
adds_beyond weight limit held rules codes = ltb limit (held + total (rule_weight weight codes) rules)

-- the first of refusals 8 and 9 that applies, to so many held ranges and targets, or 0. By the codes of a call's actions it is the
-- definitions' own (`limit_is` in proofs/Refused.antt)
abbrev pub limit_refusal : List Rule → List ℕ → ℕ → ℕ → ℕ
limit_refusal rules codes ranges targets =
    cond (adds_beyond ranges_of_code most_ranges ranges rules codes) 8
    (cond (adds_beyond targets_of_code most_targets targets rules codes) 9 0)

-- each sum is the weight of as many codes as stand before it; there is one more than there are codes
pub record Summed (weight : ℕ → ℕ) (codes sums : List ℕ) : Type 0 where
  pub room : length codes < length sums
  pub at_each : (k : ℕ) → k ≤ length codes → get_or sums k 0 ≡ total weight (take k codes)

-- where a rule's part of n actions begins, and where it ends; both are clipped
abbrev pub begin_of : ℕ → Rule → ℕ
begin_of n r = min r.first n

abbrev pub end_of : ℕ → Rule → ℕ
end_of n r = begin_of n r + min r.count (n - begin_of n r)

-- no rule's part of n actions begins before the end of the one before it
abbrev pub following : ℕ → ℕ → List Rule → Bool
following n end [] = true
following n end (r ∷ rs) = cond (ltb (begin_of n r) end) false (following n (end_of n r) rs)
