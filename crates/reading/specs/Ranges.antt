-- Ranges of rule ids as the controls hold them: their merged form, and adding to it. 02, A.6.
use Rattle.std.specs.Prelude.{ℕ, ◌+◌, min, max, Bool, true, cond, ◌&&◌, List, [], ◌∷◌, ◌++◌, ltb, leb}
use Rattle.reading.specs.declared.RuleIdRange.{RuleIdRange}

-- 02: "sorted by start, with overlapping and touching ones merged": no start is below the bound or above its end, and the next start is
-- at least two above that end. "18446744073709551615 has no follower": no start can be two above it, so nothing comes after it.
abbrev pub merged_from : ℕ → List RuleIdRange → Bool
merged_from bound [] = true
merged_from bound (r ∷ rs) = (leb bound r.start && leb r.start r.end) && merged_from (r.end + 2) rs

abbrev pub is_merged : List RuleIdRange → Bool
is_merged rs = merged_from 0 rs

-- whether a range ends before another starts, with an id between them: the two neither overlap nor touch
abbrev pub is_apart : RuleIdRange → RuleIdRange → Bool
is_apart a b = ltb (a.end + 1) b.start

-- two that overlap or touch, as one: "5-7 and 8-9 become 5-9"
abbrev pub joined : RuleIdRange → RuleIdRange → RuleIdRange
joined a b = record { start = min a.start b.start; end = max a.end b.end }

-- a range r that meets the range x of a list: of two that lie apart the first one stays, and the other goes on along the list; two that
-- overlap or touch go on as one
abbrev pub staying : RuleIdRange → RuleIdRange → List RuleIdRange
staying x r = cond (is_apart x r) (x ∷ []) (cond (is_apart r x) (r ∷ []) [])

abbrev pub going_on : RuleIdRange → RuleIdRange → RuleIdRange
going_on x r = cond (is_apart x r) r (cond (is_apart r x) x (joined x r))

-- a range added
unfoldable pub add_range : List RuleIdRange → RuleIdRange → List RuleIdRange
add_range [] r = r ∷ []
add_range (x ∷ xs) r = staying x r ++ add_range xs (going_on x r)

-- the ranges of a directive, in their order
unfoldable pub add_ranges : List RuleIdRange → List RuleIdRange → List RuleIdRange
add_ranges held [] = held
add_ranges held (r ∷ rs) = add_ranges (add_range held r) rs
