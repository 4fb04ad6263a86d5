-- What merging ranges in two lists leaves.
use Rattle.std.specs.Prelude.{ℕ, ◌-◌, ◌≤◌, ◌<◌, ◌≡◌, Bool, cond, List, ◌++◌, length, take, drop, replicate}
use Rattle.reading.specs.declared.RuleIdRange.{RuleIdRange}
use Rattle.reading.specs.Ranges.{add_range, add_ranges}
use Rattle.reading.specs.Controls.{range_list}

-- there is a place for one more
pub record Room (count : ℕ) (starts ends : List ℕ) : Type 0 where
  pub in-starts : count < length starts
  pub in-ends : count < length ends

-- one range merged into the first `count`: the lists keep their lengths, and every place after those in use is as found
pub record MergedOne (count : ℕ) (r : RuleIdRange) (starts ends : List ℕ) (count' : ℕ) (starts' ends' : List ℕ) : Type 0 where
  pub list : range_list count' starts' ends' ≡ add_range (range_list count starts ends) r
  pub starts-length : length starts' ≡ length starts
  pub ends-length : length ends' ≡ length ends
  pub starts-rest : drop count' starts' ≡ drop count' starts
  pub ends-rest : drop count' ends' ≡ drop count' ends

-- no more are held than there are in all, and both lists have a place for each
pub record Within (held all : ℕ) (starts ends : List ℕ) : Type 0 where
  pub in_order : held ≤ all
  pub in-starts : all ≤ length starts
  pub in-ends : all ≤ length ends

-- of the first `all` entries those held come first, and the others are merged in; the places that they leave are 0, and those from `all`
-- on as found
pub record Merged (held all : ℕ) (starts ends : List ℕ) (count : ℕ) (starts' ends' : List ℕ) : Type 0 where
  pub list : range_list count starts' ends' ≡ add_ranges (range_list held starts ends) (drop held (range_list all starts ends))
  pub starts-length : length starts' ≡ length starts
  pub ends-length : length ends' ≡ length ends
  pub starts-rest : drop count starts' ≡ replicate (all - count) 0 ++ drop all starts
  pub ends-rest : drop count ends' ≡ replicate (all - count) 0 ++ drop all ends
  pub fits : count ≤ all

-- the lists and the count as they were
pub record Unchanged (count : ℕ) (starts ends : List ℕ) (count' : ℕ) (starts' ends' : List ℕ) : Type 0 where
  pub count_same : count' ≡ count
  pub starts-same : starts' ≡ starts
  pub ends_same : ends' ≡ ends

pub record MergedAfter (held all : ℕ) (starts ends : List ℕ) (count : ℕ) (starts' ends' : List ℕ) : Type 0 where
  pub merged : Within held all starts ends → Merged held all starts ends count starts' ends'
  pub too_short : (Within held all starts ends → ⊥) → Unchanged held starts ends count starts' ends'

-- every place from an index on made 0, unless that was done before
abbrev pub cleared_from : Bool → ℕ → List ℕ → List ℕ
cleared_from done n l = cond done l (take n l ++ replicate (length l - n) 0)
