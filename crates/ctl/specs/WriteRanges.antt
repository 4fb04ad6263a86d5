-- What the functions of this crate write, in terms of `ranges_in`.
use Rattle.std.specs.Prelude.{ℕ, ◌+◌, min, ◌≡◌, List, map, ltb, length, take}
use Rattle.std.proofs.lemmas.List.Edits.{sets}
use Rattle.reading.specs.declared.RuleIdRange.{RuleIdRange}
use Rattle.reading.specs.declared.IdPart.{IdPart}
use Rattle.reading.specs.Lists.{keep, over}
use Rattle.reading.specs.Text.{id_parts, range_in, ranges_in}
use Rattle.reading.specs.Directive.{start_of, end_of}

-- a part's range, where both lists have the place k
abbrev pub fitting : List ℕ → List ℕ → ℕ → IdPart → List RuleIdRange
fitting starts ends k part = keep (ltb k (min (length starts) (length ends))) (range_in part)

-- one part written, and the next index
pub record Put (part : IdPart) (k : ℕ) (starts ends : List ℕ) (n : ℕ) (starts' ends' : List ℕ) : Type 0 where
  pub next : n ≡ k + length (fitting starts ends k part)
  pub starts-are : starts' ≡ sets starts k (map start_of (fitting starts ends k part))
  pub ends-are : ends' ≡ sets ends k (map end_of (fitting starts ends k part))

-- the ranges of a value, as many as both lists have places for
unfoldable pub all_fitting : List ℕ → List ℕ → List ℕ → List RuleIdRange
all_fitting value starts ends = take (min (length starts) (length ends)) (ranges_in (id_parts value))

-- what stands in the two lists afterwards: those ranges from the start, and the rest as found
pub record Written (value starts ends starts' ends' : List ℕ) : Type 0 where
  pub starts-are : starts' ≡ over starts (map start_of (all_fitting value starts ends))
  pub ends-are : ends' ≡ over ends (map end_of (all_fitting value starts ends))
