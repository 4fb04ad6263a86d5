-- Whether an id is removed, found by halving. Of ranges in the merged form it is `is_removed` (`halving-finds` in proofs/ranges/HalvingLaws);
-- of others it is what the search comes to.
use Rattle.std.specs.Prelude.{ℕ, zero, suc, ◌+◌, ◌/◌, Bool, false, cond, ◌&&◌, List, get_or, ltb, leb, Option, Some, None}

-- the index half way
abbrev pub middle_of : ℕ → ℕ → ℕ
middle_of low high = (low + high) / 2

-- the first index from `low` on, else `high`, whose end is not below the id, by at most so many comparisons: nine are enough for 256 ends
unfoldable pub halved : ℕ → List ℕ → ℕ → ℕ → ℕ → ℕ
halved zero ends id low high = low
halved (suc k) ends id low high =
    let middle = middle_of low high in
    let above = ltb (get_or ends middle 0) id in
    cond (ltb low high) (halved k ends id (cond above (middle + 1) low) (cond above high middle)) low

-- whether that range holds the id; one below the first start is in none, and is not looked for. A rule without an id is never removed
unfoldable pub found_by_halving : ℕ → List ℕ → List ℕ → Option ℕ → Bool
found_by_halving count starts ends None = false
found_by_halving count starts ends (Some id) =
    let at = halved 9 ends id 0 count in
    leb (get_or starts 0 0) id && (ltb at count && leb (get_or starts at 0) id)
