-- Whether ranges have the merged form, read along two lists. Assumes nothing.
use Prim.Native.Nat.{ℕ, zero, suc, ◌+◌, ◌-◌, ◌≤◌, ◌<◌}
use mathlib.Core.Path.{◌≡◌, refl, ap, ◌∙◌}
use mathlib.Core.Bool.{Bool, ◌&&◌}
use mathlib.Core.List.{List, ◌∷◌}
use native.Mathlib.Omega.{arith}
use native.Mathlib.Numerals.{add-one}
use lib.Dec.{leb}
use lib.ListN.{get_or}
use borrow.Author.Tests.{le-leb, lt-leb}
use Rattle.std.specs.List.{list_all, range_with_len}
use Rattle.reading.specs.Ranges.{merged_from, is_merged}
use Rattle.reading.specs.Controls.{range_list}
use Rattle.control.proofs.ranges.RowLaws.{row, rows_from, rows_all}

module _ (starts ends : List ℕ) where
  -- whether the range at an index follows the one before it
  abbrev pub follows_at : ℕ → Bool
  follows_at k = leb (get_or ends (k - 1) 0 + 2) (get_or starts k 0) && leb (get_or starts k 0) (get_or ends k 0)

  follow : (m i : ℕ) → list_all follows_at (range_with_len (suc i) m) ≡ merged_from (get_or ends i 0 + 2) (rows_from starts ends (suc i) m)
  follow zero i = refl
  follow (suc m) i =
      let z : suc i - 1 ≡ i = omega arith in
      rw (z, add-one (suc i), follow m (suc i))

  -- the form: the first range, and those that follow
  module _ (n : ℕ) (some : n ≡ 0 → ⊥) where
    first-row : is_merged (range_list n starts ends)
        ≡ (leb (get_or starts 0 0) (get_or ends 0 0) && merged_from (get_or ends 0 0 + 2) (rows_from starts ends 1 (n - 1)))
    first-row =
        let z : n ≡ suc (n - 1) = omega arith in
        let a : rows_from starts ends 0 n ≡ row starts ends 0 ∷ rows_from starts ends 1 (n - 1) = ap (rows_from starts ends 0) z in
        ap is_merged (rows_all starts ends n ∙ a) ∙ rw (le-leb 0 (get_or starts 0 0) (omega arith))

    pub first-bad : get_or ends 0 0 < get_or starts 0 0 → leb (get_or starts 0 0) (get_or ends 0 0) ≡ is_merged (range_list n starts ends)
    first-bad l = rw (first-row, lt-leb (get_or starts 0 0) (get_or ends 0 0) l)

    pub first_good : get_or starts 0 0 ≤ get_or ends 0 0 → list_all follows_at (range_with_len 1 (n - 1)) ≡ is_merged (range_list n starts ends)
    first_good l = rw (first-row, le-leb (get_or starts 0 0) (get_or ends 0 0) l, follow (n - 1) 0)
