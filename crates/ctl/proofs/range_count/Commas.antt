-- A run of commas at the start of a part is passed at once. Assumes nothing.
use Prim.Native.Nat.{ℕ, suc, ◌+◌, ◌≤◌}
use mathlib.Core.Path.{◌≡◌, refl, ap, ◌∙◌}
use mathlib.Core.Bool.{Bool, true, false, cond, not}
use mathlib.Core.List.{List, [], ◌∷◌}
use native.Mathlib.Omega.{arith}
use lib.Dec.{eqb}
use lib.ListN.{length, drop, length-drop}
use lib.Seq.{drop-drop}
use Rattle.std.specs.List.{position_or_len}
use Rattle.ctl.specs.Scan.{part_start, leading_commas}
use Rattle.ctl.proofs.range_count.Passing.{scan}

pub leading_is : (s : List ℕ) → leading_commas s ≡ position_or_len (λ b. not (eqb b 44)) s
unfolding leading_commas
leading_is [] = refl
leading_is (b ∷ s) = grind (arith, leading_is s)

commas-inside : (s : List ℕ) → leading_commas s ≤ length s
unfolding leading_commas
commas-inside [] = omega arith
commas-inside (b ∷ s) = go (eqb b 44) (commas-inside s)
  where
    go : (t : Bool) → leading_commas s ≤ length s → cond t (suc (leading_commas s)) 0 ≤ suc (length s)
    go true h = omega arith
    go false h = omega arith

-- empty parts count nothing
commas-count : (s : List ℕ) (n : ℕ) → scan s part_start n ≡ scan (drop (leading_commas s) s) part_start n
unfolding scan leading_commas
commas-count [] n = refl
commas-count (b ∷ s) n = go (eqb b 44) refl (commas-count s n)
  where
    go : (t : Bool) → eqb b 44 ≡ t → scan s part_start n ≡ scan (drop (leading_commas s) s) part_start n
        → scan (b ∷ s) part_start n ≡ scan (drop (cond t (suc (leading_commas s)) 0) (b ∷ s)) part_start n
    go true e ih =
        let z : n + 0 ≡ n = omega arith in
        rw e (ap (scan s part_start) z ∙ ih)
    go false e ih = refl

-- THE PASS MAY GO ON BEHIND THE COMMAS
module _ (s : List ℕ) (i : ℕ) where
  pub passed-inside : i ≤ length s → i + leading_commas (drop i s) ≤ length s
  passed-inside h = omega (arith, commas-inside (drop i s), length-drop i s)

  pub passed-counts : (n : ℕ) → scan (drop i s) part_start n ≡ scan (drop (i + leading_commas (drop i s)) s) part_start n
  passed-counts n =
      commas-count (drop i s) n ∙ ap (λ (l : List ℕ). scan l part_start n) (drop-drop (leading_commas (drop i s)) i s)
