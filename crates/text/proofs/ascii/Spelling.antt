-- Laws of `same` and `fold`. Assumes nothing.
use Prim.Native.Nat.{ℕ, suc}
use mathlib.Core.Path.{◌≡◌, refl, sym, ap, ◌∙◌}
use mathlib.Core.Bool.{false, and-false, ◌&&◌}
use mathlib.Core.List.{List, [], ◌∷◌}
use native.Mathlib.Omega.{arith}
use lib.Dec.{eqb}
use lib.ListN.{length}
use Rattle.std.specs.List.{list_all, zip}
use Rattle.reading.specs.Text.{same, fold_byte, fold}

fold-length : (s : List ℕ) → length (fold s) ≡ length s
unfolding fold
fold-length [] = refl
fold-length (x ∷ xs) = ap suc (fold-length xs)

pub same-lengths : (a b : List ℕ) → (length a ≡ length b → ⊥) → same a b ≡ false
unfolding same
same-lengths [] [] n = absurd (n refl)
same-lengths [] (y ∷ ys) n = refl
same-lengths (x ∷ xs) [] n = refl
same-lengths (x ∷ xs) (y ∷ ys) n = rw (same-lengths xs ys (λ e. n (ap suc e))) (and-false (eqb x y))

pub other_length : (s w : List ℕ) → (length s ≡ length w → ⊥) → same (fold s) w ≡ false
other_length s w n = same-lengths (fold s) w (λ e. n (sym (fold-length s) ∙ e))

-- of two texts of one length, place by place
pub same_places : (s w : List ℕ) → length s ≡ length w → same (fold s) w ≡ list_all (λ p. eqb (fold_byte p.0) p.1) (zip s w)
unfolding same fold
same_places [] [] e = refl
same_places [] (y ∷ ys) e = absurd (omega arith)
same_places (x ∷ xs) [] e = absurd (omega arith)
same_places (x ∷ xs) (y ∷ ys) e = ap (λ b. eqb (fold_byte x) y && b) (same_places xs ys (omega arith))
