-- `trim_start` and `trim_end` by places. Assumes nothing.
use Prim.Native.Nat.{ℕ, ◌-◌, ◌+◌}
use mathlib.Core.Path.{◌≡◌, refl, ap, ◌∙◌, sym}
use mathlib.Core.Bool.{Bool, true, false, cond, not}
use mathlib.Core.List.{List, [], ◌∷◌, ◌++◌, reverse}
use native.Mathlib.Omega.{arith}
use lib.ListN.{length, take, drop}
use lib.Seq.{take_all}
use Rattle.std.proofs.lemmas.Grind.{common_steps}
use Rattle.std.proofs.lemmas.List.{reverse-reverse}
use Rattle.std.specs.List.{position_or_len}
use Rattle.reading.specs.Text.{is_blank, trim_start, before, trim_end}

abbrev pub other : ℕ → Bool
other b = not (is_blank b)

start_step : (t : Bool) (b n : ℕ) (bs r : List ℕ) → r ≡ drop n bs → cond t r (b ∷ bs) ≡ drop (cond (not (not t)) (1 + n) 0) (b ∷ bs)
start_step true b n bs r e = grind (arith, common_steps)
start_step false b n bs r e = refl

pub start_at : (s : List ℕ) → trim_start s ≡ drop (position_or_len other s) s
unfolding trim_start
start_at [] = refl
start_at (b ∷ bs) = start_step (is_blank b) b _ bs (trim_start bs) (start_at bs)

end-blank : (xs : List ℕ) (b : ℕ) → is_blank b ≡ true → trim_end (xs ++ b ∷ []) ≡ trim_end xs
unfolding trim_end before
end-blank [] b e = rw e
end-blank (x ∷ xs) b e = ap (before x) (end-blank xs b e)

end-other : (xs : List ℕ) (b : ℕ) → is_blank b ≡ false → trim_end (xs ++ b ∷ []) ≡ xs ++ b ∷ []
unfolding trim_end before
end-other [] b e = rw e
end-other (x ∷ []) b e = rw e
end-other (x ∷ (y ∷ ys)) b e = ap (before x) (end-other (y ∷ ys) b e)

reverse_cons : (x : ℕ) (xs : List ℕ) → reverse (x ∷ xs) ≡ reverse xs ++ x ∷ []
reverse_cons x xs = grind (arith, common_steps)

take_fewer : (l : List ℕ) (x n : ℕ) → take (length (l ++ x ∷ []) - (1 + n)) (l ++ x ∷ []) ≡ take (length l - n) l
take_fewer l x n = grind (arith, common_steps)

end_step : (t : Bool) (b : ℕ) (r : List ℕ) → is_blank b ≡ t → trim_end (reverse r) ≡ take (length (reverse r) - position_or_len other r) (reverse r)
    → trim_end (reverse r ++ b ∷ [])
    ≡ take (length (reverse r ++ b ∷ []) - cond (not (not t)) (1 + position_or_len other r) 0) (reverse r ++ b ∷ [])
end_step true b r e h = end-blank (reverse r) b e ∙ h ∙ sym (take_fewer (reverse r) b (position_or_len other r))
end_step false b r e h = end-other (reverse r) b e ∙ sym (take_all _ (reverse r ++ b ∷ []) (omega arith))

end_back : (r : List ℕ) → trim_end (reverse r) ≡ take (length (reverse r) - position_or_len other r) (reverse r)
unfolding trim_end
end_back [] = refl
end_back (b ∷ r) = rw (reverse_cons b r) (end_step (is_blank b) b r refl (end_back r))

-- without as many bytes at the end as stand behind the last that is no blank
pub end_at : (s : List ℕ) → trim_end s ≡ take (length s - position_or_len other (reverse s)) s
end_at s = rw (reverse-reverse s) at (end_back (reverse s))
