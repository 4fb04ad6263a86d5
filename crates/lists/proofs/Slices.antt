-- The lists after lent parts of a slice. Assumes nothing.
use Prim.Native.Nat.{ℕ, ◌-◌, ◌≤◌}
use mathlib.Core.Path.{◌≡◌, sym, ◌∙◌}
use mathlib.Core.List.{List, []}
use native.Mathlib.Omega.{arith}
use lib.ListN.{length, take, drop, length-drop, drop_of_length-le}
use lib.Seq.{take_all, length-take-le}

module _ {A : Type 0} where
  -- `&s[a..]`
  pub rest_eq : (s : List A) (a : ℕ) → take (length s - a) (drop a s) ≡ drop a s
  rest_eq s a = take_all (length s - a) (drop a s) (simp length-drop (omega arith))

  -- `&s[n..]` after the end
  pub rest-none : (s : List A) (a : ℕ) → length s ≤ a → take (length s - a) (drop a s) ≡ []
  rest-none s a h = rest_eq s a ∙ drop_of_length-le s h

  -- `&s[..n]` asks for its length
  pub front_length : (s : List A) (n : ℕ) → n ≤ length s → n ≡ length (take n s)
  front_length s n h = sym (length-take-le n s h)
