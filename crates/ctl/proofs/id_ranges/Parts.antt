-- What one part between commas says. Assumes nothing.
use Rattle.std.specs.Prelude.{Option, Some, None}
use Prim.Native.Nat.{ℕ, suc, ◌≤◌, ◌<◌}
use mathlib.Core.Path.{◌≡◌, sym, ap, ◌∙◌}
use mathlib.Core.List.{List}
use borrow.Author.Tests.{lt-leb, le-leb, lt-ltb, le-ltb, eq-eqb, ne_eqb}
use lib.ListN.{length, take, drop}
use Rattle.reading.specs.declared.IdPart.{IdPart}
use Rattle.reading.specs.Text.{trim, number_of, index_of, one_id, ids_to, ids_from, trimmed_part, id_part}

-- what a part p says, by its trimmed text t
module _ (p t : List ℕ) (e : t ≡ trim p) where
  pub part-blank : length t ≡ 0 → id_part p ≡ IdPart.Blank
  unfolding id_part
  part-blank h = ap trimmed_part (sym e) ∙ simp (eq-eqb (length t) 0 h)

  module _ (n : length t ≡ 0 → ⊥) (k : ℕ) (q : k ≡ index_of 45 t) where
    pub part-around : k < length t → id_part p ≡ ids_from (number_of (trim (take k t))) (number_of (trim (drop (suc k) t)))
    unfolding id_part
    part-around h = ap trimmed_part (sym e) ∙ simp (ne_eqb (length t) 0 n, sym q, lt-ltb k (length t) h)

    pub part-single : length t ≤ k → id_part p ≡ one_id (number_of t)
    unfolding id_part
    part-single h = ap trimmed_part (sym e) ∙ simp (ne_eqb (length t) 0 n, sym q, le-ltb k (length t) h)

-- what two numbers around a "-" say
module _ (x y : Option ℕ) where
  pub around-first-bad : x ≡ None → ids_from x y ≡ IdPart.Bad
  unfolding ids_from
  around-first-bad e = rw e

  module _ (a : ℕ) (e : x ≡ Some a) where
    pub around-second-bad : y ≡ None → ids_from x y ≡ IdPart.Bad
    unfolding ids_from ids_to
    around-second-bad f = rw (e, f)

    module _ (b : ℕ) (f : y ≡ Some b) where
      pub around-above : b < a → ids_from x y ≡ IdPart.Bad
      unfolding ids_from ids_to
      around-above h = rw (e, f, lt-leb a b h)

      pub around-range : a ≤ b → ids_from x y ≡ IdPart.Range (record { start = a; end = b })
      unfolding ids_from ids_to
      around-range h = rw (e, f, le-leb a b h)
