-- The positions of control actions, written from the start of a list as far as they fit.
use Prim.Native.Nat.{ℕ, suc, ◌≤◌, ◌<◌}
use mathlib.Core.Path.{◌≡◌, refl, sym, ap, ◌∙◌}
use mathlib.Core.Bool.{Bool, true, false}
use mathlib.Core.List.{List, [], ◌∷◌, ◌++◌, append_assoc}
use native.Mathlib.Omega.{arith}
use borrow.Author.Tests.{ltb-true, ltb-false}
use lib.Dec.{ltb}
use lib.ListN.{length, take, drop, get_or, set, length-append, length-take, length-drop}
use lib.Seq.{take-nil, take_all, take-append-le, drop-cons, set_at, set_out}
use Rattle.reading.specs.Lists.{over}

-- the list `found` with the values `new` written from its start, as many as fit
abbrev pub fitting : List ℕ → List ℕ → List ℕ
fitting found new = over found (take (length found) new)

pub length-fitting : (found new : List ℕ) → length (fitting found new) ≡ length found
length-fitting found new =
    simp (length-append, length-drop) (omega (arith, length-take (length found) new))

-- one value more: written after the others, or left out where they fill the list
pub fitting-more : (found new : List ℕ) (v : ℕ) → set (fitting found new) (length new) v ≡ fitting found (new ++ v ∷ [])
fitting-more found new v = go (ltb (length new) (length found)) refl
  where
    longer : length (new ++ v ∷ []) ≡ suc (length new)
    longer = length-append new (v ∷ []) ∙ omega arith

    inside : length new < length found → set (fitting found new) (length new) v ≡ fitting found (new ++ v ∷ [])
    inside h =
        let a : take (length found) new ≡ new = take_all (length found) new (omega arith) in
        let b : take (length found) (new ++ v ∷ []) ≡ new ++ v ∷ [] = take_all (length found) (new ++ v ∷ []) (omega (arith, longer)) in
        rw (a, b, longer, drop-cons found (length new) 0 h, append_assoc)
        (set_at new (get_or found (length new) 0) (drop (suc (length new)) found) v (length new) refl)

    outside : length found ≤ length new → set (fitting found new) (length new) v ≡ fitting found (new ++ v ∷ [])
    outside h =
        set_out (fitting found new) (length new) v (omega (arith, length-fitting found new))
        ∙ ap (over found) (sym (take-append-le (length found) new (v ∷ []) h))

    go : (t : Bool) → ltb (length new) (length found) ≡ t → set (fitting found new) (length new) v ≡ fitting found (new ++ v ∷ [])
    go true e = inside (ltb-true (length new) (length found) e)
    go false e = outside (ltb-false (length new) (length found) e)

pub fitting-none : (found : List ℕ) → fitting found [] ≡ found
fitting-none found = rw take-nil refl
