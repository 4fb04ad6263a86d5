-- The codes of a rule, one after the other, and whether one of them is a change. Assumes nothing.
use Prim.Native.Nat.{ℕ, zero, suc, ◌+◌, ◌-◌, ◌≤◌, ◌<◌, min}
use mathlib.Core.Path.{◌≡◌, refl, ap, ◌∙◌}
use mathlib.Core.Bool.{Bool}
use mathlib.Core.List.{List, ◌∷◌}
use native.Mathlib.Omega.{arith}
use native.Mathlib.Numerals.{add-one}
use lib.Dec.{ltb}
use lib.ListN.{length, take, drop, get_or, length-drop}
use lib.Seq.{drop-cons}
use Rattle.std.proofs.lemmas.List.{take_min}
use Rattle.std.specs.List.{list_any, range_with_len}
use Rattle.reading.specs.declared.Rule.{Rule}
use Rattle.reading.specs.Lists.{any}
use Rattle.apply.specs.UnitChanges.{rule_changes}

-- the codes from i on, before end
abbrev pub slice : ℕ → ℕ → List ℕ → List ℕ
slice i end codes = take (end - i) (drop i codes)

-- a rule's codes are those up to the index after its last
pub codes-are : (codes : List ℕ) (r : Rule) (end : ℕ) → end ≡ r.first + min r.count (length codes - r.first)
    → slice r.first end codes ≡ take r.count (drop r.first codes)
codes-are codes r end e =
    let l = drop r.first codes in
    let z : end - r.first ≡ min r.count (length l) = omega (arith, length-drop r.first codes) in
    ap (λ (n : ℕ). take n l) z ∙ take_min r.count l

-- the code at i, and those after it
pub codes-from : (codes : List ℕ) (i end : ℕ) → i < end → end ≤ length codes → slice i end codes ≡ get_or codes i 0 ∷ slice (i + 1) end
    codes
codes-from codes i end h k =
    let z : end - i ≡ suc (end - suc i) = omega arith in
    rw (add-one i, z, drop-cons codes i 0 (omega arith))

-- WHETHER A RULE CHANGES THE CONTROLS

abbrev pub is_change : ℕ → Bool
is_change code = ltb 7 code

-- before the rule's first code
pub changes-none : (codes : List ℕ) (r : Rule) (end : ℕ) → end ≡ r.first + min r.count (length codes - r.first)
    → any is_change (slice r.first end codes) ≡ rule_changes codes r
unfolding rule_changes
changes-none codes r end e = ap (any is_change) (codes-are codes r end e)

-- whether one of so many codes from an index on is a change
codes-any : (codes : List ℕ) (m i : ℕ) → ((m ≡ 0 → ⊥) → i + m ≤ length codes)
    → list_any (λ k. is_change (get_or codes k 0)) (range_with_len i m) ≡ any is_change (take m (drop i codes))
codes-any codes zero i h = refl
codes-any codes (suc m) i h =
    let k : i + suc m ≤ length codes = h (λ z. omega arith) in
    let more = codes-any codes m (suc i) (λ n. omega arith) in
    rw (drop-cons codes i 0 (omega arith), add-one i, more)

pub changes-any : (codes : List ℕ) (r : Rule) (end : ℕ) → end ≡ r.first + min r.count (length codes - r.first)
    → list_any (λ k. is_change (get_or codes k 0)) (range_with_len r.first (end - r.first)) ≡ rule_changes codes r
changes-any codes r end e = codes-any codes (end - r.first) r.first (λ n. omega arith) ∙ changes-none codes r end e
