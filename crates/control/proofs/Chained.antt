-- One change of the controls after another. Assumes nothing.
use Prim.Native.Nat.{ℕ, ◌+◌, ◌-◌, ◌≤◌}
use mathlib.Core.Path.{◌≡◌, refl, sym, ap, ◌∙◌}
use mathlib.Core.Bool.{Bool, true, false, ◌||◌}
use mathlib.Core.List.{List}
use native.Mathlib.Omega.{arith}
use lib.ListN.{length, drop}
use lib.Seq.{drop-drop}
use Rattle.reading.specs.Controls as reading
use Rattle.control.specs.declared.state.Controls.{Controls}
use Rattle.control.specs.ControlsStruct.{controls_of, RangesKept, RestCleared, Became}
use Rattle.control.proofs.state.HeldLaws.{targets-length, ranges-kept, true-false}

-- no change
pub became-same : (c : Controls) → Became false c c (controls_of c)
became-same c = record { meaning = refl; kept = λ z. ranges-kept c; cleared = λ z. absurd (true-false (sym z)); phases = refl; positions = refl }

-- what two lists have in common from n on they have from a later place on
pub drop-later : (xs ys : List ℕ) (n m : ℕ) → n ≤ m → drop n xs ≡ drop n ys → drop m xs ≡ drop m ys
drop-later xs ys n m h e =
    let z : n + (m - n) ≡ m = omega arith in
    let d : drop (n + (m - n)) xs ≡ drop (n + (m - n)) ys
    = sym (drop-drop (m - n) n xs) ∙ (ap (λ (l : List ℕ). drop (m - n) l) e ∙ drop-drop (m - n) n ys) in
    rw z at d

-- the count is the length of what the struct stands for
pub became-targets : {adds : Bool} {a b : Controls} {x : reading.Controls} → Became adds a b x → b.targets ≡ length x.targets
became-targets {b = b} p = sym (targets-length b) ∙ ap (λ (x : reading.Controls). length x.targets) p.meaning

-- places that are 0 stay so where the ranges are kept
pub cleared-kept : {a b : Controls} → RestCleared a → RangesKept a b → RestCleared b
cleared-kept r k = record { starts = rw (k.starts, k.count) r.starts; ends = rw (k.ends, k.count) r.ends }

-- of two changes, what is kept if neither adds ranges, and 0 if one does
pub kept-both : {a b c : Controls} (d e : Bool) → (d ≡ false → RangesKept a b) → (e ≡ false → RangesKept b c) → (d || e) ≡ false → RangesKept a c
kept-both true e k l z = absurd (true-false z)
kept-both false e k l z =
    let p = k refl in
    let q = l z in
    record { count = q.count ∙ p.count; starts = q.starts ∙ p.starts; ends = q.ends ∙ p.ends }

pub cleared_both : {b c : Controls} (d e : Bool) → (d ≡ true → RestCleared b) → (e ≡ true → RestCleared c) → (e ≡ false → RangesKept b c)
    → (d || e) ≡ true → RestCleared c
cleared_both d true k l m z = l refl
cleared_both true false k l m z = cleared-kept (k refl) (m refl)
cleared_both false false k l m z = absurd (true-false (sym z))

-- a change after another that takes no target away; either may add ranges
pub became-then : {d e : Bool} {a b c : Controls} {x y : reading.Controls} → Became d a b x → Became e b c y
    → length x.targets ≤ length y.targets → Became (d || e) a c y
became-then {d} {e} {a} {b} {c} {x} {y} p q h =
    let t : b.targets ≤ c.targets = omega (arith, became-targets p, became-targets q) in
    record {
      meaning = q.meaning;
      kept = kept-both d e p.kept q.kept;
      cleared = cleared_both d e p.cleared q.cleared q.kept;
      phases = q.phases ∙ drop-later b.phases a.phases b.targets c.targets t p.phases;
      positions = q.positions ∙ drop-later b.positions a.positions b.targets c.targets t p.positions;
    }
