-- One change on the way through a call after another, and what it is for the struct. Assumes nothing.
use Prim.Native.Nat.{◌≤◌}
use mathlib.Core.Path.{◌≡◌, refl, sym, ap, ◌∙◌}
use mathlib.Core.Bool.{Bool, true, false, ◌||◌}
use native.Mathlib.Omega.{arith}
use lib.ListN.{length}
use Rattle.reading.specs.Controls as reading
use Rattle.lists.proofs.Tests.{or-false-is}
use Rattle.control.specs.declared.state.Controls.{Controls}
use Rattle.control.specs.ControlsStruct.{controls_of, RangesKept, RestCleared, Became}
use Rattle.control.proofs.Chained.{drop-later, cleared-kept, kept-both, cleared_both}
use Rattle.control.proofs.state.HeldLaws.{targets-length, ranges-kept, true-false}
use Rattle.apply.specs.Append.{Changed}

pub or_assoc : (a b c : Bool) → ((a || b) || c) ≡ (a || (b || c))
or_assoc true b c = refl
or_assoc false b c = refl

pub or-true : (a : Bool) → (a || true) ≡ true
or-true true = refl
or-true false = refl

-- no change
pub changed-same : (added : Bool) (c : Controls) → Changed false added c added c (controls_of c)
changed-same added c = record {
  meaning = refl;
  flag = sym (or-false-is added);
  kept = λ z. ranges-kept c;
  cleared = λ z. absurd (true-false (sym z));
  phases = refl;
  positions = refl;
}

-- other words for what it adds and what it means
pub changed-as : {d e added added' : Bool} {a b : Controls} {x y : reading.Controls} → d ≡ e → x ≡ y → Changed d added a added' b x
    → Changed e added a added' b y
changed-as p q k = rw (← p, ← q) k

-- the places after the ranges are 0 after it, if ranges were added before or are now
pub changed-clean : {d added added' : Bool} {a b : Controls} {x : reading.Controls} → Changed d added a added' b x
    → (added ≡ true → RestCleared a) → added' ≡ true → RestCleared b
changed-clean {d} {added} {added'} {a} {b} k p z = go d k.kept (λ e. k.cleared e p) (sym k.flag ∙ z)
  where
    go : (e : Bool) → (e ≡ false → RangesKept a b) → (e ≡ true → RestCleared b) → (added || e) ≡ true → RestCleared b
    go true kept cleared s = cleared refl
    go false kept cleared s = cleared-kept (p (sym (or-false-is added) ∙ s)) (kept refl)

-- as a change of the struct
pub changed-became : {d added added' : Bool} {a b : Controls} {x : reading.Controls} → Changed d added a added' b x
    → (added ≡ true → RestCleared a) → Became d a b x
changed-became k p =
    record { meaning = k.meaning; kept = k.kept; cleared = λ z. k.cleared z p; phases = k.phases; positions = k.positions }

changed-targets : {d added added' : Bool} {a b : Controls} {x : reading.Controls} → Changed d added a added' b x → b.targets ≡ length x.targets
changed-targets {b = b} k = sym (targets-length b) ∙ ap (λ (x : reading.Controls). length x.targets) k.meaning

-- a change after another that takes no target away
pub changed_then : {d e f f' f'' : Bool} {a b c : Controls} {x y : reading.Controls} → Changed d f a f' b x → Changed e f' b f'' c y
    → length x.targets ≤ length y.targets → Changed (d || e) f a f'' c y
changed_then {d} {e} {f} {f'} {f''} {a} {b} {c} {x} {y} p q h =
    let t : b.targets ≤ c.targets = omega (arith, changed-targets p, changed-targets q) in
    record {
      meaning = q.meaning;
      flag = q.flag ∙ (ap (λ (g : Bool). g || e) p.flag ∙ or_assoc f d e);
      kept = kept-both d e p.kept q.kept;
      cleared = λ z s. cleared_both d e (λ u. p.cleared u s) (λ u. q.cleared u (changed-clean p s)) q.kept z;
      phases = q.phases ∙ drop-later b.phases a.phases b.targets c.targets t p.phases;
      positions = q.positions ∙ drop-later b.positions a.positions b.targets c.targets t p.positions;
    }
