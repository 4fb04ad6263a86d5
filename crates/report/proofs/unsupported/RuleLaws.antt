-- The unsupported directives of a rule's codes, one code after the other. Assumes nothing.
use Prim.Native.Nat.{ℕ, ◌+◌, ◌-◌, ◌≤◌, ◌<◌, min}
use mathlib.Core.Path.{◌≡◌, refl, sym, ap, ◌∙◌}
use mathlib.Core.Bool.{Bool, true, false}
use mathlib.Core.List.{List, [], ◌∷◌, ◌++◌}
use native.Mathlib.Omega.{arith}
use borrow.Author.Tests.{leb-true}
use lib.Dec.{leb}
use lib.ListN.{length, take, drop, get_or}
use Rattle.reading.specs.declared.Rule.{Rule}
use Rattle.reading.specs.declared.UnsupportedAt.{UnsupportedAt}
use Rattle.reading.specs.Lists.{keep, gather}
use Rattle.reading.specs.Report.{none_unsupported, first_or}
use Rattle.apply.specs.Codes.{is_reason}
use Rattle.apply.proofs.changes.CodeLaws.{slice, codes-are, codes-from}
use Rattle.lists.proofs.Tests.{and-true}
use Rattle.report.specs.ByCodes.{coded}

-- those of several codes of the rule m
abbrev pub reasons_in : ℕ → List ℕ → List UnsupportedAt
reasons_in m codes = gather (λ code. keep (is_reason code) (record { index = m; reason = code } ∷ [])) codes

-- the first of the codes from i on
abbrev pub first_from : ℕ → List ℕ → ℕ → ℕ → UnsupportedAt
first_from m codes i end = first_or (reasons_in m (slice i end codes)) none_unsupported

pub all_codes : (m : ℕ) (codes : List ℕ) (r : Rule) (end : ℕ) → end ≡ r.first + min r.count (length codes - r.first)
    → first_from m codes r.first end ≡ first_or (coded codes m r) none_unsupported
unfolding coded
all_codes m codes r end e = ap (λ (l : List ℕ). first_or (reasons_in m l) none_unsupported) (codes-are codes r end e)

module _ (m : ℕ) (codes : List ℕ) (i end : ℕ) (h : i < end) (k : end ≤ length codes) where
  here : first_from m codes i end
      ≡ first_or (keep (is_reason (get_or codes i 0)) (record { index = m; reason = get_or codes i 0 } ∷ []) ++ reasons_in m (slice (i + 1) end codes)) none_unsupported
  here = ap (λ (l : List ℕ). first_or (reasons_in m l) none_unsupported) (codes-from codes i end h k)

  pub code-found : is_reason (get_or codes i 0) ≡ true → record { index = m; reason = get_or codes i 0 } ≡ first_from m codes i end
  code-found e =
      sym (here ∙ ap (λ (b : Bool). first_or (keep b (record { index = m; reason = get_or codes i 0 } ∷ []) ++ reasons_in m (slice (i + 1) end codes)) none_unsupported) e)

  pub code-passed : is_reason (get_or codes i 0) ≡ false → first_from m codes (i + 1) end ≡ first_from m codes i end
  code-passed e =
      sym (here ∙ ap (λ (b : Bool). first_or (keep b (record { index = m; reason = get_or codes i 0 } ∷ []) ++ reasons_in m (slice (i + 1) end codes)) none_unsupported) e)

pub codes-past : (m : ℕ) (codes : List ℕ) (i end : ℕ) → end ≤ i → none_unsupported ≡ first_from m codes i end
codes-past m codes i end h = let z : end - i ≡ 0 = omega arith in rw z

-- EVERY REASON IS AT LEAST 1

abbrev pub Reasons : List UnsupportedAt → Type 0
Reasons [] = Unit {0}
Reasons (u ∷ us) = (1 ≤ u.reason) × Reasons us

pub reasons-append : (us ws : List UnsupportedAt) → Reasons us → Reasons ws → Reasons (us ++ ws)
reasons-append [] ws p q = q
reasons-append (u ∷ us) ws p q = (p.0, reasons-append us ws p.1 q)

reasons-in : (m : ℕ) (codes : List ℕ) → Reasons (reasons_in m codes)
reasons-in m [] = tt
reasons-in m (code ∷ codes) = by (is_reason code) refl (reasons-in m codes)
  where
    by : (b : Bool) → is_reason code ≡ b → Reasons (reasons_in m codes) → Reasons (keep b (record { index = m; reason = code } ∷ []) ++ reasons_in m codes)
    by true e others = (leb-true 1 code (and-true (leb 1 code) (leb code 7) e).0, others)
    by false e others = others

pub reasons-coded : (codes : List ℕ) (m : ℕ) (r : Rule) → Reasons (coded codes m r)
unfolding coded
reasons-coded codes m r = reasons-in m (take r.count (drop r.first codes))
