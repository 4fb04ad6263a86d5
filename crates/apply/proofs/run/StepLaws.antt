-- One code: what it leaves, and that no code takes a target away.
use Prim.Native.Nat.{ℕ, ◌≤◌, ◌<◌}
use mathlib.Core.Path.{◌≡◌, refl, sym, ap, ◌∙◌}
use mathlib.Core.Bool.{Bool, true, false, cond}
use mathlib.Core.List.{List, [], ◌∷◌, ◌++◌}
use native.Mathlib.Omega.{arith}
use borrow.Author.Tests.{le-leb, lt-leb, lt-ltb, le-ltb, eq-eqb, ne_eqb}
use lib.Dec.{ltb, leb, eqb}
use lib.ListN.{length, length-append}
use Rattle.reading.specs.declared.Place.{Place}
use Rattle.reading.specs.declared.RuleEngineMode.{RuleEngineMode}
use Rattle.reading.specs.declared.BodyAccess.{BodyAccess}
use Rattle.reading.specs.declared.BodyProcessor.{BodyProcessor}
use Rattle.reading.specs.Text.{trim}
use Rattle.reading.specs.Directive.{removal_value, ranges_of}
use Rattle.reading.specs.Controls.{Controls, with_mode, with_access, with_processor}
use Rattle.lists.proofs.Tests.{or-false-is}
use Rattle.control.proofs.state.HeldLaws.{true-false}
use Rattle.control.specs.declared.state.Settings.{Settings}
use Rattle.control.specs.declared.state.Controls as held
use Rattle.control.specs.ControlsStruct.{controls_of}
use Rattle.apply.specs.SettingCodes.{mode_set, access_set, processor_set, settings_after}
use Rattle.apply.specs.declared.append.ControlCounts.{ControlCounts}
use Rattle.apply.specs.UnitCodes.{setting_by_code, applied_code}
use Rattle.apply.specs.Append.{struct_of, target_if_room, ranges_if_room, TargetAdded, RangesAdded}
use Rattle.apply.specs.ApplyUnit.{Turned}

-- the first of two controls has no more targets than the second
abbrev pub Grown : Controls → Controls → Type 0
Grown a b = length a.targets ≤ length b.targets

-- the controls with other settings
abbrev with_settings : Controls → Settings → Controls
with_settings c s = record
    { mode = s.mode; ranges = c.ranges; targets = c.targets; access = s.access; processor = s.processor }

module _ (at : Place) (value : List ℕ) (code : ℕ) (x : Controls) (s : Settings) where
  -- a code that adds nothing
  pub coded_set : code ≤ 16 → applied_code at value code (with_settings x s) ≡ with_settings x (settings_after code s)
  unfolding applied_code settings_after
  coded_set h =
      rw (le-leb code 16 h)
      (go (eqb code 8) (eqb code 9) (eqb code 10) (eqb code 11) (eqb code 12) (eqb code 13) (eqb code 14) (eqb code 15) (eqb code 16))
    where
      go : (b1 b2 b3 b4 b5 b6 b7 b8 b9 : Bool)
          → cond b1 (with_mode (with_settings x s) RuleEngineMode.On)
          (cond b2 (with_mode (with_settings x s) RuleEngineMode.DetectionOnly)
          (cond b3 (with_mode (with_settings x s) RuleEngineMode.Off)
          (cond b4 (with_access (with_settings x s) BodyAccess.On)
          (cond b5 (with_access (with_settings x s) BodyAccess.Off)
          (cond b6 (with_processor (with_settings x s) BodyProcessor.Urlencoded)
          (cond b7 (with_processor (with_settings x s) BodyProcessor.Multipart)
          (cond b8 (with_processor (with_settings x s) BodyProcessor.Json)
          (cond b9 (with_processor (with_settings x s) BodyProcessor.Xml) (with_settings x s)))))))))
          ≡ with_settings x
          (cond b1 (mode_set s RuleEngineMode.On)
          (cond b2 (mode_set s RuleEngineMode.DetectionOnly)
          (cond b3 (mode_set s RuleEngineMode.Off)
          (cond b4 (access_set s BodyAccess.On)
          (cond b5 (access_set s BodyAccess.Off)
          (cond b6 (processor_set s BodyProcessor.Urlencoded)
          (cond b7 (processor_set s BodyProcessor.Multipart)
          (cond b8 (processor_set s BodyProcessor.Json)
          (cond b9 (processor_set s BodyProcessor.Xml) s)))))))))
      go true b2 b3 b4 b5 b6 b7 b8 b9 = refl
      go false true b3 b4 b5 b6 b7 b8 b9 = refl
      go false false true b4 b5 b6 b7 b8 b9 = refl
      go false false false true b5 b6 b7 b8 b9 = refl
      go false false false false true b6 b7 b8 b9 = refl
      go false false false false false true b7 b8 b9 = refl
      go false false false false false false true b8 b9 = refl
      go false false false false false false false true b9 = refl
      go false false false false false false false false true = refl
      go false false false false false false false false false = refl

target-grown : (at : Place) (x : Controls) → Grown x (target_if_room x at)
target-grown at x = go (leb 64 (length x.targets))
  where
    go : (b : Bool) → length x.targets ≤ length (cond b x.targets (x.targets ++ (at ∷ [])))
    go true = omega arith
    go false = omega (arith, length-append x.targets (at ∷ []))

-- a code below 17 leaves them
setting-grown : (code : ℕ) (x : Controls) → Grown x (setting_by_code code x)
setting-grown code x =
    go (eqb code 8) (eqb code 9) (eqb code 10) (eqb code 11) (eqb code 12) (eqb code 13) (eqb code 14) (eqb code 15) (eqb code 16)
  where
    go : (b1 b2 b3 b4 b5 b6 b7 b8 b9 : Bool)
        → Grown x
        (cond b1 (with_mode x RuleEngineMode.On)
        (cond b2 (with_mode x RuleEngineMode.DetectionOnly)
        (cond b3 (with_mode x RuleEngineMode.Off)
        (cond b4 (with_access x BodyAccess.On)
        (cond b5 (with_access x BodyAccess.Off)
        (cond b6 (with_processor x BodyProcessor.Urlencoded)
        (cond b7 (with_processor x BodyProcessor.Multipart)
        (cond b8 (with_processor x BodyProcessor.Json)
        (cond b9 (with_processor x BodyProcessor.Xml) x)))))))))
    go true b2 b3 b4 b5 b6 b7 b8 b9 = omega arith
    go false true b3 b4 b5 b6 b7 b8 b9 = omega arith
    go false false true b4 b5 b6 b7 b8 b9 = omega arith
    go false false false true b5 b6 b7 b8 b9 = omega arith
    go false false false false true b6 b7 b8 b9 = omega arith
    go false false false false false true b7 b8 b9 = omega arith
    go false false false false false false true b8 b9 = omega arith
    go false false false false false false false true b9 = omega arith
    go false false false false false false false false true = omega arith
    go false false false false false false false false false = omega arith

pub coded-grown : (at : Place) (value : List ℕ) (code : ℕ) (x : Controls) → Grown x (applied_code at value code x)
unfolding applied_code
coded-grown at value code x = go (leb code 16) (eqb code 17)
  where
    go : (b d : Bool) → Grown x (cond b (setting_by_code code x)
        (cond d (target_if_room x at) (ranges_if_room x (ranges_of (removal_value (trim value))))))
    go true d = setting-grown code x
    go false true = target-grown at x
    go false false = omega arith

-- the controls with the settings that they have
settings-same : (c : held.Controls) → controls_of c ≡ with_settings (controls_of c) c.settings
unfolding controls_of
settings-same c = refl

-- what a code leaves, by what it adds
module _ (h : ControlCounts) (starts ends phases positions : List ℕ) (at : Place) (value : List ℕ) (code : ℕ) where
  abbrev c : held.Controls
  c = struct_of h starts ends phases positions

  pub turned_set : (s : Settings) → code ≤ 16 → s ≡ settings_after code h.settings
      → Turned (ltb 17 code) h starts ends phases positions
      (record { settings = s; ranges = h.ranges; targets = h.targets; added = h.added }) starts ends
      phases positions (applied_code at value code (controls_of c))
  unfolding controls_of
  turned_set s l e =
      rw (le-ltb 17 code (omega arith))
      (record {
        meaning = means;
        flag = sym (or-false-is h.added);
        kept = λ z. record { count = refl; starts = refl; ends = refl };
        cleared = λ z. absurd (true-false (sym z));
        phases = refl;
        positions = refl;
      })
    where
      means : controls_of (struct_of (record { settings = s; ranges = h.ranges; targets = h.targets; added = h.added }) starts ends phases
          positions)
          ≡ applied_code at value code (controls_of c)
      means =
          ap (with_settings (controls_of c)) e
          ∙ (sym (coded_set at value code (controls_of c) h.settings l) ∙ ap (applied_code at value code)
          (sym (settings-same c)))

  pub turned-target : (r : ControlCounts) (starts' ends' phases' positions' : List ℕ) → code ≡ 17
      → TargetAdded h at phases positions r phases' positions' → starts' ≡ starts → ends' ≡ ends
      → Turned (ltb 17 code) h starts ends phases positions r starts' ends' phases' positions' (applied_code at value code (controls_of c))
  unfolding applied_code
  turned-target r starts' ends' phases' positions' e a ss es =
      rw (le-ltb 17 code (omega arith), lt-leb code 16 (omega arith), eq-eqb code 17 e, ss, es) (a starts ends)

  pub turned-ranges : (v : List ℕ) (r : ControlCounts) (starts' ends' phases' positions' : List ℕ) → 16 < code → (code ≡ 17 → ⊥) → v ≡ value
      → RangesAdded h v starts ends r starts' ends' → phases' ≡ phases → positions' ≡ positions
      → Turned (ltb 17 code) h starts ends phases positions r starts' ends' phases' positions' (applied_code at value code (controls_of c))
  unfolding applied_code
  turned-ranges v r starts' ends' phases' positions' l n e a ps os =
      rw (lt-ltb 17 code (omega (arith, n)), lt-leb code 16 l, ne_eqb code 17 n, ← e, ps, os) (a phases positions)
