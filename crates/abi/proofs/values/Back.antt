-- What is written to a host's record is read back as it was, and each of its numbers is known: settings, flags, numbers and places.
-- Assumes nothing.
use Rattle.std.specs.Prelude.{Option, Some, None}
use Prim.Native.Nat.{ℕ, zero, suc}
use mathlib.Core.Path.{◌≡◌, refl}
use mathlib.Core.Bool.{Bool, true, false}
use native.Mathlib.Omega.{arith}
use borrow.Author.Tests.{leb-true}
use lib.Dec.{leb}
use Rattle.reading.specs.declared.Place.{Place}
use Rattle.reading.specs.declared.RuleEngineMode.{RuleEngineMode}
use Rattle.reading.specs.declared.BodyAccess.{BodyAccess}
use Rattle.reading.specs.declared.BodyProcessor.{BodyProcessor}
use Rattle.reading.specs.Numbers.{mode_setting_number, access_setting_number, processor_setting_number}
use Rattle.abi.specs.HostValues.{mode_setting, access_setting, processor_setting, settings_known, flag_of, flag_number, flag_known}
use Rattle.abi.specs.HostValues.{number_of, host_number, number_known, place_of, host_place, place_known}

pub mode-back : (s : Option RuleEngineMode) → mode_setting (mode_setting_number s) ≡ s
mode-back None = refl
mode-back (Some RuleEngineMode.On) = refl
mode-back (Some RuleEngineMode.DetectionOnly) = refl
mode-back (Some RuleEngineMode.Off) = refl

pub access-back : (s : Option BodyAccess) → access_setting (access_setting_number s) ≡ s
access-back None = refl
access-back (Some BodyAccess.On) = refl
access-back (Some BodyAccess.Off) = refl

pub processor-back : (s : Option BodyProcessor) → processor_setting (processor_setting_number s) ≡ s
processor-back None = refl
processor-back (Some BodyProcessor.Urlencoded) = refl
processor-back (Some BodyProcessor.Multipart) = refl
processor-back (Some BodyProcessor.Json) = refl
processor-back (Some BodyProcessor.Xml) = refl

pub flag-back : (b : Bool) → flag_of (flag_number b) ≡ b
flag-back true = refl
flag-back false = refl

pub number-back : (o : Option ℕ) → number_of (host_number o) ≡ o
number-back None = refl
number-back (Some n) = refl

pub place-back : (o : Option Place) → place_of (host_place o) ≡ o
place-back None = refl
place-back (Some at) = refl

pub settings-known : (m : Option RuleEngineMode) (a : Option BodyAccess) (p : Option BodyProcessor)
    → settings_known (mode_setting_number m) (access_setting_number a) (processor_setting_number p) ≡ true
settings-known m a p = rw (mode-known m, access-known a, processor-known p)
  where
    mode-known : (s : Option RuleEngineMode) → leb (mode_setting_number s) 3 ≡ true
    mode-known None = refl
    mode-known (Some RuleEngineMode.On) = refl
    mode-known (Some RuleEngineMode.DetectionOnly) = refl
    mode-known (Some RuleEngineMode.Off) = refl

    access-known : (s : Option BodyAccess) → leb (access_setting_number s) 2 ≡ true
    access-known None = refl
    access-known (Some BodyAccess.On) = refl
    access-known (Some BodyAccess.Off) = refl

    processor-known : (s : Option BodyProcessor) → leb (processor_setting_number s) 4 ≡ true
    processor-known None = refl
    processor-known (Some BodyProcessor.Urlencoded) = refl
    processor-known (Some BodyProcessor.Multipart) = refl
    processor-known (Some BodyProcessor.Json) = refl
    processor-known (Some BodyProcessor.Xml) = refl

pub flag-known : (b : Bool) → flag_known (flag_number b) ≡ true
flag-known true = refl
flag-known false = refl

pub number-known : (o : Option ℕ) → number_known (host_number o) ≡ true
number-known None = refl
number-known (Some n) = refl

pub place-known : (o : Option Place) → place_known (host_place o) ≡ true
place-known None = refl
place-known (Some at) = refl

-- A known number stands for itself: read and written back, it is as it was.
pub mode-forth : (n : ℕ) → leb n 3 ≡ true → mode_setting_number (mode_setting n) ≡ n
mode-forth zero e = refl
mode-forth (suc zero) e = refl
mode-forth (suc (suc zero)) e = refl
mode-forth (suc (suc (suc zero))) e = refl
mode-forth (suc (suc (suc (suc n)))) e = absurd (omega (arith, leb-true (suc (suc (suc (suc n)))) 3 e))

pub access-forth : (n : ℕ) → leb n 2 ≡ true → access_setting_number (access_setting n) ≡ n
access-forth zero e = refl
access-forth (suc zero) e = refl
access-forth (suc (suc zero)) e = refl
access-forth (suc (suc (suc n))) e = absurd (omega (arith, leb-true (suc (suc (suc n))) 2 e))

pub processor-forth : (n : ℕ) → leb n 4 ≡ true → processor_setting_number (processor_setting n) ≡ n
processor-forth zero e = refl
processor-forth (suc zero) e = refl
processor-forth (suc (suc zero)) e = refl
processor-forth (suc (suc (suc zero))) e = refl
processor-forth (suc (suc (suc (suc zero)))) e = refl
processor-forth (suc (suc (suc (suc (suc n))))) e = absurd (omega (arith, leb-true (suc (suc (suc (suc (suc n))))) 4 e))

pub flag-forth : (n : ℕ) → leb n 1 ≡ true → flag_number (flag_of n) ≡ n
flag-forth zero e = refl
flag-forth (suc zero) e = refl
flag-forth (suc (suc n)) e = absurd (omega (arith, leb-true (suc (suc n)) 1 e))
