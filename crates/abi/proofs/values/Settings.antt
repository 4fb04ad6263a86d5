-- A mode, an access and a processor as settings of any kind: each is read and written as its own definition says. Assumes nothing.
use Rattle.std.specs.Prelude.{Option, Some, None}
use Prim.Native.Nat.{ℕ}
use mathlib.Core.Path.{◌≡◌, refl}
use Rattle.std.proofs.Common.{arith}
use Rattle.std.proofs.lemmas.Bool.Decides.{nat_tests}
use Rattle.reading.specs.declared.RuleEngineMode.{RuleEngineMode}
use Rattle.reading.specs.declared.BodyAccess.{BodyAccess}
use Rattle.reading.specs.declared.BodyProcessor.{BodyProcessor}
use Rattle.reading.specs.Numbers.{mode_number, mode_of_number, access_number, processor_number}
use Rattle.reading.specs.Numbers.{mode_setting_number, access_setting_number, processor_setting_number}
use Rattle.abi.specs.HostValues.{mode_setting, access_setting, processor_setting}
use Rattle.abi.specs.Settings.{setting_number, setting_of, access_of_number, processor_of_number}

pub mode-read : (n : ℕ) → setting_of mode_of_number n ≡ mode_setting n
mode-read n = grind (arith, nat_tests)

pub access-read : (n : ℕ) → setting_of access_of_number n ≡ access_setting n
access-read n = grind (arith, nat_tests)

pub processor-read : (n : ℕ) → setting_of processor_of_number n ≡ processor_setting n
processor-read n = grind (arith, nat_tests)

pub mode-written : (s : Option RuleEngineMode) → setting_number mode_number s ≡ mode_setting_number s
mode-written None = refl
mode-written (Some m) = refl

pub access-written : (s : Option BodyAccess) → setting_number access_number s ≡ access_setting_number s
access-written None = refl
access-written (Some a) = refl

pub processor-written : (s : Option BodyProcessor) → setting_number processor_number s ≡ processor_setting_number s
processor-written None = refl
processor-written (Some p) = refl

pub ruleset settings_same = (mode-read, access-read, processor-read, mode-written, access-written, processor-written)
