-- Why a directive is unsupported goes by its name alone, whatever its value.
use Rattle.std.specs.Prelude.{ℕ, ◌≡◌, refl, Bool, true, false, cond, ◌||◌, List, length, eqb}
use Rattle.std.proofs.Common.{ap, arith}
use Rattle.reading.specs.declared.UnsupportedReason.{UnsupportedReason}
use Rattle.reading.specs.Text.{ascii, same, trim, fold, holds_byte, cut_before, cut_after, id_parts, any_bad, ranges_in}
use Rattle.reading.specs.Directive.{Directive, rule_engine, rule_remove_by_id, rule_remove_target_by_id, request_body_access, request_body_processor, unsupported}
use Rattle.reading.specs.Directive.{engine_value, access_value, processor_value, removal_value, target_value, other_named, directive_named, directive_of, reason_named}

-- a directive is supported, or unsupported for this reason
abbrev Only : UnsupportedReason → Directive → Type 0
Only r d = (s : UnsupportedReason) → d ≡ unsupported s → s ≡ r

reason-alone : (r : UnsupportedReason) → Only r (unsupported r)
reason-alone r s e = cc

-- a supported directive has none
refuses : Directive → ℕ
refuses (rule_engine m) = 0
refuses (rule_remove_by_id rs) = 0
refuses (rule_remove_target_by_id id target) = 0
refuses (request_body_access a) = 0
refuses (request_body_processor p) = 0
refuses (unsupported r) = 1

taken : (r : UnsupportedReason) (d : Directive) → refuses d ≡ 0 → Only r d
unfolding refuses
taken r d h s e = absurd (omega (arith, h, ap refuses e))

-- one of two directives, with one reason or with one each
either : (r : UnsupportedReason) (b : Bool) (x y : Directive) → Only r x → Only r y → Only r (cond b x y)
either r true x y p q = p
either r false x y p q = q

each : (r s : UnsupportedReason) (b : Bool) (x y : Directive) → Only r x → Only s y → Only (cond b r s) (cond b x y)
each r s true x y p q = p
each r s false x y p q = q

engine-only : (w : List ℕ) → Only UnsupportedReason.ModeValue (engine_value w)
unfolding refuses
engine-only w =
    either _ (same w (ascii "on")) _ _ (taken _ _ refl)
    (either _ (same w (ascii "off")) _ _ (taken _ _ refl) (either _ (same w (ascii "detectiononly")) _ _ (taken _ _ refl) (reason-alone _)))

access-only : (w : List ℕ) → Only UnsupportedReason.BodyAccessValue (access_value w)
unfolding refuses
access-only w = either _ (same w (ascii "on")) _ _ (taken _ _ refl) (either _ (same w (ascii "off")) _ _ (taken _ _ refl) (reason-alone _))

processor-only : (w : List ℕ) → Only UnsupportedReason.Processor (processor_value w)
unfolding refuses
processor-only w =
    either _ (same w (ascii "urlencoded")) _ _ (taken _ _ refl)
    (either _ (same w (ascii "multipart")) _ _ (taken _ _ refl)
    (either _ (same w (ascii "json")) _ _ (taken _ _ refl) (either _ (same w (ascii "xml")) _ _ (taken _ _ refl) (reason-alone _))))

removal-only : (value : List ℕ) → Only UnsupportedReason.IdList (removal_value value)
unfolding refuses
removal-only value = either _ (any_bad (id_parts value) || eqb (length (ranges_in (id_parts value))) 0) _ _ (reason-alone _) (taken _ _ refl)

target-only : (value : List ℕ) → Only UnsupportedReason.TargetForm (target_value value)
unfolding refuses
target-only value =
    either _ (holds_byte 59 value) _ _
    (either _ (eqb (length (trim (cut_before 59 value))) 0 || eqb (length (trim (cut_after 59 value))) 0) _ _ (reason-alone _) (taken _ _ refl))
    (reason-alone _)

-- of the audit log, or of no name that is known
other-only : (name : List ℕ)
    → Only (cond (same name (ascii "auditengine") || same name (ascii "auditlogparts")) UnsupportedReason.Audit UnsupportedReason.Unrecognised) (other_named name)
other-only name = by (same name (ascii "auditengine")) (same name (ascii "auditlogparts"))
  where
    by : (a b : Bool) → Only (cond (a || b) UnsupportedReason.Audit UnsupportedReason.Unrecognised)
        (cond a (unsupported UnsupportedReason.Audit) (cond b (unsupported UnsupportedReason.Audit) (unsupported UnsupportedReason.Unrecognised)))
    by true b = reason-alone _
    by false true = reason-alone _
    by false false = reason-alone _

named-only : (name value : List ℕ) → Only (reason_named name) (directive_named name value)
named-only name value =
    each _ _ (same name (ascii "ruleengine")) _ _ (engine-only (fold value))
    (each _ _ (same name (ascii "ruleremovebyid")) _ _ (removal-only value)
    (each _ _ (same name (ascii "ruleremovetargetbyid")) _ _ (target-only value)
    (each _ _ (same name (ascii "requestbodyaccess")) _ _ (access-only (fold value))
    (each _ _ (same name (ascii "requestbodyprocessor")) _ _ (processor-only (fold value)) (other-only name)))))

-- 02: "which of the seven reasons .. made it unsupported": the one of its name
pub reason-by-name : (name value : List ℕ) (r : UnsupportedReason) → directive_of name value ≡ unsupported r → r ≡ reason_named (fold (trim name))
unfolding directive_of
reason-by-name name value r e = named-only (fold (trim name)) (trim value) r e
