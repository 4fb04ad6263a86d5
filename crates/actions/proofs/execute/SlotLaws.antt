-- Which kinds are in which slot.
use Prim.Native.Nat.{ℕ, ◌≤◌, ◌<◌}
use mathlib.Core.Path.{◌≡◌, refl}
use mathlib.Core.Bool.{Bool, true, false}
use native.Mathlib.Omega.{arith}
use borrow.Author.Tests.{le-leb, lt-leb, eq-eqb, ne_eqb, leb-true, leb-false, eqb-true, eqb-false}
use lib.Dec.{leb, eqb}
use Rattle.reading.specs.Actions.{is_disruptive, is_flow}
use Rattle.actions.specs.Slots.{slot_of}

-- the slot of each range of kinds
pub data SlotAt (kind : ℕ) : Type 0 where
  other : kind ≡ 0 → slot_of kind ≡ 0 → SlotAt kind
  disruptive : 0 < kind → kind ≤ 6 → slot_of kind ≡ 1 → SlotAt kind
  flow : 6 < kind → kind ≤ 10 → slot_of kind ≡ 7 → SlotAt kind
  metadata : 10 < kind → kind ≤ 18 → slot_of kind ≡ kind → SlotAt kind
  past : 18 < kind → slot_of kind ≡ 0 → SlotAt kind

pub slot_at : (kind : ℕ) → SlotAt kind
unfolding slot_of
slot_at kind = zeroth (eqb kind 0) refl
  where
    last : (t : Bool) → leb kind 18 ≡ t → 10 < kind → SlotAt kind
    last true e h = metadata h (leb-true kind 18 e) (simp (ne_eqb kind 0 (λ z. omega arith), lt-leb kind 6 (omega arith), lt-leb kind 10 h, e))
    last false e h =
        past (leb-false kind 18 e) (simp (ne_eqb kind 0 (λ z. omega arith), lt-leb kind 6 (omega arith), lt-leb kind 10 h, e))

    second : (t : Bool) → leb kind 10 ≡ t → 6 < kind → SlotAt kind
    second true e h = flow h (leb-true kind 10 e) (simp (ne_eqb kind 0 (λ z. omega arith), lt-leb kind 6 h, e))
    second false e h = last (leb kind 18) refl (leb-false kind 10 e)

    first : (t : Bool) → leb kind 6 ≡ t → 0 < kind → SlotAt kind
    first true e h = disruptive h (leb-true kind 6 e) (simp (ne_eqb kind 0 (λ z. omega arith), e))
    first false e h = second (leb kind 10) refl (leb-false kind 6 e)

    zeroth : (t : Bool) → eqb kind 0 ≡ t → SlotAt kind
    zeroth true e = other (eqb-true kind 0 e) (simp e)
    zeroth false e = let z = eqb-false kind 0 e in first (leb kind 6) refl (positive z)
      where
        positive : (kind ≡ 0 → ⊥) → 0 < kind
        positive z = omega arith

pub slot-below : (kind s : ℕ) → s ≡ slot_of kind → s < 19
slot-below kind s is = go (slot_at kind)
  where
    go : SlotAt kind → s < 19
    go (other h e) = omega arith
    go (disruptive h k e) = omega arith
    go (flow h k e) = omega arith
    go (metadata h k e) = omega arith
    go (past h e) = omega arith

pub slot-disruptive : (kind : ℕ) → eqb (slot_of kind) 1 ≡ is_disruptive kind
slot-disruptive kind = go (slot_at kind)
  where
    go : SlotAt kind → eqb (slot_of kind) 1 ≡ is_disruptive kind
    go (other h e) = simp (e, lt-leb 1 kind (omega arith))
    go (disruptive h k e) = simp (e, le-leb 1 kind h, le-leb kind 6 k)
    go (flow h k e) = simp (e, le-leb 1 kind (omega arith), lt-leb kind 6 h)
    go (metadata h k e) = simp (e, ne_eqb kind 1 (λ z. omega arith), le-leb 1 kind (omega arith), lt-leb kind 6 (omega arith))
    go (past h e) = simp (e, le-leb 1 kind (omega arith), lt-leb kind 6 (omega arith))

pub slot-flow : (kind : ℕ) → eqb (slot_of kind) 7 ≡ is_flow kind
slot-flow kind = go (slot_at kind)
  where
    go : SlotAt kind → eqb (slot_of kind) 7 ≡ is_flow kind
    go (other h e) = simp (e, lt-leb 7 kind (omega arith))
    go (disruptive h k e) = simp (e, lt-leb 7 kind (omega arith))
    go (flow h k e) = simp (e, le-leb 7 kind h, le-leb kind 10 k)
    go (metadata h k e) = simp (e, ne_eqb kind 7 (λ z. omega arith), le-leb 7 kind (omega arith), lt-leb kind 10 h)
    go (past h e) = simp (e, le-leb 7 kind (omega arith), lt-leb kind 10 (omega arith))

-- two tests for equality agree where each follows from the other
eqb_same : (a b c d : ℕ) → (a ≡ b → c ≡ d) → (c ≡ d → a ≡ b) → eqb a b ≡ eqb c d
eqb_same a b c d there back = go (eqb a b) refl
  where
    go : (t : Bool) → eqb a b ≡ t → eqb a b ≡ eqb c d
    go true e = simp (e, eq-eqb c d (there (eqb-true a b e)))
    go false e = simp (e, ne_eqb c d (λ z. eqb-false a b e (back z)))

-- each metadata kind has a slot of its own
pub slot-metadata : (s kind : ℕ) → 10 < s → s < 19 → eqb (slot_of kind) s ≡ eqb s kind
slot-metadata s kind low high = eqb_same (slot_of kind) s s kind (there (slot_at kind)) (back (slot_at kind))
  where
    there : SlotAt kind → slot_of kind ≡ s → s ≡ kind
    there (other h e) z = absurd (omega arith)
    there (disruptive h k e) z = absurd (omega arith)
    there (flow h k e) z = absurd (omega arith)
    there (metadata h k e) z = omega arith
    there (past h e) z = absurd (omega arith)

    back : SlotAt kind → s ≡ kind → slot_of kind ≡ s
    back (other h e) z = absurd (omega arith)
    back (disruptive h k e) z = absurd (omega arith)
    back (flow h k e) z = absurd (omega arith)
    back (metadata h k e) z = omega arith
    back (past h e) z = absurd (omega arith)
