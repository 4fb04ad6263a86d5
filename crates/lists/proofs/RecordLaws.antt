-- Lists of so many values of a function, and the records that a list of numbers stands for. Assumes nothing.
use Prim.Native.Nat.{ℕ, zero, suc, ◌/◌, ◌≤◌, ◌<◌}
use mathlib.Core.Path.{◌≡◌, refl, ap, ◌∙◌}
use mathlib.Core.List.{List, [], ◌∷◌}
use native.Mathlib.Omega.{arith}
use lib.ListN.{length, get_or, drop, drop_of_length-le, get_or-eq_default}
use Rattle.reading.specs.declared.Rule.{Rule}
use Rattle.reading.specs.declared.Marker.{Marker}
use Rattle.reading.specs.Records.{values, record_list, rule_from, rule_list, marker_from, marker_list}
use Rattle.reading.specs.Records.{action_at, action_list, journal_from, journal_list}
use Rattle.reading.specs.Walk.{no_action}

module _ {A : Type 0} where
  pub length-values : (f : ℕ → A) (n : ℕ) → length (values f n) ≡ n
  length-values f zero = refl
  length-values f (suc n) = ap suc (length-values (λ i. f (suc i)) n)

  pub get_or-values : (f : ℕ → A) (n i : ℕ) (d : A) → i < n → get_or (values f n) i d ≡ f i
  get_or-values f zero i d h = absurd (omega arith)
  get_or-values f (suc n) zero d h = refl
  get_or-values f (suc n) (suc i) d h = get_or-values (λ k. f (suc k)) n i d (omega arith)

  pub drop-values : (f : ℕ → A) (n i : ℕ) → i < n → drop i (values f n) ≡ f i ∷ drop (suc i) (values f n)
  drop-values f zero i h = absurd (omega arith)
  drop-values f (suc n) zero h = refl
  drop-values f (suc n) (suc i) h = drop-values (λ k. f (suc k)) n i (omega arith)

  pub values_same : (f g : ℕ → A) (n : ℕ) → ((i : ℕ) → f i ≡ g i) → values f n ≡ values g n
  values_same f g zero h = refl
  values_same f g (suc n) h = ap (λ (a : A). a ∷ values (λ i. f (suc i)) n) (h zero)
      ∙ ap (λ (l : List A). g zero ∷ l) (values_same (λ i. f (suc i)) (λ i. g (suc i)) n (λ i. h (suc i)))

  -- numbers that start with one whole record: the record, and the list of the rest
  pub records-cons : (width : ℕ) (record_at : List ℕ → ℕ → A) (words rest : List ℕ) → length words / width ≡ suc (length rest / width)
      → ((i : ℕ) → record_at words (suc i) ≡ record_at rest i)
      → record_list width record_at words ≡ record_at words 0 ∷ record_list width record_at rest
  records-cons width record_at words rest n h = rw n (ap (λ (l : List A). record_at words 0 ∷ l)
      (values_same (λ i. record_at words (suc i)) (record_at rest) (length rest / width) h))

-- records of any width: inside the list, and after its end
module _ {A : Type 0} (width : ℕ) (record_at : List ℕ → ℕ → A) (words : List ℕ) where
  pub length-records : length (record_list width record_at words) ≡ length words / width
  length-records = length-values (record_at words) (length words / width)

  pub record_is : (i : ℕ) (d : A) → i < length words / width → get_or (record_list width record_at words) i d ≡ record_at words i
  record_is i d h = get_or-values (record_at words) (length words / width) i d h

  pub record-past : (i : ℕ) (d : A) → length words / width ≤ i → get_or (record_list width record_at words) i d ≡ d
  record-past i d h = get_or-eq_default (record_list width record_at words) d {n = i} (omega (arith, length-records))

  pub drop-records : (i : ℕ) → i < length words / width
      → drop i (record_list width record_at words) ≡ record_at words i ∷ drop (suc i) (record_list width record_at words)
  drop-records i h = drop-values (record_at words) (length words / width) i h

  pub records-end : (i : ℕ) → length words / width ≤ i → drop i (record_list width record_at words) ≡ []
  records-end i h = drop_of_length-le (record_list width record_at words) {i = i} (omega (arith, length-records))

module _ (words : List ℕ) where
  pub length-rules : length (rule_list words) ≡ length words / 5
  unfolding rule_list
  length-rules = length-records 5 rule_from words

  pub rule-is : (i : ℕ) (d : Rule) → i < length words / 5 → get_or (rule_list words) i d ≡ rule_from words i
  unfolding rule_list
  rule-is i d h = record_is 5 rule_from words i d h

  pub rule-past : (i : ℕ) (d : Rule) → length words / 5 ≤ i → get_or (rule_list words) i d ≡ d
  unfolding rule_list
  rule-past i d h = record-past 5 rule_from words i d h

  pub drop-rules : (i : ℕ) → i < length words / 5 → drop i (rule_list words) ≡ rule_from words i ∷ drop (suc i) (rule_list words)
  unfolding rule_list
  drop-rules i h = drop-records 5 rule_from words i h

  pub rules-end : (i : ℕ) → length words / 5 ≤ i → drop i (rule_list words) ≡ []
  unfolding rule_list
  rules-end i h = records-end 5 rule_from words i h

  pub length-markers : length (marker_list words) ≡ length words / 3
  unfolding marker_list
  length-markers = length-records 3 marker_from words

  pub marker-is : (i : ℕ) (d : Marker) → i < length words / 3 → get_or (marker_list words) i d ≡ marker_from words i
  unfolding marker_list
  marker-is i d h = record_is 3 marker_from words i d h

  pub length-actions : length (action_list words) ≡ length words / 6
  unfolding action_list
  length-actions = length-records 6 action_at words

  pub action-is : (i : ℕ) → i < length words / 6 → get_or (action_list words) i no_action ≡ action_at words i
  unfolding action_list
  action-is i h = record_is 6 action_at words i no_action h

  pub action-past : (i : ℕ) → length words / 6 ≤ i → get_or (action_list words) i no_action ≡ no_action
  unfolding action_list
  action-past i h = record-past 6 action_at words i no_action h

  pub length-entries : length (journal_list words) ≡ length words / 2
  unfolding journal_list
  length-entries = length-records 2 journal_from words

  pub drop-entries : (i : ℕ) → i < length words / 2 → drop i (journal_list words) ≡ journal_from words i ∷ drop (suc i)
      (journal_list words)
  unfolding journal_list
  drop-entries i h = drop-records 2 journal_from words i h

  pub entries-end : (i : ℕ) → length words / 2 ≤ i → drop i (journal_list words) ≡ []
  unfolding journal_list
  entries-end i h = records-end 2 journal_from words i h
