-- Texts: blanks, trimming, folding, numbers, and lists of id ranges. A text is a list of bytes, each a number below 256.
use Rattle.std.specs.Prelude.{ℕ, suc, ◌+◌, ◌-◌, ◌*◌, Bool, true, false, cond, ◌&&◌, ◌||◌, List, [], ◌∷◌, ◌++◌, map, length, take, drop, leb, ltb, eqb, Option, Some, None}
use Prim.Native.Char.{code}
use Prim.Native.String.{String}
use Rattle.reading.specs.declared.RuleIdRange.{RuleIdRange}
use Rattle.reading.specs.declared.IdPart.{IdPart}
use Rattle.reading.specs.declared.Part.{Part}

-- a word of this page as its bytes
abbrev pub ascii : String → List ℕ
ascii String.[] = []
ascii (String.◌∷◌ c cs) = code c ∷ ascii cs

-- 01: "Names compare byte for byte."
unfoldable pub same : List ℕ → List ℕ → Bool
same [] [] = true
same [] (y ∷ ys) = false
same (x ∷ xs) [] = false
same (x ∷ xs) (y ∷ ys) = eqb x y && same xs ys

-- 01: "two text parts (start, length) in one lent text"
abbrev pub part_of : List ℕ → Part → List ℕ
part_of text p = take p.len (drop p.start text)

-- 01: "bytes 09 to 0D and 20 (hexadecimal)"
abbrev pub is_blank : ℕ → Bool
is_blank b = leb 9 b && leb b 13 || eqb b 32

-- without the blanks in front
unfoldable pub trim_start : List ℕ → List ℕ
trim_start [] = []
trim_start (b ∷ bs) = cond (is_blank b) (trim_start bs) (b ∷ bs)

-- a byte before what is left of the bytes after it: a blank with nothing left after it goes
unfoldable pub before : ℕ → List ℕ → List ℕ
before b [] = cond (is_blank b) [] (b ∷ [])
before b (x ∷ xs) = b ∷ x ∷ xs

-- without the blanks at the end
unfoldable pub trim_end : List ℕ → List ℕ
trim_end [] = []
trim_end (b ∷ bs) = before b (trim_end bs)

-- 01: "Directive and value are trimmed"
unfoldable pub trim : List ℕ → List ℕ
trim s = trim_end (trim_start s)

-- 01: "ASCII folding": 41 to 5A become 61 to 7A (hexadecimal), every other byte stays
abbrev pub fold_byte : ℕ → ℕ
fold_byte b = cond (leb 65 b && leb b 90) (b + 32) b

unfoldable pub fold : List ℕ → List ℕ
fold s = map fold_byte s

abbrev pub is_digit : ℕ → Bool
is_digit b = leb 48 b && leb b 57

unfoldable pub all_digits : List ℕ → Bool
all_digits [] = true
all_digits (d ∷ ds) = is_digit d && all_digits ds

-- the value of digits that follow those of v
unfoldable pub value_from : ℕ → List ℕ → ℕ
value_from v [] = v
value_from v (d ∷ ds) = value_from (v * 10 + (d - 48)) ds

-- the greatest number of 64 bits
abbrev pub largest : ℕ
largest = 18446744073709551615

-- "one or more digits, at most 18446744073709551615"; the count of digits has no limit
unfoldable pub digits : List ℕ → Option ℕ
digits [] = None
digits (d ∷ ds) =
    let v = value_from 0 (d ∷ ds) in
    cond (all_digits (d ∷ ds) && leb v largest) (Some v) None

unfoldable pub without_plus : List ℕ → List ℕ
without_plus [] = []
without_plus (b ∷ bs) = cond (eqb b 43) bs (b ∷ bs)

-- 01: "A number is an optional "+" and one or more digits, at most 18446744073709551615."
unfoldable pub number_of : List ℕ → Option ℕ
number_of s = digits (without_plus s)

-- where a byte stands first; the length where it does not stand at all
unfoldable pub index_of : ℕ → List ℕ → ℕ
index_of b [] = 0
index_of b (x ∷ xs) = cond (eqb x b) 0 (suc (index_of b xs))

abbrev pub holds_byte : ℕ → List ℕ → Bool
holds_byte b s = ltb (index_of b s) (length s)

-- the bytes before the first b, and those after it
abbrev pub cut_before : ℕ → List ℕ → List ℕ
cut_before b s = take (index_of b s) s

abbrev pub cut_after : ℕ → List ℕ → List ℕ
cut_after b s = drop (suc (index_of b s)) s

-- a byte in front of the first of the parts
unfoldable pub on_first : ℕ → List (List ℕ) → List (List ℕ)
on_first x [] = (x ∷ []) ∷ []
on_first x (p ∷ ps) = (x ∷ p) ∷ ps

-- the parts between the bytes b, one more than there are b
unfoldable pub split_on : ℕ → List ℕ → List (List ℕ)
split_on b [] = [] ∷ []
split_on b (x ∷ xs) = cond (eqb x b) ([] ∷ split_on b xs) (on_first x (split_on b xs))

-- 01: "A part is a number"
unfoldable pub one_id : Option ℕ → IdPart
one_id (Some n) = IdPart.Range (record { start = n; end = n })
one_id None = IdPart.Bad

-- "start above end" is bad
unfoldable pub ids_to : ℕ → Option ℕ → IdPart
ids_to start (Some end) = cond (leb start end) (IdPart.Range (record { start = start; end = end })) IdPart.Bad
ids_to start None = IdPart.Bad

unfoldable pub ids_from : Option ℕ → Option ℕ → IdPart
ids_from (Some start) end = ids_to start end
ids_from None end = IdPart.Bad

-- 01: "A part is a number, or two numbers around its first "-", each trimmed." The part is trimmed; "-" is 2D.
abbrev pub trimmed_part : List ℕ → IdPart
trimmed_part p =
    cond (eqb (length p) 0) IdPart.Blank
    (cond (holds_byte 45 p) (ids_from (number_of (trim (cut_before 45 p))) (number_of (trim (cut_after 45 p)))) (one_id (number_of p)))

unfoldable pub id_part : List ℕ → IdPart
id_part p = trimmed_part (trim p)

abbrev pub is_bad : IdPart → Bool
is_bad IdPart.Blank = false
is_bad IdPart.Bad = true
is_bad (IdPart.Range r) = false

abbrev pub range_in : IdPart → List RuleIdRange
range_in IdPart.Blank = []
range_in IdPart.Bad = []
range_in (IdPart.Range r) = r ∷ []

-- 01: "parts between commas, each trimmed, blank ones passed over"; "," is 2C
abbrev pub id_parts : List ℕ → List (List ℕ)
id_parts value = split_on 44 value

unfoldable pub any_bad : List (List ℕ) → Bool
any_bad [] = false
any_bad (p ∷ ps) = is_bad (id_part p) || any_bad ps

unfoldable pub ranges_in : List (List ℕ) → List RuleIdRange
ranges_in [] = []
ranges_in (p ∷ ps) = range_in (id_part p) ++ ranges_in ps
