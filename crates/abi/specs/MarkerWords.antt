-- Marker records as one flat list of numbers, three to a record, as the phase call reads them.
use Rattle.std.specs.Prelude.{ℕ, ◌*◌, List, [], ◌∷◌, ◌++◌, length, take, replicate}
use Rattle.reading.specs.declared.Marker.{Marker}
use Rattle.reading.specs.Records.{marker_list}
use Rattle.abi.specs.declared.marker_words.MarkerWords.{MarkerWords}

-- 01: "Markers are lent as a list of marker records". Start and length of the name, and the position
abbrev pub marker_words : List Marker → List ℕ
marker_words [] = []
marker_words (m ∷ ms) = m.name.start ∷ m.name.len ∷ m.position ∷ marker_words ms

-- 771 numbers: those of the first 257 markers in order, then zeros
unfoldable pub words_of : List Marker → List ℕ
words_of ms = take 771 (marker_words ms ++ replicate 771 0)

-- the count is the list's length, also where the list has more than 257 markers
abbrev pub marker_words_of : List Marker → MarkerWords
marker_words_of ms = record { words = words_of ms; count = length ms }

-- so many markers, of which none is copied yet
abbrev pub blank : ℕ → MarkerWords
blank count = record { words = words_of []; count = count }

-- the records that unpacked numbers stand for: no more than the 257 that are there
abbrev pub markers_in : MarkerWords → List Marker
markers_in c = marker_list (take (3 * c.count) c.words)
