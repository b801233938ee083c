-- What steps do to words: each keeps its word, adds bits to it, or writes it. What many of them make of a word is one formula,
-- which names no order.
use Rattle.std.specs.List.{flat_map}
use Rattle.std.specs.Prelude.{ℕ, ◌+◌, ◌==◌, bit_or, List, [], ◌∷◌, ◌++◌, take, Option, Some, None, unwrap_or, if◌then◌else◌}

-- what one step does to the word at an index: it keeps it, adds bits to it, or writes a word in its place
pub data Effect : Type 0 where
  keeps : ℕ → Effect
  adds : ℕ → ℕ → Effect
  writes : ℕ → ℕ → Effect

-- the bits that one step adds at an index
abbrev pub bits_at : ℕ → Effect → ℕ
bits_at i (keeps j) = 0
bits_at i (adds j bits) = if j == i then bits else 0
bits_at i (writes j word) = 0

-- all bits that steps add at an index
abbrev pub gained : ℕ → List Effect → ℕ
gained i [] = 0
gained i (e ∷ es) = bit_or (bits_at i e) (gained i es)

-- the word that one step writes at an index, if it writes there; else another
abbrev pub or_written : ℕ → Effect → Option ℕ → Option ℕ
or_written i (keeps j) other = other
or_written i (adds j bits) other = other
or_written i (writes j word) other = if j == i then Some word else other

-- the word that steps write at an index, if one does
abbrev pub written : ℕ → List Effect → Option ℕ
written i [] = None
written i (e ∷ es) = or_written i e (written i es)

-- the word at an index after steps: what was written there, if something was; else the word with all bits that were added
abbrev pub word_after : ℕ → ℕ → List Effect → ℕ
word_after word i es = unwrap_or (written i es) (bit_or word (gained i es))

-- the words from an index on after steps
abbrev pub words_from : ℕ → List ℕ → List Effect → List ℕ
words_from i [] es = []
words_from i (w ∷ ws) es = word_after w i es ∷ words_from (i + 1) ws es

-- all words after steps
abbrev pub words_after : List ℕ → List Effect → List ℕ
words_after ws es = words_from 0 ws es

-- the first steps of each of some lists, as many as are counted for it, one list after another; the first list has this number
abbrev pub done_from : ℕ → (ℕ → ℕ) → List (List Effect) → List Effect
done_from p counts [] = []
done_from p counts (es ∷ ess) = take (counts p) es ++ done_from (p + 1) counts ess

-- the first steps of all lists, as many of each as are counted for it
abbrev pub done : (ℕ → ℕ) → List (List Effect) → List Effect
done counts ess = done_from 0 counts ess

-- the index at which a step writes, if it writes
abbrev pub write_at : Effect → List ℕ
write_at (keeps i) = []
write_at (adds i bits) = []
write_at (writes i word) = i ∷ []

-- the index at which a step adds bits, if it adds some
abbrev pub add_at : Effect → List ℕ
add_at (keeps i) = []
add_at (adds i bits) = i ∷ []
add_at (writes i word) = []

-- the indexes at which steps write
abbrev pub writes_at : List Effect → List ℕ
writes_at es = flat_map write_at es

-- the indexes at which steps add bits
abbrev pub adds_at : List Effect → List ℕ
adds_at es = flat_map add_at es
