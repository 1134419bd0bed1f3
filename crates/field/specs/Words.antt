-- The field of an origin, head and body, as words: the eight bytes at 0, the eight at 8, the eight at 16 and the two at 24.
use Rattle.std.specs.Prelude.{ℕ, ◌+◌, List}
use Rattle.number.specs.Number.{two_at, word_at}
use Rattle.field.specs.declared.words.Words.{Words}

-- the words of the field at `at`
abbrev pub words_at : List ℕ → ℕ → Words
words_at s at = record { first = word_at s at; second = word_at s (at + 8); third = word_at s (at + 16); last = two_at s (at + 24) }
