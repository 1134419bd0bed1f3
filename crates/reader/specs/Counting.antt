-- Counting field by field.
use Rattle.std.specs.Prelude.{ℕ, ◌+◌, ◌<◌, ◌^◌, cond}
use Rattle.payload.specs.Count.{is_announced, is_withdrawn}
use Rattle.reader.specs.declared.count.Tally.{Tally}

-- what a tag counts for
abbrev pub announces_tag : ℕ → ℕ
announces_tag tag = cond (is_announced tag) 1 0

abbrev pub withdraws_tag : ℕ → ℕ
withdraws_tag tag = cond (is_withdrawn tag) 1 0

-- one more can be counted
pub record Countable (c : Tally) : Type 0 where
  pub announced : c.announced + 1 < 2 ^ 64
  pub withdrawn : c.withdrawn + 1 < 2 ^ 64

-- the counts with one field more, of this tag
abbrev pub plus_tag : Tally → ℕ → Tally
plus_tag c tag = record { announced = c.announced + announces_tag tag; withdrawn = c.withdrawn + withdraws_tag tag }
