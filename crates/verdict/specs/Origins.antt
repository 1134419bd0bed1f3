-- The field of an origin, judged by its words.
use Rattle.std.specs.Prelude.{ℕ, ◌+◌, ◌-◌, ◌*◌, ◌/◌, ◌%◌, ◌≤◌, ◌≡◌, Bool, true, cond, ◌&&◌, ◌||◌, leb, eqb, length, List}
use Rattle.number.specs.Number.{word_at}
use Rattle.order.specs.Comparison.{or_else, number, is_less}
use Rattle.body.specs.declared.tag.Form.{Form}
use Rattle.body.specs.declared.tag.Form.TheVariants.{Snapshot, Delta}
use Rattle.body.specs.Halves.{clean_halves}
use Rattle.field.specs.declared.words.Words.{Words}
use Rattle.verdict.specs.declared.origins.Heads.{Heads}

-- the heads of the origins of a snapshot or of a delta: a tag of kind 1, and the length 23
abbrev pub heads_of : Form → Heads
heads_of Snapshot = record { one = 0x010017; other = 0x010017 }
heads_of Delta = record { one = 0x110017; other = 0x120017 }

-- the first word starts with one of the heads
unfoldable pub has_head : Heads → ℕ → Bool
has_head heads first = eqb (first / 1_099_511_627_776) heads.one || eqb (first / 1_099_511_627_776) heads.other

-- and with this family behind it
unfoldable pub has_start : Heads → ℕ → ℕ → Bool
has_start heads family first = eqb (first / 4_294_967_296) (heads.one * 256 + family) || eqb (first / 4_294_967_296) (heads.other * 256 + family)

-- what lies in the words
abbrev pub family_in : Words → ℕ
family_in w = w.first / 4_294_967_296 % 256

abbrev pub prefix_in : Words → ℕ
prefix_in w = w.third / 16_777_216 % 256

abbrev pub maximum_in : Words → ℕ
maximum_in w = w.third / 65_536 % 256

abbrev pub high_in : Words → ℕ
high_in w = w.first % 4_294_967_296 * 4_294_967_296 + w.second / 4_294_967_296

abbrev pub low_in : Words → ℕ
low_in w = w.second % 4_294_967_296 * 4_294_967_296 + w.third / 4_294_967_296

-- lengths and address, with the longest prefix of a family
unfoldable pub good_lengths : ℕ → Words → Bool
good_lengths bound w =
    leb (prefix_in w) (maximum_in w) && leb (maximum_in w) bound && clean_halves (prefix_in w) (high_in w) (low_in w)

-- the body is an origin's
unfoldable pub good_words : Words → Bool
good_words w = cond (eqb (family_in w) 4) (good_lengths 32 w) (eqb (family_in w) 6 && good_lengths 128 w)

-- one body stands below another: of the first word the five bytes behind the head
unfoldable pub below_words : Words → Words → Bool
below_words p q =
    is_less
    (or_else (number (p.first % 1_099_511_627_776) (q.first % 1_099_511_627_776))
    (or_else (number p.second q.second)
    (or_else (number p.third q.third)
    (number p.last q.last))))

-- the field is a good origin's
pub record GoodField (form : Form) (field : Words) : Type 0 where
  pub head : has_head (heads_of form) field.first ≡ true
  pub good : good_words field ≡ true

-- and above the one before it
pub record NextWords (form : Form) (before field : Words) : Type 0 where
  pub head : has_head (heads_of form) field.first ≡ true
  pub good : good_words field ≡ true
  pub above : below_words before field ≡ true

-- the first three words of the field at `at`
abbrev pub three_at : List ℕ → ℕ → Words
three_at s at = record { first = word_at s at; second = word_at s (at + 8); third = word_at s (at + 16); last = 0 }

-- those of the field at `at` and of the one before it, each of 26 bytes
pub record Neighbours (s : List ℕ) (at : ℕ) (before field : Words) : Type 0 where
  pub behind : before ≡ three_at s (at - 26)
  pub here : field ≡ three_at s at
  pub low : 26 ≤ at
  pub room : at + 26 ≤ length s
