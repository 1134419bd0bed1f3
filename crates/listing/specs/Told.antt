-- A report of changes, with the bytes that its delta lies in.
use Rattle.std.specs.Prelude.{ℕ, ◌≤◌, ◌≡◌, length, take}
use Rattle.body.specs.declared.tag.Form.TheVariants.{Delta}
use Rattle.payload.specs.Content.{Bytes}
use Rattle.payload.specs.Limit.{limit}
use Rattle.item.specs.declared.sink.Counts.{Counts}
use Rattle.delta.specs.Answer.{counts_of}
use Rattle.listing.specs.declared.report.Report.{Report}
use Rattle.listing.specs.declared.report.Report.TheVariants.{Changed, Same, Refused, Absent}

-- these are the length and the counts of a delta that lies at the start of s
pub record Counted (counts : Counts) (s : Bytes) : Type 0 where
  pub within : counts.len ≤ length s
  pub short : counts.len ≤ limit Delta
  pub are : counts ≡ counts_of (take counts.len s)

abbrev pub len_of : Report → ℕ
len_of (Changed serial counts) = counts.len
len_of Same = 0
len_of (Refused r) = 0
len_of (Absent n) = 0

abbrev pub Tells : Report → Bytes → Type 0
Tells (Changed serial counts) s = Counted counts s
Tells Same s = Unit {0}
Tells (Refused r) s = Unit {0}
Tells (Absent n) s = Unit {0}

-- a report of changes speaks of the delta at the start of s
pub record Told (report : Report) (s : Bytes) : Type 0 where
  pub is : Tells report s
