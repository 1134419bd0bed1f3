-- How far a check has come.
use Rattle.std.specs.Prelude.{ℕ, ◌+◌, ◌-◌, ◌<◌, ◌≤◌, ◌≡◌, List, Bool, true, false, cond, length, drop}
use Rattle.number.specs.Bytes.{part}
use Rattle.body.specs.declared.tag.Form.{Form}
use Rattle.body.specs.Tag.{kind_of, good_body, sensible}
use Rattle.body.specs.Sound.{sound}
use Rattle.field.specs.declared.key.Key.{Key}
use Rattle.field.specs.declared.head.Field.TheVariants.{Whole}
use Rattle.field.specs.Places.{key_in, key_place}
use Rattle.field.specs.Head.{field_at}
use Rattle.field.specs.Verdict.{verdict_f, verdict}
use Rattle.verdict.specs.declared.pass.Stand.{Stand}
use Rattle.field.specs.declared.verdict.Flaw.TheVariants as flaw
use Rattle.field.specs.declared.verdict.Flaw.{Flaw}

-- what the check has found at `at`, behind the key k: the rest decides
pub record Judged (form : Form) (s : List ℕ) (at : ℕ) (k : Key) : Type 0 where
  pub fuel : ℕ
  pub enough : length s - at < fuel
  pub within : at ≤ length s
  pub rest : verdict_f form fuel at (key_in s k) (drop at s) ≡ verdict form s

-- behind a field of this kind, with the body from `from` up to `to`
abbrev pub stand_behind : ℕ → ℕ → ℕ → Stand
stand_behind kind from to = record { at = to; before = key_place kind from to }

-- the refusal of the field at `at`, whose body is not both good and sensible, by whether it is good
abbrev pub refused_at : Bool → ℕ → Flaw
refused_at good at = cond good (flaw.Senseless at) (flaw.Bad at)

-- v is the refusal of the field at `at` with this tag and body, unless it is sound
pub record Refuses (form : Form) (tag : ℕ) (b : List ℕ) (at : ℕ) (v : Flaw) : Type 0 where
  pub is : sound form tag b ≡ false → v ≡ refused_at (good_body form tag b) at

-- at `at` stands a good field of this kind that makes sense, and it ends at `to`
pub record GoodField (form : Form) (kind : ℕ) (s : List ℕ) (at to : ℕ) : Type 0 where
  pub tag : ℕ
  pub reads : Whole tag (at + 3) to ≡ field_at s at
  pub kinds : kind ≡ kind_of form tag
  pub good : good_body form tag (part s (at + 3) to) ≡ true
  pub sense : sensible form tag (part s (at + 3) to) ≡ true

-- so it is, if `to` is past `at`
pub record Reaches (form : Form) (kind : ℕ) (s : List ℕ) (at to : ℕ) : Type 0 where
  pub holds : at < to → GoodField form kind s at to

-- the check has come further
pub record Further (form : Form) (s : List ℕ) (from : ℕ) (r : Stand) : Type 0 where
  pub on : from ≤ r.at
  pub judged : Judged form s r.at r.before
