-- What the check of a whole snapshot or delta finds: nothing, or the first flaw.
use Rattle.std.specs.Prelude.{ℕ, zero, suc, ◌+◌, List, [], ◌∷◌, cond, length, Result, Err, Ok}
use Rattle.order.specs.Comparison.{is_less, bytes}
use Rattle.body.specs.declared.tag.Form.{Form}
use Rattle.body.specs.Tag.{good_body, sensible, kind_of}
use Rattle.field.specs.Head.{Front, end, cut, whole, front}
use Rattle.field.specs.Key.{key_of}
use Rattle.field.specs.declared.verdict.Flaw.{Flaw}
use Rattle.field.specs.declared.verdict.Flaw.TheVariants as flaw

abbrev pub Verdict : Type 0
Verdict = Result (Unit {0}) Flaw

-- the field at `at`, behind one with the key `before`: refusal 1, then 12, then 2; else `go` judges what is behind it,
-- from its offset, its key and the rest of the bytes
unfoldable pub judge : Form → ℕ → List ℕ → Front → (ℕ → List ℕ → List ℕ → Verdict) → Verdict
judge form at before end go = Ok tt
judge form at before cut go = Err (flaw.Bad at)
judge form at before (whole tag b rest) go =
    cond (good_body form tag b)
    (cond (sensible form tag b)
    (cond (is_less (bytes before (key_of (kind_of form tag) b)))
    (go (at + 3 + length b) (key_of (kind_of form tag) b) rest)
    (Err (flaw.NotAbove at)))
    (Err (flaw.Senseless at)))
    (Err (flaw.Bad at))

-- the fields of s, of which the first stands at `at`, behind one with the key `before`; n is more than there are
unfoldable pub verdict_f : Form → ℕ → ℕ → List ℕ → List ℕ → Verdict
verdict_f form zero at before s = Ok tt
verdict_f form (suc n) at before s = judge form at before (front s) (verdict_f form n)

-- the first bad field, if there is one. Before the first field stands the kind 0, which is below each key.
unfoldable pub verdict : Form → List ℕ → Verdict
verdict form s = verdict_f form (length s + 1) 0 (0 ∷ []) s
