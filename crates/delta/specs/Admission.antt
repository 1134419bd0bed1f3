-- Which inputs are read: refusal 10 over all arguments, then 1, 12 and 2, the first argument first.
use Rattle.std.specs.Prelude.{ℕ, cond, leb, length, Result, Err, Ok}
use Rattle.body.specs.declared.tag.Form.{Form}
use Rattle.field.specs.Verdict.{verdict}
use Rattle.payload.specs.Content.{Bytes}
use Rattle.payload.specs.Limit.{limit}
use Rattle.delta.specs.declared.refusal.Refusal.{Refusal}
use Rattle.delta.specs.declared.refusal.Refusal.TheVariants.{Bad, NotAbove, TooLong, Senseless}
use Rattle.field.specs.declared.verdict.Flaw.TheVariants as flaw
use Rattle.field.specs.Verdict.{Verdict}

-- nothing, or the refusal that comes first
abbrev pub Admitted : Type 0
Admitted = Result (Unit {0}) Refusal

-- the check's verdict as a refusal of an argument
abbrev pub verdict_admitted : ℕ → Verdict → Admitted
verdict_admitted argument (Ok tt) = Ok tt
verdict_admitted argument (Err (flaw.Bad at)) = Err (Bad argument at)
verdict_admitted argument (Err (flaw.Senseless at)) = Err (Senseless argument at)
verdict_admitted argument (Err (flaw.NotAbove at)) = Err (NotAbove argument at)

abbrev pub judged_of : Form → Bytes → ℕ → Admitted
judged_of form s argument = verdict_admitted argument (verdict form s)

-- the first refusal, or what comes next
abbrev pub and_then : Admitted → Admitted → Admitted
and_then (Ok tt) next = next
and_then (Err r) next = Err r

abbrev pub limit_admitted : Form → Bytes → ℕ → Admitted
limit_admitted form s argument = cond (leb (length s) (limit form)) (Ok tt) (Err (TooLong argument))

-- a lone input
abbrev pub admit_one_of : Form → Bytes → Admitted
admit_one_of form s = and_then (limit_admitted form s 1) (judged_of form s 1)

-- a pair of inputs
abbrev pub admit_of : Form → Bytes → Form → Bytes → Admitted
admit_of first a second b = and_then (limit_admitted first a 1) (and_then (limit_admitted second b 2) (and_then (judged_of first a 1) (judged_of second b 2)))
