-- What the judge of messages hands back.
use Rattle.serial.specs.Serial.{zero_session}
use Rattle.host.specs.declared.judged.Judged.{Judged}
use Rattle.host.specs.Flat.{refused, wrote}
use Rattle.judge.specs.declared.judge.Accepted.{Accepted}
use Rattle.delta.specs.declared.refusal.Refusal.{Refusal}
use Rattle.std.specs.Prelude.{Err, Ok, Result}

-- 1 accepted, with the serial, the session and the times of the End of Data; of a refusal these are 0
abbrev pub flat_judged : Result Accepted Refusal → Judged
flat_judged (Ok a) = record { answer = wrote 1 a.serial a.counts; session = a.session; timing = a.times }
flat_judged (Err r) = record { answer = refused r; session = zero_session; timing = record { refresh = 0; retry = 0; expire = 0 } }
