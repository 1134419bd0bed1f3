-- What the calls that write messages hand back.
use Rattle.std.specs.Prelude.{ℕ, Err, Ok, Result}
use Rattle.serial.specs.declared.Serial.{Serial}
use Rattle.serial.specs.Serial.{zero_serial}
use Rattle.wire.specs.declared.sent.Sent as wire
use Rattle.host.specs.declared.answer.Answer.{Answer}
use Rattle.host.specs.declared.sent.Sent.{Sent}
use Rattle.host.specs.Flat.{refused, wrote}
use Rattle.wire.specs.declared.sent.Reply.TheVariants as reply
use Rattle.wire.specs.declared.sent.Reply.{Reply}
use Rattle.delta.specs.declared.refusal.Refusal.{Refusal}

-- a message in place of data: its kind, the refusal's number, and its length; every other number 0
abbrev pub instead_of : ℕ → ℕ → ℕ → Answer
instead_of kind number len = record {
  kind = kind;
  number = number;
  argument = 0;
  serial = zero_serial;
  offset = 0;
  length = len;
  announced = 0;
  withdrawn = 0;
}

-- 1 data, with the newest serial and its counts of messages; 2 a Cache Reset, for refusal 6; 3 an Error Report, for refusal 5
abbrev pub flat_reply : Result Reply Refusal → Serial → Answer
flat_reply (Err r) serial = refused r
flat_reply (Ok (reply.Data t)) serial = wrote 1 serial (record { len = t.len; announced = t.announced; withdrawn = t.withdrawn })
flat_reply (Ok (reply.Reset len)) serial = instead_of 2 6 len
flat_reply (Ok (reply.Report len)) serial = instead_of 3 5 len

-- the items of data that there is no message for
abbrev pub keys_skipped : Result Reply Refusal → ℕ
keys_skipped (Err r) = 0
keys_skipped (Ok (reply.Data t)) = t.keys
keys_skipped (Ok (reply.Reset len)) = 0
keys_skipped (Ok (reply.Report len)) = 0

abbrev pub aspas_skipped : Result Reply Refusal → ℕ
aspas_skipped (Err r) = 0
aspas_skipped (Ok (reply.Data t)) = t.aspas
aspas_skipped (Ok (reply.Reset len)) = 0
aspas_skipped (Ok (reply.Report len)) = 0

abbrev pub flat_sent : wire.Sent → Sent
flat_sent s = record {
  answer = flat_reply s.reply s.serial;
  session = s.session;
  keys = keys_skipped s.reply;
  aspas = aspas_skipped s.reply;
}
