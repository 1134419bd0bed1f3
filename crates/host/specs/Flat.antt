-- The numbers that the C interface hands back for each answer.
use Rattle.delta.specs.Answer.{Constructed, Merged}
use Rattle.std.specs.Prelude.{ℕ, Err, Ok, Result, None, Option, Some}
use Rattle.serial.specs.declared.Serial.{Serial}
use Rattle.serial.specs.Serial.{zero_serial}
use Rattle.delta.specs.declared.refusal.Refusal.{Refusal}
use Rattle.item.specs.declared.sink.Counts.{Counts}
use Rattle.delta.specs.Refusal.{number_of, argument_of, offset_of}
use Rattle.host.specs.declared.answer.Answer.{Answer}

-- kind 0: document 01's number, argument and offset; every other number 0
abbrev pub refused : Refusal → Answer
refused r = record {
  kind = 0;
  number = number_of r;
  argument = argument_of r;
  serial = zero_serial;
  offset = offset_of r;
  length = 0;
  announced = 0;
  withdrawn = 0;
}

-- a kind of its own, a serial, and what was written
abbrev pub wrote : ℕ → Serial → Counts → Answer
wrote kind serial c = record {
  kind = kind;
  number = 0;
  argument = 0;
  serial = serial;
  offset = 0;
  length = c.len;
  announced = c.announced;
  withdrawn = c.withdrawn;
}

abbrev pub of_length : ℕ → Counts
of_length len = record { len = len; announced = 0; withdrawn = 0 }

-- 1 a delta, 2 no change
abbrev pub flat_constructed : Constructed → Answer
flat_constructed (Ok (Some (serial, c))) = wrote 1 serial c
flat_constructed (Ok None) = wrote 2 zero_serial (of_length 0)
flat_constructed (Err r) = refused r

-- 1 a delta
abbrev pub flat_merged : Merged → Answer
flat_merged (Ok (serial, c)) = wrote 1 serial c
flat_merged (Err r) = refused r

-- 1 a snapshot, by its length
abbrev pub flat_applied : Result ℕ Refusal → Answer
flat_applied (Ok len) = wrote 1 zero_serial (of_length len)
flat_applied (Err r) = refused r
