-- Document 01's number, argument and offset for each refusal.
use Rattle.std.specs.Prelude.{ℕ}
use Rattle.delta.specs.declared.refusal.Refusal.{Refusal}
use Rattle.delta.specs.declared.refusal.Refusal.TheVariants.{Bad, NotAbove, CannotApply, NoRoom, OtherSession, NotServed, IllFormed, BadKeep, StoreFull, TooLong, BadList, Senseless, Faulty, Absent, Present}

abbrev pub number_of : Refusal → ℕ
number_of (Bad argument at) = 1
number_of (NotAbove argument at) = 2
number_of (CannotApply at) = 3
number_of NoRoom = 4
number_of OtherSession = 5
number_of NotServed = 6
number_of IllFormed = 7
number_of BadKeep = 8
number_of StoreFull = 9
number_of (TooLong argument) = 10
number_of BadList = 11
number_of (Senseless argument at) = 12
number_of (Faulty at) = 13
number_of (Absent at) = 14
number_of (Present at) = 15

-- 1 or 2 for numbers 1, 2, 3, 10 and 12, where a delta that cannot be applied is the second; 2 for 13, 14 and 15, the messages; else 0
abbrev pub argument_of : Refusal → ℕ
argument_of (Bad argument at) = argument
argument_of (NotAbove argument at) = argument
argument_of (CannotApply at) = 2
argument_of NoRoom = 0
argument_of OtherSession = 0
argument_of NotServed = 0
argument_of IllFormed = 0
argument_of BadKeep = 0
argument_of StoreFull = 0
argument_of (TooLong argument) = argument
argument_of BadList = 0
argument_of (Senseless argument at) = argument
argument_of (Faulty at) = 2
argument_of (Absent at) = 2
argument_of (Present at) = 2

-- for 1, 2, 3 and 12 the start of the field; for 13, 14 and 15 that of the message; else 0
abbrev pub offset_of : Refusal → ℕ
offset_of (Bad argument at) = at
offset_of (NotAbove argument at) = at
offset_of (CannotApply at) = at
offset_of NoRoom = 0
offset_of OtherSession = 0
offset_of NotServed = 0
offset_of IllFormed = 0
offset_of BadKeep = 0
offset_of StoreFull = 0
offset_of (TooLong argument) = 0
offset_of BadList = 0
offset_of (Senseless argument at) = at
offset_of (Faulty at) = at
offset_of (Absent at) = at
offset_of (Present at) = at

-- the three together
pub record Values : Type 0 where
  pub number : ℕ
  pub argument : ℕ
  pub offset : ℕ

abbrev pub values_of : Refusal → Values
values_of r = record { number = number_of r; argument = argument_of r; offset = offset_of r }
