-- Worked examples, by computation: what is written where there is room, and nothing where there is not.
use mathlib.Core.Path.{◌≡◌, refl}
use mathlib.Core.List.{[], ◌∷◌}
use lib.ListN.{replicate}
use Rattle.number.specs.Number.{two_bytes, four_bytes}
use Rattle.message.specs.declared.version.Version.TheVariants.{Rfc6810, Rfc8210}
use Rattle.message.specs.Message.{pdu, pdus}
use Rattle.message.specs.Say.{spoken, of_kind}
use Rattle.delta.specs.declared.refusal.Refusal.TheVariants.{NoRoom}
use Rattle.wire.specs.declared.frame.Frame.{Frame}
use Rattle.wire.specs.Answer.{aside, refused_with, sent_at, out_at, data_plan, reset_plan, report_plan}
use Rattle.wire.specs.declared.sent.Reply.TheVariants as reply
use Rattle.std.specs.Prelude.{Ok}

-- a Cache Reset where there are nine bytes, and where there are seven
reset_written : out_at (reset_plan Rfc8210) (replicate 9 5) ≡ 1 ∷ 8 ∷ 0 ∷ 0 ∷ 0 ∷ 0 ∷ 0 ∷ 8 ∷ 5 ∷ []
unfolding two_bytes four_bytes pdu reset_plan out_at
reset_written = refl

reset_told : sent_at (reset_plan Rfc8210) 9 ≡ aside (Ok (reply.Reset 8))
unfolding two_bytes four_bytes pdu reset_plan sent_at
reset_told = refl

reset_no_room : sent_at (reset_plan Rfc8210) 7 ≡ refused_with NoRoom
unfolding two_bytes four_bytes pdu reset_plan sent_at
reset_no_room = refl

reset_unwritten : out_at (reset_plan Rfc8210) (replicate 7 5) ≡ replicate 7 5
unfolding two_bytes four_bytes pdu reset_plan out_at
reset_unwritten = refl

-- an Error Report of version 0: both version bytes are 0
report_written : out_at (report_plan Rfc6810 (record { 0 = 2 }) (record { 0 = 5 })) (replicate 28 9)
    ≡ 0 ∷ 10 ∷ 0 ∷ 0 ∷ 0 ∷ 0 ∷ 0 ∷ 28 ∷ 0 ∷ 0 ∷ 0 ∷ 12 ∷ 0 ∷ 1 ∷ 0 ∷ 2 ∷ 0 ∷ 0 ∷ 0 ∷ 12 ∷ 0 ∷ 0 ∷ 0 ∷ 5 ∷ 0 ∷ 0 ∷ 0 ∷ 0 ∷ []
unfolding two_bytes four_bytes pdu report_plan out_at
report_written = refl

-- an answer that says nothing: a Cache Response and an End of Data, of 32 bytes and of 20
abbrev frame : Frame
frame = record { session = record { 0 = 2 }; serial = record { 0 = 7 }; times = record { refresh = 1; retry = 2; expire = 600 } }

empty_told : sent_at (data_plan Rfc8210 frame []) 32
    ≡ record { session = record { 0 = 2 }; serial = record { 0 = 7 }; reply = Ok (reply.Data (record { len = 32; announced = 0; withdrawn = 0; keys = 0; aspas = 0 })) }
unfolding two_bytes four_bytes pdu pdus spoken of_kind data_plan sent_at
empty_told = refl

empty_no_room : sent_at (data_plan Rfc8210 frame []) 31 ≡ refused_with NoRoom
unfolding two_bytes four_bytes pdu pdus spoken of_kind data_plan sent_at
empty_no_room = refl

empty_older : out_at (data_plan Rfc6810 frame []) (replicate 20 9) ≡ 0 ∷ 3 ∷ 0 ∷ 2 ∷ 0 ∷ 0 ∷ 0 ∷ 8 ∷ 0 ∷ 7 ∷ 0 ∷ 2 ∷ 0 ∷ 0 ∷ 0 ∷ 12 ∷ 0 ∷ 0 ∷ 0 ∷ 7 ∷ []
unfolding two_bytes four_bytes pdu pdus spoken of_kind data_plan out_at
empty_older = refl
