-- Worked answers of the entry, by computation: an answer of session 2 that announces 192.0.2.0/24-26 of AS 64496, for serial 7.
use Prim.Native.Nat.{ℕ}
use mathlib.Core.Path.{◌≡◌, refl}
use mathlib.Core.List.{[], ◌∷◌, ◌++◌}
use lib.ListN.{replicate}
use Rattle.order.specs.Walk.{walk}
use Rattle.body.specs.Tag.{tag_of, kind_of, good_body, sensible}
use Rattle.body.specs.Origin.{clean, good_prefix, good_origin}
use Rattle.field.specs.Head.{front}
use Rattle.field.specs.Key.{key_of}
use Rattle.field.specs.Verdict.{verdict, verdict_f, judge}
use Rattle.field.specs.Cells.{cells, cells_f, field}
use Rattle.field.specs.Cells as run
use Rattle.payload.specs.Content.{Bytes}
use Rattle.payload.specs.Payload.{entries, encode}
use Rattle.delta.specs.declared.refusal.Refusal.TheVariants.{Bad, NoRoom, Faulty, Absent, Present}
use Rattle.message.specs.declared.version.Version.TheVariants.{Rfc8210}
use Rattle.message.specs.Record.{part_of}
use Rattle.message.specs.Read.{message_in}
use Rattle.message.specs.Read as read
use Rattle.message.specs.Hear.{hear_f, hear}
use Rattle.message.specs.Take.{take}
use Rattle.judge.specs.Answer.{judge_admitted, result_of, judge_of, judge_out}
use Rattle.std.specs.Prelude.{Err, Ok}

abbrev opening : Bytes
opening = 1 ∷ 3 ∷ 0 ∷ 2 ∷ 0 ∷ 0 ∷ 0 ∷ 8 ∷ []

abbrev prefix : ℕ → Bytes
prefix flags = 1 ∷ 4 ∷ 0 ∷ 0 ∷ 0 ∷ 0 ∷ 0 ∷ 20 ∷ flags ∷ 24 ∷ 26 ∷ 0 ∷ 192 ∷ 0 ∷ 2 ∷ 0 ∷ 0 ∷ 0 ∷ 251 ∷ 240 ∷ []

abbrev ending : Bytes
ending = 1 ∷ 7 ∷ 0 ∷ 2 ∷ 0 ∷ 0 ∷ 0 ∷ 24 ∷ 0 ∷ 0 ∷ 0 ∷ 7 ∷ 0 ∷ 0 ∷ 14 ∷ 16 ∷ 0 ∷ 0 ∷ 2 ∷ 88 ∷ 0 ∷ 0 ∷ 28 ∷ 32 ∷ []

-- the origin's field in a snapshot
abbrev origin : Bytes
origin = 1 ∷ 0 ∷ 23 ∷ 4 ∷ 192 ∷ 0 ∷ 2 ∷ 0 ∷ (replicate 12 0 ++ (24 ∷ 26 ∷ 0 ∷ 0 ∷ 251 ∷ 240 ∷ []))

-- announced where it is not held: accepted with room for 26 bytes, and not with less
taken : judge_of Rfc8210 [] (opening ++ (prefix 1 ++ ending)) 26
    ≡ Ok (record { session = record { 0 = 2 }; serial = record { 0 = 7 }; times = record { refresh = 3600; retry = 600; expire = 7200 }; counts = record { len = 26; announced = 1; withdrawn = 0 } })
unfolding verdict verdict_f judge front good_body tag_of kind_of key_of good_origin good_prefix clean sensible cells cells_f field run.cell_bytes entries encode walk part_of message_in read.front hear_f hear take judge_admitted result_of judge_of
taken = refl

no_room : judge_of Rfc8210 [] (opening ++ (prefix 1 ++ ending)) 25 ≡ Err NoRoom
unfolding verdict verdict_f judge front good_body tag_of kind_of key_of good_origin good_prefix clean sensible cells cells_f field run.cell_bytes entries encode walk part_of message_in read.front hear_f hear take judge_admitted result_of judge_of
no_room = refl

written : judge_out Rfc8210 [] (opening ++ (prefix 1 ++ ending)) (replicate 26 9 ++ (5 ∷ [])) ≡ origin ++ (5 ∷ [])
unfolding verdict verdict_f judge front good_body tag_of kind_of key_of good_origin good_prefix clean sensible cells cells_f field run.cell_bytes entries encode walk part_of message_in read.front hear_f hear take judge_admitted result_of judge_out
written = refl

-- announced twice, withdrawn where it is not held, both before the answer breaks off; no answer; a bad snapshot of ours before all
present : judge_of Rfc8210 [] (opening ++ (prefix 1 ++ (prefix 1 ++ (1 ∷ [])))) 100 ≡ Err (Present 28)
unfolding verdict verdict_f judge front good_body tag_of kind_of key_of good_origin good_prefix clean sensible cells cells_f field run.cell_bytes entries encode walk part_of message_in read.front hear_f hear take judge_admitted result_of judge_of
present = refl

absent : judge_of Rfc8210 [] (opening ++ (prefix 0 ++ (1 ∷ []))) 100 ≡ Err (Absent 8)
unfolding verdict verdict_f judge front good_body tag_of kind_of key_of good_origin good_prefix clean sensible cells cells_f field run.cell_bytes entries encode walk part_of message_in read.front hear_f hear take judge_admitted result_of judge_of
absent = refl

broken : judge_of Rfc8210 [] (opening ++ (prefix 1 ++ (1 ∷ []))) 100 ≡ Err (Faulty 28)
unfolding verdict verdict_f judge front good_body tag_of kind_of key_of good_origin good_prefix clean sensible cells cells_f field run.cell_bytes entries encode walk part_of message_in read.front hear_f hear take judge_admitted result_of judge_of
broken = refl

ours_first : judge_of Rfc8210 (9 ∷ []) [] 100 ≡ Err (Bad 1 0)
unfolding verdict verdict_f judge front good_body tag_of kind_of key_of good_origin good_prefix clean sensible cells cells_f field run.cell_bytes entries encode walk part_of message_in read.front hear_f hear take judge_admitted result_of judge_of
ours_first = refl
