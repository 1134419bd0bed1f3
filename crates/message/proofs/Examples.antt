-- Worked examples, by computation.
use Prim.Native.Nat.{ℕ}
use mathlib.Core.Path.{◌≡◌, refl}
use mathlib.Core.List.{[], ◌∷◌, ◌++◌}
use lib.ListN.{replicate}
use Rattle.order.specs.Map.{Item}
use Rattle.order.specs.Walk.{walk}
use Rattle.change.specs.Change.{Change, announce, withdraw}
use Rattle.change.specs.Difference.{Delta}
use Rattle.serial.specs.declared.timing.Timing.{Timing}
use Rattle.number.specs.Number.{two_bytes, four_bytes}
use Rattle.body.specs.Tag.{tag_of, good_body}
use Rattle.body.specs.Origin.{clean, good_prefix, good_origin}
use Rattle.body.specs.RouterKey.{good_router_key}
use Rattle.payload.specs.Content.{Bytes}
use Rattle.message.specs.declared.version.Version.TheVariants.{Rfc6810, Rfc8210}
use Rattle.message.specs.Message.{serial_notify, serial_query, cache_response, ipv4_prefix, end_of_data, cache_reset, error_report, pdu, pdus}
use Rattle.message.specs.Record.{message_of, part_of}
use Rattle.message.specs.Say.{spoken, of_kind, skipped, said, answer}
use Rattle.message.specs.Read.{message_in, front}
use Rattle.message.specs.Hear.{Told, faulty, ended, hear_f, hear}
use Rattle.message.specs.Take.{all, misfit, take}

-- 192.0.2.0/24-26 of AS 64496, 2001:db8::/32-48 of AS 64497, a router key without key info, an ASPA
abbrev v4 : Bytes
v4 = 1 ∷ 4 ∷ 192 ∷ 0 ∷ 2 ∷ 0 ∷ (replicate 12 0 ++ (24 ∷ 26 ∷ 0 ∷ 0 ∷ 251 ∷ 240 ∷ []))

abbrev v6 : Bytes
v6 = 1 ∷ 6 ∷ 0x20 ∷ 0x01 ∷ 0x0d ∷ 0xb8 ∷ (replicate 12 0 ++ (32 ∷ 48 ∷ 0 ∷ 0 ∷ 251 ∷ 241 ∷ []))

abbrev key : Bytes
key = 2 ∷ (replicate 20 7 ++ (0 ∷ 0 ∷ 251 ∷ 242 ∷ []))

abbrev customer : Bytes
customer = 3 ∷ 0 ∷ 0 ∷ 251 ∷ 243 ∷ []

abbrev new : Bytes → Item Bytes (Change Bytes)
new k = record { key = k; val = announce [] }

abbrev gone : Bytes → Item Bytes (Change Bytes)
gone k = record { key = k; val = withdraw [] }

abbrev delta : Delta Bytes Bytes
delta = new v4 ∷ gone v6 ∷ new key ∷ record { key = customer; val = announce (0 ∷ 0 ∷ 0 ∷ 1 ∷ []) } ∷ []

abbrev times : Timing
times = record { refresh = 3600; retry = 600; expire = 7200 }

-- ---- the bytes of each message

notify_bytes : pdu Rfc8210 (serial_notify 0x1234 0x89abcdef) ≡ 1 ∷ 0 ∷ 0x12 ∷ 0x34 ∷ 0 ∷ 0 ∷ 0 ∷ 12 ∷ 0x89 ∷ 0xab ∷ 0xcd ∷ 0xef ∷ []
unfolding two_bytes four_bytes pdu
notify_bytes = refl

response_bytes : pdu Rfc8210 (cache_response 0x1234) ≡ 1 ∷ 3 ∷ 0x12 ∷ 0x34 ∷ 0 ∷ 0 ∷ 0 ∷ 8 ∷ []
unfolding two_bytes four_bytes pdu
response_bytes = refl

v4_bytes : pdu Rfc8210 (message_of 1 v4) ≡ 1 ∷ 4 ∷ 0 ∷ 0 ∷ 0 ∷ 0 ∷ 0 ∷ 20 ∷ 1 ∷ 24 ∷ 26 ∷ 0 ∷ 192 ∷ 0 ∷ 2 ∷ 0 ∷ 0 ∷ 0 ∷ 251 ∷ 240 ∷ []
unfolding two_bytes four_bytes message_of pdu
v4_bytes = refl

v6_bytes : pdu Rfc8210 (message_of 0 v6)
    ≡ 1 ∷ 6 ∷ 0 ∷ 0 ∷ 0 ∷ 0 ∷ 0 ∷ 32 ∷ 0 ∷ 32 ∷ 48 ∷ 0 ∷ 0x20 ∷ 0x01 ∷ 0x0d ∷ 0xb8 ∷ (replicate 12 0 ++ (0 ∷ 0 ∷ 251 ∷ 241 ∷ []))
unfolding two_bytes four_bytes message_of pdu
v6_bytes = refl

key_bytes : pdu Rfc8210 (message_of 1 key) ≡ 1 ∷ 9 ∷ 1 ∷ 0 ∷ 0 ∷ 0 ∷ 0 ∷ 32 ∷ (replicate 20 7 ++ (0 ∷ 0 ∷ 251 ∷ 242 ∷ []))
unfolding two_bytes four_bytes message_of pdu
key_bytes = refl

end_bytes : pdu Rfc8210 (end_of_data 0x1234 7 times)
    ≡ 1 ∷ 7 ∷ 0x12 ∷ 0x34 ∷ 0 ∷ 0 ∷ 0 ∷ 24 ∷ 0 ∷ 0 ∷ 0 ∷ 7 ∷ 0 ∷ 0 ∷ 14 ∷ 16 ∷ 0 ∷ 0 ∷ 2 ∷ 88 ∷ 0 ∷ 0 ∷ 28 ∷ 32 ∷ []
unfolding two_bytes four_bytes pdu
end_bytes = refl

reset_bytes : pdu Rfc8210 cache_reset ≡ 1 ∷ 8 ∷ 0 ∷ 0 ∷ 0 ∷ 0 ∷ 0 ∷ 8 ∷ []
unfolding two_bytes four_bytes pdu
reset_bytes = refl

error_bytes : pdu Rfc8210 (error_report 0 (pdu Rfc8210 (serial_query 2 5)) [])
    ≡ 1 ∷ 10 ∷ 0 ∷ 0 ∷ 0 ∷ 0 ∷ 0 ∷ 28 ∷ 0 ∷ 0 ∷ 0 ∷ 12 ∷ 1 ∷ 1 ∷ 0 ∷ 2 ∷ 0 ∷ 0 ∷ 0 ∷ 12 ∷ 0 ∷ 0 ∷ 0 ∷ 5 ∷ 0 ∷ 0 ∷ 0 ∷ 0 ∷ []
unfolding two_bytes four_bytes pdu
error_bytes = refl

-- ---- a delta: its ASPA is left out

delta_said : said Rfc8210 delta ≡ message_of 1 v4 ∷ message_of 0 v6 ∷ message_of 1 key ∷ []
unfolding spoken
delta_said = refl

delta_skipped : skipped Rfc8210 3 delta ≡ 1
unfolding of_kind
delta_skipped = refl

-- ---- what is heard in its answer: the three records, where their messages start, and the end

abbrev tells_v4 : Told
tells_v4 = record { at = 8; key = v4; change = announce [] }

abbrev tells_v6 : Told
tells_v6 = record { at = 28; key = v6; change = withdraw [] }

abbrev tells_key : Told
tells_key = record { at = 60; key = key; change = announce [] }

delta_heard : hear Rfc8210 (pdus Rfc8210 (answer Rfc8210 2 7 times delta)) ≡ record { told = tells_v4 ∷ tells_v6 ∷ tells_key ∷ []; stop = ended 2 7 times }
unfolding two_bytes four_bytes tag_of good_body clean good_prefix good_origin good_router_key message_of part_of pdu pdus spoken message_in front hear_f hear
delta_heard = refl

-- an End of Data of another session; a byte behind it; a Cache Response alone; nothing
abbrev opened : Bytes → Bytes
opened rest = pdu Rfc8210 (cache_response 2) ++ rest

other_session : hear Rfc8210 (opened (pdu Rfc8210 (end_of_data 3 7 times))) ≡ record { told = []; stop = faulty 8 }
unfolding two_bytes four_bytes part_of pdu message_in front hear_f hear
other_session = refl

byte_behind : hear Rfc8210 (opened (pdu Rfc8210 (end_of_data 2 7 times) ++ (0 ∷ []))) ≡ record { told = []; stop = faulty 32 }
unfolding two_bytes four_bytes part_of pdu message_in front hear_f hear
byte_behind = refl

no_end : hear Rfc8210 (opened []) ≡ record { told = []; stop = faulty 8 }
unfolding two_bytes four_bytes part_of pdu message_in front hear_f hear
no_end = refl

nothing : hear Rfc8210 [] ≡ record { told = []; stop = faulty 0 }
unfolding message_in front hear
nothing = refl

-- flags 2, a maximum below the prefix length, a second Cache Response, a message of version 0
flags_two : hear Rfc8210 (opened (pdu Rfc8210 (message_of 2 v4))) ≡ record { told = []; stop = faulty 8 }
unfolding two_bytes four_bytes tag_of good_body clean good_prefix good_origin message_of part_of pdu message_in front hear_f hear
flags_two = refl

low_maximum : hear Rfc8210 (opened (pdu Rfc8210 (ipv4_prefix 1 24 23 (192 ∷ 0 ∷ 2 ∷ 0 ∷ []) (0 ∷ 0 ∷ 0 ∷ 1 ∷ [])))) ≡ record { told = []; stop = faulty 8 }
unfolding two_bytes four_bytes tag_of good_body clean good_prefix good_origin part_of pdu message_in front hear_f hear
low_maximum = refl

second_response : hear Rfc8210 (opened (opened [])) ≡ record { told = []; stop = faulty 8 }
unfolding two_bytes four_bytes part_of pdu message_in front hear_f hear
second_response = refl

version_zero : hear Rfc8210 (0 ∷ 3 ∷ 0 ∷ 2 ∷ 0 ∷ 0 ∷ 0 ∷ 8 ∷ []) ≡ record { told = []; stop = faulty 0 }
unfolding message_in front hear
version_zero = refl

-- ---- RFC 6810: an End of Data of 12 bytes, a prefix, and a delta whose router key and ASPA are both left out

end_bytes_0 : pdu Rfc6810 (end_of_data 0x1234 7 times) ≡ 0 ∷ 7 ∷ 0x12 ∷ 0x34 ∷ 0 ∷ 0 ∷ 0 ∷ 12 ∷ 0 ∷ 0 ∷ 0 ∷ 7 ∷ []
unfolding two_bytes four_bytes pdu
end_bytes_0 = refl

v4_bytes_0 : pdu Rfc6810 (message_of 1 v4) ≡ 0 ∷ 4 ∷ 0 ∷ 0 ∷ 0 ∷ 0 ∷ 0 ∷ 20 ∷ 1 ∷ 24 ∷ 26 ∷ 0 ∷ 192 ∷ 0 ∷ 2 ∷ 0 ∷ 0 ∷ 0 ∷ 251 ∷ 240 ∷ []
unfolding two_bytes four_bytes message_of pdu
v4_bytes_0 = refl

delta_said_0 : said Rfc6810 delta ≡ message_of 1 v4 ∷ message_of 0 v6 ∷ []
unfolding spoken
delta_said_0 = refl

keys_skipped_0 : skipped Rfc6810 2 delta ≡ 1
unfolding of_kind
keys_skipped_0 = refl

aspas_skipped_0 : skipped Rfc6810 3 delta ≡ 1
unfolding of_kind
aspas_skipped_0 = refl

delta_heard_0 : hear Rfc6810 (pdus Rfc6810 (answer Rfc6810 2 7 times delta))
    ≡ record { told = tells_v4 ∷ tells_v6 ∷ []; stop = ended 2 7 (record { refresh = 0; retry = 0; expire = 0 }) }
unfolding two_bytes four_bytes tag_of good_body clean good_prefix good_origin good_router_key message_of part_of pdu pdus spoken message_in front hear_f hear
delta_heard_0 = refl

-- a router key's message; an End of Data of 24 bytes; a message and a Cache Response of version 1
abbrev opened_0 : Bytes → Bytes
opened_0 rest = pdu Rfc6810 (cache_response 2) ++ rest

key_refused_0 : hear Rfc6810 (opened_0 (pdu Rfc6810 (message_of 1 key))) ≡ record { told = []; stop = faulty 8 }
unfolding two_bytes four_bytes message_of part_of pdu message_in front hear_f hear
key_refused_0 = refl

long_end_0 : hear Rfc6810 (opened_0 (0 ∷ 7 ∷ 0 ∷ 2 ∷ 0 ∷ 0 ∷ 0 ∷ 24 ∷ 0 ∷ 0 ∷ 0 ∷ 7 ∷ replicate 12 0)) ≡ record { told = []; stop = faulty 8 }
unfolding two_bytes four_bytes part_of pdu message_in front hear_f hear
long_end_0 = refl

mixed_0 : hear Rfc6810 (opened_0 (pdu Rfc8210 (message_of 1 v4))) ≡ record { told = []; stop = faulty 8 }
unfolding two_bytes four_bytes message_of part_of pdu message_in front hear_f hear
mixed_0 = refl

version_one_0 : hear Rfc6810 (opened []) ≡ record { told = []; stop = faulty 0 }
unfolding two_bytes four_bytes pdu message_in front hear
version_one_0 = refl

-- ---- taken one after another: announced and withdrawn again, announced twice, withdrawn though absent

abbrev tells : ℕ → Change Bytes → Told
tells at c = record { at = at; key = v4; change = c }

back_again : take [] (tells 8 (announce []) ∷ tells 28 (withdraw []) ∷ []) ≡ all []
unfolding walk take
back_again = refl

twice : take [] (tells 8 (announce []) ∷ tells 28 (announce []) ∷ []) ≡ misfit (tells 28 (announce []))
unfolding walk take
twice = refl

absent : take [] (tells 8 (withdraw []) ∷ []) ≡ misfit (tells 8 (withdraw []))
unfolding walk take
absent = refl
