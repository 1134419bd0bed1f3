-- Worked examples, by computation: 192.0.2.0/24-26 of AS 64496 announced and withdrawn again, between the two 2001:db8::/32-48 of AS 64497 withdrawn.
use Prim.Native.Nat.{ℕ}
use mathlib.Core.Path.{◌≡◌, refl}
use mathlib.Core.List.{List, [], ◌∷◌, ◌++◌, map}
use mathlib.Core.Option.{none, some}
use lib.ListN.{replicate}
use Rattle.order.specs.Map.{Item}
use Rattle.order.specs.Walk.{walk}
use Rattle.change.specs.Change.{Change, withdraw}
use Rattle.change.specs.Difference as change
use Rattle.payload.specs.Content.{Bytes}
use Rattle.message.specs.declared.version.Version.TheVariants.{Rfc8210}
use Rattle.message.specs.Take.{all, misfit, take}
use Rattle.heard.specs.Place.{key_at, told_at, precedes}
use Rattle.sorting.specs.Sorted.{insert, sorted}
use Rattle.judge.specs.Walk.{follows, least_fault, settle, settled}
use Rattle.judge.specs.Promise.{last_word, unspoken}

abbrev ipv4 : Bytes
ipv4 = 1 ∷ 4 ∷ 192 ∷ 0 ∷ 2 ∷ 0 ∷ (replicate 12 0 ++ (24 ∷ 26 ∷ 0 ∷ 0 ∷ 251 ∷ 240 ∷ []))

abbrev ipv6 : Bytes
ipv6 = 1 ∷ 6 ∷ 0x20 ∷ 0x01 ∷ 0x0d ∷ 0xb8 ∷ (replicate 12 0 ++ (32 ∷ 48 ∷ 0 ∷ 0 ∷ 251 ∷ 241 ∷ []))

abbrev customer : Bytes
customer = 3 ∷ 0 ∷ 0 ∷ 251 ∷ 243 ∷ []

abbrev ipv4_message : ℕ → Bytes
ipv4_message flags = 1 ∷ 4 ∷ 0 ∷ 0 ∷ 0 ∷ 0 ∷ 0 ∷ 20 ∷ flags ∷ 24 ∷ 26 ∷ 0 ∷ 192 ∷ 0 ∷ 2 ∷ 0 ∷ 0 ∷ 0 ∷ 251 ∷ 240 ∷ []

abbrev ipv6_message : ℕ → Bytes
ipv6_message flags = 1 ∷ 6 ∷ 0 ∷ 0 ∷ 0 ∷ 0 ∷ 0 ∷ 32 ∷ flags ∷ 32 ∷ 48 ∷ 0 ∷ 0x20 ∷ 0x01 ∷ 0x0d ∷ 0xb8 ∷ (replicate 12 0 ++ (0 ∷ 0 ∷ 251 ∷ 241 ∷ []))

-- a Cache Response, then messages at 8, 28 and 60, up to 80
abbrev s : Bytes
s = 1 ∷ 3 ∷ 0 ∷ 2 ∷ 0 ∷ 0 ∷ 0 ∷ 8 ∷ (ipv4_message 1 ++ (ipv6_message 0 ++ ipv4_message 0))

abbrev xs : List ℕ
xs = 8 ∷ 28 ∷ 60 ∷ []

abbrev held : change.Snapshot Bytes Bytes
held = record { key = ipv6; val = [] } ∷ []

abbrev gone : Bytes → Item Bytes (Change Bytes)
gone k = record { key = k; val = withdraw [] }

-- both messages of the first record before that of the second
in_order : sorted s xs ≡ 8 ∷ 60 ∷ 28 ∷ []
unfolding key_at precedes insert sorted
in_order = refl

-- where the second is held nothing is at fault, and both are gone; else its withdrawal is
no_fault : least_fault held s 0 80 (8 ∷ 60 ∷ 28 ∷ []) ≡ 80
unfolding key_at follows least_fault
no_fault = refl

a_fault : least_fault [] s 0 80 (8 ∷ 60 ∷ 28 ∷ []) ≡ 28
unfolding key_at follows least_fault
a_fault = refl

both_gone : settled s (8 ∷ 60 ∷ 28 ∷ []) ≡ gone ipv4 ∷ gone ipv6 ∷ []
unfolding key_at follows settle settled
both_gone = refl

-- as the fold says
all_taken : take held (map (told_at s) xs) ≡ all []
unfolding walk key_at take
all_taken = refl

one_misfit : take [] (map (told_at s) xs) ≡ misfit (record { at = 28; key = ipv6; change = withdraw [] })
unfolding walk key_at take
one_misfit = refl

-- the last word, and no word
withdrawn_last : last_word ipv4 (map (told_at s) xs) ≡ some (withdraw [])
unfolding key_at
withdrawn_last = refl

no_word : last_word customer (map (told_at s) xs) ≡ none
unfolding key_at
no_word = refl

-- of an origin and an ASPA, the version does not speak of the ASPA
abbrev aspa : Item Bytes Bytes
aspa = record { key = customer; val = 0 ∷ 0 ∷ 0 ∷ 1 ∷ [] }

aspa_unspoken : unspoken Rfc8210 (record { key = ipv4; val = [] } ∷ aspa ∷ []) ≡ aspa ∷ []
unfolding unspoken
aspa_unspoken = refl
