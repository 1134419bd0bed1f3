-- What is heard: each message tells of a good record of an origin or a router key, announced or withdrawn.
use Prim.Native.Nat.{ℕ, zero, suc, ◌+◌}
use mathlib.Core.Path.{◌≡◌, refl}
use mathlib.Core.List.{[], ◌∷◌}
use mathlib.Core.Bool.{Bool, true, false, cond}
use native.Mathlib.Omega.{arith}
use lib.Dec.{eqb}
use lib.ListN.{length, get_or}
use Rattle.order.specs.Map.{All}
use Rattle.order.proofs.Never.{never}
use Rattle.change.specs.Change.{Change, announce, withdraw}
use Rattle.body.specs.declared.tag.Form.TheVariants.{Delta}
use Rattle.body.specs.Tag.{tag_of, good_body}
use Rattle.payload.specs.Content.{Bytes}
use Rattle.payload.specs.Valid.{ValidValue, ValidChange, IsMap, origin, router_key, valid_announce, valid_withdraw}
use Rattle.message.specs.declared.version.Version.{Version}
use Rattle.message.specs.Message.{Message, serial_notify, serial_query, cache_response, ipv4_prefix, ipv6_prefix, end_of_data, cache_reset, router_key as routerKeyMessage, error_report}
use Rattle.message.specs.Record.{Part, opening, payload, ending, misplaced, good_record, payload_of, part_of}
use Rattle.message.specs.Read.{Front, unread, read, front}
use Rattle.message.specs.Hear.{Told, hear_part, hear_front, hear_f, open_part, open_front, hear}
use Rattle.message.specs.Take.{as_item}

-- ---- records

-- an origin's key or a router key's
pub data RouterRecord : Bytes → Type 0 where
  an_origin : (k : Bytes) → RouterRecord (1 ∷ k)
  a_router_key : (k : Bytes) → RouterRecord (2 ∷ k)

-- which no ASPA's is
pub not_aspa : {k : Bytes} → RouterRecord k → ¬ (get_or k 0 0 ≡ 3)
not_aspa (an_origin k) e = omega arith
not_aspa (a_router_key k) e = omega arith

-- if it is good, it is one that a snapshot can hold
pub valid_record : {k : Bytes} → RouterRecord k → good_record k ≡ true → ValidValue k []
unfolding good_body tag_of
valid_record (an_origin k) h = origin h
valid_record (a_router_key k) h = router_key h

-- ---- messages

pub record Tells (t : Told) : Type 0 where
  pub router : RouterRecord t.key
  pub value : ValidValue t.key []
  pub flag : Bool
  pub is : t.change ≡ cond flag (announce []) (withdraw [])

-- it is a change that a delta can hold
pub tells_valid : (t : Told) → Tells t → ValidChange t.key t.change
tells_valid t h = rw h.is (go h.flag)
  where
    go : (f : Bool) → ValidChange t.key (cond f (announce []) (withdraw []))
    go true = valid_announce h.value
    go false = valid_withdraw h.value

pub tells_map : (t : Told) → Tells t → IsMap Delta (as_item t ∷ [])
tells_map t h = record { sorted = (tt, tt); valid = (tells_valid t h, tt) }

pub not_payload : {X : Type 0} {k : Bytes} {c : Change Bytes} → misplaced ≡ payload k c → X
not_payload e = never cc

module _ (at : ℕ) (k : Bytes) (c : Change Bytes) where
  abbrev told : Told
  told = record { at = at; key = k; change = c }

  tells_by : (l : Bytes) (f : Bool) → RouterRecord l → good_record l ≡ true → payload l (cond f (announce []) (withdraw [])) ≡ payload k c → Tells told
  tells_by l f r g e =
      let q : l ≡ k = cc in
      let d : c ≡ cond f (announce []) (withdraw []) = cc in
      record { router = rw (← q) r; value = rw (← q) (valid_record r g); flag = f; is = d }

  payload_tells : (flags : ℕ) (l : Bytes) → RouterRecord l → payload_of flags l ≡ payload k c → Tells told
  payload_tells flags l r = go (good_record l) refl (eqb flags 1) (eqb flags 0)
    where
      go : (g : Bool) → good_record l ≡ g → (p q : Bool) →
          cond g (cond p (payload l (announce [])) (cond q (payload l (withdraw [])) misplaced)) misplaced ≡ payload k c → Tells told
      go true g true q e = tells_by l true r g e
      go true g false true e = tells_by l false r g e
      go true g false false e = not_payload e
      go false g p q e = not_payload e

  part_tells : (m : Message) → part_of m ≡ payload k c → Tells told
  unfolding part_of
  part_tells (serial_notify session serial) e = not_payload e
  part_tells (serial_query session serial) e = not_payload e
  part_tells (cache_response session) e = never cc
  part_tells (ipv4_prefix flags p m address asn) e = payload_tells flags _ (an_origin _) e
  part_tells (ipv6_prefix flags p m address asn) e = payload_tells flags _ (an_origin _) e
  part_tells (end_of_data session serial times) e = never cc
  part_tells cache_reset e = not_payload e
  part_tells (routerKeyMessage flags identifier asn info) e = payload_tells flags _ (a_router_key _) e
  part_tells (error_report code enclosed text) e = not_payload e

-- ---- an answer

hear_tells_from : (fuel : ℕ) (v : Version) (session at : ℕ) (s : Bytes) → All Tells (hear_f fuel v session at s).told
unfolding hear_f
hear_tells_from zero v session at s = tt
hear_tells_from (suc fuel) v session at s = go (front v s) (λ n rest. hear_tells_from fuel v session (at + n) rest)
  where
    part : (m : Message) (p : Part) → part_of m ≡ p → (n : ℕ) (rest : Bytes) → All Tells (hear_f fuel v session (at + n) rest).told →
        All Tells (hear_part session at p n rest (hear_f fuel v session)).told
    part m (opening other) e n rest i = tt
    part m (payload k c) e n rest i = (part_tells at k c m e, i)
    part m (ending other serial times) e n rest i = tt
    part m misplaced e n rest i = tt

    go : (f : Front) → ((n : ℕ) (rest : Bytes) → All Tells (hear_f fuel v session (at + n) rest).told) →
        All Tells (hear_front session at f (hear_f fuel v session)).told
    go unread i = tt
    go (read m n rest) i = part m (part_of m) refl n rest (i n rest)

pub hear_tells : (v : Version) (s : Bytes) → All Tells (hear v s).told
unfolding hear
hear_tells v s = go (front v s)
  where
    part : (p : Part) (n : ℕ) (rest : Bytes) → All Tells (open_part p (λ session. hear_f (length rest + 1) v session n rest)).told
    part (opening session) n rest = hear_tells_from (length rest + 1) v session n rest
    part (payload k c) n rest = tt
    part (ending session serial times) n rest = tt
    part misplaced n rest = tt

    go : (f : Front) → All Tells (open_front v f).told
    go unread = tt
    go (read m n rest) = part (part_of m) n rest
