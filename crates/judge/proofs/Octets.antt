-- What is heard of bytes is of bytes, and so is the snapshot that messages leave.
use Prim.Native.Nat.{ℕ, zero, suc, ◌+◌, ◌-◌, ◌/◌, ◌%◌, ◌<◌}
use mathlib.Core.Path.{◌≡◌, refl, sym, ap, subst}
use mathlib.Core.List.{List, [], ◌∷◌, ◌++◌, append-nil}
use mathlib.Core.Option.{Option, none, some}
use mathlib.Core.Bool.{Bool, true, false, cond, ◌&&◌}
use native.Mathlib.Omega.{arith}
use lib.Dec.{eqb, leb}
use lib.ListN.{length, get_or, drop, replicate}
use Rattle.order.specs.Comparison.{bytes}
use Rattle.order.specs.Map.{Item, All}
use Rattle.order.proofs.Never.{never}
use Rattle.order.proofs.Comparison.{strings}
use Rattle.change.specs.Change.{Change, announce, withdraw}
use Rattle.change.specs.Difference as change
use Rattle.change.specs.Application.{apply_at, apply}
use Rattle.serial.specs.declared.timing.Timing.{Timing}
use Rattle.number.specs.Number.{two_at, four_at}
use Rattle.number.specs.Bytes.{part, AllBytes}
use Rattle.body.specs.declared.tag.Form.TheVariants.{Snapshot}
use Rattle.body.proofs.Sizes.{origin_size, key_size_lem}
use Rattle.field.specs.Verdict.{verdict}
use Rattle.field.specs.Cells.{Cell}
use Rattle.field.specs.Cells as run
use Rattle.field.specs.Run.{Run, done, more}
use Rattle.field.proofs.Run.{fine_run}
use Rattle.field.proofs.Encode.{field_front, rest_bytes}
use Rattle.payload.specs.Content.{Bytes, entry_of, cell_for}
use Rattle.payload.specs.Valid.{ValidValue, origin, router_key, aspa}
use Rattle.payload.specs.Payload.{entries, encode, items}
use Rattle.payload.proofs.Back.{says_back}
use Rattle.payload.proofs.Closed.{At, walk_all_lem}
use Rattle.payload.proofs.Faithful.{body_bytes, entries_end, entries_more}
use Rattle.item.proofs.Fronts.{drop_bytes, take_bytes, cons_bytes}
use Rattle.message.specs.declared.version.Version.{Version}
use Rattle.message.specs.Version.{version_number, speaks, times_in, end_length}
use Rattle.message.specs.Message.{Message, serial_notify, serial_query, cache_response, ipv4_prefix, ipv6_prefix, end_of_data, cache_reset, router_key as routerKeyMessage, error_report}
use Rattle.message.specs.Record.{Part, opening, payload, ending, misplaced, good_record, payload_of, part_of}
use Rattle.message.specs.Read.{message_in, Front, unread, read, front_of, front}
use Rattle.message.specs.Hear.{Told, hear_part, hear_front, hear_f, open_part, open_front, hear}
use Rattle.message.specs.Take.{as_item}
use Rattle.message.proofs.Telling.{Tells, not_payload, hear_tells}
use Rattle.std.specs.Prelude.{Ok}

-- ---- lists of bytes

append_bytes : (a b : Bytes) → AllBytes a → AllBytes b → AllBytes (a ++ b)
append_bytes [] b h g = g
append_bytes (x ∷ a) b h g = cons_bytes x (a ++ b) (h 0) (append_bytes a b (λ i. h (suc i)) g)

first_bytes : (a b : Bytes) → AllBytes (a ++ b) → AllBytes a
first_bytes [] b h = λ i. omega arith
first_bytes (x ∷ a) b h = cons_bytes x a (h 0) (first_bytes a b (λ i. h (suc i)))

two_bytes_lem : (x y : ℕ) (l : Bytes) → x < 256 → y < 256 → AllBytes l → AllBytes (x ∷ y ∷ l)
two_bytes_lem x y l p q h = cons_bytes x (y ∷ l) p (cons_bytes y l q h)

zeros_bytes : (n : ℕ) → AllBytes (replicate n 0)
zeros_bytes zero = λ i. omega arith
zeros_bytes (suc n) = cons_bytes 0 (replicate n 0) (omega arith) (zeros_bytes n)

part_bytes : (s : Bytes) (from to : ℕ) → AllBytes s → AllBytes (part s from to)
part_bytes s from to h = take_bytes (to - from) (drop from s) (drop_bytes from s h)

-- ---- fields

-- the field of a key and its value is of bytes
abbrev pub FieldBytes : Bytes → Bytes → Type 0
FieldBytes k v = AllBytes (run.field (get_or k 0 0) (drop 1 k ++ v))

abbrev pub ItemBytes : Item Bytes Bytes → Type 0
ItemBytes x = FieldBytes x.key x.val

pub encode_bytes : (B : change.Snapshot Bytes Bytes) → All ItemBytes B → AllBytes (encode Snapshot B)
unfolding encode run.cell_bytes
encode_bytes [] h = λ i. omega arith
encode_bytes (x ∷ B) h = append_bytes (run.field (get_or x.key 0 0) (drop 1 x.key ++ x.val)) (encode Snapshot B) h.0 (encode_bytes B h.1)

-- those of a good snapshot of bytes are
run_bytes : {k s : Bytes} → Run Snapshot k s → AllBytes s → All ItemBytes (entries Snapshot s)
run_bytes done o = rw (entries_end Snapshot) tt
run_bytes (more {s = s} tag b rest f g z l r) o =
    let w : s ≡ run.field tag b ++ rest = field_front s tag b rest o f in
    let h : AllBytes (run.field tag b) = first_bytes (run.field tag b) rest (rw w at o) in
    let q : cell_for Snapshot (entry_of Snapshot (record { tag = tag; body = b })) ≡ record { tag = tag; body = b } = says_back Snapshot tag b (body_bytes s tag b rest o w) g in
    rw (entries_more Snapshot s tag b rest f)
    (subst (λ (c : Cell). AllBytes (run.field c.tag c.body)) (sym q) h, run_bytes r (rest_bytes s tag b rest o w))

pub items_bytes : (s : Bytes) → AllBytes s → verdict Snapshot s ≡ Ok tt → All ItemBytes (items s)
items_bytes s o e = run_bytes (fine_run Snapshot s e) o

-- that of a valid key of bytes without a value is
bare_bytes : (k : Bytes) → ValidValue k [] → AllBytes k → FieldBytes k []
unfolding run.field
bare_bytes k v h =
    let n : length (drop 1 k) < 65_536 = short v in
    subst (λ (b : Bytes). AllBytes (run.field (get_or k 0 0) b)) (sym (append-nil (drop 1 k)))
    (cons_bytes (get_or k 0 0) (length (drop 1 k) / 256 ∷ length (drop 1 k) % 256 ∷ drop 1 k) (h 0)
    (cons_bytes (length (drop 1 k) / 256) (length (drop 1 k) % 256 ∷ drop 1 k) (omega arith)
    (cons_bytes (length (drop 1 k) % 256) (drop 1 k) (omega arith) (drop_bytes 1 k h))))
  where
    short : {l : Bytes} → ValidValue l [] → length (drop 1 l) < 65_536
    short (origin {k = l} g) = omega (arith, origin_size l g)
    short (router_key {k = l} g) = omega (arith, key_size_lem l g)
    short (aspa e g z) = omega (arith, e)

-- ---- a message taken on a snapshot

abbrev pub TellsBytes : Told → Type 0
TellsBytes t = Tells t × AllBytes t.key

-- what a change brings is of bytes
data NewBytes : Bytes → Change Bytes → Type 0 where
  brings : {k n : Bytes} → FieldBytes k n → NewBytes k (announce n)
  goes : {k p : Bytes} → NewBytes k (withdraw p)

told_bytes : (t : Told) → TellsBytes t → NewBytes t.key t.change
told_bytes t q = rw q.0.is (go q.0.flag)
  where
    go : (f : Bool) → NewBytes t.key (cond f (announce []) (withdraw []))
    go true = brings (bare_bytes t.key q.0.value q.1)
    go false = goes

pub taken_bytes : (A : change.Snapshot Bytes Bytes) (t : Told) → TellsBytes t → All ItemBytes A → All ItemBytes (apply bytes A (as_item t ∷ []))
taken_bytes A t q h = walk_all_lem strings apply_at FieldBytes NewBytes FieldBytes (λ k a g. g) right both A (as_item t ∷ []) h (told_bytes t q, tt)
  where
    right : (k : Bytes) (c : Change Bytes) → NewBytes k c → At FieldBytes k (apply_at none (some c))
    right k c (brings g) = g
    right k c goes = tt

    both : (k a : Bytes) (c : Change Bytes) → FieldBytes k a → NewBytes k c → At FieldBytes k (apply_at (some a) (some c))
    both k a c f (brings g) = g
    both k a c f goes = tt

-- ---- what is heard

-- the record of a message, if it has one, is of bytes
abbrev MessageBytes : Message → Type 0
MessageBytes m = (k : Bytes) (c : Change Bytes) → part_of m ≡ payload k c → AllBytes k

abbrev FoundBytes : Option Message → Type 0
FoundBytes o = (m : Message) → o ≡ some m → MessageBytes m

not_opening : {X : Type 0} {session : ℕ} {k : Bytes} {c : Change Bytes} → opening session ≡ payload k c → X
not_opening e = never cc

not_ending : {X : Type 0} {session serial : ℕ} {times : Timing} {k : Bytes} {c : Change Bytes} → ending session serial times ≡ payload k c → X
not_ending e = never cc

payload_key : (flags : ℕ) (l k : Bytes) (c : Change Bytes) → payload_of flags l ≡ payload k c → l ≡ k
payload_key flags l k c = go (good_record l) (eqb flags 1) (eqb flags 0)
  where
    go : (g p q : Bool) → cond g (cond p (payload l (announce [])) (cond q (payload l (withdraw [])) misplaced)) misplaced ≡ payload k c → l ≡ k
    go true true q e = cc
    go true false true e = cc
    go true false false e = not_payload e
    go false p q e = not_payload e

payload_bytes : (flags : ℕ) (l : Bytes) → AllBytes l → (k : Bytes) (c : Change Bytes) → payload_of flags l ≡ payload k c → AllBytes k
payload_bytes flags l h k c e = subst AllBytes {x = l} {y = k} (payload_key flags l k c e) h

no_message : FoundBytes none
no_message m e = never cc

the_message : (m : Message) → MessageBytes m → FoundBytes (some m)
the_message m h n e = let q : m ≡ n = cc in rw (← q) h

either : (b : Bool) {o p : Option Message} → FoundBytes o → FoundBytes p → FoundBytes (cond b o p)
either true h g = h
either false h g = g

-- a message of the length that its type has, or none
if_sized : (b : Bool) (m : Message) → MessageBytes m → FoundBytes (cond b (some m) none)
if_sized b m h = either b (the_message m h) no_message

module _ (s : Bytes) (h : AllBytes s) where
  lengths_bytes : (asn : Bytes) → AllBytes asn → AllBytes (get_or s 9 0 ∷ get_or s 10 0 ∷ asn)
  lengths_bytes asn g = two_bytes_lem (get_or s 9 0) (get_or s 10 0) asn (h 9) (h 10) g

  abbrev ipv4_key : Bytes
  ipv4_key = 1 ∷ 4 ∷ (part s 12 16 ++ (replicate 12 0 ++ (get_or s 9 0 ∷ get_or s 10 0 ∷ part s 16 20)))

  abbrev ipv6_key : Bytes
  ipv6_key = 1 ∷ 6 ∷ (part s 12 28 ++ (get_or s 9 0 ∷ get_or s 10 0 ∷ part s 28 32))

  abbrev key_key : ℕ → Bytes
  key_key n = 2 ∷ (part s 8 28 ++ (part s 28 32 ++ part s 32 n))

  ipv4_bytes : AllBytes ipv4_key
  ipv4_bytes =
      let tail = lengths_bytes (part s 16 20) (part_bytes s 16 20 h) in
      let zeros = append_bytes (replicate 12 0) (get_or s 9 0 ∷ get_or s 10 0 ∷ part s 16 20) (zeros_bytes 12) tail in
      two_bytes_lem 1 4 (part s 12 16 ++ (replicate 12 0 ++ (get_or s 9 0 ∷ get_or s 10 0 ∷ part s 16 20))) (omega arith) (omega arith)
      (append_bytes (part s 12 16) (replicate 12 0 ++ (get_or s 9 0 ∷ get_or s 10 0 ∷ part s 16 20)) (part_bytes s 12 16 h) zeros)

  ipv6_bytes : AllBytes ipv6_key
  ipv6_bytes =
      two_bytes_lem 1 6 (part s 12 28 ++ (get_or s 9 0 ∷ get_or s 10 0 ∷ part s 28 32)) (omega arith) (omega arith)
      (append_bytes (part s 12 28) (get_or s 9 0 ∷ get_or s 10 0 ∷ part s 28 32) (part_bytes s 12 28 h) (lengths_bytes (part s 28 32) (part_bytes s 28 32 h)))

  key_bytes : (n : ℕ) → AllBytes (key_key n)
  key_bytes n =
      cons_bytes 2 (part s 8 28 ++ (part s 28 32 ++ part s 32 n)) (omega arith)
      (append_bytes (part s 8 28) (part s 28 32 ++ part s 32 n) (part_bytes s 8 28 h)
      (append_bytes (part s 28 32) (part s 32 n) (part_bytes s 28 32 h) (part_bytes s 32 n h)))

  message_bytes : (v : Version) (type n : ℕ) → FoundBytes (message_in v type n s)
  unfolding message_in part_of
  message_bytes v type n =
      either (eqb type 0) (if_sized (eqb n 12) (serial_notify (two_at s 2) (four_at s 8)) (λ k c e. not_payload e))
      (either (eqb type 1) (if_sized (eqb n 12) (serial_query (two_at s 2) (four_at s 8)) (λ k c e. not_payload e))
      (either (eqb type 3) (if_sized (eqb n 8) (cache_response (two_at s 2)) (λ k c e. not_opening e))
      (either (eqb type 4) (if_sized (eqb n 20) (ipv4_prefix (get_or s 8 0) (get_or s 9 0) (get_or s 10 0) (part s 12 16) (part s 16 20))
      (payload_bytes (get_or s 8 0) ipv4_key ipv4_bytes))
      (either (eqb type 6) (if_sized (eqb n 32) (ipv6_prefix (get_or s 8 0) (get_or s 9 0) (get_or s 10 0) (part s 12 28) (part s 28 32))
      (payload_bytes (get_or s 8 0) ipv6_key ipv6_bytes))
      (either (eqb type 7) (if_sized (eqb n (end_length v)) (end_of_data (two_at s 2) (four_at s 8) (times_in v (drop 12 s))) (λ k c e. not_ending e))
      (either (eqb type 8) (if_sized (eqb n 8) cache_reset (λ k c e. not_payload e))
      (either (eqb type 9) (if_sized (speaks v 2 && leb 32 n) (routerKeyMessage (get_or s 2 0) (part s 8 28) (part s 28 32) (part s 32 n))
      (payload_bytes (get_or s 2 0) (key_key n) (key_bytes n)))
      (either (eqb type 10)
      (if_sized (eqb n (16 + four_at s 8 + four_at s (12 + four_at s 8))) (error_report (two_at s 2) (part s 12 (12 + four_at s 8)) (part s (16 + four_at s 8) n)) (λ k c e. not_payload e))
      no_message))))))))

-- at the front of s, and behind it
front_bytes : (v : Version) (s : Bytes) → AllBytes s → (m : Message) (n : ℕ) (rest : Bytes) → front v s ≡ read m n rest → MessageBytes m × AllBytes rest
unfolding front
front_bytes v s h m n rest =
    go (leb 8 (length s) && (eqb (get_or s 0 0) (version_number v) && leb (four_at s 4) (length s))) (message_in v (get_or s 1 0) (four_at s 4) s)
    (message_bytes s h v (get_or s 1 0) (four_at s 4))
  where
    unread≢read : {X : Type 0} → unread ≡ read m n rest → X
    unread≢read e = never cc

    go : (b : Bool) (o : Option Message) → FoundBytes o → cond b (front_of o (four_at s 4) (drop (four_at s 4) s)) unread ≡ read m n rest → MessageBytes m × AllBytes rest
    go true (some m') f e =
        let q : m' ≡ m = cc in
        let r : drop (four_at s 4) s ≡ rest = cc in
        (f m (ap some q), subst AllBytes {x = drop (four_at s 4) s} {y = rest} r (drop_bytes (four_at s 4) s h))
    go true none f e = unread≢read e
    go false o f e = unread≢read e

-- ---- an answer

abbrev KeyBytes : Told → Type 0
KeyBytes t = AllBytes t.key

hear_bytes_from : (fuel : ℕ) (v : Version) (session at : ℕ) (s : Bytes) → AllBytes s → All KeyBytes (hear_f fuel v session at s).told
unfolding hear_f
hear_bytes_from zero v session at s h = tt
hear_bytes_from (suc fuel) v session at s h = go (front v s) refl (λ n rest g. hear_bytes_from fuel v session (at + n) rest g)
  where
    part_of_lem : (m : Message) → MessageBytes m → (p : Part) → part_of m ≡ p → (n : ℕ) (rest : Bytes) → All KeyBytes (hear_f fuel v session (at + n) rest).told →
        All KeyBytes (hear_part session at p n rest (hear_f fuel v session)).told
    part_of_lem m b (opening other) e n rest i = tt
    part_of_lem m b (payload k c) e n rest i = (b k c e, i)
    part_of_lem m b (ending other serial times) e n rest i = tt
    part_of_lem m b misplaced e n rest i = tt

    go : (f : Front) → front v s ≡ f → ((n : ℕ) (rest : Bytes) → AllBytes rest → All KeyBytes (hear_f fuel v session (at + n) rest).told) →
        All KeyBytes (hear_front session at f (hear_f fuel v session)).told
    go unread e i = tt
    go (read m n rest) e i = let b = front_bytes v s h m n rest e in part_of_lem m b.0 (part_of m) refl n rest (i n rest b.1)

pub hear_bytes : (v : Version) (s : Bytes) → AllBytes s → All KeyBytes (hear v s).told
unfolding hear
hear_bytes v s h = go (front v s) refl
  where
    part_of_lem : (p : Part) (n : ℕ) (rest : Bytes) → AllBytes rest → All KeyBytes (open_part p (λ session. hear_f (length rest + 1) v session n rest)).told
    part_of_lem (opening session) n rest g = hear_bytes_from (length rest + 1) v session n rest g
    part_of_lem (payload k c) n rest g = tt
    part_of_lem (ending session serial times) n rest g = tt
    part_of_lem misplaced n rest g = tt

    go : (f : Front) → front v s ≡ f → All KeyBytes (open_front v f).told
    go unread e = tt
    go (read m n rest) e = part_of_lem (part_of m) n rest (front_bytes v s h m n rest e).1

-- with what each tells
pub hear_told : (v : Version) (s : Bytes) → AllBytes s → All TellsBytes (hear v s).told
hear_told v s h = both_all (hear v s).told (hear_tells v s) (hear_bytes v s h)
  where
    both_all : (ts : List Told) → All Tells ts → All KeyBytes ts → All TellsBytes ts
    both_all [] p q = tt
    both_all (t ∷ ts) p q = ((p.0, q.0), both_all ts p.1 q.1)
