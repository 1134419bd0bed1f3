-- Laws of the pass over an answer.
use Prim.Native.Nat.{ℕ, zero, suc, ◌+◌, ◌-◌, ◌*◌, ◌/◌, ◌%◌, ◌^◌, ◌<◌, ◌≤◌}
use mathlib.Core.Path.{◌≡◌, refl, sym, ap, ◌∙◌}
use mathlib.Core.List.{List, [], ◌∷◌, ◌++◌, map}
use mathlib.Core.Bool.{Bool, true, false, not, cond, ◌&&◌}
use mathlib.Core.Option.{Option, none, some}
use native.Mathlib.Omega.{arith}
use borrow.Author.Tests.{eq-eqb, ne_eqb, eqb-true, le-leb, lt-leb, not-true, not-false}
use lib.Dec.{leb, eqb}
use lib.ListN.{length, get_or, drop, replicate, length-drop, drop_of_length-le}
use Rattle.order.proofs.Never.{never}
use Rattle.number.specs.Bytes.{part}
use lib.Seq.{drop-drop, drop-cons}
use Rattle.serial.specs.declared.timing.Timing.{Timing}
use Rattle.number.specs.Number.{two_at, four_at, word_at}
use Rattle.number.proofs.Eights.{Octets}
use Rattle.number.proofs.Numbers.{low_half, high_half}
use Rattle.body.proofs.Sizes.{both}
use Rattle.payload.specs.Content.{Bytes}
use Rattle.message.specs.declared.version.Version.{Version}
use Rattle.message.specs.declared.version.Version.TheVariants.{Rfc6810, Rfc8210}
use Rattle.message.specs.Version.{version_number, speaks, times_in, end_length}
use Rattle.message.specs.Message.{Message, ipv4_prefix, ipv6_prefix, end_of_data, router_key}
use Rattle.change.specs.Change.{announce, withdraw}
use Rattle.message.specs.Record as said
use Rattle.message.specs.Record.{part_of, payload_of, good_record}
use Rattle.message.specs.Read.{front, front_of, message_in, sized}
use Rattle.message.specs.Hear as message
use Rattle.std.specs.declared.option.Option.{Option as StdOption}
use Rattle.std.specs.declared.option.Option.TheVariants.{None, Some}
use Rattle.std.specs.declared.result.Result.{Result}
use Rattle.std.specs.declared.result.Result.TheVariants.{Ok, Err}
use Rattle.heard.specs.declared.hear.End.{End}
use Rattle.heard.specs.declared.hear.Fault.{Fault}
use Rattle.heard.specs.declared.sums.Sums.{Sums}
use Rattle.heard.specs.Place.{type_at, size_at, flags_at, key_at, told_at, Payload, Messages, done, more}
use Rattle.heard.specs.Heard.{stop_is, HeardIs, count_flags, sum_fields}
pub use Rattle.heard.specs.Step.{Hearing}
use Rattle.heard.specs.Step.{is_whole, Framed, Ending, Timed, Closing, ended_at, sized_at, payload_at, opens, StopIs, EndIs, stop_means, plus_at, Small, Summed, behind}
use Rattle.heard.proofs.Places.{size_least}
use Rattle.heard.proofs.Summing.{summed_more, small_more}
use Rattle.heard.proofs.Reading as reading
use Rattle.heard.proofs.Reading.{two_drop, four_drop, first_drop, front_not, front_whole, whole_head, whole_long, type_7, heard_front, heard_good, heard_bad, heard_other}

-- ---- times_at

-- an End of Data has a serial
end_long : (v : Version) → 12 ≤ end_length v
end_long Rfc6810 = omega arith
end_long Rfc8210 = omega arith

module _ (v : Version) (s : Bytes) (at : ℕ) where
  -- twelve bytes
  times_long : v ≡ Rfc8210 → Timed v s at → at + 12 ≤ length s
  times_long k h = let w : at + (end_length v - 12) ≤ length s = h.within in let z : end_length v ≡ 24 = ap end_length k in omega arith

  pub times_in_lem : v ≡ Rfc8210 → Timed v s at → at + 8 ≤ length s
  times_in_lem k h = omega (arith, times_long k h)

  pub times_in_2 : v ≡ Rfc8210 → Timed v s at → at + 4 + 8 ≤ length s
  times_in_2 k h = omega (arith, times_long k h)

  pub times_none : v ≡ Rfc6810 → ◌≡◌ {A = Timing} (record { refresh = 0; retry = 0; expire = 0 }) (times_in v (drop at s))
  times_none k = rw k

  pub times_are : v ≡ Rfc8210 → Octets s → (x y : ℕ) → x ≡ word_at s at → y ≡ word_at s (at + 4)
      → ◌≡◌ {A = Timing} (record { refresh = x / 4_294_967_296; retry = x % 4_294_967_296; expire = y % 4_294_967_296 }) (times_in v (drop at s))
  times_are k o x y d e = rw k go
    where
      z0 : at + 0 ≡ at
      z0 = omega arith

      z8 : at + 4 + 4 ≡ at + 8
      z8 = omega arith

      go : ◌≡◌ {A = Timing} (record { refresh = x / 4_294_967_296; retry = x % 4_294_967_296; expire = y % 4_294_967_296 }) (times_in Rfc8210 (drop at s))
      go =
          let p0 : x / 4_294_967_296 ≡ four_at s at = rw d (high_half s o at) in
          let q0 : x % 4_294_967_296 ≡ four_at s (at + 4) = rw d (low_half s o at) in
          let r0 : y % 4_294_967_296 ≡ four_at s (at + 4 + 4) = rw e (low_half s o (at + 4)) in
          let p : x / 4_294_967_296 ≡ four_at (drop at s) 0 = p0 ∙ sym (four_drop s at 0 ∙ ap (λ (i : ℕ). four_at s i) z0) in
          let q : x % 4_294_967_296 ≡ four_at (drop at s) 4 = q0 ∙ sym (four_drop s at 4) in
          let r : y % 4_294_967_296 ≡ four_at (drop at s) 8 = r0 ∙ ap (λ (i : ℕ). four_at s i) z8 ∙ sym (four_drop s at 8) in
          λ i. record { refresh = p i; retry = q i; expire = r i }

pub ruleset timing = (times_in_lem, times_in_2, times_none, times_are)

-- ---- is_whole

module _ (v : Version) (s : Bytes) (at : ℕ) where
  whole_unfold : is_whole v (drop at s) ≡ leb 8 (length s - at) && (eqb (get_or s at 0) (version_number v) && leb (size_at s at) (length s - at))
  unfolding is_whole
  whole_unfold = rw (length-drop at s, first_drop s at, four_drop s at 4)

  pub whole_short : length s - at < 8 → false ≡ is_whole v (drop at s)
  whole_short h = sym (whole_unfold ∙ rw (lt-leb 8 (length s - at) h))

  module _ (h : 8 ≤ length s - at) where
    pub whole_first : at < length s
    whole_first = omega arith

    pub whole_word : at + 8 ≤ length s
    whole_word = omega arith

    module _ (m : ℕ) (e : m ≡ version_number v) where
      pub whole_other : (get_or s at 0 ≡ m → ⊥) → false ≡ is_whole v (drop at s)
      whole_other n = sym (whole_unfold ∙ rw (le-leb 8 (length s - at) h, ← e, ne_eqb (get_or s at 0) m n))

      pub whole_is : Octets s → get_or s at 0 ≡ m → (w : ℕ) → w ≡ word_at s at → leb (w % 4_294_967_296) (length s - at) ≡ is_whole v (drop at s)
      whole_is o d w f =
          let g : w % 4_294_967_296 ≡ size_at s at = rw f (low_half s o at) in
          sym (whole_unfold ∙ rw (le-leb 8 (length s - at) h, ← e, eq-eqb (get_or s at 0) m d, g))

pub ruleset wholes = (whole_short, whole_first, whole_word, whole_other, whole_is)

-- ---- ending

module _ (v : Version) (session : ℕ) (s : Bytes) (at size : ℕ) (f : Ending v s at size) where
  abbrev Ends : Result End Fault → Type 0
  Ends r = EndIs v session s at r

  ending_front : (go : ℕ → Bytes → message.Heard)
      → message.hear_front session at (front v (drop at s)) go ≡ message.hear_front session at (front_of (sized size (end_length v) (end_of_data (two_at s (at + 2)) (four_at s (at + 8)) (times_in v (drop (at + 12) s)))) size (drop (at + size) s)) go
  ending_front go =
      heard_front v session s at f.whole go
      ∙ rw (type_7 v (drop at s) (size_at s at) (type_at s at) f.type, two_drop s at 2, four_drop s at 8, drop-drop 12 at s, ← f.framed.is)

  pub ending_missized : (m : ℕ) → m ≡ end_length v → (size ≡ m → ⊥) → Ends (Err (record { at = at }))
  ending_missized m e n = record { same = λ go. ending_front go ∙ rw (← e, ne_eqb size m n) }

  module _ (m : ℕ) (e : m ≡ end_length v) (d : size ≡ m) where
    ended : (go : ℕ → Bytes → message.Heard) → message.hear_front session at (front v (drop at s)) go
        ≡ message.stopped (cond (eqb (two_at s (at + 2)) session) (message.end_at session (four_at s (at + 8)) (times_in v (drop (at + 12) s)) (at + size) (drop (at + size) s)) (message.faulty at))
    unfolding part_of
    ended go = ending_front go ∙ rw (← e, eq-eqb size m d)

    module _ (u : ℕ) (g : u ≡ two_at s (at + 2)) where
      pub ending_other : (u ≡ session → ⊥) → Ends (Err (record { at = at }))
      ending_other n = record { same = λ go. ended go ∙ rw (← g, ne_eqb u session n) }

      module _ (k : u ≡ session) where
        pub ending_longer : (at + size ≡ length s → ⊥) → Ends (Err (record { at = at + size }))
        ending_longer n =
            let l : at + size < length s = omega (arith, f.framed.within) in
            record { same = λ go. ended go ∙ rw (← g, eq-eqb u session k, drop-cons s (at + size) 0 l) }

        module _ (l : at + size ≡ length s) where
          pub ending_ended : (r : End) → r ≡ ended_at v session s at → Ends (Ok r)
          ending_ended r h = rw h (record { same = λ go. ended go ∙ rw (← g, eq-eqb u session k, drop_of_length-le s {i = at + size} (omega arith)) })

pub ending_closing : (v : Version) (s : Bytes) (at size : ℕ) → Ending v s at size → (m : ℕ) → m ≡ end_length v → size ≡ m → Closing v s at
ending_closing v s at size f m e d = record { within = omega (arith, f.framed.within) }

pub ruleset endings = (ending_missized, ending_other, ending_longer, ending_closing, ending_ended)

-- ---- ended

module _ (v : Version) (session : ℕ) (s : Bytes) (at : ℕ) (f : Closing v s at) where
  pub ended_serial : at + 4 + 8 ≤ length s
  ended_serial = omega (arith, end_long v, f.within)

  pub ended_times : Timed v s (at + 12)
  ended_times = record { within = omega (arith, end_long v, f.within) }

  pub ended_is : Octets s → (w : ℕ) → w ≡ word_at s (at + 4) → (t : Timing) → t ≡ times_in v (drop (at + 12) s)
      → ◌≡◌ {A = End} (record { session = record { 0 = session }; serial = record { 0 = w % 4_294_967_296 }; times = t }) (ended_at v session s at)
  ended_is o w h t i =
      let z : at + 4 + 4 ≡ at + 8 = omega arith in
      let x0 : w % 4_294_967_296 ≡ four_at s (at + 4 + 4) = rw h (low_half s o (at + 4)) in
      let x : w % 4_294_967_296 ≡ four_at s (at + 8) = x0 ∙ ap (λ (j : ℕ). four_at s j) z in
      rw (x, i)

pub ruleset ends = (ended_serial, ended_times, ended_is)

-- ---- stop_at

module _ (v : Version) (session : ℕ) (s : Bytes) (at : ℕ) (b : Bool) (e : b ≡ is_whole v (drop at s)) where
  pub step_cut : not b ≡ true → StopIs v session s at (Some (Err (record { at = at })))
  step_cut n =
      record {
        same = λ go. rw (front_not v (drop at s) (sym e ∙ not-true b n));
        good = λ h. never cc;
      }

  module _ (y : not b ≡ false) (inside : at ≤ length s) where
    whole : is_whole v (drop at s) ≡ true
    whole = sym e ∙ not-false b y

    pub step_head : at + 8 ≤ length s
    step_head = omega (arith, whole_head v (drop at s) whole, length-drop at s)

    pub step_type : at + 1 < length s
    step_type = omega (arith, step_head)

    module _ (o : Octets s) (w : ℕ) (d : w ≡ word_at s at) where
      pub step_framed : Framed s at (w % 4_294_967_296)
      step_framed =
          let g : w % 4_294_967_296 ≡ size_at s at = rw d (low_half s o at) in
          record { head = step_head; is = g; within = omega (arith, whole_long v (drop at s) whole, four_drop s at 4, length-drop at s) }

      pub step_ending : type_at s at ≡ 7 → Ending v s at (w % 4_294_967_296)
      step_ending t = record { framed = step_framed; whole = whole; type = t }

      pub step_ended : type_at s at ≡ 7 → (r : Result End Fault) → EndIs v session s at r → StopIs v session s at (Some r)
      step_ended t r h = record { same = h.same; good = λ h. never cc }

      module _ (p : Bool) (q : p ≡ payload_at v s at) where
        pub step_on : p ≡ true → StopIs v session s at None
        unfolding payload_at
        step_on t =
            let c = both (sized_at v s at) (leb (flags_at s at) 1 && good_record (key_at s at)) (sym q ∙ t) in
            record { same = λ go. heard_good v session s at whole go c.0 c.1; good = λ h. payload c.0 c.1 }
          where
            payload : sized_at v s at ≡ true → leb (flags_at s at) 1 && good_record (key_at s at) ≡ true → Payload s at
            payload x y = reading.payload_here v s at x y (omega (arith, step_framed.is, step_framed.within))

        pub step_off : (type_at s at ≡ 7 → ⊥) → p ≡ false → StopIs v session s at (Some (Err (record { at = at })))
        unfolding payload_at
        step_off n t =
            record {
              same = λ go. halts go (sized_at v s at) refl (leb (flags_at s at) 1 && good_record (key_at s at)) refl (sym q ∙ t);
              good = λ h. never cc;
            }
          where
            halts : (go : ℕ → Bytes → message.Heard) (x : Bool) → sized_at v s at ≡ x → (y : Bool) → leb (flags_at s at) 1 && good_record (key_at s at) ≡ y → x && y ≡ false
                → message.hear_front session at (front v (drop at s)) go ≡ message.stopped (message.faulty at)
            halts go true a y c k = heard_bad v session s at whole go a (c ∙ k)
            halts go false a y c k = heard_other v session s at whole go a n

pub ruleset stepping = (step_cut, step_head, step_type, step_framed, step_ending, step_ended, step_on, step_off)

-- ---- is_open

module _ (v : Version) (s : Bytes) (b : Bool) (e : b ≡ is_whole v s) where
  pub open_cut : not b ≡ true → false ≡ opens v s
  unfolding opens
  open_cut n = rw (← e, not-true b n)

  module _ (y : not b ≡ false) where
    open_head : 8 ≤ length s
    open_head = whole_head v s (sym e ∙ not-false b y)

    pub open_1 : 1 < length s
    open_1 = omega (arith, open_head)

    pub open_8 : 0 + 8 ≤ length s
    open_8 = open_head

    pub open_other : (get_or s 1 0 ≡ 3 → ⊥) → false ≡ opens v s
    unfolding opens
    open_other n = rw (← e, not-false b y, ne_eqb (get_or s 1 0) 3 n)

    pub open_is : Octets s → get_or s 1 0 ≡ 3 → (w : ℕ) → w ≡ word_at s 0 → eqb (w % 4_294_967_296) 8 ≡ opens v s
    unfolding opens
    open_is o d w f =
        let g : w % 4_294_967_296 ≡ four_at s 4 = rw f (low_half s o 0) in
        rw (← e, not-false b y, eq-eqb (get_or s 1 0) 3 d, g)

pub ruleset opening = (open_cut, open_1, open_8, open_other, open_is)

-- ---- how an answer opens

open_payload : (flags : ℕ) (k : Bytes) (go : ℕ → message.Heard) → message.open_part (payload_of flags k) go ≡ message.stopped (message.faulty 0)
open_payload flags k go = cases (good_record k) (eqb flags 1) (eqb flags 0)
  where
    cases : (a b c : Bool) → message.open_part (cond a (cond b (said.payload k (announce [])) (cond c (said.payload k (withdraw [])) said.misplaced)) said.misplaced) go ≡ message.stopped (message.faulty 0)
    cases true true c = refl
    cases true false true = refl
    cases true false false = refl
    cases false b c = refl

module _ (v : Version) (s : Bytes) where
  abbrev Shut : Option Message → Type 0
  Shut o = message.open_front v (front_of o (four_at s 4) (drop (four_at s 4) s)) ≡ message.stopped (message.faulty 0)

  row : (b : Bool) (o rest : Option Message) → (b ≡ true → Shut o) → (b ≡ false → Shut rest) → Shut (cond b o rest)
  row true o rest f g = f refl
  row false o rest f g = g refl

  -- a payload message does not open it
  payload_shut : (m : Message) (flags : ℕ) (k : Bytes) → part_of m ≡ payload_of flags k → Shut (some m)
  payload_shut m flags k e =
      rw e (open_payload flags k (λ session. message.hear_f (length (drop (four_at s 4) s) + 1) v session (four_at s 4) (drop (four_at s 4) s)))

  sized_shut : (m : Message) (due : ℕ) → Shut (some m) → Shut (sized (four_at s 4) due m)
  sized_shut m due h = row (eqb (four_at s 4) due) (some m) none (λ e. h) (λ e. refl)

  shut_message : eqb (get_or s 1 0) 3 && eqb (four_at s 4) 8 ≡ false → Shut (message_in v (get_or s 1 0) (four_at s 4) s)
  unfolding message_in part_of
  shut_message p =
      row (eqb (get_or s 1 0) 0) _ _ (λ e. sized_shut _ 12 refl) (λ e0.
      row (eqb (get_or s 1 0) 1) _ _ (λ e. sized_shut _ 12 refl) (λ e1.
      row (eqb (get_or s 1 0) 3) _ _ (λ e. rw (rw e at p)) (λ e3.
      row (eqb (get_or s 1 0) 4) _ _ (λ e. sized_shut _ 20 (payload_shut (ipv4_prefix (get_or s 8 0) (get_or s 9 0) (get_or s 10 0) (part s 12 16) (part s 16 20)) (get_or s 8 0) (1 ∷ 4 ∷ (part s 12 16 ++ (replicate 12 0 ++ (get_or s 9 0 ∷ get_or s 10 0 ∷ part s 16 20)))) refl)) (λ e4.
      row (eqb (get_or s 1 0) 6) _ _ (λ e. sized_shut _ 32 (payload_shut (ipv6_prefix (get_or s 8 0) (get_or s 9 0) (get_or s 10 0) (part s 12 28) (part s 28 32)) (get_or s 8 0) (1 ∷ 6 ∷ (part s 12 28 ++ (get_or s 9 0 ∷ get_or s 10 0 ∷ part s 28 32))) refl)) (λ e6.
      row (eqb (get_or s 1 0) 7) _ _ (λ e. sized_shut _ (end_length v) refl) (λ e7.
      row (eqb (get_or s 1 0) 8) _ _ (λ e. sized_shut _ 8 refl) (λ e8.
      row (eqb (get_or s 1 0) 9) _ _ (λ e. row (speaks v 2 && leb 32 (four_at s 4)) _ none (λ e. payload_shut (router_key (get_or s 2 0) (part s 8 28) (part s 28 32) (part s 32 (four_at s 4))) (get_or s 2 0) (2 ∷ (part s 8 28 ++ (part s 28 32 ++ part s 32 (four_at s 4)))) refl) (λ e. refl)) (λ e9.
      row (eqb (get_or s 1 0) 10) _ _ (λ e. sized_shut _ _ refl) (λ e10. refl)))))))))

  shut : opens v s ≡ false → message.hear v s ≡ message.stopped (message.faulty 0)
  unfolding opens message.hear
  shut e = go (is_whole v s) refl e
    where
      go : (b : Bool) → is_whole v s ≡ b → b && (eqb (get_or s 1 0) 3 && eqb (four_at s 4) 8) ≡ false → message.open_front v (front v s) ≡ message.stopped (message.faulty 0)
      go true d h = rw (front_whole v s d) (shut_message h)
      go false d h = rw (front_not v s d)

  opened : opens v s ≡ true → message.hear v s ≡ message.hear_f (length (drop 8 s) + 1) v (two_at s 2) 8 (drop 8 s)
  unfolding opens message.hear message_in part_of
  opened e =
      let c = both (is_whole v s) (eqb (get_or s 1 0) 3 && eqb (four_at s 4) 8) e in
      let d = both (eqb (get_or s 1 0) 3) (eqb (four_at s 4) 8) c.1 in
      let t : get_or s 1 0 ≡ 3 = eqb-true (get_or s 1 0) 3 d.0 in
      let n : four_at s 4 ≡ 8 = eqb-true (four_at s 4) 8 d.1 in
      rw (front_whole v s c.0, t, n)

-- ---- hear

append-nil : {A : Type 0} (l : List A) → l ++ [] ≡ l
append-nil [] = refl
append-nil (x ∷ l) = rw (append-nil l)

told_more : (s : Bytes) (x : ℕ) (xs : List ℕ) (ts : List message.Told) → map (told_at s) (xs ++ (x ∷ [])) ++ ts ≡ map (told_at s) xs ++ (told_at s x ∷ ts)
told_more s x [] ts = refl
told_more s x (y ∷ xs) ts = rw (told_more s x xs ts)

messages_more : (s : Bytes) {at stop : ℕ} {xs : List ℕ} → Messages s at xs stop → Payload s stop → Messages s at (xs ++ (stop ∷ [])) (stop + size_at s stop)
messages_more s done p = more p done
messages_more s (more q m) p = more q (messages_more s m p)

abbrev none_yet : Sums
none_yet = record { announced = 0; withdrawn = 0; more = 0; less = 0 }

summed_start : (s : Bytes) → Summed s [] none_yet
unfolding count_flags sum_fields
summed_start s = record { announced = refl; withdrawn = refl; more = refl; less = refl }

module _ (v : Version) (s : Bytes) (b : Bool) (e : b ≡ opens v s) where
  pub hear_shut : not b ≡ true → HeardIs v s (record { stop = Err (record { at = 0 }); over = 8; sums = none_yet })
  unfolding count_flags sum_fields
  hear_shut n =
      let h = shut v s (sym e ∙ not-true b n) in
      record {
        xs = [];
        messages = done;
        told = rw h;
        stop = rw h;
        announced = refl;
        withdrawn = refl;
        more = refl;
        less = refl;
      }

  pub hear_start : length s * 1 < 2 ^ 63 → not b ≡ false → (session : ℕ) → session ≡ two_at s 2 → session < 65_536 → Hearing v session s 8 none_yet
  unfolding opens
  hear_start l y session d w =
      let o : opens v s ≡ true = sym e ∙ not-false b y in
      let c = both (is_whole v s) (eqb (get_or s 1 0) 3 && eqb (four_at s 4) 8) o in
      let i : 8 ≤ length s = whole_head v s c.0 in
      record {
        narrow = w;
        xs = [];
        messages = done;
        fuel = length (drop 8 s) + 1;
        enough = omega (arith, length-drop 8 s);
        within = i;
        rest = rw d (sym (opened v s o));
        summed = summed_start s;
        small = record { short = l; announced = omega arith; withdrawn = omega arith; more = omega arith; less = omega arith };
      }

module _ (v : Version) (session : ℕ) (s : Bytes) (at : ℕ) (c : Sums) (h : Hearing v session s at c) where
  pub hear_within : at ≤ length s
  hear_within = h.within

  pub hear_narrow : session < 65_536
  hear_narrow = h.narrow

  pub hear_small : Small s at c
  hear_small = h.small

  turn : (n : ℕ) × (length s - at ≤ n) × (behind (map (told_at s) h.xs) (message.hear_front session at (front v (drop at s)) (message.hear_f n v session)) ≡ message.hear v s)
  unfolding message.hear_f
  turn = go h.fuel h.enough h.rest
    where
      go : (n : ℕ) → length s - at < n → behind (map (told_at s) h.xs) (message.hear_f n v session at (drop at s)) ≡ message.hear v s
          → (n : ℕ) × (length s - at ≤ n) × (behind (map (told_at s) h.xs) (message.hear_front session at (front v (drop at s)) (message.hear_f n v session)) ≡ message.hear v s)
      go zero i e = absurd (omega arith)
      go (suc n) i e = (n, omega arith, e)

  module _ (r : StdOption (Result End Fault)) (t : StopIs v session s at r) where
    stepped : behind (map (told_at s) h.xs) (stop_means s at r (message.hear_f turn.0 v session)) ≡ message.hear v s
    stepped = rw (t.same (message.hear_f turn.0 v session)) at turn.2

    pub hear_halt : (stop : Result End Fault) → r ≡ Some stop → HeardIs v s (record { stop = stop; over = at; sums = c })
    hear_halt stop e =
        let g : behind (map (told_at s) h.xs) (message.stopped (stop_is stop)) ≡ message.hear v s = rw e at stepped in
        record {
          xs = h.xs;
          messages = h.messages;
          told = sym (ap (λ (k : message.Heard). k.told) g) ∙ append-nil (map (told_at s) h.xs);
          stop = ap (λ (k : message.Heard). k.stop) g;
          announced = h.summed.announced;
          withdrawn = h.summed.withdrawn;
          more = h.summed.more;
          less = h.summed.less;
        }

    module _ (e : r ≡ None) where
      pub hear_payload : Payload s at
      hear_payload = t.good e

      module _ (n : ℕ) (d : n ≡ size_at s at) where
        pub hear_fits : at + n < 2 ^ 64
        hear_fits = omega (arith, hear_payload.within, h.small.short)

        pub hear_less : length s - (at + n) < length s - at
        hear_less = omega (arith, hear_payload.within, size_least s at hear_payload)

        pub hear_on : Octets s → (k : Sums) → k ≡ plus_at s at c → Hearing v session s (at + n) k
        hear_on o k f =
            let p = hear_payload in
            let m : ℕ = turn.0 in
            let l : length s - at ≤ m = turn.1 in
            let g : behind (map (told_at s) h.xs) (message.more (told_at s at) (message.hear_f m v session (at + size_at s at) (drop (at + size_at s at) s))) ≡ message.hear v s = rw e at stepped in
            let q : message.Heard = message.hear_f m v session (at + size_at s at) (drop (at + size_at s at) s) in
            let u : behind (map (told_at s) (h.xs ++ (at ∷ []))) q ≡ behind (map (told_at s) h.xs) (message.more (told_at s at) q) = λ i. record { told = told_more s at h.xs q.told i; stop = q.stop } in
            rw (d, f) (record {
              narrow = h.narrow;
              xs = h.xs ++ (at ∷ []);
              messages = messages_more s h.messages p;
              fuel = m;
              enough = omega (arith, p.within, size_least s at p);
              within = p.within;
              rest = u ∙ g;
              summed = summed_more s h.xs c h.summed at;
              small = small_more s at o p c h.small;
            })

pub ruleset hearing = (hear_shut, hear_start, hear_within, hear_narrow, hear_small, hear_halt, hear_payload, hear_fits, hear_less, hear_on)
