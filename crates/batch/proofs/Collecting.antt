-- Laws of the walk that collects messages.
use Rattle.std.proofs.Common.{◌≡◌, ℕ, ◌+◌, ◌<◌, ◌≤◌, Bool, true, false, not, eqb, List, [], ◌∷◌, ◌++◌, length, get_or, take, set, sym, refl, ap, ◌∙◌, subst, append_assoc, append-nil, add-one, arith, length-set, length-take-le, take_all, get_or-set_other, get_or-take, get_or-set_same, take-suc-set, w8, w64, Fits, eq-eqb, ne_eqb, eqb-true}
use native.Mathlib.Decide.{ℕ_discrete, dec_le}
use Rattle.number.specs.Number.{word_at}
use Rattle.payload.specs.Content.{Bytes}
use Rattle.item.specs.Front.{front_key}
use Rattle.heard.specs.Place.{Messages, done, more, Payload, type_at, size_at, key_at, precedes}
use Rattle.heard.specs.Compare.{Of, Alike, FrontOf}
use Rattle.heard.proofs.Comparing.{front_before, front_behind, six_before, six_behind}
use Rattle.batch.specs.declared.collect.Part.{Part}
use Rattle.batch.specs.declared.map.Chunk.{Chunk}
use Rattle.batch.specs.declared.map.Map.{Map}
use Rattle.sorting.specs.Sorted.{sorted}
use Rattle.sorting.specs.Sort.{Held, FirstSorted}
use Rattle.batch.specs.Next.{is_above, left, NextIs}
use Rattle.batch.specs.Keep.{only, is_up_to, is_wanted, front_or, word_or, Bound, none, one, Told, Fronts, Sifted, Trims, Trimmed, kept, cut, Meets, MeetsBehind, Passed, Takes, one_more, Taken, TakesTwo, TakenTwo, TopIs, all, Holds, WalkedTo, walked, Collected}
use Rattle.batch.specs.Keep as keep
use Rattle.batch.specs.Map.{Stretch, ChunkIs, Mapped, Tops, Clears, Clear}
use Rattle.batch.specs.Map as map
use Rattle.sorting.proofs.Precede.{true≢false, not_above_trans}
use Rattle.sorting.proofs.Sorting.{All, sorted_mid, length_sorted}
use Rattle.batch.proofs.Sorting.{Growing, all_in, only_sorted}
use Rattle.batch.proofs.Keeping.{messages_ahead, messages_from, messages_grow, messages_good, messages_append, messages_same, First, messages_first, Sub, keep_one, sub_none, sub_first, sub_behind, sub_past, all_sub, growing_sub, in_all, wanted_is, wanted_all, wanted_not, wanted_past, messages_split, only_in, only_out, only_append, only_clear, upto_self, only_length, only_same, above_only, fall_top, lower_again, part_first, part_shorter}

-- ---- is_above, is_up_to, is_wanted

module _ (s : Bytes) (low x : ℕ) where
  pub bound_good : Bound s low → (low ≡ 0 → ⊥) → Payload s low
  bound_good (none e) n = absurd (n e)
  bound_good (one p) n = p

  pub above_all : low ≡ 0 → true ≡ is_above s low x
  unfolding is_above
  above_all e = rw e

  pub above_some : (r : Bool) → (low ≡ 0 → ⊥) → r ≡ precedes s low x → r ≡ is_above s low x
  unfolding is_above
  above_some r n e = rw (ne_eqb low 0 n) e

  pub upto_none : low ≡ 0 → true ≡ is_up_to s low x
  unfolding is_up_to
  upto_none e = rw e

  pub upto_some : (r : Bool) → (low ≡ 0 → ⊥) → r ≡ precedes s low x → not r ≡ is_up_to s low x
  unfolding is_up_to
  upto_some r n e = rw (ne_eqb low 0 n) (ap not e)

  pub both_tests : (top : ℕ) (r t : Bool) → r ≡ is_above s low x → r ≡ true → t ≡ is_up_to s top x → t ≡ is_wanted s low top x
  unfolding is_wanted
  both_tests top r t e f g = rw (sym e ∙ f) g

  pub first_fails : (top : ℕ) (r : Bool) → r ≡ is_above s low x → r ≡ false → false ≡ is_wanted s low top x
  unfolding is_wanted
  first_fails top r e f = rw (sym e ∙ f)

  -- ---- by fronts

  pub front_none : (n : ℕ) → low ≡ 0 → n ≡ front_or s low n
  unfolding front_or
  front_none n e = rw e

  pub front_some : (n r : ℕ) → (low ≡ 0 → ⊥) → r ≡ front_key (key_at s low) → r ≡ front_or s low n
  unfolding front_or
  front_some n r q e = rw (ne_eqb low 0 q) e

-- ---- word_or

module _ (s : Bytes) (x n : ℕ) where
  pub word_none : x ≡ 0 → n ≡ word_or s x n
  unfolding word_or
  word_none e = rw e

  module _ (b : Bound s x) (q : x ≡ 0 → ⊥) where
    pub word_good : Payload s x
    word_good = bound_good s x x b q

    module _ (k : ℕ) (d : k ≡ type_at s x) where
      pub word_other : (k ≡ 6 → ⊥) → n ≡ word_or s x n
      unfolding word_or
      word_other e = rw (ne_eqb x 0 q, ne_eqb (type_at s x) 6 (λ z. e (d ∙ z)))

      pub word_of : k ≡ 6 → Of s 6 x
      word_of e = record { payload = word_good; type = sym d ∙ e }

      pub word_some : k ≡ 6 → (r : ℕ) → r ≡ word_at s (x + 18) → r ≡ word_or s x n
      unfolding word_or
      word_some e r f = f ∙ rw (ne_eqb x 0 q, eq-eqb (type_at s x) 6 (sym d ∙ e))

pub ruleset worded = (word_none, word_good, word_other, word_of, word_some)

-- the front at hand is that of `low`
pub front_at_hand : (s : Bytes) (low n f : ℕ) → Bound s low → (low ≡ 0 → ⊥) → f ≡ front_or s low n → FrontOf s f low
unfolding front_or
front_at_hand s low n f b q e = record { payload = bound_good s low 0 b q; is = e ∙ rw (ne_eqb low 0 q) }

pub ruleset fronted = (bound_good, front_none, front_some)

pub ruleset tests = (front_at_hand, above_all, above_some, upto_none, upto_some)

pub ruleset wanting = (both_tests, first_fails)

-- ---- meet

module _ (s : Bytes) (o : (i : ℕ) → Fits w8 (get_or s i 0)) (low x f : ℕ) (p : FrontOf s f x) where
  front_under : Bound s low → (top least : ℕ) → least ≡ front_or s low 0 → f < least → is_wanted s low top x ≡ false
  unfolding front_or is_above
  front_under b top least e h = wanted_not s low top x (go (ℕ_discrete low 0))
    where
      go : Dec (low ≡ 0) → is_above s low x ≡ false
      go (yes z) = absurd (let w : least ≡ 0 = e ∙ rw z in omega (arith, h, w))
      go (no z) =
          let q : least ≡ front_key (key_at s low) = e ∙ rw (ne_eqb low 0 z) in
          rw (ne_eqb low 0 z) (sym (front_behind s o low x (bound_good s low x b z) p.payload least f q p.is h))

  front_over : (top : ℕ) → Bound s top → (most : ℕ) → most ≡ front_or s top 18_446_744_073_709_551_615 → f < 18_446_744_073_709_551_616 → most < f → is_wanted s low top x ≡ false
  unfolding front_or is_up_to
  front_over top b most e w h = wanted_past s low top x (go (ℕ_discrete top 0))
    where
      go : Dec (top ≡ 0) → is_up_to s top x ≡ false
      go (yes z) = absurd (let y : most ≡ 18446744073709551615 = e ∙ rw z in omega (arith, h, y, w))
      go (no z) =
          let q : most ≡ front_key (key_at s top) = e ∙ rw (ne_eqb top 0 z) in
          rw (ne_eqb top 0 z) (ap not (sym (front_before s o top x (bound_good s top x b z) p.payload most f q p.is h)))

  front_passed : (c : Part) → Meets s low x c → Fits w64 f → Sifted f c.least c.most false → is_wanted s low c.top x ≡ false
  front_passed c t w i = go (dec_le c.least f) (dec_le f c.most)
    where
      go : Dec (c.least ≤ f) → Dec (f ≤ c.most) → is_wanted s low c.top x ≡ false
      go (yes h) (yes k) = absurd (i.out refl h k)
      go (yes h) (no k) = front_over c.top t.top_bound c.most t.fronts.most w.fits (omega arith)
      go (no h) k = front_under t.low_bound c.top c.least t.fronts.least (omega arith)

-- by the word behind the front

same_six : (s : Bytes) (y x : ℕ) → Payload s y → Payload s x → type_at s y ≡ 6 → type_at s x ≡ 6 → front_key (key_at s y) ≡ front_key (key_at s x) → Alike s 6 y x
same_six s y x p q d e f = record { one = record { payload = p; type = d }; other = record { payload = q; type = e }; front = f }

module _ (s : Bytes) (o : (i : ℕ) → Fits w8 (get_or s i 0)) (low x : ℕ) (c : Part) (t : MeetsBehind s low x c) (e : type_at s x ≡ 6) (m : ℕ) (d : m ≡ word_at s (x + 18)) where
  word_under : m < c.under → is_wanted s low c.top x ≡ false
  unfolding front_or word_or is_above
  word_under h = wanted_not s low c.top x (go (ℕ_discrete low 0) (ℕ_discrete (type_at s low) 6))
    where
      go : Dec (low ≡ 0) → Dec (type_at s low ≡ 6) → is_above s low x ≡ false
      go (yes z) k = absurd (let w : c.under ≡ 0 = t.meets.fronts.under ∙ rw z in omega (arith, h, w))
      go (no z) (no k) = absurd (let w : c.under ≡ 0 = t.meets.fronts.under ∙ rw (ne_eqb low 0 z, ne_eqb (type_at s low) 6 k) in omega (arith, h, w))
      go (no z) (yes k) =
          let w : c.under ≡ word_at s (low + 18) = t.meets.fronts.under ∙ rw (ne_eqb low 0 z, eq-eqb (type_at s low) 6 k) in
          let f : c.least ≡ front_key (key_at s low) = t.meets.fronts.least ∙ rw (ne_eqb low 0 z) in
          let a = same_six s low x (bound_good s low x t.meets.low_bound z) t.meets.good k e (sym f ∙ sym t.front) in
          rw (ne_eqb low 0 z) (sym (six_behind s o low x a c.under m w d h))

  word_over : m < 18_446_744_073_709_551_616 → c.over < m → is_wanted s low c.top x ≡ false
  unfolding front_or word_or is_up_to
  word_over u h = wanted_past s low c.top x (go (ℕ_discrete c.top 0) (ℕ_discrete (type_at s c.top) 6))
    where
      go : Dec (c.top ≡ 0) → Dec (type_at s c.top ≡ 6) → is_up_to s c.top x ≡ false
      go (yes z) k = absurd (let w : c.over ≡ 18446744073709551615 = t.meets.fronts.over ∙ rw z in omega (arith, h, w, u))
      go (no z) (no k) = absurd (let w : c.over ≡ 18446744073709551615 = t.meets.fronts.over ∙ rw (ne_eqb c.top 0 z, ne_eqb (type_at s c.top) 6 k) in omega (arith, h, w, u))
      go (no z) (yes k) =
          let w : c.over ≡ word_at s (c.top + 18) = t.meets.fronts.over ∙ rw (ne_eqb c.top 0 z, eq-eqb (type_at s c.top) 6 k) in
          let f : c.most ≡ front_key (key_at s c.top) = t.meets.fronts.most ∙ rw (ne_eqb c.top 0 z) in
          let a = same_six s c.top x (bound_good s c.top x t.meets.top_bound z) t.meets.good k e (sym f ∙ sym t.one ∙ sym t.front) in
          rw (ne_eqb c.top 0 z) (ap not (sym (six_before s o c.top x a c.over m w d h)))

  word_passed : Fits w64 m → Sifted m c.under c.over false → is_wanted s low c.top x ≡ false
  word_passed w i = go (dec_le c.under m) (dec_le m c.over)
    where
      go : Dec (c.under ≤ m) → Dec (m ≤ c.over) → is_wanted s low c.top x ≡ false
      go (yes h) (yes k) = absurd (i.out refl h k)
      go (yes h) (no k) = word_over w.fits (omega arith)
      go (no h) k = word_under (omega arith)

module _ (s : Bytes) (low x : ℕ) (c : Part) (t : MeetsBehind s low x c) where
  pub behind_payload : Payload s x
  behind_payload = t.meets.good

  module _ (k : ℕ) (d : k ≡ type_at s x) (e : k ≡ 6) where
    pub behind_six : Of s 6 x
    behind_six = record { payload = t.meets.good; type = sym d ∙ e }

    pub behind_is : ((i : ℕ) → Fits w8 (get_or s i 0)) → (m : ℕ) → m ≡ word_at s (x + 18) → Fits w64 m → (r : Bool) → Sifted m c.under c.over r → Passed s low x c (not r)
    behind_is o m f w true i = keep.Passed.unsure
    behind_is o m f w false i = keep.surely (word_passed s o low x c t (sym d ∙ e) m f w i)

  pub behind_unsure : Passed s low x c false
  behind_unsure = keep.Passed.unsure

pub ruleset passing_behind = (behind_payload, behind_six, behind_is, behind_unsure)

module _ (s : Bytes) (low x : ℕ) (c : Part) (t : Meets s low x c) where
  pub pass_behind : (f : ℕ) → f ≡ front_key (key_at s x) → c.least ≡ c.most → f ≡ c.least → MeetsBehind s low x c
  pass_behind f e d g = record { meets = t; one = d; front = sym e ∙ g }

  pub pass_good : Payload s x
  pass_good = t.good

  pub pass_is : ((i : ℕ) → Fits w8 (get_or s i 0)) → (f : ℕ) → f ≡ front_key (key_at s x) → Fits w64 f → (r : Bool) → Sifted f c.least c.most r → Passed s low x c (not r)
  pass_is o f e w true i = keep.Passed.unsure
  pass_is o f e w false i = keep.surely (front_passed s o low x f (record { payload = t.good; is = e }) c t w i)

pub ruleset passing = (pass_behind, pass_good, pass_is)

-- ---- take_in

module _ (s : Bytes) (low at : ℕ) (l : List ℕ) (p : Part) (t : Takes s low at l p) where
  pub take_low : Bound s low
  take_low = t.meets.low_bound

  pub take_top : Bound s p.top
  take_top = t.meets.top_bound

  pub take_fronts : Fronts s low p
  take_fronts = t.meets.fronts

  pub take_good : Payload s at
  take_good = t.meets.good

  pub take_front : (f : ℕ) → f ≡ front_key (key_at s at) → FrontOf s f at
  take_front f e = record { payload = t.meets.good; is = e }

  pub take_room : p.n < 6_000
  take_room = t.room

  pub take_within : p.n < length l
  take_within = omega (arith, t.room, t.len)

  pub take_trims : Trims s low (set l p.n at) (one_more p)
  take_trims = record { low_bound = t.meets.low_bound; long = length-set l p.n at ∙ t.len; few = omega (arith, t.room); held = λ k q. go k q (ℕ_discrete k p.n) }
    where
      go : (k : ℕ) → k < p.n + 1 → Dec (k ≡ p.n) → Payload s (get_or (set l p.n at) k 0)
      go k q (yes d) = rw (d, get_or-set_same l p.n at 0 take_within) t.meets.good
      go k q (no d) = rw (get_or-set_other l p.n k at 0 d) (t.held k (omega arith))

  module _ (r : Bool) (f : r ≡ is_wanted s low p.top at) where
    pub take_passed : r ≡ false → Taken s low at l p l p
    take_passed g = keep.passed (sym f ∙ g) refl refl

    pub take_taken : r ≡ true → (m : List ℕ) (q : Part) → Trimmed s low (set l p.n at) (one_more p) m q → Taken s low at l p m q
    take_taken g m q z = keep.taken (sym f ∙ g) z

pub ruleset takings = (take_low, take_top, take_fronts, take_good, take_front, take_room, take_within, take_trims, take_passed, take_taken)

-- ---- take_two

second_takes : (s : Bytes) (low a : ℕ) (l : List ℕ) (p : Part) → Takes s low a l p → (b : ℕ) → Payload s b → (m : List ℕ) (q : Part) → Taken s low a l p m q → Takes s low b m q
second_takes s low a l p t b g m q (keep.passed f d e) =
    rw (d, e) (record { meets = record { low_bound = t.meets.low_bound; top_bound = t.meets.top_bound; fronts = t.meets.fronts; good = g }; len = t.len; room = t.room; held = t.held })
second_takes s low a l p t b g m q (keep.taken f (kept r d e)) = rw (d, e) (record {
  meets = record {
    low_bound = t.meets.low_bound;
    top_bound = t.meets.top_bound;
    fronts = record { least = t.meets.fronts.least; most = t.meets.fronts.most; under = t.meets.fronts.under; over = t.meets.fronts.over };
    good = g;
  };
  len = (take_trims s low a l p t).long;
  room = r;
  held = (take_trims s low a l p t).held;
})
second_takes s low a l p t b g m q (keep.taken f (cut r i c d e)) = record {
  meets = record { low_bound = t.meets.low_bound; top_bound = rw d (one (i.held.each 4_499 (omega (arith, long)))); fronts = e; good = g };
  len = long;
  room = omega (arith, c);
  held = λ k z. i.held.each k (omega (arith, long, c));
}
  where
    long : length m ≡ 6_000
    long = ap length i.is ∙ length_sorted s (set l p.n a) ∙ length-set l p.n a ∙ t.len

surely_not : (s : Bytes) (low at : ℕ) (p : Part) (r : Bool) → Passed s low at p r → r ≡ true → is_wanted s low p.top at ≡ false
surely_not s low at p r (keep.surely f) e = f
surely_not s low at p r keep.Passed.unsure e = true≢false e refl

module _ (s : Bytes) (low a b : ℕ) (l : List ℕ) (p : Part) where
  pub two_first : TakesTwo s low a b l p → Takes s low a l p
  two_first (keep.TakesTwo.both t g) = t

  pub two_meets : TakesTwo s low a b l p → Meets s low a p
  two_meets (keep.TakesTwo.both t g) = t.meets

  pub two_other : TakesTwo s low a b l p → Meets s low b p
  two_other (keep.TakesTwo.both t g) = record { low_bound = t.meets.low_bound; top_bound = t.meets.top_bound; fronts = t.meets.fronts; good = g }

  pub two_passed : (r t : Bool) → Passed s low a p r → r ≡ true → Passed s low b p t → t ≡ true → TakenTwo s low a b l p l p
  two_passed r t d e f g = keep.TakenTwo.both l p (keep.passed (surely_not s low a p r d e) refl refl) (keep.passed (surely_not s low b p t f g) refl refl)

  pub two_second : TakesTwo s low a b l p → (m : List ℕ) (q : Part) → Taken s low a l p m q → Takes s low b m q
  two_second (keep.TakesTwo.both t g) m q d = second_takes s low a l p t b g m q d

  pub two_taken : (m : List ℕ) (q : Part) → Taken s low a l p m q → (n : List ℕ) (r : Part) → Taken s low b m q n r → TakenTwo s low a b l p n r
  two_taken m q d n r e = keep.TakenTwo.both m q d e

pub ruleset twice = (two_first, two_meets, two_other, two_passed, two_second, two_taken)

-- ---- one message more is met

top_good : (s : Bytes) (stop : ℕ) (xs : List ℕ) → Messages s 8 xs stop → (low top : ℕ) → TopIs s xs low top → Bound s top
top_good s stop xs m low top (all e) = none e
top_good s stop xs m low top (keep.one i e) = one (in_all i (messages_good m))

module _ (s : Bytes) (stop : ℕ) (xs : List ℕ) (w : Messages s 8 xs stop) (low : ℕ) (l : List ℕ) (p : Part) where
  hold_takes : (ws : List ℕ) → Holds s xs ws low l p → (at : ℕ) → Payload s at → Takes s low at l p
  hold_takes ws t at g = record {
    meets = record { low_bound = t.low_bound; top_bound = top_good s stop xs w low p.top t.top; fronts = t.fronts; good = g };
    len = t.len;
    room = t.room;
    held = t.held;
  }

  module _ (u v : List ℕ) (t : Holds s xs (u ++ v) low l p) (at : ℕ) (g : Payload s at) (i : Sub (u ++ (at ∷ v)) xs) where
    abbrev wanted : List ℕ
    wanted = only (is_wanted s low p.top) (u ++ (at ∷ v))

    pushed : is_wanted s low p.top at ≡ true → sorted s (take (p.n + 1) (set l p.n at)) ≡ sorted s wanted
    pushed f =
        rw (
          add-one p.n,
          take-suc-set l p.n at (omega (arith, t.room, t.len)),
          only_in (is_wanted s low p.top) u v at f,
          sorted_mid s (take p.n l) [] at,
          append-nil (take p.n l),
          sorted_mid s (only (is_wanted s low p.top) u) (only (is_wanted s low p.top) v) at,
          t.is,
          only_append (is_wanted s low p.top) u v,
        )

    hold_more : (m : List ℕ) (q : Part) → Taken s low at l p m q → Holds s xs (u ++ (at ∷ v)) low m q
    hold_more m q (keep.passed f b c) = rw (b, c) (record {
      low_bound = t.low_bound;
      fronts = t.fronts;
      len = t.len;
      room = t.room;
      held = t.held;
      is = t.is ∙ ap (sorted s) (sym (only_out (is_wanted s low p.top) u v at f));
      top = t.top;
    })
    hold_more m q (keep.taken f (kept a b c)) = rw (b, c) (record {
      low_bound = t.low_bound;
      fronts = record { least = t.fronts.least; most = t.fronts.most; under = t.fronts.under; over = t.fronts.over };
      len = (take_trims s low at l p (hold_takes (u ++ v) t at g)).long;
      room = a;
      held = (take_trims s low at l p (hold_takes (u ++ v) t at g)).held;
      is = pushed f;
      top = t.top;
    })
    hold_more m q (keep.taken f (cut a b c d e)) = record {
      low_bound = t.low_bound;
      fronts = e;
      len = m_long;
      room = omega (arith, c);
      held = λ k z. b.held.each k (omega (arith, m_long, c));
      is = rw (c, d) (ap (λ (y : List ℕ). sorted s (take 4_500 y)) m_is ∙ lower_again s low p.top (u ++ (at ∷ v)) grows from 4_499 fall_in
          ∙ ap (λ (y : List ℕ). sorted s (only (is_wanted s low (get_or y 4_499 0)) (u ++ (at ∷ v)))) (sym m_is));
      top = rw d top_is;
    }
      where
        grows : Growing (u ++ (at ∷ v))
        grows = growing_sub i (messages_grow w)

        from : All (λ (x : ℕ). 8 ≤ x) (u ++ (at ∷ v))
        from = all_sub i (messages_from w)

        long : length (set l p.n at) ≡ 6_000
        long = length-set l p.n at ∙ t.len

        full : take (p.n + 1) (set l p.n at) ≡ set l p.n at
        full = take_all (p.n + 1) (set l p.n at) (omega (arith, long, a))

        m_is : m ≡ sorted s wanted
        m_is = b.is ∙ ap (sorted s) (sym full) ∙ pushed f

        m_long : length m ≡ 6_000
        m_long = ap length b.is ∙ length_sorted s (set l p.n at) ∙ long

        fall_in : 4_499 < length (sorted s wanted)
        fall_in = omega (arith, ap length m_is, m_long)

        widen : {x : ℕ} → TopIs s (u ++ (at ∷ v)) low x → TopIs s xs low x
        widen (all z) = all z
        widen (keep.one j z) = keep.one (in_all j (all_sub i (all_in xs))) z

        top_is : TopIs s xs low (get_or m 4_499 0)
        top_is = rw m_is (widen (fall_top s low p.top (u ++ (at ∷ v)) grows from 4_499 fall_in))

-- ---- walk

pub data Walking (s : Bytes) (stop low over : ℕ) (l : List ℕ) (p : Part) (at : ℕ) : Type 0 where
  walks : WalkedTo s stop low at l p → Stretch s at over → over ≤ stop → Walking s stop low over l p at

pub walk_start : (s : Bytes) (stop low from over : ℕ) (l : List ℕ) (p : Part) → WalkedTo s stop low from l p → Stretch s from over → over ≤ stop → Walking s stop low over l p from
walk_start s stop low from over l p r t h = walks r t h

module _ (s : Bytes) (stop low over : ℕ) (l : List ℕ) (p : Part) (at : ℕ) where
  pub walk_stretch : Walking s stop low over l p at → Stretch s at over
  walk_stretch (walks r t w) = t

  pub walk_takes : Walking s stop low over l p at → at < over → Takes s low at l p
  walk_takes (walks (walked ps rest m n k) t w) h = hold_takes s stop (ps ++ rest) (messages_append m n) low l p ps k at (messages_first t.messages h).good

  pub walk_again : Walking s stop low over l p at → at < over → (next : ℕ) → next ≡ at + size_at s at → (m : List ℕ) (q : Part) → Taken s low at l p m q → Walking s stop low over m q next
  walk_again (walks (walked ps rest x y k) t w) h next e m q d = rw e (walks
      (walked (ps ++ (at ∷ [])) b.rest (messages_append x (more good done)) b.ahead
      (rw same (hold_more s stop (ps ++ rest) (messages_append x y) low l p ps [] (rw (append-nil ps) k) at good here m q d)))
      (record { xs = (messages_first t.messages h).rest; messages = (messages_first t.messages h).ahead })
      w)
    where
      good : Payload s at
      good = (messages_first t.messages h).good

      b : First s at stop rest
      b = messages_first y (omega arith)

      same : (ps ++ (at ∷ [])) ++ b.rest ≡ ps ++ rest
      same = append_assoc ps (at ∷ []) b.rest ∙ ap (λ (z : List ℕ). ps ++ z) (sym b.is)

      here : Sub (ps ++ (at ∷ [])) (ps ++ rest)
      here = let z : Sub (ps ++ (at ∷ [])) (ps ++ (at ∷ b.rest)) = sub_behind ps (keep_one (sub_none b.rest)) in rw (← b.is) at z

  pub walk_meets : Walking s stop low over l p at → at < over → Meets s low at p
  walk_meets t h = (walk_takes t h).meets

  pub walk_skip : Walking s stop low over l p at → at < over → (r : Bool) → Passed s low at p r → r ≡ true → (next : ℕ) → next ≡ at + size_at s at → Walking s stop low over l p next
  walk_skip t h r d f next e = walk_again t h next e l p (keep.passed (surely_not s low at p r d f) refl refl)

  pub walk_end : Walking s stop low over l p at → over ≤ at → WalkedTo s stop low over l p
  walk_end (walks r t w) h = let e : over ≡ at = omega (arith, messages_ahead t.messages) in rw e r

pub ruleset walking = (walk_start, walk_stretch, walk_meets, walk_skip, walk_takes, walk_again, walk_end)

-- ---- walk_halves

pub record Halved (s : Bytes) (stop low mid over : ℕ) (l : List ℕ) (p : Part) (a b : ℕ) : Type 0 where
  pub ps : List ℕ
  pub mids : List ℕ
  pub bs : List ℕ
  pub rest : List ℕ
  pub behind : Messages s 8 ps a
  pub between : Messages s a mids mid
  pub half : Messages s mid bs b
  pub ahead : Messages s b rest stop
  pub stretch : Stretch s b over
  pub within : over ≤ stop
  pub holds : Holds s (ps ++ (mids ++ (bs ++ rest))) (ps ++ bs) low l p

pub data Halving (s : Bytes) (stop low mid over : ℕ) (l : List ℕ) (p : Part) (a b : ℕ) : Type 0 where
  halves : Halved s stop low mid over l p a b → Halving s stop low mid over l p a b

pub half_start : (s : Bytes) (stop low : ℕ) (c : Chunk) (l : List ℕ) (p : Part) → WalkedTo s stop low c.from l p → ChunkIs s stop c → Halving s stop low c.mid c.over l p c.from c.mid
half_start s stop low c l p (walked ps rest x y k) h =
    let m : c.mid ≤ c.over = messages_ahead h.second.messages in
    let v = messages_split h.first.messages y (omega (arith, h.within)) in
    let e : rest ≡ h.first.xs ++ v.rest = messages_same y (messages_append h.first.messages v.ahead) in
    halves (record {
      ps = ps;
      mids = h.first.xs;
      bs = [];
      rest = v.rest;
      behind = x;
      between = h.first.messages;
      half = done;
      ahead = v.ahead;
      stretch = h.second;
      within = h.within;
      holds = rw (← e, append-nil ps) k;
    })

module _ (s : Bytes) (stop low mid over : ℕ) (l : List ℕ) (p : Part) (a b : ℕ) (t : Halved s stop low mid over l p a b) where
  all_of : Messages s 8 (t.ps ++ (t.mids ++ (t.bs ++ t.rest))) stop
  all_of = messages_append t.behind (messages_append t.between (messages_append t.half t.ahead))

  half_takes : (at : ℕ) → Payload s at → Takes s low at l p
  half_takes at g = hold_takes s stop (t.ps ++ (t.mids ++ (t.bs ++ t.rest))) all_of low l p (t.ps ++ t.bs) t.holds at g

  module _ (h : a < mid) where
    first_halved : (m : List ℕ) (q : Part) → Taken s low a l p m q → Halved s stop low mid over m q (a + size_at s a) b
    first_halved m q k = record {
      ps = t.ps ++ (a ∷ []);
      mids = c.rest;
      bs = t.bs;
      rest = t.rest;
      behind = messages_append t.behind (more good done);
      between = c.ahead;
      half = t.half;
      ahead = t.ahead;
      stretch = t.stretch;
      within = t.within;
      holds = rw (same, append_assoc t.ps (a ∷ []) t.bs)
          (hold_more s stop (t.ps ++ (t.mids ++ (t.bs ++ t.rest))) all_of low l p t.ps t.bs t.holds a good here m q k);
    }
      where
        good : Payload s a
        good = (messages_first t.between h).good

        c : First s a mid t.mids
        c = messages_first t.between h

        same : (t.ps ++ (a ∷ [])) ++ (c.rest ++ (t.bs ++ t.rest)) ≡ t.ps ++ (t.mids ++ (t.bs ++ t.rest))
        same = append_assoc t.ps (a ∷ []) (c.rest ++ (t.bs ++ t.rest)) ∙ ap (λ (y : List ℕ). t.ps ++ (y ++ (t.bs ++ t.rest))) (sym c.is)

        here : Sub (t.ps ++ (a ∷ t.bs)) (t.ps ++ (t.mids ++ (t.bs ++ t.rest)))
        here =
            subst (λ (y : List ℕ). Sub (t.ps ++ (a ∷ t.bs)) (t.ps ++ (y ++ (t.bs ++ t.rest)))) (sym c.is)
            (sub_behind t.ps (keep_one (sub_past c.rest (sub_first t.bs t.rest))))

  module _ (h : b < over) where
    second_halved : (m : List ℕ) (q : Part) → Taken s low b l p m q → Halved s stop low mid over m q a (b + size_at s b)
    second_halved m q k = record {
      ps = t.ps;
      mids = t.mids;
      bs = t.bs ++ (b ∷ []);
      rest = c.rest;
      behind = t.behind;
      between = t.between;
      half = messages_append t.half (more good done);
      ahead = c.ahead;
      stretch = record { xs = (messages_first t.stretch.messages h).rest; messages = (messages_first t.stretch.messages h).ahead };
      within = t.within;
      holds = rw (same, ← append_assoc t.ps t.bs (b ∷ []))
          (hold_more s stop (t.ps ++ (t.mids ++ (t.bs ++ t.rest))) all_of low l p (t.ps ++ t.bs) [] (rw (append-nil (t.ps ++ t.bs)) t.holds) b good here m q k);
    }
      where
        good : Payload s b
        good = (messages_first t.stretch.messages h).good

        c : First s b stop t.rest
        c = messages_first t.ahead (omega (arith, t.within))

        same : (t.bs ++ (b ∷ [])) ++ c.rest ≡ t.bs ++ t.rest
        same = append_assoc t.bs (b ∷ []) c.rest ∙ ap (λ (y : List ℕ). t.bs ++ y) (sym c.is)

        here : Sub ((t.ps ++ t.bs) ++ (b ∷ [])) (t.ps ++ (t.mids ++ (t.bs ++ t.rest)))
        here =
            let z : Sub (t.ps ++ (t.bs ++ (b ∷ []))) (t.ps ++ (t.mids ++ (t.bs ++ (b ∷ c.rest)))) = sub_behind t.ps (sub_past t.mids (sub_behind t.bs (keep_one (sub_none c.rest)))) in
            rw (append_assoc t.ps t.bs (b ∷ [])) (rw (← c.is) at z)

module _ (s : Bytes) (stop low mid over : ℕ) (l : List ℕ) (p : Part) (a b : ℕ) where
  pub first_stretch : Halving s stop low mid over l p a b → Stretch s a mid
  first_stretch (halves t) = record { xs = t.mids; messages = t.between }

  pub first_takes : Halving s stop low mid over l p a b → a < mid → Takes s low a l p
  first_takes (halves t) h = half_takes s stop low mid over l p a b t a (messages_first t.between h).good

  pub both_takes : Halving s stop low mid over l p a b → a < mid → b < over → TakesTwo s low a b l p
  both_takes (halves t) h k = keep.TakesTwo.both (half_takes s stop low mid over l p a b t a (messages_first t.between h).good) (messages_first t.stretch.messages k).good

  pub first_again : Halving s stop low mid over l p a b → a < mid → (x : ℕ) → x ≡ a + size_at s a → (m : List ℕ) (q : Part) → Taken s low a l p m q → Halving s stop low mid over m q x b
  first_again (halves t) h x e m q k = rw e (halves (first_halved s stop low mid over l p a b t h m q k))

  pub both_again : Halving s stop low mid over l p a b → a < mid → b < over → (x : ℕ) → x ≡ a + size_at s a → (y : ℕ) → y ≡ b + size_at s b → (m : List ℕ) (q : Part) → TakenTwo s low a b l p m q →
      Halving s stop low mid over m q x y
  both_again (halves t) h k x e y f m q (keep.TakenTwo.both n r d g) =
      rw (e, f) (halves (second_halved s stop low mid over n r (a + size_at s a) b (first_halved s stop low mid over l p a b t h n r d) k m q g))

  pub half_reached : Halving s stop low mid over l p a b → mid ≤ a → WalkedTo s stop low b l p
  half_reached (halves t) h =
      let e : a ≡ mid = omega (arith, messages_ahead t.between) in
      let n : t.mids ≡ [] = messages_same (rw e at t.between) done in
      walked (t.ps ++ t.bs) t.rest (messages_append (rw e at t.behind) t.half) t.ahead (rw (append_assoc t.ps t.bs t.rest) (rw n at t.holds))

  pub half_stretch : Halving s stop low mid over l p a b → Stretch s b over
  half_stretch (halves t) = t.stretch

  pub half_within : Halving s stop low mid over l p a b → over ≤ stop
  half_within (halves t) = t.within

pub ruleset halving = (half_start, first_stretch, first_takes, both_takes, first_again, both_again, half_reached, half_stretch, half_within)

-- ---- is_clear

module _ (s : Bytes) (low top least most : ℕ) (r : Bool) (e : r ≡ is_above s low most) where
  pub clear_by : (t : Bool) → r ≡ true → t ≡ is_up_to s top least → Clear s low top least most (not t)
  clear_by true f g = map.unsure
  clear_by false f g = map.behind (sym g)

  pub clear_low : r ≡ false → Clear s low top least most true
  clear_low f = map.before (sym e ∙ f)

module _ (s : Bytes) (low : ℕ) (p : Part) (least most : ℕ) (h : Clears s low p least most) where
  pub clear_below : Bound s low
  clear_below = h.low_bound

  pub clear_top : Bound s p.top
  clear_top = h.top_bound

  pub clear_fronts : Fronts s low p
  clear_fronts = h.fronts

  pub clear_least : Payload s least
  clear_least = h.least_good

  pub clear_most : Payload s most
  clear_most = h.most_good

  pub clear_front : (x f : ℕ) → Payload s x → f ≡ front_key (key_at s x) → FrontOf s f x
  clear_front x f g e = record { payload = g; is = e }

pub ruleset clearing = (clear_by, clear_low, clear_below, clear_top, clear_fronts, clear_least, clear_most, clear_front)

-- no message of a clear chunk is wanted
clear_of : (s : Bytes) (low top least most : ℕ) (r : Bool) → Clear s low top least most r → r ≡ true →
    (x : ℕ) → precedes s x least ≡ false → precedes s most x ≡ false → is_wanted s low top x ≡ false
clear_of s low top least most r map.unsure e x p q = true≢false e refl
clear_of s low top least most r (map.before f) e x p q = wanted_not s low top x (go (ℕ_discrete low 0))
  where
    go : Dec (low ≡ 0) → is_above s low x ≡ false
    go (yes z) = true≢false (sym (above_all s low most z)) f
    go (no z) = sym (above_some s low x (precedes s low x) z refl) ∙ not_above_trans s x most low q (above_some s low most (precedes s low most) z refl ∙ f)
clear_of s low top least most r (map.behind f) e x p q = wanted_past s low top x (go (ℕ_discrete top 0))
  where
    go : Dec (top ≡ 0) → is_up_to s top x ≡ false
    go (yes z) = true≢false (sym (upto_none s top least z)) f
    go (no z) = case (precedes s top x) refl
      where
        case : (b : Bool) → precedes s top x ≡ b → is_up_to s top x ≡ false
        case true g = sym (upto_some s top x (precedes s top x) z refl) ∙ ap not g
        case false g = true≢false (sym (upto_some s top least (precedes s top least) z refl) ∙ ap not (not_above_trans s least x top p g)) f

-- ---- walk_chunk

module _ (s : Bytes) (stop : ℕ) (c : Chunk) (k : ChunkIs s stop c) (low : ℕ) (l : List ℕ) (p : Part) where
  pub chunk_clears : WalkedTo s stop low c.from l p → Clears s low p c.least c.most
  chunk_clears (walked ps rest x y t) = record {
    low_bound = t.low_bound;
    top_bound = top_good s stop (ps ++ rest) (messages_append x y) low p.top t.top;
    fronts = t.fronts;
    least_good = k.least_good;
    most_good = k.most_good;
  }

  pub chunk_passed : WalkedTo s stop low c.from l p → (r : Bool) → Clear s low p.top c.least c.most r → r ≡ true → WalkedTo s stop low c.over l p
  chunk_passed (walked ps rest x y t) r d f =
      let v = messages_split k.messages y k.within in
      let e : rest ≡ k.cs ++ v.rest = messages_same y (messages_append k.messages v.ahead) in
      let z : (ps ++ k.cs) ++ v.rest ≡ ps ++ rest = append_assoc ps k.cs v.rest ∙ ap (λ (w : List ℕ). ps ++ w) (sym e) in
      walked (ps ++ k.cs) v.rest (messages_append x k.messages) v.ahead (rw z (record {
        low_bound = t.low_bound;
        fronts = t.fronts;
        len = t.len;
        room = t.room;
        held = t.held;
        is = t.is ∙ ap (sorted s) (sym (only_clear (is_wanted s low p.top) ps k.cs (λ w i. clear_of s low p.top c.least c.most r d f w (k.lowest w i) (k.highest w i))));
        top = t.top;
      }))

pub ruleset chunked = (chunk_clears, chunk_passed)

-- ---- collect: the messages before `at` are met

pub data Collecting (s : Bytes) (stop low : ℕ) (m : Map) (l : List ℕ) (p : Part) (at : ℕ) : Type 0 where
  collects : WalkedTo s stop low at l p → Mapped s stop m → Collecting s stop low m l p at

start_top : (s : Bytes) (stop low first : ℕ) (xs : List ℕ) → Messages s 8 xs stop → Tops s stop low first → TopIs s xs low first
start_top s stop low first xs m (map.all e) = all e
start_top s stop low first xs m (map.one h e) = keep.one (h.among xs m) e

module _ (s : Bytes) (stop low first : ℕ) (t : Told s stop low) (o : Tops s stop low first) where
  pub collect_low : Bound s low
  collect_low = t.bound

  pub collect_top : Bound s first
  collect_top = go o
    where
      go : Tops s stop low first → Bound s first
      go (map.all e) = none e
      go (map.one h e) = one h.good

  pub collect_start : (m : Map) (l : List ℕ) → Mapped s stop m → length l ≡ 6_000 → (p : Part) → p.n ≡ 0 → p.top ≡ first → Fronts s low p → Collecting s stop low m l p 8
  collect_start m l k e p n d f = collects
      (walked [] t.xs done t.messages (record {
        low_bound = t.bound;
        fronts = f;
        len = e;
        room = omega (arith, n);
        held = λ j h. absurd (omega (arith, n));
        is = rw n;
        top = rw d (start_top s stop low first t.xs t.messages o);
      }))
      k

module _ (s : Bytes) (stop low : ℕ) (m : Map) (l : List ℕ) (p : Part) (at : ℕ) where
  pub collect_reached : Collecting s stop low m l p at → (x : ℕ) → x ≡ at → WalkedTo s stop low x l p
  collect_reached (collects t k) x e = rw e t

  pub collect_chunk : Collecting s stop low m l p at → (c : ℕ) (d : Chunk) → c < 112 → (get_or m.chunks c d).from ≡ at → ChunkIs s stop (get_or m.chunks c d)
  collect_chunk (collects (walked ps rest x y t) k) c d h e = k.marked.each c d h (λ z. omega (arith, messages_ahead x, z, e))

  pub collect_again : Collecting s stop low m l p at → (b : List ℕ) (q : Part) (n : ℕ) → WalkedTo s stop low n b q → Collecting s stop low m b q n
  collect_again (collects t k) b q n h = collects h k

  pub collect_here : Collecting s stop low m l p at → WalkedTo s stop low at l p
  collect_here (collects t k) = t

  pub collect_stretch : Collecting s stop low m l p at → Stretch s at stop
  collect_stretch (collects (walked ps rest x y t) k) = record { xs = rest; messages = y }

pub collect_end : (s : Bytes) (stop low : ℕ) (l : List ℕ) (p : Part) → WalkedTo s stop low stop l p → Collected s stop low l p
collect_end s stop low l p (walked ps rest x y t) =
    let n : rest ≡ [] = messages_same y done in
    let e : ps ++ rest ≡ ps = rw n (append-nil ps) in
    record {
      xs = ps;
      messages = x;
      len = t.len;
      room = t.room;
      held = t.held;
      is = t.is;
      top = rw e at t.top;
    }

pub ruleset collecting = (collect_low, collect_top, collect_start, collect_reached, collect_chunk, collect_again, collect_here, collect_stretch, collect_end)

-- ---- next

module _ (s : Bytes) (stop low : ℕ) (l : List ℕ) (p : Part) (t : Collected s stop low l p) where
  pub next_room : p.n ≤ length l
  next_room = omega (arith, t.room, t.len)

  pub next_held : Held s (take p.n l)
  next_held = record { each = λ k h. let e : k < p.n = omega (arith, length-take-le p.n l next_room) in rw (get_or-take p.n l k 0 e) (t.held k e) }

  module _ (m : List ℕ) (f : FirstSorted s l p.n m) where
    pub next_long : length m ≡ 6_000
    next_long = f.long ∙ t.len

    -- what stands in the buffer
    stands : take p.n m ≡ sorted s (only (is_wanted s low p.top) t.xs)
    stands = f.is ∙ t.is

    count : p.n ≡ length (sorted s (only (is_wanted s low p.top) t.xs))
    count = sym (length-take-le p.n m (omega (arith, f.long, next_room))) ∙ ap length stands

    every : left s low t.xs ≡ sorted s (only (is_above s low) t.xs)
    every = above_only s low (sorted s t.xs) ∙ only_sorted s (is_above s low) t.xs

    -- without a top all are held; with one those that are not behind it, and it is one of them
    record Ends (b : Bool) : Type 0 where
      is : take p.n m ≡ take p.n (left s low t.xs)
      within : p.n ≤ length (left s low t.xs)
      all : b ≡ true → p.n ≡ length (left s low t.xs)
      some : b ≡ false → 1 ≤ p.n

    ends : TopIs s t.xs low p.top → (b : Bool) → b ≡ eqb p.top 0 → Ends b
    ends (keep.all z) b e = record {
      is = stands ∙ whole ∙ sym (take_all p.n (left s low t.xs) (omega (arith, long)));
      within = omega (arith, long);
      all = λ y. long;
      some = λ y. true≢false (e ∙ eq-eqb p.top 0 z) y;
    }
      where
        whole : sorted s (only (is_wanted s low p.top) t.xs) ≡ left s low t.xs
        whole = ap (sorted s) (only_same (is_wanted s low p.top) (is_above s low) (λ x. rw z (wanted_all s low x)) t.xs) ∙ sym every

        long : p.n ≡ length (left s low t.xs)
        long = count ∙ ap length whole
    ends (keep.one i a) b e = record {
      is = stands ∙ part;
      within = omega (arith, shorter);
      all = λ y. absurd (not_zero (eqb-true p.top 0 (sym e ∙ y)));
      some = λ y. omega (arith, count, length_sorted s (only (is_wanted s low p.top) t.xs), only_length (is_wanted s low p.top) i (wanted_is s low p.top p.top a (upto_self s p.top)));
    }
      where
        not_zero : p.top ≡ 0 → ⊥
        not_zero z = omega (arith, in_all i (messages_from t.messages))

        shorter : p.n ≤ length (left s low t.xs)
        shorter = omega (arith, count, part_shorter s low p.top not_zero t.xs (messages_grow t.messages))

        part : sorted s (only (is_wanted s low p.top) t.xs) ≡ take p.n (left s low t.xs)
        part = part_first s low p.top not_zero t.xs (messages_grow t.messages) ∙ ap (λ (k : ℕ). take k (left s low t.xs)) (sym count)

    pub next_is : NextIs s stop low m (record { n = p.n; over = eqb p.top 0 })
    next_is =
        let e = ends t.top (eqb p.top 0) refl in
        record {
          room = omega (arith, t.room);
          is = λ xs g. rw (messages_same g t.messages) e.is;
          within = λ xs g. rw (messages_same g t.messages) e.within;
          all = λ xs g. rw (messages_same g t.messages) e.all;
          some = e.some;
        }

pub ruleset nexting = (next_room, next_held, next_long, next_is)
