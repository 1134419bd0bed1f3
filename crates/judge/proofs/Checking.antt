-- Laws of the search for messages at fault.
use Prim.Native.Nat.{ℕ, ◌+◌, ◌<◌, ◌≤◌}
use mathlib.Core.Path.{◌≡◌, refl, sym, ap, subst, ◌∙◌}
use mathlib.Core.List.{List, [], ◌∷◌, ◌++◌}
use mathlib.Core.Bool.{Bool, true, false, not, cond}
use mathlib.Core.Option.{some}
use native.Mathlib.Omega.{arith}
use native.Mathlib.Numerals.{add-one}
use borrow.Author.Tests.{eq-eqb, ne_eqb, eqb-true, eqb-false}
use lib.Dec.{eqb, ltb}
use lib.ListN.{length, get_or, drop, drop_of_length-le}
use lib.Seq.{drop-cons}
use Rattle.std.specs.declared.cmp.Ordering.{Ordering}
use Rattle.std.specs.declared.cmp.Ordering.TheVariants.{Less, Equal, Greater}
use Rattle.order.specs.Comparison.{bytes, flip}
use Rattle.order.specs.Map.{Item, All, lookup, own}
use Rattle.order.proofs.Comparison.{strings}
use Rattle.order.proofs.Map.{absent}
use Rattle.change.specs.Difference as change
use Rattle.change.specs.Application.{is_equal}
use Rattle.payload.specs.Content.{Bytes}
use Rattle.payload.specs.Payload.{items}
use Rattle.item.specs.declared.reading.Reading.TheVariants.{Announced}
use Rattle.item.specs.Reading.{Ready}
use Rattle.heard.specs.Place.{key_at, announces_at, Payload, before, precedes}
use Rattle.sorting.proofs.Precede.{true≢false}
use Rattle.batch.specs.Next.{is_above}
use Rattle.judge.specs.declared.check.Check.{Check}
use Rattle.judge.specs.Walk.{is_some, has, follows, is_fault, lesser, least_fault}
use Rattle.item.specs.declared.place.Part.{Part}
use Rattle.judge.specs.State.{Last, no, one, Next, Chain, on, last_of, Beyond, first, above, Finds, Checked, ChecksOne, Checks}
use Rattle.judge.proofs.Finding.{sorted_from}

abbrev S : Type 0
S = change.Snapshot Bytes Bytes

-- ---- is_next

pub next_first : (s : Bytes) (last x : ℕ) → last ≡ 0 → false ≡ follows s last x
unfolding follows
next_first s last x e = rw (eq-eqb last 0 e)

pub next_same : (s : Bytes) (last x : ℕ) → (last ≡ 0 → ⊥) → (r : Bool) → r ≡ is_equal (bytes (key_at s last) (key_at s x)) → r ≡ follows s last x
unfolding follows
next_same s last x e r q = rw (ne_eqb last 0 e) q

pub last_payload : (s : Bytes) (last : ℕ) → Last s last → (last ≡ 0 → ⊥) → Payload s last
last_payload s last no e = absurd (e refl)
last_payload s last (one p h) e = p

pub ruleset nexts = (next_first, next_same, last_payload)

-- ---- the same record, or one above

-- a message that follows is of the same record
pub follows_key : (s : Bytes) (last x : ℕ) → follows s last x ≡ true → (last ≡ 0 → ⊥) × (key_at s last ≡ key_at s x)
unfolding follows
follows_key s last x = go (eqb last 0) refl (bytes (key_at s last) (key_at s x)) refl
  where
    go : (b : Bool) → eqb last 0 ≡ b → (c : Ordering) → bytes (key_at s last) (key_at s x) ≡ c → cond b false (is_equal c) ≡ true → (last ≡ 0 → ⊥) × (key_at s last ≡ key_at s x)
    go true p c q e = true≢false refl (sym e)
    go false p Less q e = true≢false refl (sym e)
    go false p Equal q e = (eqb-false last 0 p, strings.same (key_at s last) (key_at s x) q)
    go false p Greater q e = true≢false refl (sym e)

-- one that does not is above
pub beyond_next : (s : Bytes) (last x : ℕ) → is_above s last x ≡ true → follows s last x ≡ false → Beyond s last (key_at s x)
unfolding follows is_above precedes
beyond_next s last x = go (eqb last 0) refl (bytes (key_at s last) (key_at s x)) refl
  where
    go : (b : Bool) → eqb last 0 ≡ b → (c : Ordering) → bytes (key_at s last) (key_at s x) ≡ c → cond b true (before c (ltb last x)) ≡ true → cond b false (is_equal c) ≡ false → Beyond s last (key_at s x)
    go true p c q e f = first (eqb-true last 0 p)
    go false p Less q e f = above q
    go false p Equal q e f = true≢false refl f
    go false p Greater q e f = true≢false refl (sym e)

beyond_trans : (s : Bytes) (last x : ℕ) (k : Bytes) → Beyond s last (key_at s x) → bytes (key_at s x) k ≡ Less → Beyond s last k
beyond_trans s last x k (first e) h = first e
beyond_trans s last x k (above e) h = above (strings.trans (key_at s last) (key_at s x) k e h)

-- ---- what stands at a key behind items below it

lookup_past : (k l : Bytes) → ((y : Bytes) → bytes y k ≡ Less → bytes y l ≡ Less) → (A B : S) → All (λ (x : Item Bytes Bytes). bytes x.key k ≡ Less) A → lookup bytes l (A ++ B) ≡ lookup bytes l B
lookup_past k l up [] B h = refl
lookup_past k l up (x ∷ A) B h =
    let z : bytes l x.key ≡ Greater = strings.turn x.key l ∙ ap flip (up x.key h.0) in
    ap (λ (o : Ordering). own o (some x.val) (lookup bytes l (A ++ B))) z ∙ lookup_past k l up A B h.1

lookup_over : (k l : Bytes) (A B : S) → All (λ (x : Item Bytes Bytes). x.key ≡ k) A → bytes k l ≡ Less → lookup bytes l (A ++ B) ≡ lookup bytes l B
lookup_over k l [] B h e = refl
lookup_over k l (x ∷ A) B h e =
    let y : bytes x.key l ≡ Less = rw h.0 e in
    let z : bytes l x.key ≡ Greater = strings.turn x.key l ∙ ap flip y in
    ap (λ (o : Ordering). own o (some x.val) (lookup bytes l (A ++ B))) z ∙ lookup_over k l A B h.1 e

-- ---- find's answer

module _ (a : Bytes) (from : ℕ) (k : Bytes) (r : Part) (f : Finds a from k r) where
  abbrev B : S
  B = items (drop r.to a)

  found_has : is_some (lookup bytes k (items (drop from a))) ≡ ltb r.from r.to
  found_has =
      rw (f.split, lookup_past k k (λ y e. e) f.passed (f.here ++ B) f.low) (go f.here (ltb r.from r.to) f.is_here f.counted)
    where
      go : (h : S) (t : Bool) → All (λ (x : Item Bytes Bytes). x.key ≡ k) h → length h ≡ cond t 1 0 → is_some (lookup bytes k (h ++ B)) ≡ t
      go [] true p q = absurd (omega (arith, q))
      go [] false p q = rw (absent strings k B f.rest (sorted_from a r.to f.ready))
      go (x ∷ h) true p q = let z : bytes k x.key ≡ Equal = rw p.0 (strings.self k) in ap (λ (o : Ordering). is_some (own o (some x.val) (lookup bytes k (h ++ B)))) z
      go (x ∷ h) false p q = absurd (omega (arith, q))

  found_beyond : (l : Bytes) → bytes k l ≡ Less → lookup bytes l B ≡ lookup bytes l (items (drop from a))
  found_beyond l e =
      let p : lookup bytes l (f.passed ++ (f.here ++ B)) ≡ lookup bytes l (f.here ++ B) = lookup_past k l (λ y d. strings.trans y k l d e) f.passed (f.here ++ B) f.low in
      sym (ap (lookup bytes l) f.split ∙ p ∙ lookup_over k l f.here B f.is_here e)

-- ---- check_one

module _ (a s : Bytes) (c : Check) (x : ℕ) (h : Checked a s c) where
  pub checked_last : Last s c.last
  checked_last = h.last

  pub checked_ready : Ready Announced a c.field
  checked_ready = h.ready

  module _ (t : Bool) (e : t ≡ follows s c.last x) where
    pub checked_payload : t ≡ true → Payload s c.last
    checked_payload q = last_payload s c.last h.last (follows_key s c.last x (sym e ∙ q)).0

    module _ (n : Next s c.last x) (p : Bool) (g : p ≡ announces_at s x) where
      module _ (q : t ≡ true) where
        keys : key_at s c.last ≡ key_at s x
        keys = (follows_key s c.last x (sym e ∙ q)).1

        held_on : (k : Bytes) → Beyond s x k → lookup bytes k (items (drop c.field a)) ≡ lookup bytes k (items a)
        held_on k (first z) = absurd (omega (arith, z, n.behind))
        held_on k (above z) = h.held k (above (rw keys z))

        pub one_follows : (w : Bool) → w ≡ announces_at s c.last → (f : Bool) → f ≡ cond p w (not w) → (l : ℕ) → l ≡ lesser f x c.least
            → ChecksOne a s c x (record { last = x; field = c.field; least = l })
        one_follows w d f i l j = record {
          checked = record { ready = h.ready; last = one n.payload n.behind; held = held_on };
          last = refl;
          least = let z : f ≡ is_fault (items a) s c.last x = rw (← g, ← d, ← e, q) i in j ∙ ap (λ (b : Bool). lesser b x c.least) z;
        }

      module _ (q : t ≡ false) (r : Part) (m : Finds a c.field (key_at s x) r) where
        beyond : Beyond s c.last (key_at s x)
        beyond = beyond_next s c.last x n.above (sym e ∙ q)

        held_found : (k : Bytes) → Beyond s x k → lookup bytes k (items (drop r.to a)) ≡ lookup bytes k (items a)
        held_found k (first z) = absurd (omega (arith, z, n.behind))
        held_found k (above z) = found_beyond a c.field (key_at s x) r m k z ∙ h.held k (beyond_trans s c.last x k beyond z)

        has_is : has (items a) (key_at s x) ≡ ltb r.from r.to
        has_is = ap is_some (sym (h.held (key_at s x) beyond)) ∙ found_has a c.field (key_at s x) r m

        pub one_found : (f : Bool) → f ≡ cond p (ltb r.from r.to) (not (ltb r.from r.to)) → (l : ℕ) → l ≡ lesser f x c.least
            → ChecksOne a s c x (record { last = x; field = r.to; least = l })
        one_found f i l j = record {
          checked = record { ready = m.ready; last = one n.payload n.behind; held = held_found };
          last = refl;
          least = let z : f ≡ is_fault (items a) s c.last x = rw (← g, ← e, q, has_is) i in j ∙ ap (λ (b : Bool). lesser b x c.least) z;
        }

pub next_payload : (s : Bytes) (last x : ℕ) → Next s last x → Payload s x
next_payload s last x n = n.payload

pub ruleset ones = (checked_last, checked_ready, checked_payload, one_follows, one_found, next_payload)

-- ---- check_batch

pub chain_next : (s : Bytes) (last x : ℕ) (xs : List ℕ) → Chain s last (x ∷ xs) → Next s last x
chain_next s last x xs (on n c) = n

pub chain_rest : (s : Bytes) (last x : ℕ) (xs : List ℕ) → Chain s last (x ∷ xs) → Chain s x xs
chain_rest s last x xs (on n c) = c

pub record Checking (a s : Bytes) (xs : List ℕ) (from : Check) (c : Check) (i : ℕ) : Type 0 where
  pub checked : Checked a s c
  pub chain : Chain s c.last (drop i xs)
  pub last : last_of c.last (drop i xs) ≡ last_of from.last xs
  pub same : (zs : List ℕ) → least_fault (items a) s from.last from.least (xs ++ zs) ≡ least_fault (items a) s c.last c.least (drop i xs ++ zs)

pub checking_start : (a s : Bytes) (xs : List ℕ) (from : Check) → Checked a s from → Chain s from.last xs → Checking a s xs from from 0
checking_start a s xs from h b = record { checked = h; chain = b; last = refl; same = λ zs. refl }

module _ (a s : Bytes) (xs : List ℕ) (from c : Check) (i : ℕ) (h : Checking a s xs from c i) where
  pub checking_checked : Checked a s c
  checking_checked = h.checked

  module _ (l : i < length xs) where
    split : drop i xs ≡ get_or xs i 0 ∷ drop (i + 1) xs
    split = rw add-one (drop-cons xs i 0 l)

    pub checking_next : Next s c.last (get_or xs i 0)
    checking_next = chain_next s c.last (get_or xs i 0) (drop (i + 1) xs) (subst (Chain s c.last) split h.chain)

    pub checking_again : (r : Check) → ChecksOne a s c (get_or xs i 0) r → Checking a s xs from r (i + 1)
    unfolding least_fault
    checking_again r q = record {
      checked = q.checked;
      chain = rw q.last (chain_rest s c.last (get_or xs i 0) (drop (i + 1) xs) (subst (Chain s c.last) split h.chain));
      last = rw q.last (ap (last_of c.last) (sym split) ∙ h.last);
      same = λ zs. h.same zs ∙ ap (λ (w : List ℕ). least_fault (items a) s c.last c.least (w ++ zs)) split ∙ rw (q.last, q.least);
    }

  pub checking_end : length xs ≤ i → Checks a s from xs c
  checking_end l =
      let z : drop i xs ≡ [] = drop_of_length-le xs {i = i} l in
      record {
        checked = h.checked;
        last = ap (last_of c.last) (sym z) ∙ h.last;
        same = λ zs. h.same zs ∙ ap (λ (w : List ℕ). least_fault (items a) s c.last c.least (w ++ zs)) z;
      }

pub ruleset checking = (checking_start, checking_checked, checking_next, checking_again, checking_end)
