-- Laws of fronts: they are ordered as the keys are, and eight bytes of a field give its key's.
use Prim.Native.Nat.{ℕ, zero, suc, ◌+◌, ◌*◌, ◌/◌, ◌≤◌, ◌<◌}
use mathlib.Core.Path.{◌≡◌, refl, sym, ap, ◌∙◌}
use mathlib.Core.List.{[], ◌∷◌}
use mathlib.Core.Bool.{Bool, true, false, cond, false≢true}
use native.Mathlib.Omega.{arith}
use native.Mathlib.Decide.{dec_le}
use borrow.Author.Tests.{eq-eqb, ne_eqb, leb-true}
use mir.Val.{Fits}
use mir.Syntax.{w8}
use lib.Dec.{leb, eqb}
use lib.ListN.{length, get_or, take, drop, length-take, length-drop, get_or-eq_default}
use lib.Seq.{get_or-take, get_or-drop, drop-drop, take-take}
use Rattle.std.specs.declared.cmp.Ordering.{Ordering}
use Rattle.std.specs.declared.cmp.Ordering.TheVariants.{Less, Equal, Greater}
use Rattle.order.specs.Comparison.{flip, or_else, number, bytes}
use Rattle.order.proofs.Never.{never}
use Rattle.order.proofs.Comparison.{strings, less_number, equal_number, less≢greater}
use Rattle.number.specs.Number.{four_at, word_at}
use Rattle.number.specs.Bytes.{AllBytes}
use Rattle.body.specs.declared.tag.Form.{Form}
use Rattle.body.specs.declared.tag.Action.{Action}
use Rattle.body.specs.declared.tag.Action.TheVariants.{Hold, Announce, Withdraw, Update}
use Rattle.body.specs.declared.tag.Tag.{Tag}
use Rattle.body.specs.declared.tag.Tag.TheVariants.{Unknown, Origin, RouterKey, Aspa}
use Rattle.body.specs.RouterKey.{good_router_key}
use Rattle.body.specs.Tag.{tag_of, kind_number, kind_of, good_aspa_body, good_tagged, good_body}
use Rattle.body.proofs.Sizes.{both, origin_size, aspa_parts, update_parts}
use Rattle.field.specs.Key.{key_of}
use Rattle.payload.specs.Content.{Bytes}
use Rattle.item.specs.Front.{packs, front_key, front_in}

-- ---- bytes of parts

pub drop_bytes : (n : ℕ) (l : Bytes) → AllBytes l → AllBytes (drop n l)
drop_bytes n l h i = rw (get_or-drop n l i 0) (h (n + i))

pub take_bytes : (n : ℕ) (l : Bytes) → AllBytes l → AllBytes (take n l)
take_bytes n l h i =
    elim (dec_le n i) [
      | yes q ↦ rw (get_or-eq_default (take n l) 0 {n = i} (omega (arith, length-take n l))) (omega arith)
      | no q ↦ rw (get_or-take n l i 0 (omega arith)) (h i)
    ]

pub cons_bytes : (x : ℕ) (l : Bytes) → x < 256 → AllBytes l → AllBytes (x ∷ l)
cons_bytes x l h k zero = h
cons_bytes x l h k (suc i) = k i

-- ---- the order of fronts

pub strict : (a b m : ℕ) (l r : Bytes) → a < b → AllBytes l → packs a m l < packs b m r
unfolding packs
strict a b zero l r h o = h
strict a b (suc m) l r h o =
    strict (a * 256 + get_or l 0 0) (b * 256 + get_or r 0 0) m (drop 1 l) (drop 1 r) (omega (arith, o 0)) (drop_bytes 1 l o)

rising : (a b m : ℕ) (r : Bytes) → a ≤ b → packs a m [] ≤ packs b m r
unfolding packs
rising a b zero r h = h
rising a b (suc m) r h = rising (a * 256 + 0) (b * 256 + get_or r 0 0) m (drop 1 r) (omega arith)

weak : (a m : ℕ) (l r : Bytes) → AllBytes l → bytes l r ≡ Less → packs a m l ≤ packs a m r
unfolding packs
weak a zero l r o e = omega arith
weak a (suc m) [] r o e = rising (a * 256 + 0) (a * 256 + get_or r 0 0) m (drop 1 r) (omega arith)
weak a (suc m) (x ∷ l) [] o e = less≢greater e refl
weak a (suc m) (x ∷ l) (y ∷ r) o e = go (number x y) refl e (weak (a * 256 + x) m l r (λ i. o (suc i)))
  where
    go : (c : Ordering) → number x y ≡ c → or_else c (bytes l r) ≡ Less → (bytes l r ≡ Less → packs (a * 256 + x) m l ≤ packs (a * 256 + x) m r) →
        packs (a * 256 + x) m l ≤ packs (a * 256 + y) m r
    go Less c h ih = omega (arith, strict (a * 256 + x) (a * 256 + y) m l r (omega (arith, less_number x y c)) (λ i. o (suc i)))
    go Equal c h ih = rw (← equal_number x y c) (ih h)
    go Greater c h ih = less≢greater h refl

pub front_mono : (k l : Bytes) → AllBytes k → bytes k l ≡ Less → front_key k ≤ front_key l
front_mono k l o e = weak 0 8 k l o e

-- a lower front, a lower key
pub front_less : (k l : Bytes) → AllBytes l → front_key k < front_key l → bytes k l ≡ Less
front_less k l o h = go (bytes k l) refl
  where
    go : (c : Ordering) → bytes k l ≡ c → c ≡ Less
    go Less e = refl
    go Equal e = absurd (let z : front_key k ≡ front_key l = ap front_key (strings.same k l e) in omega (arith, h, z))
    go Greater e = absurd (omega (arith, h, front_mono l k o (strings.turn k l ∙ ap flip e)))

pub front_greater : (k l : Bytes) → AllBytes k → front_key l < front_key k → bytes k l ≡ Greater
front_greater k l o h = strings.turn l k ∙ ap flip (front_less l k o h)

-- ---- the front of a field's key

-- what stands at i of s
step : (a m i : ℕ) (s : Bytes) → packs a (suc m) (drop i s) ≡ packs (a * 256 + get_or s i 0) m (drop (i + 1) s)
unfolding packs
step a m i s =
    let z : i + 0 ≡ i = omega arith in
    let e : get_or (drop i s) 0 0 ≡ get_or s i 0 = get_or-drop i s 0 0 ∙ ap (λ (k : ℕ). get_or s k 0) z in
    rw (e, drop-drop 1 i s)

-- elements that are not asked for do not matter
packs_take : (a m k : ℕ) (l : Bytes) → m ≤ k → packs a m (take k l) ≡ packs a m l
unfolding packs
packs_take a zero k l h = refl
packs_take a (suc m) zero l h = absurd (omega arith)
packs_take a (suc m) (suc k) [] h = refl
packs_take a (suc m) (suc k) (x ∷ l) h = packs_take (a * 256 + x) m k l (omega arith)

-- three that are not there
packs_cut : (a k : ℕ) (l : Bytes) → k ≤ length l → packs a (3 + k) (take k l) ≡ packs a k l * 16_777_216
unfolding packs
packs_cut a zero l h = omega arith
packs_cut a (suc k) [] h = absurd (omega arith)
packs_cut a (suc k) (x ∷ l) h = let z : 3 + suc k ≡ suc (3 + k) = omega arith in rw z (packs_cut (a * 256 + x) k l (omega arith))

module _ (s : Bytes) (o : (i : ℕ) → Fits w8 (get_or s i 0)) (q a : ℕ) where
  four_packs : packs a 4 (drop q s) ≡ a * 4_294_967_296 + four_at s q
  unfolding packs
  four_packs =
      let e1 : q + 1 + 1 ≡ q + 2 = omega arith in
      let e2 : q + 2 + 1 ≡ q + 3 = omega arith in
      rw (step a 3 q s, step (a * 256 + get_or s q 0) 2 (q + 1) s, e1, step ((a * 256 + get_or s q 0) * 256 + get_or s (q + 1) 0) 1 (q + 2) s, e2, step (((a * 256 + get_or s q 0) * 256 + get_or s (q + 1) 0) * 256 + get_or s (q + 2) 0) 0 (q + 3) s)
      (omega arith)

  three_packs : packs a 3 (drop q s) ≡ a * 16_777_216 + (get_or s q 0 * 65_536 + get_or s (q + 1) 0 * 256 + get_or s (q + 2) 0)
  unfolding packs
  three_packs =
      let e1 : q + 1 + 1 ≡ q + 2 = omega arith in
      rw (step a 2 q s, step (a * 256 + get_or s q 0) 1 (q + 1) s, e1, step ((a * 256 + get_or s q 0) * 256 + get_or s (q + 1) 0) 0 (q + 2) s)
      (omega arith)

none : (k : ℕ) → drop {A = ℕ} k [] ≡ []
none zero = refl
none (suc k) = refl

-- first some, then the rest
packs_add : (a k m : ℕ) (l : Bytes) → packs a (m + k) l ≡ packs (packs a k l) m (drop k l)
unfolding packs
packs_add a zero m l = let z : m + 0 ≡ m = omega arith in rw z
packs_add a (suc k) m [] = let z : m + suc k ≡ suc (m + k) = omega arith in rw z (rw (none k) at (packs_add (a * 256 + 0) k m []))
packs_add a (suc k) m (x ∷ l) = let z : m + suc k ≡ suc (m + k) = omega arith in rw z (packs_add (a * 256 + x) k m l)

module _ (s : Bytes) (o : (i : ℕ) → Fits w8 (get_or s i 0)) (q a : ℕ) where
  byte : (i : ℕ) → get_or s i 0 < 256
  byte i = (o i).fits

  seven_packs : packs a 7 (drop q s) ≡ a * 72_057_594_037_927_936 + word_at s q / 256
  unfolding word_at
  seven_packs =
      let e1 : q + 4 + 1 ≡ q + 5 = omega arith in
      let e2 : q + 4 + 2 ≡ q + 6 = omega arith in
      packs_add a 4 3 (drop q s)
      ∙ rw (four_packs s o q a, drop-drop 4 q s, three_packs s o (q + 4) (a * 4_294_967_296 + four_at s q), e1, e2)
      (omega (arith, byte (q + 7), byte (q + 4 + 3)))

  customer_packs : q + 4 ≤ length s → packs a 7 (take 4 (drop q s)) ≡ a * 72_057_594_037_927_936 + word_at s q / 4_294_967_296 * 16_777_216
  unfolding word_at
  customer_packs h =
      packs_cut a 4 (drop q s) (simp length-drop (omega arith))
      ∙ rw (four_packs s o q a) (omega (arith, byte (q + 4), byte (q + 4 + 1), byte (q + 4 + 2), byte (q + 4 + 3)))

-- the least size of a good body
long_aspa : (action : Action) (b : Bytes) → good_aspa_body action b ≡ true → 4 ≤ length b
long_aspa Hold b e = (aspa_parts b e).customer
long_aspa Announce b e = (aspa_parts b e).customer
long_aspa Withdraw b e = (aspa_parts b e).customer
long_aspa Update b e = omega (arith, (update_parts b e).head)

key_long : (b : Bytes) → good_router_key b ≡ true → 24 ≤ length b
unfolding good_router_key
key_long b e = leb-true 24 (length b) (both (leb 24 (length b)) _ e).0

long_tagged : (t : Tag) (b : Bytes) → good_tagged t b ≡ true → (4 ≤ length b) × ((kind_number t ≡ 3 → ⊥) → 7 ≤ length b)
long_tagged Unknown b e = never cc
long_tagged (Origin action) b e = let n = origin_size b e in (omega arith, λ h. omega arith)
long_tagged (RouterKey action) b e = let n = key_long b e in (omega arith, λ h. omega arith)
long_tagged (Aspa action) b e = (long_aspa action b e, λ h. absurd (h refl))

kind_first : (k : ℕ) (l : Bytes) → packs 0 8 (k ∷ l) ≡ packs k 7 l
unfolding packs
kind_first k l = let z : 0 * 256 + k ≡ k = omega arith in ap (λ (x : ℕ). packs x 7 l) z

-- the front of a key is that of its field's first eight bytes of body
pub front_here : (form : Form) (tag : ℕ) (b : Bytes) → good_body form tag b ≡ true → (s : Bytes) → ((i : ℕ) → Fits w8 (get_or s i 0)) → (q : ℕ) → q + 8 ≤ length s
    → b ≡ take (length b) (drop q s) → front_key (key_of (kind_of form tag) b) ≡ front_in (kind_of form tag) (word_at s q)
unfolding good_body kind_of key_of front_in
front_here form tag b g s o q h e = go (eqb k 3) refl
  where
    k : ℕ
    k = kind_number (tag_of form tag)

    long : (4 ≤ length b) × ((k ≡ 3 → ⊥) → 7 ≤ length b)
    long = long_tagged (tag_of form tag) b g

    go : (t : Bool) → eqb k 3 ≡ t → packs 0 8 (k ∷ cond t (take 4 b) b) ≡ k * 72_057_594_037_927_936 + cond t (word_at s q / 4_294_967_296 * 16_777_216) (word_at s q / 256)
    go true z =
        let f : take 4 b ≡ take 4 (drop q s) = ap (take 4) e ∙ take-take 4 (length b) (drop q s) long.0 in
        kind_first k (take 4 b) ∙ ap (packs k 7) f ∙ customer_packs s o q k (omega arith)
    go false z =
        let n : k ≡ 3 → ⊥ = λ y. false≢true (sym z ∙ eq-eqb k 3 y) in
        kind_first k b ∙ ap (packs k 7) e ∙ packs_take k 7 (length b) (drop q s) (long.1 n) ∙ seven_packs s o q k

-- ---- front_in

module _ (kind w k : ℕ) (e : k ≡ kind) where
  pub in_aspa : kind ≡ 3 → k * 72_057_594_037_927_936 + w / 4_294_967_296 * 16_777_216 ≡ front_in kind w
  unfolding front_in
  in_aspa h = rw (e, eq-eqb kind 3 h)

  pub in_other : (kind ≡ 3 → ⊥) → k * 72_057_594_037_927_936 + w / 256 ≡ front_in kind w
  unfolding front_in
  in_other h = rw (e, ne_eqb kind 3 h)

pub ruleset fronts = (in_aspa, in_other)
