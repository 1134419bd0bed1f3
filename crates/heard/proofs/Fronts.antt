-- Laws of front_at.
use Prim.Native.Nat.{ℕ, ◌+◌, ◌-◌, ◌*◌, ◌/◌, ◌<◌, ◌≤◌}
use mathlib.Core.Path.{◌≡◌, sym, ◌∙◌}
use mathlib.Core.Bool.{true, cond}
use native.Mathlib.Omega.{arith}
use lib.Dec.{eqb}
use lib.ListN.{length, take, drop, length-drop}
use lib.Seq.{length-take-le}
use Rattle.number.specs.Number.{four, word_at}
use Rattle.number.specs.Bytes.{part}
use Rattle.number.proofs.Eights.{Octets}
use Rattle.number.proofs.Numbers.{high_half}
use Rattle.body.specs.declared.tag.Form.TheVariants.{Snapshot}
use Rattle.body.specs.Tag.{kind_of, tag_of, good_body}
use Rattle.field.specs.Key.{key_of}
use Rattle.payload.specs.Content.{Bytes}
use Rattle.item.specs.Front.{packs, front_key, front_in}
use Rattle.item.proofs.Fronts.{front_here}
use Rattle.heard.specs.Place.{type_at, size_at, key_at, Sized, v4, v6, key, Payload}
use Rattle.heard.proofs.Keys.{byte_at, word_from, four_from, four_key_lem, six_key_lem, router_key_lem}
use Rattle.heard.proofs.Places.{least, long}

module _ (s : Bytes) (at : ℕ) (p : Payload s at) where
  pub second_word : at + 8 + 8 ≤ length s
  second_word = omega (arith, least s at p)

  pub third_word : at + 12 + 8 ≤ length s
  third_word = omega (arith, least s at p)

  module _ (o : Octets s) where
    pub front_four : type_at s at ≡ 4 → (w : ℕ) → w ≡ word_at s (at + 12) → 0x0104000000000000 + w / 4_294_967_296 * 65_536 ≡ front_key (key_at s at)
    unfolding packs
    front_four t w e =
        let f : w / 4_294_967_296 ≡ four (byte_at s at 12) (byte_at s at 13) (byte_at s at 14) (byte_at s at 15) = rw e (high_half s o (at + 12) ∙ four_from s at 12) in
        rw (f, four_key_lem s at t (least s at p)) (omega arith)

    pub front_six : type_at s at ≡ 6 → (w : ℕ) → w ≡ word_at s (at + 12) → 0x0106000000000000 + w / 65_536 ≡ front_key (key_at s at)
    unfolding packs
    front_six t w e =
        let n : type_at s at ≡ 4 → ⊥ = λ h. let z : ◌≡◌ {A = ℕ} 4 6 = sym h ∙ t in omega arith in
        rw (e, word_from s at 12, six_key_lem s at t (long s at p n))
        (plain (byte_at s at 12) (byte_at s at 13) (byte_at s at 14) (byte_at s at 15) (byte_at s at 16) (byte_at s at 17) (byte_at s at 18) (byte_at s at 19) (o (at + 18)).fits (o (at + 19)).fits)
      where
        plain : (a b c d x y z u : ℕ) → z < 256 → u < 256
            → 0x0106000000000000 + (four a b c d * 4_294_967_296 + four x y z u) / 65_536 ≡ (((((((0 * 256 + 1) * 256 + 6) * 256 + a) * 256 + b) * 256 + c) * 256 + d) * 256 + x) * 256 + y
        plain a b c d x y z u h k =
            let e : (four a b c d * 4_294_967_296 + four x y z u) / 65_536 ≡ four a b c d * 65_536 + (x * 256 + y) = omega arith in
            rw e (omega arith)

    pub front_key_lem : type_at s at ≡ 9 → (w : ℕ) → w ≡ word_at s (at + 8) → 0x0200000000000000 + w / 256 ≡ front_key (key_at s at)
    unfolding key_of kind_of tag_of front_in
    front_key_lem t w e =
        let r = router_key_lem s at t in
        let b : Bytes = part s (at + 8) (at + size_at s at) in
        let g : good_body Snapshot 2 b ≡ true = rw r at p.good in
        let l : length b ≡ at + size_at s at - (at + 8) = length-take-le (at + size_at s at - (at + 8)) (drop (at + 8) s) (simp length-drop (omega (arith, p.within))) in
        let m : b ≡ take (length b) (drop (at + 8) s) = rw l in
        rw (e, r) (sym (front_here Snapshot 2 b g s o (at + 8) second_word m))

    -- by the type that was read
    module _ (k : ℕ) (d : k ≡ type_at s at) (w : ℕ) where
      pub read_key : k ≡ 9 → w ≡ word_at s (at + 8) → 0x0200000000000000 + w / 256 ≡ front_key (key_at s at)
      read_key t e = front_key_lem (sym d ∙ t) w e

      pub read_prefix : (k ≡ 9 → ⊥) → w ≡ word_at s (at + 12) → (n r : ℕ) → n ≡ k → r ≡ cond (eqb k 4) (w / 4_294_967_296 * 65_536) (w / 65_536)
          → 0x0100000000000000 + n * 0x1000000000000 + r ≡ front_key (key_at s at)
      read_prefix t e n r f g = go p.sized
        where
          go : Sized s at → 0x0100000000000000 + n * 0x1000000000000 + r ≡ front_key (key_at s at)
          go (v4 u m) = rw (f, g, d, u) (front_four u w e)
          go (v6 u m) = rw (f, g, d, u) (front_six u w e)
          go (key u m l) = absurd (t (d ∙ u))

pub ruleset fronts = (second_word, third_word, read_key, read_prefix)
