-- How long a good body is, so that its length fits the two bytes of a head, and the parts of a good ASPA and update.
use Prim.Native.Nat.{ℕ, ◌+◌, ◌-◌, ◌/◌, ◌%◌, ◌≤◌}
use mathlib.Core.Path.{◌≡◌}
use mathlib.Core.List.{List}
use mathlib.Core.Bool.{Bool, true, ◌&&◌, and-eq-true_iff, false≢true}
use native.Mathlib.Omega.{arith}
use borrow.Author.Tests.{leb-true, eqb-true}
use lib.Dec.{leb, eqb}
use lib.ListN.{length, drop, length-drop}
use lib.Seq.{length-take-le}
use Rattle.body.specs.declared.tag.Form.{Form}
use Rattle.body.specs.declared.tag.Action.{Action}
use Rattle.body.specs.declared.tag.Action.TheVariants.{Hold, Announce, Withdraw, Update}
use Rattle.body.specs.declared.tag.Tag.{Tag}
use Rattle.body.specs.declared.tag.Tag.TheVariants.{Unknown, Origin, RouterKey, Aspa}
use Rattle.body.specs.Origin.{good_origin}
use Rattle.body.specs.RouterKey.{good_router_key}
use Rattle.body.specs.Aspa.{good_providers, good_aspa, good_update, former_size, former_of, new_of}
use Rattle.body.specs.Tag.{tag_of, good_aspa_body, good_tagged, good_body}

pub both : (a b : Bool) → a && b ≡ true → (a ≡ true) × (b ≡ true)
both a b = (and-eq-true_iff a b).0

module _ (b : List ℕ) where
  pub origin_size : good_origin b ≡ true → length b ≡ 23
  unfolding good_origin
  origin_size e = eqb-true (length b) 23 (both (eqb (length b) 23) _ e).0

  pub key_size_lem : good_router_key b ≡ true → length b ≤ 1_048
  unfolding good_router_key
  key_size_lem e = omega (arith, leb-true (length b - 24) 1_024 (both (leb 24 (length b)) _ e).1)

  pub providers_size : good_providers b ≡ true → (length b ≤ 16_384) × (length b % 4 ≡ 0)
  unfolding good_providers
  providers_size e =
      let p = both (leb (length b / 4) 4_096 && eqb (length b % 4) 0) _ e in
      let q = both (leb (length b / 4) 4_096) _ p.0 in
      let n = leb-true (length b / 4) 4_096 q.0 in
      let r = eqb-true (length b % 4) 0 q.1 in
      (omega arith, r)

-- the parts of a good ASPA
pub record AspaParts (b : List ℕ) : Type 0 where
  pub customer : 4 ≤ length b
  pub providers : good_providers (drop 4 b) ≡ true

pub aspa_parts : (b : List ℕ) → good_aspa b ≡ true → AspaParts b
unfolding good_aspa
aspa_parts b e =
    let p = both (leb 4 (length b)) _ e in
    record { customer = leb-true 4 (length b) p.0; providers = p.1 }

-- the parts of a good update
pub record UpdateParts (b : List ℕ) : Type 0 where
  pub head : 6 + former_size b ≤ length b
  pub former : good_providers (former_of b) ≡ true
  pub new : good_providers (new_of b) ≡ true

pub update_parts : (b : List ℕ) → good_update b ≡ true → UpdateParts b
unfolding good_update
update_parts b e =
    let p = both (leb 6 (length b) && leb (former_size b) (length b - 6) && good_providers (former_of b)) _ e in
    let q = both (leb 6 (length b) && leb (former_size b) (length b - 6)) _ p.0 in
    let r = both (leb 6 (length b)) _ q.0 in
    let k = leb-true 6 (length b) r.0 in
    let l = leb-true (former_size b) (length b - 6) r.1 in
    record { head = omega arith; former = q.1; new = p.1 }

pub aspa_size : (b : List ℕ) → good_aspa b ≡ true → length b ≤ 16_388
aspa_size b e =
    let p = aspa_parts b e in
    let n = rw (length-drop 4 b) at (providers_size (drop 4 b) p.providers).0 in
    omega arith

pub update_size : (b : List ℕ) → good_update b ≡ true → length b ≤ 32_774
update_size b e =
    let p = update_parts b e in
    let w : former_size b ≤ length (drop 6 b) = rw (length-drop 6 b) (omega arith) in
    let f = rw (length-take-le (former_size b) (drop 6 b) w) at (providers_size (former_of b) p.former).0 in
    let n = rw (length-drop (6 + former_size b) b) at (providers_size (new_of b) p.new).0 in
    omega arith

aspa_body_size : (action : Action) (b : List ℕ) → good_aspa_body action b ≡ true → length b ≤ 32_774
aspa_body_size Hold b e = let n = aspa_size b e in omega arith
aspa_body_size Announce b e = let n = aspa_size b e in omega arith
aspa_body_size Withdraw b e = let n = aspa_size b e in omega arith
aspa_body_size Update b e = update_size b e

tagged_size : (t : Tag) (b : List ℕ) → good_tagged t b ≡ true → length b ≤ 32_774
tagged_size Unknown b e = absurd (false≢true e)
tagged_size (Origin action) b e = let n = origin_size b e in omega arith
tagged_size (RouterKey action) b e = let n = key_size_lem b e in omega arith
tagged_size (Aspa action) b e = aspa_body_size action b e

pub body_size : (form : Form) (tag : ℕ) (b : List ℕ) → good_body form tag b ≡ true → length b ≤ 32_774
unfolding good_body
body_size form tag b e = tagged_size (tag_of form tag) b e
