-- The field of a valid item is good, makes sense, and says that item.
use Prim.Native.Nat.{ℕ, ◌-◌, ◌≤◌}
use mathlib.Core.Path.{◌≡◌, refl, sym, ap, ap₂, ◌∙◌}
use mathlib.Core.List.{[], ◌∷◌, ◌++◌, append-nil}
use mathlib.Core.Bool.{true}
use native.Mathlib.Omega.{arith}
use borrow.Author.Tests.{le-leb}
use lib.ListN.{length, length-append}
use lib.Seq.{drop-drop, take-append_seam, drop-append_seam}
use Rattle.order.specs.Map.{Item}
use Rattle.change.specs.Change.{Change, announce, withdraw, update}
use Rattle.body.specs.declared.tag.Form.{Form}
use Rattle.body.specs.declared.tag.Form.TheVariants.{Snapshot, Delta}
use Rattle.body.specs.Tag.{tag_of, kind_of, good_body, sensible}
use Rattle.body.specs.Aspa.{good_aspa, good_update, good_providers, former_size, former_of, new_of, sensible_providers, sensible_aspa, sensible_update}
use Rattle.body.proofs.Sizes.{providers_size}
use Rattle.field.specs.Key.{key_of}
use Rattle.payload.specs.Content.{Bytes, Content, count_of, entry_of, cell_for}
use Rattle.payload.specs.Valid.{ValidValue, ValidChange, Valid, origin, router_key, aspa, valid_announce, valid_withdraw, valid_update}

abbrev item : {A : Type 0} → Bytes → A → Item Bytes A
item k c = record { key = k; val = c }

item_path : {A : Type 0} {k l : Bytes} {c d : A} → k ≡ l → c ≡ d → item k c ≡ item l d
item_path p q = λ i. record { key = p i; val = q i }

-- a customer's four bytes, so that what stands behind them computes
data Four : Bytes → Type 0 where
  four : (a b c d : ℕ) → Four (a ∷ b ∷ c ∷ d ∷ [])

is_four : (k : Bytes) → length k ≡ 4 → Four k
is_four [] h = absurd (omega arith)
is_four (a ∷ []) h = absurd (omega arith)
is_four (a ∷ b ∷ []) h = absurd (omega arith)
is_four (a ∷ b ∷ c ∷ []) h = absurd (omega arith)
is_four (a ∷ b ∷ c ∷ d ∷ []) h = four a b c d
is_four (a ∷ b ∷ c ∷ d ∷ e ∷ k) h = absurd (omega arith)

-- an ASPA's body
module _ (a b c d : ℕ) (v : Bytes) where
  good_aspa_lem : good_providers v ≡ true → good_aspa (a ∷ b ∷ c ∷ d ∷ v) ≡ true
  unfolding good_aspa
  good_aspa_lem h = rw (le-leb 4 (length (a ∷ b ∷ c ∷ d ∷ v)) (omega arith), h)

  sense_aspa : sensible_providers (a ∷ b ∷ c ∷ d ∷ []) v ≡ true → sensible_aspa (a ∷ b ∷ c ∷ d ∷ v) ≡ true
  unfolding sensible_aspa
  sense_aspa z = z

-- an update's body
module _ (a b c d : ℕ) (p n : Bytes) (h : good_providers p ≡ true) where
  abbrev body : Bytes
  body = a ∷ b ∷ c ∷ d ∷ (count_of p ++ (p ++ n))

  size : former_size body ≡ length p
  size = let l = (providers_size p h).1 in omega arith

  former : former_of body ≡ p
  former = rw size (take-append_seam p n)

  new : new_of body ≡ n
  new = rw size (sym (drop-drop (length p) 6 body) ∙ drop-append_seam p n)

  good_update_lem : good_providers n ≡ true → good_update body ≡ true
  unfolding good_update
  good_update_lem g =
      let w : former_size body ≤ length body - 6 = omega (arith, size, length-append p n) in
      rw (le-leb 6 (length body) (omega arith), le-leb (former_size body) (length body - 6) w, former, h, new, g)

  sense_update : sensible_providers (a ∷ b ∷ c ∷ d ∷ []) p ≡ true → sensible_providers (a ∷ b ∷ c ∷ d ∷ []) n ≡ true → sensible_update body ≡ true
  unfolding sensible_update
  sense_update y z = rw (former, new, y, z)

-- a valid item's field
pub record Good (form : Form) (k : Bytes) (c : Content form) : Type 0 where
  pub good : good_body form (cell_for form (item k c)).tag (cell_for form (item k c)).body ≡ true
  pub sense : sensible form (cell_for form (item k c)).tag (cell_for form (item k c)).body ≡ true
  pub back : entry_of form (cell_for form (item k c)) ≡ item k c

good_value : {k v : Bytes} → ValidValue k v → Good Snapshot k v
unfolding good_body sensible tag_of kind_of key_of
good_value (origin {k = k} h) = record { good = rw append-nil h; sense = refl; back = item_path (ap (λ (l : Bytes). 1 ∷ l) (append-nil k)) refl }
good_value (router_key {k = k} h) = record { good = rw append-nil h; sense = refl; back = item_path (ap (λ (l : Bytes). 2 ∷ l) (append-nil k)) refl }
good_value (aspa {k = k} {v = v} e h z) = go k (is_four k e) z
  where
    go : (k : Bytes) → Four k → sensible_providers k v ≡ true → Good Snapshot (3 ∷ k) v
    go k (four a b c d) z = record { good = good_aspa_lem a b c d v h; sense = sense_aspa a b c d v z; back = refl }

-- what a value's field is, the field of its announcement and of its withdrawal is too
abbrev under : (Bytes → Change Bytes) → Item Bytes Bytes → Item Bytes (Change Bytes)
under c x = item x.key (c x.val)

good_announce : {k n : Bytes} → ValidValue k n → Good Delta k (announce n)
unfolding good_body sensible tag_of kind_of key_of
good_announce (origin h) = let g = good_value (origin h) in record { good = g.good; sense = g.sense; back = ap (under announce) g.back }
good_announce (router_key h) = let g = good_value (router_key h) in record { good = g.good; sense = g.sense; back = ap (under announce) g.back }
good_announce (aspa e h z) = let g = good_value (aspa e h z) in record { good = g.good; sense = g.sense; back = ap (under announce) g.back }

good_withdraw : {k p : Bytes} → ValidValue k p → Good Delta k (withdraw p)
unfolding good_body sensible tag_of kind_of key_of
good_withdraw (origin h) = let g = good_value (origin h) in record { good = g.good; sense = g.sense; back = ap (under withdraw) g.back }
good_withdraw (router_key h) = let g = good_value (router_key h) in record { good = g.good; sense = g.sense; back = ap (under withdraw) g.back }
good_withdraw (aspa e h z) = let g = good_value (aspa e h z) in record { good = g.good; sense = g.sense; back = ap (under withdraw) g.back }

-- an ASPA's value has providers that make sense for its customer
providers : {k v : Bytes} → ValidValue (3 ∷ k) v → (length k ≡ 4) × (good_providers v ≡ true) × (sensible_providers k v ≡ true)
providers (aspa e h z) = (e, h, z)

good_updated : (k p n : Bytes) → length k ≡ 4 → good_providers p ≡ true → good_providers n ≡ true
    → sensible_providers k p ≡ true → sensible_providers k n ≡ true → Good Delta (3 ∷ k) (update p n)
unfolding good_body sensible tag_of kind_of key_of
good_updated k p n e g h y z = go k (is_four k e) y z
  where
    go : (k : Bytes) → Four k → sensible_providers k p ≡ true → sensible_providers k n ≡ true → Good Delta (3 ∷ k) (update p n)
    go k (four a b c d) y z = record {
      good = good_update_lem a b c d p n g h;
      sense = sense_update a b c d p n g y z;
      back = item_path refl (ap₂ update (former a b c d p n g) (new a b c d p n g));
    }

good_change : {k : Bytes} {c : Change Bytes} → ValidChange k c → Good Delta k c
good_change (valid_announce h) = good_announce h
good_change (valid_withdraw h) = good_withdraw h
good_change (valid_update {k = k} {p = p} {n = n} g h) = good_updated k p n (providers g).0 (providers g).1 (providers h).1 (providers g).2 (providers h).2

pub good : (form : Form) (x : Item Bytes (Content form)) → Valid form x → Good form x.key x.val
good Snapshot x h = good_value h
good Delta x h = good_change h
