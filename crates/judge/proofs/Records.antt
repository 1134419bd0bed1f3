-- The record of a payload message: a valid item of a snapshot without a value, and what a message makes of a snapshot.
use Prim.Native.Nat.{ℕ}
use mathlib.Core.Path.{◌≡◌, refl, sym, ap, ◌∙◌}
use mathlib.Core.List.{List, [], ◌∷◌}
use mathlib.Core.Option.{Option, none, some}
use mathlib.Core.Bool.{Bool, true, false, not, cond}
use Rattle.std.specs.declared.cmp.Ordering.{Ordering}
use Rattle.std.specs.declared.cmp.Ordering.TheVariants.{Less, Equal, Greater}
use Rattle.order.specs.Comparison.{bytes}
use Rattle.order.specs.Map.{All, own, lookup, Sorted}
use Rattle.order.proofs.Comparison.{strings}
use Rattle.order.proofs.Map.{none≢some}
use Rattle.change.specs.Change.{announce, withdraw}
use Rattle.change.specs.Difference as change
use Rattle.change.specs.Application.{apply_at, apply, fits}
use Rattle.body.specs.declared.tag.Form.TheVariants.{Snapshot}
use Rattle.payload.specs.Content.{Bytes}
use Rattle.payload.specs.Valid.{ValidValue, Valid, IsMap, origin, router_key, aspa}
use Rattle.payload.proofs.Closed.{apply_map}
use Rattle.message.specs.Hear.{Told}
use Rattle.message.specs.Take.{misfit, as_item, take}
use Rattle.message.proofs.Taking.{one_lookup}
use Rattle.message.proofs.Telling.{RouterRecord, an_origin, a_router_key, not_aspa, valid_record, Tells, tells_map}
use Rattle.heard.specs.Place.{key_at, announces_at, told_at, Sized, Payload, v4, v6, key}
use Rattle.judge.specs.Walk.{is_some, has}

-- ---- the record

module _ (s : Bytes) (at : ℕ) where
  pub record_kind : Sized s at → RouterRecord (key_at s at)
  unfolding key_at
  record_kind (v4 t n) = rw t (an_origin _)
  record_kind (v6 t n) = rw t (an_origin _)
  record_kind (key t n m) = rw t (a_router_key _)

module _ (s : Bytes) (at : ℕ) (p : Payload s at) where
  pub told_record : RouterRecord (key_at s at)
  told_record = record_kind s at p.sized

  pub told_value : ValidValue (key_at s at) []
  told_value = valid_record told_record p.good

  pub told_tells : Tells (told_at s at)
  told_tells = record { router = told_record; value = told_value; flag = announces_at s at; is = refl }

-- ---- what stands at it

value_empty : {k v : Bytes} → ValidValue k v → RouterRecord k → v ≡ []
value_empty (origin h) r = refl
value_empty (router_key h) r = refl
value_empty (aspa e h z) r = absurd (not_aspa r refl)

-- in a good snapshot, nothing or the empty value
pub empty_at : (k v : Bytes) (A : change.Snapshot Bytes Bytes) → RouterRecord k → All (Valid Snapshot) A → lookup bytes k A ≡ some v → v ≡ []
empty_at k v [] r h e = none≢some refl e
empty_at k v (x ∷ A) r h e = go (bytes k x.key) refl e (empty_at k v A r h.1)
  where
    go : (o : Ordering) → bytes k x.key ≡ o → own o (some x.val) (lookup bytes k A) ≡ some v → (lookup bytes k A ≡ some v → v ≡ []) → v ≡ []
    go Less c e i = i e
    go Equal c e i =
        let q : x.val ≡ v = cc in
        let w : RouterRecord x.key = rw (← strings.same k x.key c) r in
        sym q ∙ value_empty h.0 w
    go Greater c e i = i e

-- ---- a message against a snapshot

-- it does not fit: an announcement of a record that is there, or a withdrawal of one that is not
abbrev pub wrong : change.Snapshot Bytes Bytes → Bytes → ℕ → Bool
wrong A s x = cond (announces_at s x) (has A (key_at s x)) (not (has A (key_at s x)))

fits_by : (o : Option Bytes) (f : Bool) → ((v : Bytes) → o ≡ some v → v ≡ []) →
    fits bytes o (cond f (announce []) (withdraw [])) ≡ not (cond f (is_some o) (not (is_some o)))
fits_by none true h = refl
fits_by none false h = refl
fits_by (some v) true h = refl
fits_by (some v) false h = rw (h v refl)

module _ (A : change.Snapshot Bytes Bytes) (s : Bytes) (x : ℕ) where
  pub told_fits : Payload s x → All (Valid Snapshot) A → fits bytes (lookup bytes (key_at s x) A) (told_at s x).change ≡ not (wrong A s x)
  told_fits p h = fits_by (lookup bytes (key_at s x) A) (announces_at s x) (λ v e. empty_at (key_at s x) v A (told_record s x p) h e)

  -- what it leaves
  abbrev pub after : change.Snapshot Bytes Bytes
  after = apply bytes A (as_item (told_at s x) ∷ [])

  pub after_map : Payload s x → IsMap Snapshot A → IsMap Snapshot after
  after_map p m = apply_map A (as_item (told_at s x) ∷ []) m (tells_map (told_at s x) (told_tells s x p))

  pub after_other : Sorted bytes A → (k : Bytes) → ¬ (k ≡ key_at s x) → lookup bytes k after ≡ lookup bytes k A
  after_other t k n = rw (one_lookup A (as_item (told_at s x)) t k) (go (bytes k (key_at s x)) refl)
    where
      go : (o : Ordering) → bytes k (key_at s x) ≡ o → apply_at (lookup bytes k A) (own o (some (told_at s x).change) none) ≡ lookup bytes k A
      go Less e = refl
      go Equal e = absurd (n (strings.same k (key_at s x) e))
      go Greater e = refl

  pub after_same : Sorted bytes A → has after (key_at s x) ≡ announces_at s x
  after_same t =
      ap is_some (one_lookup A (as_item (told_at s x)) t (key_at s x))
      ∙ rw (strings.self (key_at s x)) (go (announces_at s x))
    where
      go : (f : Bool) → is_some (apply_at (lookup bytes (key_at s x) A) (some (cond f (announce []) (withdraw [])))) ≡ f
      go true = refl
      go false = refl

  pub has_other : Sorted bytes A → (k : Bytes) → ¬ (k ≡ key_at s x) → has after k ≡ has A k
  has_other t k n = ap is_some (after_other t k n)

  -- the fold at its first message
  pub take_right : (ts : List Told) → Payload s x → All (Valid Snapshot) A → wrong A s x ≡ false → take A (told_at s x ∷ ts) ≡ take after ts
  unfolding take
  take_right ts p h e = rw (told_fits p h, e)

  pub take_wrong : (ts : List Told) → Payload s x → All (Valid Snapshot) A → wrong A s x ≡ true → take A (told_at s x ∷ ts) ≡ misfit (told_at s x)
  unfolding take
  take_wrong ts p h e = rw (told_fits p h, e)
