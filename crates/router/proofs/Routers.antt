-- A router that holds what a version speaks of, and takes what is said of a delta.
use mathlib.Core.Path.{◌≡◌, refl, ap, ◌∙◌}
use mathlib.Core.List.{List, [], ◌∷◌, map}
use mathlib.Core.Option.{none}
use mathlib.Core.Bool.{Bool, true, false, cond}
use lib.ListN.{get_or}
use Rattle.order.specs.Comparison.{bytes}
use Rattle.order.specs.Map.{lookup, All, Sorted}
use Rattle.order.proofs.Comparison.{strings}
use Rattle.order.proofs.Map.{ext}
use Rattle.change.specs.Difference.{Snapshot, Delta}
use Rattle.change.specs.Application.{apply_at, apply, fits_at, Applies}
use Rattle.change.proofs.Whole.{apply_sorted, apply_lookup}
use Rattle.number.specs.Bytes.{AllBytes}
use Rattle.body.specs.declared.tag.Form.TheVariants as form
use Rattle.payload.specs.Content.{Bytes}
use Rattle.payload.specs.Valid.{Valid}
use Rattle.message.specs.declared.version.Version.{Version}
use Rattle.message.specs.Version.{speaks}
use Rattle.message.specs.Say.{kind_in, spoken}
use Rattle.message.specs.Hear.{Told}
use Rattle.message.specs.Take.{all, as_item, take}
use Rattle.message.proofs.Taking.{take_applies}
use Rattle.message.proofs.Spoken.{spoken_lookup, spoken_sorted}
use Rattle.router.specs.Heard.{X, Spoken}

module _ (v : Version) (A : Snapshot Bytes Bytes) (D : Delta Bytes Bytes) (s : Sorted bytes A) (t : Sorted bytes D) where
  -- what is spoken of, applied, is what is spoken of the application
  spoken_apply : apply bytes (spoken v A) (spoken v D) ≡ spoken v (apply bytes A D)
  spoken_apply =
      ext strings _ _ (apply_sorted strings strings (spoken v A) (spoken v D) (spoken_sorted v A s) (spoken_sorted v D t))
      (spoken_sorted v (apply bytes A D) (apply_sorted strings strings A D s t))
      (λ k.
      rw (
        apply_lookup strings strings (spoken v A) (spoken v D) (spoken_sorted v A s) (spoken_sorted v D t) k,
        spoken_lookup v k A,
        spoken_lookup v k D,
        spoken_lookup v k (apply bytes A D),
        apply_lookup strings strings A D s t k,
      ) (go k (speaks v (get_or k 0 0))))
    where
      go : (k : Bytes) (b : Bool) → apply_at (cond b (lookup bytes k A) none) (cond b (lookup bytes k D) none) ≡ cond b (apply_at (lookup bytes k A) (lookup bytes k D)) none
      go k true = refl
      go k false = refl

  spoken_applies : Applies bytes bytes A D → Applies bytes bytes (spoken v A) (spoken v D)
  spoken_applies h k = rw (spoken_lookup v k A, spoken_lookup v k D) (go (speaks v (get_or k 0 0)))
    where
      go : (b : Bool) → fits_at bytes (cond b (lookup bytes k A) none) (cond b (lookup bytes k D) none) ≡ true
      go true = h k
      go false = refl

  pub router_takes : (ts : List Told) → map as_item ts ≡ spoken v D → Applies bytes bytes A D → take (spoken v A) ts ≡ all (spoken v (apply bytes A D))
  router_takes ts e h =
      take_applies (spoken v A) ts (spoken_sorted v A s) (rw e (spoken_sorted v D t)) (rw e (spoken_applies h)) ∙ ap all (rw e spoken_apply)

-- the items that are spoken of, if all are valid and have keys of bytes
pub spoken_all : (v : Version) (D : Delta Bytes Bytes) → All (Valid form.Delta) D → All (λ (x : X). AllBytes x.key) D → All (Spoken v) (spoken v D)
unfolding spoken
spoken_all v [] h o = tt
spoken_all v (x ∷ D) h o = go (speaks v (kind_in x)) refl (spoken_all v D h.1 o.1)
  where
    go : (b : Bool) → speaks v (kind_in x) ≡ b → All (Spoken v) (spoken v D) → All (Spoken v) (cond b (x ∷ spoken v D) (spoken v D))
    go true e i = (record { valid = h.0; octets = o.0; speaks = e }, i)
    go false e i = i
