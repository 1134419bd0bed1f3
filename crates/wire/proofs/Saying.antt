-- The messages of a delta, item by item.
use Prim.Native.Nat.{ℕ, ◌+◌}
use mathlib.Core.Path.{◌≡◌, refl, sym, ap, ◌∙◌}
use mathlib.Core.List.{List, [], ◌∷◌, ◌++◌, map, append-nil, append_assoc}
use mathlib.Core.Bool.{Bool, true, false, cond, false≢true}
use native.Mathlib.Omega.{arith}
use native.Mathlib.Nat.{add-zero}
use borrow.Author.Tests.{eqb-true}
use lib.Dec.{eqb}
use lib.ListN.{length, length-append}
use Rattle.order.specs.Map.{Item}
use Rattle.change.specs.Change.{Change}
use Rattle.change.specs.Difference as change
use Rattle.payload.specs.Content.{Bytes}
use Rattle.payload.specs.Count.{announces, withdraws, sum_of}
use Rattle.message.specs.declared.version.Version.{Version}
use Rattle.message.specs.Version.{speaks}
use Rattle.message.specs.Message.{Message, pdu, pdus}
use Rattle.message.specs.Say.{kind_in, spoken, of_kind, skipped, say_of}
use Rattle.wire.specs.declared.tally.Tally.{Tally}
use Rattle.wire.specs.Tally.{saying, plus_all}

abbrev pub X : Type 0
X = Item Bytes (Change Bytes)

abbrev pub D : Type 0
D = change.Delta Bytes Bytes

pub pdus_append : (v : Version) (a b : List Message) → pdus v (a ++ b) ≡ pdus v a ++ pdus v b
unfolding pdus
pdus_append v [] b = refl
pdus_append v (m ∷ a) b = ap (λ (s : Bytes). pdu v m ++ s) (pdus_append v a b) ∙ sym (append_assoc (pdu v m) (pdus v a) (pdus v b))

module _ (v : Version) (x : X) (d : D) where
  pub saying_cons : saying v (x ∷ d) ≡ saying v (x ∷ []) ++ saying v d
  unfolding saying spoken pdus
  saying_cons = go (speaks v (kind_in x))
    where
      go : (t : Bool) → pdus v (map say_of (cond t (x ∷ spoken v d) (spoken v d))) ≡ pdus v (map say_of (cond t (x ∷ []) [])) ++ pdus v (map say_of (spoken v d))
      go true = ap (λ (s : Bytes). s ++ pdus v (map say_of (spoken v d))) (sym (append-nil (pdu v (say_of x))))
      go false = refl

  pub sum_cons : (f : Change Bytes → ℕ) → sum_of f (spoken v (x ∷ d)) ≡ sum_of f (spoken v (x ∷ [])) + sum_of f (spoken v d)
  unfolding spoken
  sum_cons f = go (speaks v (kind_in x))
    where
      go : (t : Bool) → sum_of f (cond t (x ∷ spoken v d) (spoken v d)) ≡ sum_of f (cond t (x ∷ []) []) + sum_of f (spoken v d)
      go true = omega arith
      go false = omega arith

  pub skipped_cons : (kind : ℕ) → skipped v kind (x ∷ d) ≡ skipped v kind (x ∷ []) + skipped v kind d
  unfolding of_kind
  skipped_cons kind = go (speaks v kind)
    where
      go : (t : Bool) → cond t 0 (cond (eqb (kind_in x) kind) 1 0 + of_kind kind d) ≡ cond t 0 (cond (eqb (kind_in x) kind) 1 0 + 0) + cond t 0 (of_kind kind d)
      go true = refl
      go false = omega arith

pub tally_path : {l m n p q l' m' n' p' q' : ℕ} → l ≡ l' → m ≡ m' → n ≡ n' → p ≡ p' → q ≡ q' →
    ◌≡◌ {A = Tally} (record { len = l; announced = m; withdrawn = n; keys = p; aspas = q })
    (record { len = l'; announced = m'; withdrawn = n'; keys = p'; aspas = q' })
tally_path a b c d e = λ i. record { len = a i; announced = b i; withdrawn = c i; keys = d i; aspas = e i }

pub plus_cons : (v : Version) (t : Tally) (x : X) (d : D) → plus_all v (plus_all v t (x ∷ [])) d ≡ plus_all v t (x ∷ d)
plus_cons v t x d =
    tally_path
    (omega (arith, ap length (saying_cons v x d), length-append (saying v (x ∷ [])) (saying v d)))
    (omega (arith, sum_cons v x d announces))
    (omega (arith, sum_cons v x d withdraws))
    (omega (arith, skipped_cons v x d 2))
    (omega (arith, skipped_cons v x d 3))

pub saying_none : (v : Version) → saying v [] ≡ []
unfolding saying spoken pdus
saying_none v = refl

pub plus_none : (v : Version) (t : Tally) → plus_all v t [] ≡ t
unfolding spoken of_kind
plus_none v t =
    tally_path (omega (arith, ap length (saying_none v))) (omega arith) (omega arith) (go (speaks v 2) t.keys) (go (speaks v 3) t.aspas)
  where
    go : (b : Bool) (n : ℕ) → n + cond b 0 0 ≡ n
    go true n = add-zero n
    go false n = add-zero n

-- ---- one item that there is a message for, or is not

module _ (v : Version) (x : X) where
  module _ (e : speaks v (kind_in x) ≡ true) where
    pub said_one : saying v (x ∷ []) ≡ pdu v (say_of x)
    unfolding saying spoken pdus
    said_one = rw e (append-nil (pdu v (say_of x)))

    pub sum_one : (f : Change Bytes → ℕ) → sum_of f (spoken v (x ∷ [])) ≡ f x.val
    unfolding spoken
    sum_one f = rw e (add-zero (f x.val))

    pub skipped_said : (kind : ℕ) → skipped v kind (x ∷ []) ≡ 0
    unfolding of_kind
    skipped_said kind = go (speaks v kind) refl (eqb (kind_in x) kind) refl
      where
        go : (t : Bool) → speaks v kind ≡ t → (u : Bool) → eqb (kind_in x) kind ≡ u → cond t 0 (cond u 1 0 + 0) ≡ 0
        go true f u g = refl
        go false f true g = absurd (false≢true (sym f ∙ ap (speaks v) (sym (eqb-true (kind_in x) kind g)) ∙ e))
        go false f false g = refl

  module _ (e : speaks v (kind_in x) ≡ false) where
    pub unsaid_one : saying v (x ∷ []) ≡ []
    unfolding saying spoken pdus
    unsaid_one = rw e

    pub sum_unsaid : (f : Change Bytes → ℕ) → sum_of f (spoken v (x ∷ [])) ≡ 0
    unfolding spoken
    sum_unsaid f = rw e

    pub skipped_unsaid : (kind : ℕ) → skipped v kind (x ∷ []) ≡ cond (eqb (kind_in x) kind) 1 0
    unfolding of_kind
    skipped_unsaid kind = go (speaks v kind) refl (eqb (kind_in x) kind) refl
      where
        go : (t : Bool) → speaks v kind ≡ t → (u : Bool) → eqb (kind_in x) kind ≡ u → cond t 0 (cond u 1 0 + 0) ≡ cond u 1 0
        go true f true g = absurd (false≢true (sym e ∙ ap (speaks v) (eqb-true (kind_in x) kind g) ∙ f))
        go true f false g = refl
        go false f true g = refl
        go false f false g = refl
