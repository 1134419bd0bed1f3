-- The least fault of the messages in message order is the first misfit of the fold over them as they came.
use Prim.Native.Nat.{ℕ, ◌<◌, ◌≤◌}
use mathlib.Core.Path.{◌≡◌, refl, sym, ap, ◌∙◌}
use mathlib.Core.List.{List, [], ◌∷◌, map}
use mathlib.Core.Bool.{Bool, true, false, cond, ◌&&◌}
use native.Mathlib.Omega.{arith}
use lib.Dec.{ltb}
use borrow.Author.Tests.{lt-ltb, le-ltb}
use Rattle.order.specs.Comparison.{bytes}
use Rattle.order.proofs.Comparison.{strings, AtMost, at_most_self, at_most_trans}
use Rattle.change.specs.Difference as change
use Rattle.body.specs.declared.tag.Form.TheVariants.{Snapshot}
use Rattle.payload.specs.Content.{Bytes}
use Rattle.payload.specs.Valid.{IsMap}
use Rattle.message.specs.Take.{Taken, all, misfit, take}
use Rattle.message.proofs.Taking.{take_none}
use Rattle.heard.specs.Place.{key_at, announces_at, told_at, Messages, done, more}
use Rattle.sorting.specs.Sorted.{insert, sorted}
use Rattle.sorting.proofs.Sorting.{cons, insert_none}
use Rattle.batch.proofs.Keeping.{size_some, messages_ahead}
use Rattle.judge.specs.Walk.{has, follows, stands, is_fault, lesser, least_fault}
use Rattle.judge.proofs.Sorting.{between, less_apart, turned, Side, side, front, behind, Past, past_all, Ascends, InOrder, ascends_order, insert_front, insert_behind, first_past, sorted_end, sorted_more, sorted_order, Under, nothing, below, follows_same, follows_apart, under_apart}
use Rattle.judge.proofs.Records.{wrong, after, after_map, after_same, has_other, take_right, take_wrong}

-- ---- the walk's steps

module _ (A : change.Snapshot Bytes Bytes) (s : Bytes) (last least : ℕ) where
  pub fault_end : least_fault A s last least [] ≡ least
  unfolding least_fault
  fault_end = refl

  pub fault_more : (y : ℕ) (ys : List ℕ) → least_fault A s last least (y ∷ ys) ≡ least_fault A s y (lesser (is_fault A s last y) y least) ys
  unfolding least_fault
  fault_more y ys = refl

-- ---- a message that fits, put into its place: as if it had been taken before the others

module _ (A C : change.Snapshot Bytes Bytes) (s : Bytes) (x : ℕ) (other : (k : Bytes) → ¬ (k ≡ key_at s x) → has C k ≡ has A k) where
  -- what stands before y does not change where y is of another record, or follows one of its own
  stands_apart : (last y : ℕ) → ¬ (key_at s y ≡ key_at s x) → stands C s last y ≡ stands A s last y
  stands_apart last y n = ap (λ (b : Bool). cond (follows s last y) (announces_at s last) b) (other (key_at s y) n)

  stands_behind : (last y : ℕ) → 0 < last → AtMost strings (key_at s x) (key_at s last) → AtMost strings (key_at s last) (key_at s y) → stands C s last y ≡ stands A s last y
  stands_behind last y l p q = go (follows s last y) refl
    where
      go : (b : Bool) → follows s last y ≡ b → cond b (announces_at s last) (has C (key_at s y)) ≡ cond b (announces_at s last) (has A (key_at s y))
      go true e = refl
      go false e = other (key_at s y) (λ h.
          follows_apart s last y l e (between (key_at s last) (key_at s y) q (rw h p)))

  behind_same : (last least : ℕ) (ys : List ℕ) → 0 < last → AtMost strings (key_at s x) (key_at s last) → Ascends s last ys → Past 0 ys →
      least_fault C s last least ys ≡ least_fault A s last least ys
  behind_same last least [] l p a o = rw (fault_end C s last least, fault_end A s last least)
  behind_same last least (y ∷ ys) l p a (cons q o) =
      rw (fault_more C s last least y ys, fault_more A s last least y ys, stands_behind last y l p a.0)
      (behind_same y (lesser (is_fault A s last y) y least) ys q (at_most_trans strings (key_at s x) (key_at s last) (key_at s y) p a.0) a.1 o)

  module _ (pos : 0 < x) (same : has C (key_at s x) ≡ announces_at s x) (right : wrong A s x ≡ false) where
    -- x itself is no fault where no message of its record stands before it
    right_first : (last : ℕ) → Under s last x → is_fault A s last x ≡ false
    right_first last u = rw (under_apart s last x x u (at_most_self strings (key_at s x))) right

    -- the next one finds what x left
    stands_next : (last y : ℕ) → Under s last x → AtMost strings (key_at s x) (key_at s y) → stands A s x y ≡ stands C s last y
    stands_next last y u h = rw (under_apart s last x y u h) (go (follows s x y) refl)
      where
        go : (b : Bool) → follows s x y ≡ b → cond b (announces_at s x) (has A (key_at s y)) ≡ has C (key_at s y)
        go true e = rw (← follows_same s x y e) (sym same)
        go false e = sym (other (key_at s y) (λ q. follows_apart s x y pos e (sym q)))

    pub right_inserted : (last least : ℕ) (ys : List ℕ) → Under s last x → InOrder s ys → Past x ys →
        least_fault A s last least (insert s x ys) ≡ least_fault C s last least ys
    right_inserted last least [] u a p =
        rw (insert_none s x, fault_more A s last least x [], right_first last u, fault_end A s x least, fault_end C s last least)
    right_inserted last least (y ∷ ys) u a (cons q p) = go (side (bytes (key_at s x) (key_at s y)))
        (λ l v. right_inserted y l ys v (ascends_order s y ys a) p)
      where
        pos_y : 0 < y
        pos_y = omega (arith, q)

        go : Side (bytes (key_at s x) (key_at s y)) → ((l : ℕ) → Under s y x → least_fault A s y l (insert s x ys) ≡ least_fault C s y l ys) →
            least_fault A s last least (insert s x (y ∷ ys)) ≡ least_fault C s last least (y ∷ ys)
        go (front f) i =
            rw (
              insert_front s x y ys q f,
              fault_more A s last least x (y ∷ ys),
              right_first last u,
              fault_more A s x least y ys,
              fault_more C s last least y ys,
              stands_next last y u f,
            ) (sym (behind_same y (lesser (is_fault C s last y) y least) ys pos_y f a (past_all x ys p)))
        go (behind b) i =
            let l = turned (key_at s x) (key_at s y) b in
            rw (
              insert_behind s x y ys b,
              fault_more A s last least y (insert s x ys),
              fault_more C s last least y ys,
              stands_apart last y (less_apart (key_at s y) (key_at s x) l),
            ) (i (lesser (is_fault A s last y) y least) (below pos_y l))

-- ---- a message that does not fit, before all others: the least fault

module _ (A : change.Snapshot Bytes Bytes) (s : Bytes) where
  not_lesser : (b : Bool) (y least : ℕ) → least < y → lesser b y least ≡ least
  not_lesser b y least l = rw (le-ltb y least (omega arith)) (go b)
    where
      go : (b : Bool) → cond (b && false) y least ≡ least
      go true = refl
      go false = refl

  lesser_past : (b : Bool) (x y least : ℕ) → x < y → x < least → x < lesser b y least
  lesser_past b x y least l m = go (b && ltb y least)
    where
      go : (c : Bool) → x < cond c y least
      go true = l
      go false = m

  stays : (last least : ℕ) (ys : List ℕ) → Past least ys → least_fault A s last least ys ≡ least
  stays last least [] p = fault_end A s last least
  stays last least (y ∷ ys) (cons q p) =
      rw (fault_more A s last least y ys, not_lesser (is_fault A s last y) y least q) (stays y least ys p)

  module _ (x : ℕ) (pos : 0 < x) (bad : wrong A s x ≡ true) where
    bad_first : (last least : ℕ) → Under s last x → x < least → lesser (is_fault A s last x) x least ≡ x
    bad_first last least u l = rw (under_apart s last x x u (at_most_self strings (key_at s x)), bad, lt-ltb x least l)

    pub wrong_inserted : (last least : ℕ) (ys : List ℕ) → Under s last x → Past x ys → x < least → least_fault A s last least (insert s x ys) ≡ x
    wrong_inserted last least [] u p l =
        rw (insert_none s x, fault_more A s last least x [], bad_first last least u l) (fault_end A s x x)
    wrong_inserted last least (y ∷ ys) u (cons q p) l = go (side (bytes (key_at s x) (key_at s y)))
        (λ v. wrong_inserted y (lesser (is_fault A s last y) y least) ys v p (lesser_past (is_fault A s last y) x y least q l))
      where
        go : Side (bytes (key_at s x) (key_at s y)) → (Under s y x → least_fault A s y (lesser (is_fault A s last y) y least) (insert s x ys) ≡ x) →
            least_fault A s last least (insert s x (y ∷ ys)) ≡ x
        go (front f) i =
            rw (insert_front s x y ys q f, fault_more A s last least x (y ∷ ys), bad_first last least u l) (stays x x (y ∷ ys) (cons q p))
        go (behind b) i =
            rw (insert_behind s x y ys b, fault_more A s last least y (insert s x ys))
            (i (below (omega (arith, q)) (turned (key_at s x) (key_at s y) b)))

-- ---- all messages

-- where the fold stops, or a number that stands for no fault
abbrev pub fault_in : ℕ → Taken → ℕ
fault_in none (all B) = none
fault_in none (misfit t) = t.at

module _ (s : Bytes) where
  pub least_fault_lem : {at stop : ℕ} {xs : List ℕ} (A : change.Snapshot Bytes Bytes) (none : ℕ) → IsMap Snapshot A → 0 < at → stop ≤ none → Messages s at xs stop →
      least_fault A s 0 none (sorted s xs) ≡ fault_in none (take A (map (told_at s) xs))
  least_fault_lem A none m l h done = rw (sorted_end s, take_none A) (fault_end A s 0 none)
  least_fault_lem A none m l h (more {at = x} {stop = stop} {xs = xs} p ms) =
      go (wrong A s x) refl (least_fault_lem (after A s x) none (after_map A s x p m) (omega arith) h ms)
    where
      within : x < none
      within = omega (arith, size_some s x p, messages_ahead ms)

      go : (b : Bool) → wrong A s x ≡ b → least_fault (after A s x) s 0 none (sorted s xs) ≡ fault_in none (take (after A s x) (map (told_at s) xs)) →
          least_fault A s 0 none (sorted s (x ∷ xs)) ≡ fault_in none (take A (map (told_at s) (x ∷ xs)))
      go true e i =
          rw (sorted_more s x xs, take_wrong A s x (map (told_at s) xs) p m.valid e)
          (wrong_inserted A s x l e 0 none (sorted s xs) (nothing refl) (first_past s p ms) within)
      go false e i =
          rw (sorted_more s x xs, take_right A s x (map (told_at s) xs) p m.valid e)
          (right_inserted A (after A s x) s x (has_other A s x m.sorted) l (after_same A s x m.sorted) e 0 none (sorted s xs) (nothing refl) (sorted_order s ms) (first_past s p ms)
          ∙ i)
