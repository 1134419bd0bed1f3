-- Laws of how the first keys of two runs stand to each other.
use Prim.Native.Nat.{ℕ}
use mathlib.Core.Path.{◌≡◌, refl, sym, ap, ◌∙◌}
use mathlib.Core.List.{List}
use mathlib.Core.Bool.{Bool, true, false, false≢true}
use lib.ListN.{length, get_or, take}
use lib.Seq.{length-take-le}
use Rattle.std.specs.declared.cmp.Ordering.{Ordering}
use Rattle.std.specs.declared.cmp.Ordering.TheVariants.{Less, Equal, Greater}
use Rattle.order.specs.Comparison.{bytes}
use Rattle.order.proofs.Comparison.{strings}
use Rattle.field.specs.Places.{key_in}
use Rattle.field.specs.If.{If}
use Rattle.payload.specs.Content.{Bytes}
use Rattle.item.specs.declared.place.Entry.{Entry}
use Rattle.item.specs.declared.reading.Reading.TheVariants.{Changes}
use Rattle.item.specs.Reading.{Ready}
use Rattle.walk.specs.Origins.{origin_of, BothAt}
use Rattle.cursors.specs.Cursor.{run, Stands, Heads, head_key, key_at, Filled}
use Rattle.cursors.specs.Front.{Pair, left, right, key_of_run, Lowers}
use Rattle.cursors.proofs.Standing.{head_end, head_is_lem}
use Rattle.std.specs.Prelude.{None, Option, Some}

-- ---- rank_items

module _ (s : Bytes) (p e : ℕ) (i : Filled s p e) where
  pub filled_stands : Stands s p e
  filled_stands = i.stands

  module _ (r : Option Entry) (h : Heads s p e r) (q : r ≡ None) where
    pub rank_left : (k : Bytes) → Less ≡ bytes (key_at s p e) k
    rank_left k = absurd (i.some (head_end s p e r h q))

    pub rank_right : (k : Bytes) → Less ≡ bytes k (key_at s p e)
    rank_right k = absurd (i.some (head_end s p e r h q))

pub head_key_lem : (s : Bytes) (p e : ℕ) (r : Option Entry) → Heads s p e r → (x : Entry) → r ≡ Some x → key_at s p e ≡ key_in s x.key
head_key_lem s p e r h x q = ap head_key (head_is_lem s p e r h x q)

pub rank_both : (s : Bytes) (p e : ℕ) (r : Option Entry) → Heads s p e r → (x : Entry) → r ≡ Some x → (q g : ℕ) (t : Option Entry) → Heads s q g t → (y : Entry) → t ≡ Some y →
    (o : Ordering) → o ≡ bytes (key_in s x.key) (key_in s y.key) → o ≡ bytes (key_at s p e) (key_at s q g)
rank_both s p e r h x a q g t k y b o c = rw (head_key_lem s p e r h x a, head_key_lem s q g t k y b) c

pub ruleset ranking_items = (filled_stands, rank_left, rank_right, rank_both)

-- ---- rank

module _ (s : Bytes) (p e : ℕ) (i : Filled s p e) where
  pub filled_long : length (take e s) ≡ e
  filled_long = length-take-le e s i.stands.within

  pub filled_ready : Ready Changes (take e s) p
  filled_ready = i.stands.ready

module _ (s : Bytes) (p e q g : ℕ) (b : Bool) (i : If b (BothAt (take e s) p (take g s) q)) (d : b ≡ true) where
  pub rank_origins : BothAt (take e s) p (take g s) q
  rank_origins = i.holds d

  pub rank_words : (o : Ordering) → o ≡ bytes (origin_of (take e s) p).key (origin_of (take g s) q).key → o ≡ bytes (key_at s p e) (key_at s q g)
  unfolding run
  rank_words o c = rw (rank_origins.left.is, rank_origins.right.is) c

pub ruleset ranking = (filled_long, filled_ready, rank_origins, rank_words)

-- ---- lower_run

module _ (s : Bytes) (at ends : List ℕ) (b p : ℕ) (i : Pair s at ends b p) where
  pub pair_earlier : Filled s (get_or at b 0) (get_or ends b 0)
  pair_earlier = i.earlier

  pub pair_later : Filled s (get_or at p 0) (get_or ends p 0)
  pair_later = i.later

module _ (s : Bytes) (at ends : List ℕ) (b p : ℕ) (same : Bool) (o : Ordering) (c : o ≡ bytes (key_of_run s at ends b) (key_of_run s at ends p)) where
  pub lower_less : o ≡ Less → Lowers s at ends b p same (record { run = b; same = false })
  lower_less d = record { one = left refl; key = rw (← c, d); before = λ e. absurd (false≢true e); alike = λ e. absurd (false≢true e) }

  pub lower_equal : o ≡ Equal → Lowers s at ends b p same (record { run = b; same = same })
  lower_equal d = record {
    one = left refl;
    key = rw (← c, d);
    before = λ e. e;
    alike = λ e. (strings.same (key_of_run s at ends b) (key_of_run s at ends p) (sym c ∙ d), refl);
  }

  pub lower_greater : o ≡ Greater → Lowers s at ends b p same (record { run = p; same = false })
  lower_greater d = record { one = right refl; key = rw (← c, d); before = λ e. absurd (false≢true e); alike = λ e. absurd (false≢true e) }

pub ruleset lowering = (pair_earlier, pair_later, lower_less, lower_equal, lower_greater)
