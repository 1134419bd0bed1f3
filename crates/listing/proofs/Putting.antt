-- Laws of putting text into a slice.
use Prim.Native.Nat.{ℕ, ◌+◌}
use mathlib.Core.Path.{◌≡◌, refl, sym, ap, ◌∙◌}
use mathlib.Core.List.{[], ◌++◌}
use native.Mathlib.Omega.{arith}
use lib.ListN.{length, length-append}
use lib.Seq.{sets, length-sets}
use Rattle.payload.specs.Content.{Bytes}
use Rattle.item.proofs.Sinking.{sets_append}
use Rattle.listing.specs.Text.{decimal}
use Rattle.listing.specs.Put.{Puts}
use Rattle.listing.specs.Listing.{named}

-- one text behind another is one text
pub puts_append : (o p q a b : Bytes) (i j k : ℕ) → Puts o i a p j → Puts p j b q k → Puts o i (a ++ b) q k
puts_append o p q a b i j k f g = record {
  laid = g.laid ∙ rw (f.laid, f.end) (sym (sets_append a b o i));
  end = omega (arith, g.end, f.end, length-append a b);
}

pub named_put : (w o p q : Bytes) (n i j k : ℕ) → Puts o i w p j → Puts p j (decimal n) q k → Puts o i (named w n) q k
unfolding named
named_put w o p q n i j k f g = puts_append o p q w (decimal n) i j k f g

-- ---- a loop that puts a text bit by bit

-- putting what is left into o at i gives what putting all of it into o₀ at i₀ gives
pub record Left (o : Bytes) (i : ℕ) (rest o₀ : Bytes) (i₀ : ℕ) (all : Bytes) : Type 0 where
  pub len : length o ≡ length o₀
  pub laid : sets o i rest ≡ sets o₀ i₀ all
  pub end : i + length rest ≡ i₀ + length all

pub left_start : (o : Bytes) (i : ℕ) (all : Bytes) → Left o i all o i all
left_start o i all = record { len = refl; laid = refl; end = refl }

module _ (o : Bytes) (i : ℕ) (rest o₀ : Bytes) (i₀ : ℕ) (all : Bytes) (l : Left o i rest o₀ i₀ all) where
  pub left_end : rest ≡ [] → Puts o₀ i₀ all o i
  left_end e = record { laid = rw e at l.laid; end = omega (arith, rw e at l.end) }

  pub left_some : (a b p : Bytes) (j : ℕ) → rest ≡ a ++ b → Puts o i a p j → Left p j b o₀ i₀ all
  left_some a b p j e f = record {
    len = ap length f.laid ∙ length-sets o i a ∙ l.len;
    laid = rw (f.laid, f.end) (sym (sets_append a b o i) ∙ ap (sets o i) (sym e) ∙ l.laid);
    end = omega (arith, f.end, l.end, ap length e, length-append a b);
  }
