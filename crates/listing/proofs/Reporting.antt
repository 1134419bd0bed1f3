-- Laws of the texts that are written whole: a line of three numbers, a report.
use Prim.Native.Nat.{ℕ, zero, suc, ◌+◌, ◌/◌, ◌%◌, ◌^◌, ◌<◌, ◌≤◌}
use mathlib.Core.Path.{◌≡◌, sym, ap, ◌∙◌}
use mathlib.Core.List.{[], ◌∷◌, ◌++◌}
use mathlib.Core.Bool.{Bool, true, false, cond}
use native.Mathlib.Omega.{arith}
use native.Mathlib.Nat.{zero-add}
use borrow.Author.Tests.{le-leb, lt-leb}
use lib.Dec.{ltb}
use lib.ListN.{length, take, length-append}
use lib.Seq.{sets-eq, length-take-le}
use Rattle.serial.specs.declared.Serial.{Serial}
use Rattle.field.specs.Cells.{cells}
use Rattle.payload.specs.Content.{Bytes}
use Rattle.delta.specs.declared.refusal.Refusal.TheVariants as refusal
use Rattle.item.specs.declared.sink.Counts.{Counts}
use Rattle.delta.specs.Answer.{counts_of, out_after}
use Rattle.payload.specs.Limit.{limit}
use Rattle.body.specs.declared.tag.Form.TheVariants.{Delta}
use Rattle.listing.specs.Text.{ascii, decimal_f, decimal}
use Rattle.listing.specs.Put.{Puts}
use Rattle.listing.specs.Listing.{named, three_of, head_of, lines_of, listing_of}
use Rattle.listing.specs.Report.{absent_line, listed_of}
use Rattle.listing.specs.Told.{Counted}
use Rattle.listing.proofs.Putting.{puts_append}
use Rattle.std.specs.Prelude.{Ok, Err}

-- ---- how long a number and a line of three are

decimal_at_most : (k n : ℕ) → length (decimal_f k n) ≤ k
unfolding decimal_f
decimal_at_most zero n = omega arith
decimal_at_most (suc k) n = go (ltb n 10) (decimal_at_most k (n / 10))
  where
    go : (t : Bool) → length (decimal_f k (n / 10)) ≤ k → length (cond t [] (decimal_f k (n / 10)) ++ ((48 + n % 10) ∷ [])) ≤ suc k
    go true h = omega arith
    go false h = omega (arith, length-append (decimal_f k (n / 10)) ((48 + n % 10) ∷ []))

pub named_short : (w : Bytes) (n : ℕ) → length w ≤ 16 → length (named w n) ≤ 36
unfolding named decimal
named_short w n h = omega (arith, length-append w (decimal_f 20 n), decimal_at_most 20 n)

module _ (a b c : Bytes) (x y z : ℕ) (f : length a ≤ 16) (g : length b ≤ 16) (h : length c ≤ 16) where
  pub three_short : length (three_of a x b y c z) ≤ 109
  unfolding three_of
  three_short =
      omega (
        arith,
        length-append (named a x) (named b y),
        length-append (named a x ++ named b y) (named c z),
        length-append (named a x ++ named b y ++ named c z) (10 ∷ []),
        named_short a x f,
        named_short b y g,
        named_short c z h,
      )

-- ---- a line of three

module _ (a b c : Bytes) (x y z : ℕ) (f : length a ≤ 16) (o p : Bytes) (i : ℕ) (l : Puts o 0 (named a x) p i) where
  pub three_second : i < 2 ^ 62
  three_second = omega (arith, l.end, named_short a x f)

  module _ (g : length b ≤ 16) (q : Bytes) (j : ℕ) (m : Puts p i (named b y) q j) where
    pub three_third : j < 2 ^ 62
    three_third = omega (arith, l.end, m.end, named_short a x f, named_short b y g)

    module _ (h : length c ≤ 16) (t : Bytes) (k : ℕ) (n : Puts q j (named c z) t k) where
      pub three_last : k + 1 < 2 ^ 64
      three_last = omega (arith, l.end, m.end, n.end, named_short a x f, named_short b y g, named_short c z h)

      pub three_put : (u : Bytes) (r : ℕ) → Puts t k (10 ∷ []) u r → Puts o 0 (three_of a x b y c z) u r
      unfolding three_of
      three_put u r e =
          puts_append o t u _ (10 ∷ []) 0 k r
          (puts_append o q t _ (named c z) 0 j k (puts_append o p q (named a x) (named b y) 0 i j l m) n) e

pub ruleset three = (three_second, three_third, three_last, three_put)

-- ---- a listing

module _ (serial : Serial) (counts : Counts) (o p : Bytes) (i : ℕ) (h : Puts o 0 (head_of serial counts) p i) where
  pub head_low : i < 1024
  head_low =
      omega (
        arith,
        h.end,
        three_short (ascii "serial ") (ascii " announced ") (ascii " withdrawn ") serial.0 counts.announced counts.withdrawn (omega arith) (omega arith) (omega arith),
      )

  pub listing_put : (s q : Bytes) (r : ℕ) → Counted counts s → Puts p i (lines_of (cells (take counts.len s))) q r →
      Puts o 0 (listing_of serial (take counts.len s)) q r
  unfolding listing_of
  listing_put s q r c f =
      let e : head_of serial counts ≡ head_of serial (counts_of (take counts.len s)) = ap (head_of serial) c.are in
      puts_append o p q _ (lines_of (cells (take counts.len s))) 0 i r (rw e at h) f

module _ (counts : Counts) (s : Bytes) (c : Counted counts s) where
  pub counted_short : length (take counts.len s) ≤ limit Delta
  counted_short = let e = length-take-le counts.len s c.within in omega (arith, c.short)

  pub counted_long : counts.len ≡ length (take counts.len s)
  counted_long = sym (length-take-le counts.len s c.within)

  pub counted_within : counts.len ≤ length s
  counted_within = c.within

pub ruleset listing = (head_low, listing_put, counted_short, counted_long, counted_within)

-- ---- the other lines

module _ (n : ℕ) (o p : Bytes) (i : ℕ) (f : Puts o 0 (named (ascii "no file ") n) p i) where
  pub absent_last : i + 1 < 2 ^ 64
  absent_last = omega (arith, f.end, named_short (ascii "no file ") n (omega arith))

  pub absent_put : (q : Bytes) (r : ℕ) → Puts p i (10 ∷ []) q r → Puts o 0 (absent_line n) q r
  absent_put q r g = puts_append o p q (named (ascii "no file ") n) (10 ∷ []) 0 i r f g

pub ruleset absent = (absent_last, absent_put)

-- ---- all of it, or nothing

module _ (text x x' : Bytes) (len : ℕ) (m : Puts x 0 text x' len) (o : Bytes) where
  pub write_none : length o < len → Err refusal.NoRoom ≡ listed_of text (length o)
  write_none h = rw (lt-leb (length text) (length o) (omega (arith, m.end)))

  pub write_left : length o < len → o ≡ out_after (Ok tt) text o
  write_left h = rw (lt-leb (length text) (length o) (omega (arith, m.end)))

  pub write_len : len ≤ length o → Ok len ≡ listed_of text (length o)
  write_len h = rw (le-leb (length text) (length o) (omega (arith, m.end))) (ap Ok (m.end ∙ zero-add (length text)))

  pub write_out : (p : Bytes) (r : ℕ) → len ≤ length o → Puts o 0 text p r → p ≡ out_after (Ok tt) text o
  write_out p r h f =
      let k : length text ≤ length o = omega (arith, m.end) in
      rw (le-leb (length text) (length o) k) (f.laid ∙ sets-eq text o 0 (simp zero-add k) ∙ simp zero-add)

pub ruleset writing = (write_none, write_left, write_len, write_out)
