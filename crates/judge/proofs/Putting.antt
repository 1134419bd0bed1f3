-- Laws of the loop over batches that writes.
use Prim.Native.Nat.{ℕ, ◌+◌, ◌<◌, ◌≤◌}
use mathlib.Core.Path.{◌≡◌, refl, sym, ap, ap₂, subst, ◌∙◌}
use mathlib.Core.List.{List, [], ◌++◌, append_assoc}
use mathlib.Core.Bool.{true, false}
use native.Mathlib.Omega.{arith}
use native.Mathlib.Nat.{zero-add}
use lib.ListN.{length, take, drop, length-append}
use lib.Seq.{sets, length-sets}
use Rattle.order.specs.Comparison.{bytes}
use Rattle.change.specs.Difference as change
use Rattle.change.specs.Application.{apply}
use Rattle.body.specs.declared.tag.Form.TheVariants.{Snapshot}
use Rattle.payload.specs.Content.{Bytes}
use Rattle.payload.specs.Payload.{encode, items}
use Rattle.item.proofs.Sinking.{sets_append}
use Rattle.batch.specs.declared.next.Batch.{Batch}
use Rattle.batch.specs.Next.{NextIs}
use Rattle.judge.specs.declared.write.Write.{Write}
use Rattle.judge.specs.Walk.{settled}
use Rattle.batch.specs.Keep.{Told}
use Rattle.batch.specs.declared.map.Map.{Map}
use Rattle.batch.specs.Map.{Mapped}
use Rattle.judge.specs.State.{offsets, Given, Charted, no, Chain, left_over, Written, Fitting, Ending, Writes, left_all, RoomFor}
use Rattle.judge.proofs.Leaving.{left_all_lem}
use Rattle.judge.proofs.Faulting.{given_told, next_chain, next_room, whole, next_all, next_on, next_less}
pub use Rattle.judge.proofs.Faulting.{left_at}
use Rattle.judge.proofs.Writing.{from_none}

pub record Putting (a s : Bytes) (stop : ℕ) (m : Map) (o₀ : Bytes) (buf : List ℕ) (o : Bytes) (w : Write) : Type 0 where
  pub charted : Charted a s stop m buf
  pub written : Written a s w
  pub laid : Bytes
  pub same : left_all a s stop ≡ laid ++ left_over a s w (left_at s stop w.last)
  pub out : o ≡ sets o₀ 0 laid
  pub out_len : length o ≡ length o₀
  pub end : w.end ≡ length laid
  pub room : RoomFor a s stop o₀

pub putting_start : (a s : Bytes) (stop : ℕ) (m : Map) (o : Bytes) (buf : List ℕ) → Charted a s stop m buf → RoomFor a s stop o →
    Putting a s stop m o buf o (record { last = 0; field = 0; end = 0 })
unfolding left_all
putting_start a s stop m o buf g r = record {
  charted = g;
  written = record { ready = g.given.ready; last = no; above = λ h. absurd (omega (arith, h)) };
  laid = [];
  same = ap (λ (d : change.Delta Bytes Bytes). encode Snapshot (apply bytes (items a) d)) (sym (from_none s (left_at s stop 0) ∙ ap (settled s) (left_all_lem s (offsets s stop))));
  out = refl;
  out_len = refl;
  end = refl;
  room = r;
}

module _ (a s : Bytes) (stop : ℕ) (m : Map) (o₀ : Bytes) (b₀ : List ℕ) (o : Bytes) (w : Write) (h : Putting a s stop m o₀ b₀ o w) where
  abbrev given : Given a s stop
  given = h.charted.given

  pub putting_mapped : Mapped s stop m
  putting_mapped = h.charted.mapped

  pub putting_told : Told s stop w.last
  putting_told = given_told a s stop given w.last h.written.last

  pub putting_written : Written a s w
  putting_written = h.written

  pub putting_len : length b₀ ≡ 6000
  putting_len = h.charted.len

  fits_all : w.end + length (left_over a s w (left_at s stop w.last)) ≤ length o
  fits_all = omega (arith, h.end, ap length h.same, length-append h.laid (left_over a s w (left_at s stop w.last)), h.room.room, h.out_len)

  module _ (buf : List ℕ) (r : Batch) (n : NextIs s stop w.last buf r) where
    pub putting_chain : Chain s w.last (take r.n buf)
    putting_chain = next_chain a s stop given w.last buf r n

    pub putting_fit : length buf ≡ 6000 → r.n ≤ length buf
    putting_fit = next_room a s stop given w.last buf r n

    pub putting_fits : Fitting a s w (take r.n buf) o
    putting_fits =
        let z = whole a s stop given w.last buf r n in
        record {
          others = drop r.n (left_at s stop w.last);
          room = subst (λ (l : List ℕ). w.end + length (left_over a s w l) ≤ length o) z fits_all;
        }

    module _ (p : Bytes) (d : Write) (k : Writes a s w (take r.n buf) o p d) where
      abbrev both : Bytes
      both = h.laid ++ k.laid

      both_out : p ≡ sets o₀ 0 both
      both_out = k.out ∙ ap₂ (λ (l : Bytes) (m : ℕ). sets l m k.laid) h.out (h.end ∙ sym (zero-add (length h.laid))) ∙ sym (sets_append h.laid k.laid o₀ 0)

      both_len : length p ≡ length o₀
      both_len = ap length k.out ∙ length-sets o w.end k.laid ∙ h.out_len

      both_end : d.end ≡ length both
      both_end = omega (arith, k.end, h.end, length-append h.laid k.laid)

      onward : (zs : List ℕ) → left_at s stop w.last ≡ take r.n buf ++ zs → left_all a s stop ≡ both ++ left_over a s d zs
      onward zs e =
          h.same ∙ ap (λ (l : List ℕ). h.laid ++ left_over a s w l) e ∙ ap (λ (l : Bytes). h.laid ++ l) (k.same zs) ∙ sym (append_assoc h.laid k.laid (left_over a s d zs))

      pub putting_done : Written a s d
      putting_done = k.written

      module _ (v : r.over ≡ true) where
        all_is : left_all a s stop ≡ both ++ left_over a s d []
        all_is = onward [] (next_all a s stop given w.last buf r n v)

        pub putting_rest : Ending a s d p
        putting_rest = record {
          room = omega (arith, both_end, ap length all_is, length-append both (left_over a s d []), h.room.room, both_len);
        }

        pub putting_end : (u : Bytes) → u ≡ sets p d.end (left_over a s d []) → u ≡ sets o₀ 0 (left_all a s stop)
        putting_end u e =
            e ∙ ap₂ (λ (l : Bytes) (m : ℕ). sets l m (left_over a s d [])) both_out (both_end ∙ sym (zero-add (length both)))
            ∙ sym (sets_append both (left_over a s d []) o₀ 0) ∙ ap (sets o₀ 0) (sym all_is)

      module _ (v : r.over ≡ false) where
        pub putting_again : length buf ≡ 6000 → Putting a s stop m o₀ buf p d
        putting_again e = record {
          charted = record { given = given; mapped = putting_mapped; len = e };
          written = k.written;
          laid = both;
          same = onward (left_at s stop d.last) (next_on a s stop given w.last buf r n v ∙ ap (λ (l : ℕ). take r.n buf ++ left_at s stop l) (sym k.last));
          out = both_out;
          out_len = both_len;
          end = both_end;
          room = h.room;
        }

        pub putting_less : length (left_at s stop d.last) < length (left_at s stop w.last)
        putting_less = rw k.last (next_less a s stop given w.last buf r n v)

pub ruleset putting = (putting_start, putting_told, putting_mapped, putting_written, putting_len, putting_chain, putting_fit, putting_fits, putting_done, putting_rest, putting_end, putting_again, putting_less)
