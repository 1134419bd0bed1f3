-- Laws of a whole answer: its Cache Response, its messages and its End of Data.
use Prim.Native.Nat.{ℕ, ◌+◌, ◌≤◌, ◌<◌}
use mathlib.Core.Path.{◌≡◌, refl, sym, ap, ap₂, ◌∙◌}
use mathlib.Core.List.{[], ◌∷◌, ◌++◌, append-nil}
use native.Mathlib.Omega.{arith}
use native.Mathlib.Nat.{zero-add}
use borrow.Author.Tests.{le-leb, lt-leb}
use lib.ListN.{length, length-append}
use lib.Seq.{sets, sets-eq}
use Rattle.serial.specs.declared.timing.Timing.{Timing}
use Rattle.number.specs.Number.{two_bytes, four_bytes}
use Rattle.payload.specs.Content.{Bytes}
use Rattle.item.proofs.Sinking.{sets_append}
use Rattle.message.specs.declared.version.Version.{Version}
use Rattle.message.specs.declared.version.Version.TheVariants.{Rfc6810, Rfc8210}
use Rattle.message.specs.Version.{end_length}
use Rattle.message.specs.Message.{cache_response, end_of_data, pdu, pdus}
use Rattle.message.specs.Say.{said}
use Rattle.wire.specs.declared.tally.Tally.{Tally}
use Rattle.wire.specs.declared.frame.Frame.{Frame}
use Rattle.wire.specs.Answer.{answer_bytes}
use Rattle.wire.specs.Tally.{saying, Countable}
use Rattle.wire.specs.Put.{OpenIs, LaidIs, CloseIs, TallyIs, AnswerIs, writing_of, answer_out}
use Rattle.wire.proofs.Saying.{D, tally_path, pdus_append}
use Rattle.std.specs.Prelude.{None, Some}

-- ---- frame_of, open, close

pub end_low : (v : Version) → end_length v ≤ 24
end_low Rfc6810 = omega arith
end_low Rfc8210 = omega arith

-- ---- the whole

response_long : (v : Version) (s : ℕ) → length (pdu v (cache_response s)) ≡ 8
unfolding pdu two_bytes four_bytes
response_long v s = refl

end_long : (v : Version) (s n : ℕ) (t : Timing) → length (pdu v (end_of_data s n t)) ≡ end_length v
unfolding pdu two_bytes four_bytes
end_long Rfc6810 s n t = refl
end_long Rfc8210 s n t = refl

module _ (v : Version) (f : Frame) (d : D) where
  abbrev response : Bytes
  response = pdu v (cache_response f.session.0)

  abbrev ending : Bytes
  ending = pdu v (end_of_data f.session.0 f.serial.0 f.times)

  bytes_are : answer_bytes v f d ≡ response ++ (saying v d ++ ending)
  unfolding pdus saying
  bytes_are =
      ap (λ (b : Bytes). response ++ b) (pdus_append v (said v d) (end_of_data f.session.0 f.serial.0 f.times ∷ []) ∙ ap (λ (b : Bytes). pdus v (said v d) ++ b) (append-nil ending))

  pub bytes_long : length (answer_bytes v f d) ≡ 8 + length (saying v d) + end_length v
  bytes_long =
      ap length bytes_are ∙ length-append response (saying v d ++ ending)
      ∙ omega (arith, length-append (saying v d) ending, response_long v f.session.0, end_long v f.session.0 f.serial.0 f.times)

  pub answer_is : (o o₁ o₂ o₃ : Bytes) (t r : Tally) → OpenIs v f o o₁ → LaidIs v d o₁ o₂ t → CloseIs v f t o₂ o₃ r → AnswerIs v f d o o₃ r
  answer_is o o₁ o₂ o₃ t r a b c =
      let len : t.len ≡ 8 + length (saying v d) = ap (λ (u : Tally). u.len) b.tally in
      record {
        tally = record {
          is = c.tally ∙ tally_path (omega (arith, len, bytes_long)) (ap (λ (u : Tally). u.announced) b.tally ∙ zero-add _) (ap (λ (u : Tally). u.withdrawn) b.tally ∙ zero-add _)
              (ap (λ (u : Tally). u.keys) b.tally ∙ zero-add _) (ap (λ (u : Tally). u.aspas) b.tally ∙ zero-add _);
        };
        same = c.same ∙ b.same ∙ a.same;
        laid = λ g.
            let e₁ : o₁ ≡ sets o 0 response = a.laid (omega (arith, bytes_long)) in
            let e₂ : o₂ ≡ sets o₁ 8 (saying v d) = b.laid (omega (arith, bytes_long, a.same)) in
            let e₃ : o₃ ≡ sets o₂ t.len ending = c.laid (omega (arith, bytes_long, len, a.same, b.same)) in
            e₃ ∙ ap₂ (λ (p : Bytes) (n : ℕ). sets p n ending) e₂ len ∙ sym (sets_append (saying v d) ending o₁ 8)
            ∙ ap₂ (λ (p : Bytes) (n : ℕ). sets p n (saying v d ++ ending)) e₁ (sym (ap (λ (n : ℕ). 0 + n) (response_long v f.session.0) ∙ zero-add 8))
            ∙ sym (sets_append response (saying v d ++ ending) o 0) ∙ ap (sets o 0) (sym bytes_are);
      }

  pub laid_room : (o o' : Bytes) (t : Tally) → LaidIs v d o o' t → Countable t
  laid_room o o' t l = l.room

  -- ---- all or nothing

  module _ (o : Bytes) where
    written : (o' : Bytes) (r : Tally) → AnswerIs v f d o o' r → length (answer_bytes v f d) ≤ length o → o' ≡ answer_out v f d o
    written o' r a h =
        rw (le-leb (length (answer_bytes v f d)) (length o) h)
        (a.laid h ∙ sets-eq (answer_bytes v f d) o 0 (simp zero-add h) ∙ simp zero-add)

    module _ (most : ℕ) (m : length (answer_bytes v f d) ≤ most) (h : most ≤ length o) (o' : Bytes) (r : Tally) (a : AnswerIs v f d o o' r) where
      pub sure_whole : Some r ≡ writing_of v f d (length o)
      sure_whole = rw (le-leb (length (answer_bytes v f d)) (length o) (omega arith)) (ap Some a.tally.is)

      pub sure_out : o' ≡ answer_out v f d o
      sure_out = written o' r a (omega arith)

    module _ (t : Tally) (i : TallyIs v f d t) where
      len_is : t.len ≡ length (answer_bytes v f d)
      len_is = ap (λ (u : Tally). u.len) i.is

      pub long_whole : length o < t.len → None ≡ writing_of v f d (length o)
      long_whole h = rw (lt-leb (length (answer_bytes v f d)) (length o) (omega (arith, len_is)))

      pub long_out : length o < t.len → o ≡ answer_out v f d o
      long_out h = rw (lt-leb (length (answer_bytes v f d)) (length o) (omega (arith, len_is)))

      module _ (h : t.len ≤ length o) where
        pub fits_whole : Some t ≡ writing_of v f d (length o)
        fits_whole = rw (le-leb (length (answer_bytes v f d)) (length o) (omega (arith, len_is))) (ap Some i.is)

        pub fits_out : (o' : Bytes) (r : Tally) → AnswerIs v f d o o' r → o' ≡ answer_out v f d o
        fits_out o' r a = written o' r a (omega (arith, len_is))

pub ruleset wholes = (answer_is, laid_room, sure_whole, sure_out, long_whole, long_out, fits_whole, fits_out)
