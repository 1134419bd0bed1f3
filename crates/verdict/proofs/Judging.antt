-- The check of a run of fields as the loop makes it.
use Prim.Native.Nat.{ℕ, zero, suc, ◌+◌, ◌-◌, ◌<◌, ◌≤◌}
use mathlib.Core.Logic.{◌⊎◌, inl, inr}
use mathlib.Core.Path.{◌≡◌, ap, refl, sym, ◌∙◌}
use mathlib.Core.List.{List}
use mathlib.Core.Bool.{Bool, true, false, not, cond, ◌&&◌}
use native.Mathlib.Omega.{arith}
use borrow.Author.Tests.{not-true, not-false}
use lib.ListN.{length, drop, length-drop, length-take}
use Rattle.std.specs.declared.cmp.Ordering.{Ordering}
use Rattle.std.specs.declared.cmp.Ordering.TheVariants.{Less, Equal, Greater}
use Rattle.order.specs.Comparison.{bytes}
use Rattle.number.specs.Bytes.{part}
use Rattle.body.specs.declared.tag.Form.{Form}
use Rattle.body.specs.declared.tag.Action.{Action}
use Rattle.body.specs.declared.tag.Tag.{Tag}
use Rattle.body.specs.declared.tag.Tag.TheVariants.{Unknown, Origin, RouterKey, Aspa}
use Rattle.body.specs.Origin.{good_origin}
use Rattle.body.specs.RouterKey.{good_router_key}
use Rattle.body.specs.Tag.{tag_of, good_aspa_body, good_body, sensible, kind_of}
use Rattle.body.specs.Sound.{sound}
use Rattle.body.proofs.Sizes.{both}
use Rattle.field.specs.declared.head.Field.{Field}
use Rattle.field.specs.declared.head.Field.TheVariants.{End, Cut, Whole}
use Rattle.field.specs.declared.key.Key.{Key}
use Rattle.field.specs.Head.{front, field_at}
use Rattle.field.specs.Verdict.{judge, verdict_f, verdict}
use Rattle.field.specs.Places.{key_in, key_place}
use Rattle.field.proofs.Fields.{end_at_lem, cut_at, whole_at, body_ordered, body_within, field_less}
use Rattle.field.proofs.Keys.{key_in_lem}
use Rattle.verdict.specs.Progress.{refused_at, Refuses}
pub use Rattle.verdict.specs.Progress.{Judged}
use Rattle.field.specs.declared.verdict.Flaw.TheVariants as flaw
use Rattle.field.specs.declared.verdict.Flaw.{Flaw}
use Rattle.field.specs.Verdict.{Verdict}
use Rattle.std.specs.Prelude.{Err, Ok}

pub judged_start : (form : Form) (s : List ℕ) → Judged form s 0 (record { kind = 0; from = 0; to = 0 })
unfolding verdict
judged_start form s =
    record {
      fuel = length s + 1;
      enough = omega arith;
      within = omega arith;
      rest = refl;
    }

module _ (form : Form) (s : List ℕ) (at : ℕ) (k : Key) (j : Judged form s at k) where
  -- the field at `at` is judged, with what is left of the fuel for the rest
  turn : (n : ℕ) × (length s - at ≤ n) × (judge form at (key_in s k) (front (drop at s)) (verdict_f form n) ≡ verdict form s)
  unfolding verdict_f
  turn = go j.fuel j.enough j.rest
    where
      go : (n : ℕ) → length s - at < n → verdict_f form n at (key_in s k) (drop at s) ≡ verdict form s
          → (n : ℕ) × (length s - at ≤ n) × (judge form at (key_in s k) (front (drop at s)) (verdict_f form n) ≡ verdict form s)
      go zero h e = absurd (omega arith)
      go (suc n) h e = (n, omega arith, e)

  module _ (r : Field) (f : r ≡ field_at s at) where
    pub judged_end : r ≡ End → (Ok tt) ≡ verdict form s
    unfolding judge
    judged_end e = rw (end_at_lem s at r f e) at turn.2

    pub judged_cut : r ≡ Cut → Err (flaw.Bad at) ≡ verdict form s
    unfolding judge
    judged_cut e = rw (cut_at s at r f e) at turn.2

    module _ (tag from to : ℕ) (e : r ≡ Whole tag from to) (b : Bool) (g : b ≡ sound form tag (part s from to)) where
      -- not both good and sensible
      pub judged_refused : not b ≡ true → (v : Flaw) → Refuses form tag (part s from to) at v → Err v ≡ verdict form s
      unfolding judge sound
      judged_refused t v w =
          let x = whole_at s at r f tag from to e in
          ap (λ f. Err f) (w.is (sym g ∙ not-true b t)) ∙ go (good_body form tag (part s from to)) (sensible form tag (part s from to)) _ (sym (not-true b t) ∙ g) ∙ (rw x.reads at turn.2)
        where
          go : (c d : Bool) (y : Verdict) → false ≡ c && d → Err (refused_at c at) ≡ cond c (cond d y (Err (flaw.Senseless at))) (Err (flaw.Bad at))
          go true true y q = cc
          go true false y q = refl
          go false d y q = refl

      module _ (t : not b ≡ false) (kind : ℕ) (m : kind ≡ kind_of form tag) (key : Key) (p : key ≡ key_place kind from to) (o : Ordering) (l : o ≡ bytes (key_in s k) (key_in s key)) where
        parts : (good_body form tag (part s from to) ≡ true) × (sensible form tag (part s from to) ≡ true)
        unfolding sound
        parts = both (good_body form tag (part s from to)) (sensible form tag (part s from to)) (sym g ∙ not-false b t)

        found : judge form at (key_in s k) (front (drop at s)) (verdict_f form turn.0) ≡ verdict form s
        found = turn.2

        pub judged_equal : o ≡ Equal → Err (flaw.NotAbove at) ≡ verdict form s
        unfolding judge
        judged_equal u =
            let w = whole_at s at r f tag from to e in
            let i = key_in_lem s kind from to w.ordered w.within key p in
            rw (w.reads, parts.0, parts.1, ← m, ← i, ← l, u) at found

        pub judged_greater : o ≡ Greater → Err (flaw.NotAbove at) ≡ verdict form s
        unfolding judge
        judged_greater u =
            let w = whole_at s at r f tag from to e in
            let i = key_in_lem s kind from to w.ordered w.within key p in
            rw (w.reads, parts.0, parts.1, ← m, ← i, ← l, u) at found

        pub judged_not_above : (o ≡ Equal) ⊎ (o ≡ Greater) → Err (flaw.NotAbove at) ≡ verdict form s
        judged_not_above u = elim u [ inl e ↦ judged_equal e | inr e ↦ judged_greater e ]

        pub judged_next : o ≡ Less → Judged form s to key
        unfolding judge
        judged_next u =
            let w = whole_at s at r f tag from to e in
            let i = key_in_lem s kind from to w.ordered w.within key p in
            let size : length (part s from to) ≡ to - from = simp (length-take, length-drop) (omega arith) in
            let d : at + 3 + (to - from) ≡ to = omega arith in
            let n : ℕ = turn.0 in
            let h : length s - at ≤ n = turn.1 in
            record {
              fuel = n;
              enough = omega arith;
              within = w.within;
              rest = rw (w.reads, parts.0, parts.1, ← m, ← i, ← l, u, size, d) at found;
            }

-- ---- refused

module _ (action : Action) (b : List ℕ) (at : ℕ) (v : Bool) (e : v ≡ good_aspa_body action b) where
  pub refused_senseless : v ≡ true → flaw.Senseless at ≡ refused_at (good_aspa_body action b) at
  refused_senseless d = rw (← e, d)

  pub refused_bad : v ≡ false → flaw.Bad at ≡ refused_at (good_aspa_body action b) at
  refused_bad d = rw (← e, d)

-- what is not sound, and sensible, is not good
alone : (g : Bool) → g && true ≡ false → g ≡ false
alone true e = e
alone false e = refl

module _ (form : Form) (tag : ℕ) (b : List ℕ) (at : ℕ) (t : Tag) (e : t ≡ tag_of form tag) where
  refused_unknown : t ≡ Unknown → Refuses form tag b at (flaw.Bad at)
  unfolding good_body
  refused_unknown d = record { is = λ n. rw (← e, d) }

  module _ (action : Action) where
    refused_origin : t ≡ Origin action → Refuses form tag b at (flaw.Bad at)
    unfolding sound sensible good_body
    refused_origin d = record { is = λ n. let z : good_origin b ≡ false = alone (good_origin b) (rw (← e, d) at n) in rw (← e, d, z) }

    refused_key : t ≡ RouterKey action → Refuses form tag b at (flaw.Bad at)
    unfolding sound sensible good_body
    refused_key d = record { is = λ n. let z : good_router_key b ≡ false = alone (good_router_key b) (rw (← e, d) at n) in rw (← e, d, z) }

    pub refused_aspa : (v : Flaw) → t ≡ Aspa action → v ≡ refused_at (good_aspa_body action b) at → Refuses form tag b at v
    unfolding good_body
    refused_aspa v d q = record { is = λ n. rw (← e, d) q }

  pub refused_plain : (t ≡ Unknown) ⊎ (((a : Action) × (t ≡ Origin a)) ⊎ ((a : Action) × (t ≡ RouterKey a))) → Refuses form tag b at (flaw.Bad at)
  refused_plain d = elim d [
    | inl u ↦ refused_unknown u
    | inr r ↦ elim r [ inl o ↦ refused_origin o.0 o.1 | inr k ↦ refused_key k.0 k.1 ]
  ]

pub ruleset refusing = (refused_senseless, refused_bad, refused_plain, refused_aspa)

pub ruleset judging = (judged_start, judged_end, judged_cut, judged_refused, judged_equal, judged_greater, judged_not_above, judged_next, field_less, body_ordered, body_within)
