-- Runs of good ascending fields are passed over.
use Prim.Native.Nat.{ℕ, ◌+◌, ◌-◌, ◌<◌, ◌≤◌, min}
use mathlib.Core.Path.{◌≡◌, refl, sym, ap, ◌∙◌}
use mathlib.Core.List.{List}
use mathlib.Core.Bool.{Bool, true, false, not, cond}
use native.Mathlib.Omega.{arith}
use borrow.Author.Tests.{not-false}
use lib.Dec.{eqb}
use lib.ListN.{length, get_or, length-take, length-drop}
use Rattle.std.specs.declared.cmp.Ordering.TheVariants.{Less}
use Rattle.order.specs.Comparison.{bytes}
use Rattle.order.proofs.Comparison.{number_less, number_equal}
use Rattle.number.specs.Number.{four_at}
use Rattle.number.specs.Bytes.{part}
use Rattle.number.proofs.Eights.{Octets, digits, four_digits, part_bytes, part_digits, digits_decide}
use Rattle.body.specs.declared.tag.Form.{Form}
use Rattle.body.specs.declared.tag.Tag.{Tag}
use Rattle.body.specs.declared.tag.Tag.TheVariants.{Unknown, Origin, RouterKey, Aspa}
use Rattle.body.specs.Origin.{good_origin}
use Rattle.body.specs.Tag.{tag_of, kind_number, kind_of, good_tagged, good_body, sensible_tagged, sensible}
use Rattle.body.specs.Sound.{sound}
use Rattle.body.proofs.Sizes.{both}
use Rattle.field.specs.declared.head.Field.{Field}
use Rattle.field.specs.declared.head.Field.TheVariants.{Whole}
use Rattle.field.specs.declared.key.Key.{Key}
use Rattle.field.specs.declared.words.Words.{Words}
use Rattle.field.specs.Places.{key_in, key_place}
use Rattle.field.specs.Head.{field_at}
use Rattle.field.specs.Words.{words_at}
use Rattle.field.specs.If.{If}
use Rattle.field.proofs.Fields.{whole_at, body_ordered, body_within}
use Rattle.verdict.specs.declared.pass.Stand.{Stand}
use Rattle.verdict.specs.Origins.{NextWords, three_at, Neighbours}
use Rattle.verdict.specs.Progress.{Judged, stand_behind, Reaches, Further}
use Rattle.verdict.proofs.Fieldwords.{next_head, next_good, words_less}
use Rattle.verdict.proofs.Judging.{judged_next}

-- the rule of an origin's body
origin_body : (form : Form) (tag : ℕ) (b : List ℕ) → kind_of form tag ≡ 1 → good_body form tag b ≡ good_origin b
unfolding kind_of good_body
origin_body form tag b e = go (tag_of form tag) e
  where
    go : (t : Tag) → kind_number t ≡ 1 → good_tagged t b ≡ good_origin b
    go Unknown d = absurd (omega arith)
    go (Origin action) d = refl
    go (RouterKey action) d = absurd (omega arith)
    go (Aspa action) d = absurd (omega arith)

-- good, and sensible
is_sound : (form : Form) (tag : ℕ) (b : List ℕ) → good_body form tag b ≡ true → sensible form tag b ≡ true → true ≡ sound form tag b
unfolding sound
is_sound form tag b e d = rw (e, d)

-- each makes sense
origin_sense : (form : Form) (tag : ℕ) (b : List ℕ) → kind_of form tag ≡ 1 → sensible form tag b ≡ true
unfolding kind_of sensible
origin_sense form tag b e = go (tag_of form tag) e
  where
    go : (t : Tag) → kind_number t ≡ 1 → sensible_tagged t b ≡ true
    go Unknown d = refl
    go (Origin action) d = refl
    go (RouterKey action) d = refl
    go (Aspa action) d = absurd (omega arith)

-- ---- pass_origins

-- where the loop stands: behind an origin, with its words and those of the next field
pub record Passed (form : Form) (s : List ℕ) (start at : ℕ) (before field : Words) : Type 0 where
  pub origin : 26 ≤ start
  pub on : start ≤ at
  pub room : at + 26 ≤ length s
  pub judged : Judged form s at (key_place 1 (at - 23) at)
  pub behind : before ≡ three_at s (at - 26)
  pub here : field ≡ three_at s at

module _ (form : Form) (s : List ℕ) (start : ℕ) (h : 26 ≤ start) (j : Judged form s start (key_place 1 (start - 23) start)) where
  pub begin_within : start ≤ length s
  begin_within = j.within

  pub begin_room : start - 26 + 26 ≤ length s
  begin_room = omega (arith, j.within)

  pub begin_end : (r : Stand) → r ≡ stand_behind 1 (start - 23) start → Further form s start r
  begin_end r e = rw e (record { on = omega arith; judged = j })

  pub passed_start : 26 ≤ length s - start → (v w : Words) → v ≡ three_at s (start - 26) → w ≡ three_at s start → Passed form s start start v w
  passed_start k v w d e =
      record { origin = h; on = omega arith; room = omega arith; judged = j; behind = d; here = e }

module _ (form : Form) (s : List ℕ) (start at : ℕ) (before field : Words) (l : Passed form s start at before field) where
  pub passed_end : (r : Stand) → r ≡ stand_behind 1 (at - 23) at → Further form s start r
  passed_end r e = rw e (record { on = l.on; judged = l.judged })

  pub passed_within : at ≤ length s
  passed_within = l.judged.within

  pub passed_behind : 23 ≤ at
  passed_behind = omega (arith, l.origin, l.on)

  pub passed_next : Neighbours s at before field
  passed_next = record { behind = l.behind; here = l.here; low = omega (arith, l.origin, l.on); room = l.room }

  module _ (h : 52 ≤ length s - at) where
    pub passed_room : at + 26 + 26 ≤ length s
    passed_room = omega arith

    pub passed_more : (b : Bool) → If b (NextWords form (words_at s (at - 26)) (words_at s at)) → not b ≡ false → Octets s → (w : Words) → w ≡ three_at s (at + 26)
        → Passed form s start (at + 26) field w
    passed_more b i t o w e =
        let f = l.origin in
        let g = l.on in
        let room = l.room in
        let z : at - 26 + 26 ≡ at = omega arith in
        let y : at - 26 + 3 ≡ at - 23 = omega arith in
        let x : at + 26 - 23 ≡ at + 3 = omega arith in
        let v : at + 26 - 26 ≡ at = omega arith in
        let n : NextWords form (words_at s (at - 26)) (words_at s at) = i.holds (not-false b t) in
        let head = next_head s o at room form (words_at s (at - 26)) n in
        let kind = head.kind in
        let good = origin_body form (get_or s at 0) (part s (at + 3) (at + 26)) kind ∙ next_good s o at room form (words_at s (at - 26)) n in
        let sense = origin_sense form (get_or s at 0) (part s (at + 3) (at + 26)) kind in
        let less : bytes (part s (at - 23) at) (part s (at + 3) (at + 26)) ≡ Less
        = rw (y, z) at (words_less s o (at - 26) at (omega arith) room n.above) in
        record {
          origin = f;
          on = omega arith;
          room = omega arith;
          judged = rw x (judged_next form s at (key_place 1 (at - 23) at) l.judged (Whole (get_or s at 0) (at + 3) (at + 26)) head.reads (get_or s at 0) (at + 3) (at + 26) refl true (is_sound form (get_or s at 0) (part s (at + 3) (at + 26)) good sense) refl 1 (sym kind) (record { kind = 1; from = at + 3; to = at + 26 }) refl Less (sym less) refl);
          behind = rw v l.here;
          here = e;
        }

pub ruleset passing = (begin_within, begin_room, begin_end, passed_start, passed_end, passed_within, passed_behind, passed_next, passed_room, passed_more)

-- ---- good_end

pub reach_none : (form : Form) (kind : ℕ) (s : List ℕ) (at : ℕ) → Reaches form kind s at at
reach_none form kind s at = record { holds = λ h. absurd (omega arith) }

pub reach : (form : Form) (kind : ℕ) (s : List ℕ) (at : ℕ) (r : Field) → r ≡ field_at s at → (tag from to : ℕ) → r ≡ Whole tag from to
    → (k : ℕ) → k ≡ kind_of form tag → k ≡ kind → (b : Bool) → b ≡ sound form tag (part s from to) → not b ≡ false → Reaches form kind s at to
unfolding sound
reach form kind s at r f tag from to e k m n b g t =
    let z : from ≡ at + 3 = (whole_at s at r f tag from to e).start in
    let p = both (good_body form tag (part s from to)) (sensible form tag (part s from to)) (sym g ∙ not-false b t) in
    record {
      holds = λ h. record {
        tag = tag;
        reads = rw z at (sym e ∙ f);
        kinds = sym n ∙ m;
        good = rw z at p.0;
        sense = rw z at p.1;
      };
    }

pub ruleset reaching = (reach_none, reach, body_ordered, body_within)

-- ---- pass_kind

-- parts that start with numbers of four bytes in order
front_less : (s : List ℕ) → Octets s → (f t g u : ℕ) → f + 4 ≤ t → t ≤ length s → g + 4 ≤ u → u ≤ length s → four_at s f < four_at s g
    → bytes (part s f t) (part s g u) ≡ Less
front_less s o f t g u h k l m n =
    let x : length (part s f t) ≡ t - f = simp (length-take, length-drop) (omega arith) in
    let y : length (part s g u) ≡ u - g = simp (length-take, length-drop) (omega arith) in
    let p : digits 4 (part s f t) 0 ≡ four_at s f = let z : f + 0 ≡ f = omega arith in part_digits s f t 0 4 (omega arith) ∙ rw (z, four_digits s f) in
    let q : digits 4 (part s g u) 0 ≡ four_at s g = let z : g + 0 ≡ g = omega arith in part_digits s g u 0 4 (omega arith) ∙ rw (z, four_digits s g) in
    digits_decide (part s f t) (part s g u) (part_bytes s o f t) (part_bytes s o g u) 0 4 (omega arith) (omega arith)
    ∙ rw (p, q, number_less (four_at s f) (four_at s g) n)

-- keys of one kind, whose first four bytes are in order
keys_less : (s : List ℕ) → Octets s → (kind f t g u : ℕ) → f + 4 ≤ t → t ≤ length s → g + 4 ≤ u → u ≤ length s → four_at s f < four_at s g
    → bytes (key_in s (key_place kind f t)) (key_in s (key_place kind g u)) ≡ Less
keys_less s o kind f t g u h k l m n = rw (number_equal kind kind refl) (go (eqb kind 3))
  where
    go : (b : Bool) → bytes (part s f (cond b (min (f + 4) t) t)) (part s g (cond b (min (g + 4) u) u)) ≡ Less
    go true = front_less s o f (min (f + 4) t) g (min (g + 4) u) (omega arith) (omega arith) (omega arith) (omega arith) n
    go false = front_less s o f t g u h k l m n

-- where the loop stands: behind the body from `from` up to `at`
pub record Fronted (form : Form) (s : List ℕ) (kind start from at front : ℕ) : Type 0 where
  pub on : start ≤ at
  pub long : from + 4 ≤ at
  pub judged : Judged form s at (key_place kind from at)
  pub four : front ≡ four_at s from

module _ (form : Form) (s : List ℕ) (kind first start : ℕ) (h : first + 4 ≤ start) (j : Judged form s start (key_place kind first start)) where
  pub front_in_lem : first + 4 ≤ length s
  front_in_lem = omega (arith, j.within)

  pub fronted_start : (x : ℕ) → x ≡ four_at s first → Fronted form s kind start first start x
  fronted_start x e = record { on = omega arith; long = h; judged = j; four = e }

module _ (form : Form) (s : List ℕ) (kind start from at front : ℕ) (l : Fronted form s kind start from at front) where
  pub fronted_end : (r : Stand) → r ≡ stand_behind kind from at → Further form s start r
  fronted_end r e = rw e (record { on = l.on; judged = l.judged })

  pub fronted_within : at ≤ length s
  fronted_within = l.judged.within

  pub fronted_room : 7 ≤ length s - at → at + 3 + 4 ≤ length s
  fronted_room h = omega arith

  module _ (to : ℕ) (r : Reaches form kind s at to) (h : at + 7 ≤ to) where
    field_in : to ≤ length s
    field_in = let g = r.holds (omega arith) in (whole_at s at (Whole g.tag (at + 3) to) g.reads g.tag (at + 3) to refl).within

    pub fronted_less : length s - to < length s - at
    fronted_less = let w = field_in in omega arith

    pub fronted_more : (next : ℕ) → next ≡ four_at s (at + 3) → front < next → Octets s → Fronted form s kind start (at + 3) to next
    fronted_more next e k o =
        let g = r.holds (omega arith) in
        let a = l.on in
        let less = keys_less s o kind from at (at + 3) to l.long l.judged.within (omega arith) field_in (omega (arith, l.four, e, k)) in
        record {
          on = omega arith;
          long = omega arith;
          judged = judged_next form s at (key_place kind from at) l.judged (Whole g.tag (at + 3) to) g.reads g.tag (at + 3) to refl true (is_sound form g.tag (part s (at + 3) to) g.good g.sense) refl kind g.kinds (key_place kind (at + 3) to) refl Less (sym less) refl;
          four = e;
        }

pub ruleset fronting = (front_in_lem, fronted_start, fronted_end, fronted_within, fronted_room, fronted_less, fronted_more)

-- ---- pass

module _ (form : Form) (s : List ℕ) (at : ℕ) (before : Key) (j : Judged form s at before) where
  pub stand_still : Further form s at (record { at = at; before = before })
  stand_still = record { on = omega arith; judged = j }

  module _ (key : Key) (e : key ≡ key_place before.kind before.from at) (f : before.to ≡ key.to) where
    pub stand_judged : Judged form s at (key_place before.kind before.from at)
    stand_judged = rw path at j
      where
        path : before ≡ key_place before.kind before.from at
        path = λ i. record { kind = before.kind; from = before.from; to = (f ∙ ap (λ (k : Key). k.to) e) i }

    pub stand_origin : before.kind ≡ 1 → before.from ≡ at - 23 → Judged form s at (key_place 1 (at - 23) at)
    stand_origin g h = rw (g, h) at stand_judged

pub ruleset standing = (stand_still, stand_judged, stand_origin)

-- ---- check

module _ (form : Form) (s : List ℕ) (from : ℕ) (r : Stand) (f : Further form s from r) where
  pub further_judged : Judged form s r.at r.before
  further_judged = f.judged

  pub further_less : (at : ℕ) → length s - from < length s - at → length s - r.at < length s - at
  further_less at h = omega (arith, f.on)

pub ruleset further = (further_judged, further_less)
