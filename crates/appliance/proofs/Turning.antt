-- Laws of one query.
use Prim.Native.Nat.{ℕ, ◌+◌, ◌-◌, ◌≤◌}
use mathlib.Core.Path.{◌≡◌, refl, sym, ap, ◌∙◌}
use mathlib.Core.List.{◌++◌, append_assoc}
use mathlib.Core.Bool.{Bool, true, false}
use native.Mathlib.Omega.{arith}
use lib.Dec.{leb}
use lib.ListN.{length, take, drop, length-drop, take-append-drop}
use lib.Seq.{sets, sets-eq, length-sets, drop-drop}
use borrow.Author.Tests.{leb-true, lt-leb}
use Rattle.order.proofs.Never.{never}
use Rattle.payload.specs.Content.{Bytes}
use Rattle.payload.specs.Written.{written_over}
use Rattle.item.specs.declared.sink.Counts.{Counts}
use Rattle.delta.specs.declared.refusal.Refusal.TheVariants.{NoRoom}
use Rattle.delta.specs.Answer.{counts_of}
use Rattle.past.specs.declared.state.History.{History}
use Rattle.past.specs.Store.{held_deltas}
use Rattle.past.specs.Query.{merged_last}
use Rattle.appliance.specs.declared.router_turn.Known.{Known}
use Rattle.appliance.specs.declared.router_turn.Known.TheVariants.{Nothing, Long, Stands}
use Rattle.appliance.specs.declared.router_turn.Turn.{Turn}
use Rattle.appliance.specs.QueryAll.{served_at}
use Rattle.appliance.specs.Turn.{Standing, Remembers, Takes, TurnIs, refused_turn, Shares, shared_turn, shared_out}
use Rattle.appliance.proofs.Repeating.{take_sets, part_same}
use Rattle.std.specs.Prelude.{Ok}

-- ---- what is known

module _ (b : Bytes) (used : ℕ) (out : Bytes) where
  pub knows_nothing : Remembers b used out Nothing
  knows_nothing = record { long = λ e. never cc; stands = λ at c e. never cc }

  -- what is known stays true while what was used stays and more is used
  pub knows_still : (k : Known) → Remembers b used out k → (more : ℕ) (after : Bytes) → used ≤ more → length after ≡ length out → take used after ≡ take used out → Remembers b more after k
  knows_still k r more after h l e = record {
    long = λ p. let q = r.long p in omega arith;
    stands = λ at c p.
        let s = r.stands at c p in
        record { counts = s.counts; within = omega (arith, s.within); bytes = part_same after out used at (length b) e s.within ∙ s.bytes };
  }

-- ---- an answer by whether it fits

module _ (h : History) (b : Bytes) (at : ℕ) (out : Bytes) (l : at ≤ length out) where
  -- it uses nothing where it does not
  misses : leb (length b) (length (drop at out)) ≡ false → (k : Known) → Remembers b at out k → TurnIs (Ok tt) h b at out (refused_turn NoRoom k at) out
  misses e k r = record {
    reply = rw e;
    used = rw e (omega arith);
    bytes = rw e (sym (take-append-drop at out));
    known = r;
  }

  abbrev laid : Bytes
  laid = take at out ++ written_over b (drop at out)

  -- and stands behind what was used where it does
  fits : leb (length b) (length (drop at out)) ≡ true → (k : Known) → Remembers b (at + length b) laid k →
      TurnIs (Ok tt) h b at out (record { known = k; reply = served_at at (counts_of b); used = at + length b }) laid
  fits e k r = record { reply = rw e; used = rw e; bytes = rw e; known = r }

-- ---- answer

module _ (h : History) (d : ℕ) (deltas : Bytes) (k : Known) (used : ℕ) (out : Bytes) (t : Takes (Ok tt) h d deltas k used out) where
  abbrev D : Bytes
  D = merged_last d (held_deltas h deltas)

  pub answer_walks : k ≡ Nothing → Takes (Ok tt) h d deltas Nothing used out
  answer_walks e = rw e at t

  pub answer_long : k ≡ Long → (a : Turn) → a ≡ refused_turn NoRoom k used → TurnIs (Ok tt) h (merged_last d (held_deltas h deltas)) used out a out
  answer_long e a j =
      let f : leb (length D) (length (drop used out)) ≡ false = lt-leb (length D) (length (drop used out)) (rw (length-drop used out) (t.known.long e)) in
      rw j (misses h D used out t.room f k t.known)

  module _ (at : ℕ) (c : Counts) (e : k ≡ Stands at c) where
    standing : Standing D used out at c
    standing = t.known.stands at c e

    len_is : c.len ≡ length D
    len_is = ap (λ (y : Counts). y.len) standing.counts

    pub answer_shares : Shares at c used out
    answer_shares = record { within = omega (arith, len_is, standing.within); room = t.room }

    abbrev over : Bytes
    over = take used out ++ written_over D (drop used out)

    abbrev served : Counts → Turn
    served y = record { known = Stands at c; reply = served_at used y; used = used + y.len }

    module _ (a : Turn) (j : a ≡ shared_turn at c used (length out)) (p : Bytes) (g : p ≡ shared_out at c used out) where
      pub answer_shared : TurnIs (Ok tt) h (merged_last d (held_deltas h deltas)) used out a p
      answer_shared = go (leb (length D) (length out - used)) refl
        where
          -- the output with the answer in it once more
          again : length D ≤ length out - used → sets out used (take (length D) (drop at out)) ≡ over
          again m =
              ap (sets out used) standing.bytes ∙ sets-eq D out used (omega (arith, t.room))
              ∙ append_assoc (take used out) D (drop (used + length D) out) ∙ rw (drop-drop (length D) used out)

          go : (f : Bool) → leb (length D) (length out - used) ≡ f → TurnIs (Ok tt) h D used out a p
          go true i =
              let m = leb-true (length D) (length out - used) i in
              let u : leb (length D) (length (drop used out)) ≡ true = rw (length-drop used out) i in
              let v : leb c.len (length out - used) ≡ true = rw len_is i in
              let w : a ≡ served (counts_of D) = j ∙ rw v (ap served standing.counts) in
              let o : p ≡ over = g ∙ rw (v, len_is) (again m) in
              let n : length over ≡ length out = ap length (sym (again m)) ∙ length-sets out used (take (length D) (drop at out)) in
              let y : take used over ≡ take used out = ap (take used) (sym (again m)) ∙ take_sets (take (length D) (drop at out)) out used used (omega arith) in
              rw (w, o) (fits h D used out t.room u (Stands at c) (rw e at (knows_still D used out k t.known (used + length D) over (omega arith) n y)))
          go false i =
              let u : leb (length D) (length (drop used out)) ≡ false = rw (length-drop used out) i in
              let v : leb c.len (length out - used) ≡ false = rw len_is i in
              let w : a ≡ refused_turn NoRoom (Stands at c) used = j ∙ rw v in
              let o : p ≡ out = g ∙ rw v in
              rw (w, o) (misses h D used out t.room u (Stands at c) (rw e at t.known))

pub ruleset answering = (answer_walks, answer_long, answer_shares, answer_shared)
