-- Which histories, lent with their stores, are well formed: all others get refusal 7.
use Rattle.std.specs.Prelude.{ℕ, List, [], ◌∷◌, Bool, true, false, cond, ◌&&◌, leb, eqb, length, Err, Ok}
use Rattle.body.specs.declared.tag.Form.{Form}
use Rattle.body.specs.declared.tag.Form.TheVariants.{Snapshot, Delta}
use Rattle.field.specs.Verdict.{verdict}
use Rattle.payload.specs.Content.{Bytes}
use Rattle.payload.specs.Limit.{limit}
use Rattle.past.specs.declared.state.History.{History}
use Rattle.past.specs.Store.{total, held_snapshot, held_lengths, held_deltas}
use Rattle.field.specs.declared.verdict.Flaw.TheVariants as flaw
use Rattle.field.specs.Verdict.{Verdict}

abbrev pub is_fine : Verdict → Bool
is_fine (Ok tt) = true
is_fine (Err (flaw.Bad at)) = false
is_fine (Err (flaw.Senseless at)) = false
is_fine (Err (flaw.NotAbove at)) = false

-- a good snapshot, a good delta
abbrev pub is_good : Form → Bytes → Bool
is_good form s = is_fine (verdict form s)

-- each of a list passes a test
abbrev pub every : (Bytes → Bool) → List Bytes → Bool
every test [] = true
every test (s ∷ ss) = test s && every test ss

-- keep is 1 to 64
abbrev pub good_keep : ℕ → Bool
good_keep keep = leb 1 keep && leb keep 64

-- keep and n are in range
abbrev pub in_range : History → Bool
in_range h = good_keep h.keep && leb h.n h.keep

-- inactive or n = 0: F is the start serial
abbrev pub good_serial : History → Bool
good_serial h = cond h.active (cond (eqb h.n 0) (eqb h.newest.0 h.start.0) true) (eqb h.newest.0 h.start.0)

-- inactive: n is 0 and the held snapshot is empty
abbrev pub good_start : History → Bool
good_start h = cond h.active true (eqb h.n 0 && eqb h.snapshot 0)

-- each store is within its length limit, and its held bytes end within it
abbrev pub good_stores : History → Bytes → Bytes → Bool
good_stores h snapshots deltas =
    leb (length snapshots) (limit Snapshot) && leb (length deltas) (limit Delta)
    && leb h.snapshot (length snapshots) && leb (total (held_lengths h)) (length deltas)

-- the held snapshot and each held delta are good
abbrev pub good_held : History → Bytes → Bytes → Bool
good_held h snapshots deltas = is_good Snapshot (held_snapshot h snapshots) && every (is_good Delta) (held_deltas h deltas)

unfoldable pub well_formed : History → Bytes → Bytes → Bool
well_formed h snapshots deltas =
    in_range h && good_serial h && good_start h && good_stores h snapshots deltas && good_held h snapshots deltas
