-- The state of a history as the host keeps it, and the history that it is.
use Rattle.std.specs.Prelude.{ℕ, Bool, not, cond, eqb}
use Rattle.past.specs.declared.state.History.{History}
use Rattle.host.specs.declared.state.State.{State}

-- active is 0 for inactive, any other number for active
abbrev pub history_of : State → History
history_of s = record {
  session = s.session;
  keep = s.keep;
  active = not (eqb s.active 0);
  newest = s.newest;
  start = s.start;
  n = s.n;
  snapshot = s.snapshot;
  deltas = s.deltas;
}

-- and is handed back as 1
abbrev pub mark_of : Bool → ℕ
mark_of active = cond active 1 0

abbrev pub state_of : History → State
state_of h = record {
  session = h.session;
  keep = h.keep;
  active = mark_of h.active;
  newest = h.newest;
  start = h.start;
  n = h.n;
  snapshot = h.snapshot;
  deltas = h.deltas;
}
