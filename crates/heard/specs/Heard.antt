-- What is heard in an answer, by offsets.
use Rattle.std.specs.declared.result.Result.{Result}
use Rattle.std.specs.declared.result.Result.TheVariants.{Ok, Err}
use Rattle.std.specs.Prelude.{ℕ, ◌+◌, ◌≡◌, List, [], ◌∷◌, map, Bool, true, false, cond, length}
use Rattle.payload.specs.Content.{Bytes}
use Rattle.message.specs.declared.version.Version.{Version}
use Rattle.message.specs.Hear as message
use Rattle.heard.specs.Place.{Messages, key_at, announces_at, told_at}
use Rattle.heard.specs.Field.{record_field}
use Rattle.heard.specs.declared.hear.End.{End}
use Rattle.heard.specs.declared.hear.Fault.{Fault}
use Rattle.heard.specs.declared.hear.Heard.{Heard}

-- how an answer stops
abbrev pub stop_is : Result End Fault → message.Stop
stop_is (Err fault) = message.faulty fault.at
stop_is (Ok end) = message.ended end.session.0 end.serial.0 end.times

-- how many of the messages announce (true) or withdraw (false)
unfoldable pub count_flags : Bytes → Bool → List ℕ → ℕ
count_flags s b [] = 0
count_flags s b (x ∷ xs) = cond (announces_at s x) (cond b 1 0) (cond b 0 1) + count_flags s b xs

-- and how many bytes the fields of their records take
unfoldable pub sum_fields : Bytes → Bool → List ℕ → ℕ
sum_fields s b [] = 0
sum_fields s b (x ∷ xs) =
    cond (announces_at s x) (cond b (length (record_field (key_at s x))) 0) (cond b 0 (length (record_field (key_at s x)))) + sum_fields s b xs

-- r is what is heard in s: the payload messages stand behind the Cache Response up to `over`
pub record HeardIs (v : Version) (s : Bytes) (r : Heard) : Type 0 where
  pub xs : List ℕ
  pub messages : Messages s 8 xs r.over
  pub told : (message.hear v s).told ≡ map (told_at s) xs
  pub stop : stop_is r.stop ≡ (message.hear v s).stop
  pub announced : r.sums.announced ≡ count_flags s true xs
  pub withdrawn : r.sums.withdrawn ≡ count_flags s false xs
  pub more : r.sums.more ≡ sum_fields s true xs
  pub less : r.sums.less ≡ sum_fields s false xs
