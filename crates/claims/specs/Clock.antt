-- What is known of a clock between two words of a waiting list; it claims nothing. Serves [13.10].
use Rattle.std.specs.Prelude.{true, ◌≡◌, ◌*◌, ◌≤◌}
use Rattle.rules.specs.Band.{band_stands}
use Rattle.rules.specs.Waiting.{last_second, start_in, waiting_time}
use Rattle.rules.specs.declared.Clock.{Clock}

-- The band stands, the latest second is one of the day, and the openings due took at least 600 seconds each, all before the start of
-- the phase that is on, or is next to start.
pub record SoundClock (c : Clock) : Type 0 where
  pub band : band_stands c.lower.0 c.upper.0 ≡ true
  pub today : c.second ≤ last_second
  pub begun : start_in c.phase c.second ≤ c.second
  pub apart : waiting_time * c.due ≤ start_in c.phase c.second
