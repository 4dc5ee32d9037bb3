use Rattle.world_laws.proofs.Solos.Schedules.{led_alone, takes_led}
use Rattle.world_laws.proofs.runs.one_player.Goals as goal

pub returns : goal.returns
returns g c = record {
  shows = λ schedule results first w new commits opaque tied leads one. led_alone g.P.Player g.met.P.Player.laws schedule results first w new commits opaque tied leads one;
  took = takes_led g.P.Player;
}
