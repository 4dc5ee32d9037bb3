use Rattle.world_laws.proofs.Likeness.Starts.{new_same}
use Rattle.world_laws.proofs.Likeness.Worlds.{goes_alike}
use Rattle.world_laws.proofs.Likeness.Schedules.{shows_same, leads_alike, ends_alike}
use Rattle.world_laws.proofs.runs.decided.Goals as goal

pub returns : goal.returns
returns g c = record {
  begins = λ v w x y same. new_same g.P.Player v w same x y;
  goes = λ actor v w v' w' r q s f k. goes_alike g.P.Player actor v w s r q v' w' f k;
  led = λ schedule v w v' w' rs qs s f k. leads_alike g.P.Player schedule rs qs v w v' w' s f k;
  ran_out = λ actor n n' v w v' w' s f k. ends_alike g.P.Player actor n n' v w v' w' s f k;
  shows = shows_same;
  decided = λ schedule v w v' w' rs qs x y same f k fed fed'.
      (let s = new_same g.P.Player v w same x y in
      let e = leads_alike g.P.Player schedule rs qs v w v' w' s f k fed fed' in
      (e.0, shows_same v' w' e.1));
}
