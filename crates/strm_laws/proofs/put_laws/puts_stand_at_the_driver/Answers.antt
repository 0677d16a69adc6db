use Rattle.strm_laws.proofs.PutDelivered.{put-delivered}
use Rattle.strm_laws.proofs.put_laws.puts_stand_at_the_driver.Goals as goal

pub returns : goal.returns
returns g c = λ cells side m s parts stays none. put-delivered g.K.Behaves.does cells side m s parts stays none
